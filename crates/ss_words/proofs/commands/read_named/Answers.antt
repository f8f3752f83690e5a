use Rattle.std.specs.Prelude.{map, string_bytes}
use Rattle.ss_words.proofs.Asked.{refused_there, no_address_there}
use Rattle.ss_words.proofs.commands.read_named.Goals as goal

pub returns-in-Err-clause-refused : goal.returns-in-Err-clause-refused
returns-in-Err-clause-refused c = λ refused command asks. c.in-Err.ensures.refused refused asks.line asks.is_line

pub returns-in-Err-command_in-clause-refused : goal.returns-in-Err-command_in-clause-refused
returns-in-Err-command_in-clause-refused c = λ refused.
    refused_there c.args.name (map (λ word. string_bytes word) c.args.words.now) c.in-Ok.line c.in-Ok.ensures.ok (c.in-Err-command_in.ensures.refused refused)

pub returns-in-Some-clause-refused : goal.returns-in-Some-clause-refused
returns-in-Some-clause-refused c = λ refused.
    no_address_there c.args.name (map (λ word. string_bytes word) c.args.words.now) c.in-Ok.line c.in-Ok-command_in.command c.in-Ok.ensures.ok c.in-Ok-command_in.ensures.ok (c.in_ok-has_address.ensures.no c.if-branch.false)

pub returns-clause-refused : goal.returns-clause-refused
returns-clause-refused c = λ refused.
    no_address_there c.args.name (map (λ word. string_bytes word) c.args.words.now) c.in-Ok.line c.in-Ok-command_in.command c.in-Ok.ensures.ok c.in-Ok-command_in.ensures.ok (c.in_ok-has_address.ensures.no c.if-branch.false)
