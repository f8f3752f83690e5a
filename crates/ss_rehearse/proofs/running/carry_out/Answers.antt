use Rattle.std.proofs.Common.{refl, sym, subst, map, string_bytes}
use Rattle.ss_words.specs.declared.commands.Command.{Command}
use Rattle.ss_words.specs.declared.commands.Command.TheVariants.{Rehearse}
use Rattle.ss_words.specs.Commands.{Asks}
use Rattle.ss_words.specs.Refused.{AsksNothing}
use Rattle.ss_words.proofs.Asked.{one_command}
use Rattle.ss_rehearse.specs.Runs.{asks_other, rehearses}
use Rattle.ss_rehearse.proofs.running.carry_out.Goals as goal

pub returns-in-Err-Refused : goal.returns-in-Err-Refused
returns-in-Err-Refused g c =
    let refuses = c.in-Err-Refused.ensures.refused (subst AsksNothing (sym c.in-Err-Refused.field-0-is) tt) in
    asks_other (λ command asks. refuses (Rehearse command) asks) refl refl

pub returns-in_default : goal.returns-in_default
returns-in_default g c =
    let one = one_command (map (λ word. string_bytes word) c.args.words.now) c.in-Ok.command in
    asks_other (λ command asks. c.in_default.not-Rehearse command (one (Rehearse command) c.in-Ok.ensures.asks asks)) refl refl

pub returns : goal.returns
returns g c =
    rehearses c.in-Rehearse.command (subst (λ (command : Command). Asks (map (λ word. string_bytes word) c.args.words.now) command) c.in-Rehearse.is c.in-Ok.ensures.asks) c.write_summary.ensures
