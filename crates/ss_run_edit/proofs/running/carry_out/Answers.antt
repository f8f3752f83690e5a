use Rattle.std.proofs.Common.{refl, sym, subst, map, string_bytes}
use Rattle.ss_words.specs.declared.commands.Command.{Command}
use Rattle.ss_words.specs.declared.commands.Command.TheVariants.{Edit, Merge}
use Rattle.ss_words.specs.Refused.{AsksNothing}
use Rattle.ss_words.specs.Commands.{Asks}
use Rattle.ss_words.proofs.Asked.{one_command}
use Rattle.ss_run_edit.specs.Runs.{asks_neither, edits, merges}
use Rattle.ss_run_edit.proofs.running.carry_out.Goals as goal

pub returns-in-Err-Refused : goal.returns-in-Err-Refused
returns-in-Err-Refused g c =
    let refuses = c.in-Err-Refused.ensures.refused (subst AsksNothing (sym c.in-Err-Refused.field-0-is) tt) in
    asks_neither (λ command asks. refuses (Edit command) asks) (λ asks. refuses Merge asks) refl (record { unread = refl; unwritten = refl; unasked = refl }) refl

pub returns-in-Edit : goal.returns-in-Edit
returns-in-Edit g c =
    edits c.in-Edit.command (subst (λ (x : Command). Asks (map (λ word. string_bytes word) c.args.words.now) x) c.in-Edit.is c.in-Ok.ensures.asks) c.edit.ensures.edits c.edit.ensures.unread

pub returns-in-Merge : goal.returns-in-Merge
returns-in-Merge g c =
    merges (subst (λ (x : Command). Asks (map (λ word. string_bytes word) c.args.words.now) x) c.in-Merge.is c.in-Ok.ensures.asks) c.merge.ensures refl refl

pub returns : goal.returns
returns g c =
    let one = one_command (map (λ word. string_bytes word) c.args.words.now) c.in-Ok.command in
    asks_neither (λ command asks. c.in_default.not-Edit command (one (Edit command) c.in-Ok.ensures.asks asks)) (λ asks. c.in_default.not-Merge (one Merge c.in-Ok.ensures.asks asks)) refl
    (record { unread = refl; unwritten = refl; unasked = refl }) refl
