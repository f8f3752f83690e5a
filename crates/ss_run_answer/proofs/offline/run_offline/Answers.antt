use Rattle.std.specs.Prelude.{refl, map, string_bytes}
use Rattle.std.proofs.Common.{sym, subst}
use Rattle.ss_words.specs.declared.commands.Command.TheVariants.{Answer}
use Rattle.ss_words.specs.Refused.{AsksNothing}
use Rattle.ss_words.specs.Commands.{Asks}
use Rattle.ss_words.proofs.Asked.{one_command}
use Rattle.ss_run_answer.specs.Offline.{answers, asks_nothing}
use Rattle.ss_run_answer.proofs.offline.run_offline.Goals as goal

pub returns-in-Err-Refused : goal.returns-in-Err-Refused
returns-in-Err-Refused g c =
    asks_nothing (λ uid at asks. c.in-Err-Refused.ensures.refused (subst AsksNothing (sym c.in-Err-Refused.field-0-is) tt) (Answer (record { uid = uid; at = at })) asks)
    refl (record { unread = refl; unwritten = refl; unasked = refl }) refl

pub returns : goal.returns
returns g c =
    answers c.in-Answer.command.uid c.in-Answer.command.at (subst (λ command. Asks (map (λ word. string_bytes word) c.args.words.now) command) c.in-Answer.is c.in-Ok.ensures.asks)
    c.answer.ensures.answered c.answer.ensures.unread

pub returns-in_default : goal.returns-in_default
returns-in_default g c =
    asks_nothing (λ uid at asks. c.in_default.not-Answer (record { uid = uid; at = at })
    (one_command (map (λ word. string_bytes word) c.args.words.now) c.in-Ok.command (Answer (record { uid = uid; at = at })) c.in-Ok.ensures.asks asks))
    refl (record { unread = refl; unwritten = refl; unasked = refl }) refl
