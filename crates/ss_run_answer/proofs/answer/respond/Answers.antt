use Rattle.std.proofs.Common.{◌≡◌, true, false, nat_eq, sym, ◌∙◌, ap, subst, arith}
use Rattle.std.proofs.lemmas.Bool.Decides.{nat_tests}
use Rattle.std.specs.Prelude.{Bool, if◌then◌else◌}
use Rattle.ss_bso.proofs.Reordering.{same-self}
use Rattle.ss_route.specs.declared.routed.Local.{Local}
use Rattle.ss_route.specs.declared.routed.Routed.{Routed}
use Rattle.ss_route.specs.Wire.{not_listed}
use Rattle.ss_route.specs.Ready.{bytes_of}
use Rattle.ss_run_answer.specs.Turns.{RequestOrLocal, asked_by_message, asked_of, asks, told, unread, IsTurn}
use Rattle.ss_run_answer.proofs.answer.respond.Goals as goal

pub returns-in-Memory-clause-turn : goal.returns-in-Memory-clause-turn
returns-in-Memory-clause-turn c = record { course = unread; rendered = true; is = tt; left = same-self c.args.account.now.plain; sent = c.unread.ensures }

-- another account is told that it isn't listed
pub returns-clause-turn : goal.returns-clause-turn
returns-clause-turn c =
    let account = c.args.account.now.plain in
    let apart = c.if-other-uid.false in
    let other : nat_eq c.in-Ask.other c.args.uid ≡ false = grind (arith, nat_tests) in
    let is : asked_by_message c.args.uid c.args.message.now ≡ told not_listed =
    ap (λ (routed : Routed). asked_of c.args.uid routed) c.in-Ask.ensures.routed
    ∙ ap (λ (b : Bool). if b then asks c.in-Ask.request c.in-Ask.newlines else told not_listed) other in
    let P : RequestOrLocal → Type 0 = λ question. IsTurn question c.args.now c.args.last account account (bytes_of c.tell-else-other-uid.result) in
    let Q : Local → Type 0 = λ local. P (told local) in
    subst P (sym is) (subst Q c.not_listed.ensures (c.tell-else-other-uid.ensures account))
