use Rattle.std.proofs.Common.{set, ap, subst, ◌∙◌, refl}
use Rattle.std.proofs.lemmas.Option.{get_or_from_slice_get}
use Rattle.std.proofs.lemmas.Result.{on_ok_weaker, on_err_weaker}
use Rattle.ss_world.specs.Seats.{device_of}
use Rattle.ss_world.specs.Stepping.{HearsAtSeat, LeadsOn}
use Rattle.ss_world.specs.Worlds.{Idle}
use Rattle.ss_world.proofs.seats.hear_at.Goals as goal

pub returns-in-Some-clause-heard : goal.returns-in-Some-clause-heard
returns-in-Some-clause-heard c =
    on_ok_weaker c.replace_with.result (λ h seat there. (
      c.replace_with.new.dest,
      subst (HearsAtSeat c.args.answer c.replace_with.new.dest) (c.in-Some.ensures.value ∙ get_or_from_slice_get c.args.seats.now.items c.args.n seat c.in-Some.seat.now there) h,
      refl,
    )) c.replace_with.ensures.0

pub returns-in-Some-clause-lost : goal.returns-in-Some-clause-lost
returns-in-Some-clause-lost c =
    on_err_weaker c.replace_with.result (λ h seat there. ap (set c.args.seats.now.items c.args.n) (h ∙ ap (λ x. Idle (device_of x)) (c.in-Some.ensures.value ∙ get_or_from_slice_get c.args.seats.now.items c.args.n seat c.in-Some.seat.now there))) c.replace_with.ensures.1.0

pub returns-in-Some-clause-wanting : goal.returns-in-Some-clause-wanting
returns-in-Some-clause-wanting c =
    on_err_weaker c.replace_with.result (λ h seat there. subst (LeadsOn c.args.answer) (c.in-Some.ensures.value ∙ get_or_from_slice_get c.args.seats.now.items c.args.n seat c.in-Some.seat.now there) h) c.replace_with.ensures.1.1
