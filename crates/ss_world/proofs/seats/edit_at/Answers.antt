use Rattle.std.proofs.Common.{◌≡◌, ◌⊎◌, length, set, slice_get, Some, None, refl, sym, ap, subst, inl, inr, ◌∙◌}
use Rattle.std.proofs.lemmas.List.{set-get_or}
use Rattle.std.proofs.lemmas.Option.{same_Some, slice_get_read}
use Rattle.std.proofs.lemmas.Result.{on_ok_weaker, on_err_weaker, IfErr-weaker}
use Rattle.ss_world.specs.Stepping.{IsEditedSeat, at_device, change_fault, tested_change}
use Rattle.ss_world.specs.declared.faults.WorldFault.TheVariants as fault
use Rattle.ss_world.proofs.Stepping.{cause_at}
use Rattle.ss_world.proofs.seats.edit_at.Goals as goal

pub returns-in-Some-clause-changed : goal.returns-in-Some-clause-changed
returns-in-Some-clause-changed c =
    let at : slice_get c.args.seats.now.items c.args.n ≡ Some c.in-Some.seat.now = slice_get_read c.args.seats.now.items (length c.args.seats.now.items) c.args.n c.in-Some.seat.now refl c.in-Some.ensures.item.3.0 c.in-Some.ensures.value in
    on_ok_weaker c.edit_seat.result (λ h. (
      c.in-Some.seat.now,
      at,
      λ seat there. (c.edit_seat.new.seat, subst (IsEditedSeat c.args.now c.args.change.now c.edit_seat.new.seat) (same_Some c.in-Some.seat.now seat (sym at ∙ there)) h, refl),
    )) c.edit_seat.ensures.changed

pub returns-in-Some-clause-refused : goal.returns-in-Some-clause-refused
returns-in-Some-clause-refused c =
    let at : slice_get c.args.seats.now.items c.args.n ≡ Some c.in-Some.seat.now = slice_get_read c.args.seats.now.items (length c.args.seats.now.items) c.args.n c.in-Some.seat.now refl c.in-Some.ensures.item.3.0 c.in-Some.ensures.value in
    IfErr-weaker c.edit_seat.result (λ e. (e ≡ fault.Memory) ⊎ (change_fault c.args.n c.args.change.now c.in-Some.seat.now ≡ Some e)) (λ e. (e ≡ fault.Memory) ⊎ (at_device c.args.seats.now.items c.args.n (change_fault c.args.n c.args.change.now) ≡ Some e))
    (λ e h. elim h [ inl m ↦ inl m | inr q ↦ inr (cause_at c.args.seats.now.items c.args.n c.in-Some.seat.now (change_fault c.args.n c.args.change.now) at ∙ q) ]) c.edit_seat.ensures.refused

pub returns-in-Some-clause-left : goal.returns-in-Some-clause-left
returns-in-Some-clause-left c =
    on_err_weaker c.edit_seat.result (λ h. ap (set c.args.seats.now.items c.args.n) (h ∙ c.in-Some.ensures.value) ∙ set-get_or c.args.seats.now.items c.args.n c.in-Some.seat.now) c.edit_seat.ensures.left

pub returns-in-Some-clause-wanting : goal.returns-in-Some-clause-wanting
returns-in-Some-clause-wanting c =
    let at : slice_get c.args.seats.now.items c.args.n ≡ Some c.in-Some.seat.now = slice_get_read c.args.seats.now.items (length c.args.seats.now.items) c.args.n c.in-Some.seat.now refl c.in-Some.ensures.item.3.0 c.in-Some.ensures.value in
    IfErr-weaker c.edit_seat.result (λ e. e ≡ fault.Memory → tested_change c.args.n c.args.change.now c.in-Some.seat.now ≡ None) (λ e. e ≡ fault.Memory → at_device c.args.seats.now.items c.args.n (tested_change c.args.n c.args.change.now) ≡ None)
    (λ e h m. cause_at c.args.seats.now.items c.args.n c.in-Some.seat.now (tested_change c.args.n c.args.change.now) at ∙ h m) c.edit_seat.ensures.wanting
