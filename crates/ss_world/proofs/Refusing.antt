-- An event that is refused happens too: it leaves the world.
use Rattle.std.proofs.Common.{◌≡◌, ℕ, slice_get, Option, Some, None, option_map, MatchOption, Bool, true, false, cond}
use Rattle.std.proofs.Common.{inl, inr}
use Rattle.std.specs.Bool.{MatchBool}
use Rattle.std.specs.Option.{option_map_or}
use Rattle.std.proofs.lemmas.Option.{none-some}
use Rattle.ss_query.specs.declared.requests.Request.{Request}
use Rattle.ss_device.specs.Device.{DeviceView}
use Rattle.ss_device.specs.declared.faults.EditFault.{EditFault}
use Rattle.ss_client.specs.declared.summaries.Fetch.{Fetch}
use Rattle.ss_serving.specs.Asking.{touches}
use Rattle.ss_world.specs.declared.events.Edit.{Edit}
use Rattle.ss_world.specs.declared.events.Event.{Event}
use Rattle.ss_world.specs.declared.events.Event.TheVariants.{Start, Deliver, LoseRequest, LoseReply, Anew, Change}
use Rattle.ss_world.specs.declared.events.Event.TheVariants.{Other, Tick, Reopen}
use Rattle.ss_world.specs.declared.faults.WorldFault.{WorldFault}
use Rattle.ss_world.specs.declared.faults.WorldFault.TheVariants as fault
use Rattle.ss_world.specs.Worlds.{Seat, Idle, Syncs, WorldView}
use Rattle.ss_world.specs.Happening.{AsksElsewhere, At, Edits, Happens, DeliversAtSeat, EditsAtSeat, IsGivenUp, IsLost}
use Rattle.ss_world.specs.Happening.{Starts}
use Rattle.ss_world.specs.Happening.{edit_fault}
use Rattle.ss_world.specs.Stepping.{Fails, Refuses, at_device, change_fault, request_fault, start_fault}

module _ (w v : WorldView) (e : WorldFault) (left : v ≡ w) where
  at_refused : (n : ℕ) (why : Seat → Option WorldFault) (P : Seat → Type 0) → ((seat : Seat) → why seat ≡ Some e → P seat) → at_device w.seats n why ≡ Some e → At w n v P
  at_refused n why P f cause = go (slice_get w.seats n) cause
    where
      go : (o : Option Seat) → option_map_or why o (Some (fault.NoDevice n)) ≡ Some e → MatchOption o (v ≡ w) P
      go None q = left
      go (Some seat) q = f seat q

  by_start : (n : ℕ) (fetch : Fetch) (seat : Seat) → start_fault n seat ≡ Some e → Starts w n fetch v seat
  by_start n fetch (Idle d) q = absurd (none-some e q)
  by_start n fetch (Syncs m) q = left

  by_delivery : (n now : ℕ) (seat : Seat) → request_fault n seat ≡ Some e → DeliversAtSeat w n now v seat
  by_delivery n now (Idle d) q = left
  by_delivery n now (Syncs m) q = absurd (none-some e q)

  by_giving : (n : ℕ) (seat : Seat) → request_fault n seat ≡ Some e → IsGivenUp w n v seat
  by_giving n (Idle d) q = left
  by_giving n (Syncs m) q = absurd (none-some e q)

  by_loss : (n now : ℕ) (seat : Seat) → request_fault n seat ≡ Some e → IsLost w n now v seat
  by_loss n now (Idle d) q = left
  by_loss n now (Syncs m) q = absurd (none-some e q)

  by_edit : (n now : ℕ) (edit : Edit) (d : DeviceView) (o : Option EditFault) → option_map fault.Edit o ≡ Some e → MatchOption o (Edits w n now edit d v) (λ f. v ≡ w)
  by_edit n now edit d None q = absurd (none-some e q)
  by_edit n now edit d (Some f) q = left

  by_change : (n now : ℕ) (edit : Edit) (seat : Seat) → change_fault n edit seat ≡ Some e → EditsAtSeat w n now edit v seat
  by_change n now edit (Idle d) q = by_edit n now edit d (edit_fault d edit) q
  by_change n now edit (Syncs m) q = left

  by_others : (now : ℕ) (request : Request) (b : Bool) → cond b (Some fault.Touches) None ≡ Some e → MatchBool b (v ≡ w) (AsksElsewhere w now request v)
  by_others now request true q = left
  by_others now request false q = absurd (none-some e q)

pub refused_happens : (w v : WorldView) (event : Event) (e : WorldFault) → Refuses w event e v → Happens w event v
refused_happens w v (Start n fetch) e r = at_refused w v e r.left n (start_fault n) (Starts w n fetch v) (by_start w v e r.left n fetch) r.cause
refused_happens w v (Deliver n now) e r = at_refused w v e r.left n (request_fault n) (DeliversAtSeat w n now v) (by_delivery w v e r.left n now) r.cause
refused_happens w v (LoseRequest n) e r = at_refused w v e r.left n (request_fault n) (IsGivenUp w n v) (by_giving w v e r.left n) r.cause
refused_happens w v (LoseReply n now) e r = at_refused w v e r.left n (request_fault n) (IsLost w n now v) (by_loss w v e r.left n now) r.cause
refused_happens w v (Anew n) e r = at_refused w v e r.left n (request_fault n) (IsGivenUp w n v) (by_giving w v e r.left n) r.cause
refused_happens w v (Change n now edit) e r = at_refused w v e r.left n (change_fault n edit) (EditsAtSeat w n now edit v) (by_change w v e r.left n now edit) r.cause
refused_happens w v (Other now request) e r = by_others w v e r.left now request (touches request) r.cause
refused_happens w v (Tick now) e r = absurd (none-some e r.cause)
refused_happens w v Reopen e r = absurd (none-some e r.cause)

-- so does each event that fails for another cause than want of memory
pub passed_over : (w v : WorldView) (event : Event) (e : WorldFault) → (e ≡ fault.Memory → ⊥) → Fails w event v e → Happens w event v
passed_over w v event e not_memory f = elim f [ inl h ↦ absurd (not_memory h.0) | inr r ↦ refused_happens w v event e r ]
