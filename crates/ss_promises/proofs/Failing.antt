-- A request that isn't done: the account reads its clock, and the device's run is over.
use Rattle.std.specs.Prelude.{◌≡◌, ℕ, Bool, false, List, ◌++◌, slice_get, MatchOption, Some, None, refl}
use Rattle.std.proofs.Common.{sym, ap, subst, ◌∙◌, arith}
use Rattle.ss_bso.specs.declared.account.Plain.{Plain}
use Rattle.ss_bso.specs.Validity.{IsValid}
use Rattle.ss_http.specs.Hearing.{Hears}
use Rattle.ss_query.specs.declared.replies.Mark.{Mark}
use Rattle.ss_query.specs.declared.replies.Mark.TheVariants.{Done, Keeper, Memory}
use Rattle.ss_query.specs.declared.replies.Reply.{Reply}
use Rattle.ss_query.specs.declared.replies.Said.TheVariants.{Keeper as KeeperWord, Memory as MemoryWord}
use Rattle.ss_query.specs.declared.requests.Request.{Request}
use Rattle.ss_laws.specs.Journals.{failed_outcome, marked_outcome}
use Rattle.ss_laws.proofs.Valid.{valid-tick}
use Rattle.ss_route.specs.Texts.{body_text}
use Rattle.ss_route.specs.Wire.{HasReason, IsHeardWhole, IsReply, heard_of, wire}
use Rattle.ss_hearing.specs.declared.answer.Answer.TheVariants.{Refused}
use Rattle.ss_hearing.specs.declared.answer.Awaited.{Awaited}
use Rattle.ss_hearing.specs.declared.answer.Awaited.TheVariants.{Configuration, FirstPage, LaterPage, AllIds, Staging}
use Rattle.ss_hearing.specs.declared.answer.Awaited.TheVariants.{Writing}
use Rattle.ss_hearing.specs.Hearing.{answer_of, status_of}
use Rattle.ss_client.specs.declared.summaries.SyncFault.TheVariants as fault
use Rattle.ss_client.specs.declared.runs.Run.{Run}
use Rattle.ss_client.specs.declared.runs.Stage.{Stage}
use Rattle.ss_client.specs.Asking.{awaits}
use Rattle.ss_client.specs.Machine.{Follows, Next, Stop}
use Rattle.ss_client.specs.Runs.{MachineView}
use Rattle.ss_device.specs.Device.{DeviceView}
use Rattle.ss_serving.specs.Asking.{told_by}
use Rattle.ss_serving.specs.Bookmarks.{Server}
use Rattle.ss_serving.specs.Steps.{Ticks}
use Rattle.ss_serving.specs.Typed.{IsOfKind, IsTypedReply}
use Rattle.ss_world.specs.declared.events.Event.TheVariants.{LoseRequest, Tick}
use Rattle.ss_world.specs.declared.seats.Seat.{Seat}
use Rattle.ss_world.specs.declared.seats.Seat.TheVariants.{Idle, Syncs}
use Rattle.ss_world.specs.Happening.{Happens, IsGivenUp}
use Rattle.ss_world.specs.Seats.{after}
use Rattle.ss_world.specs.Worlds.{WorldView, world_with_seat}
use Rattle.ss_promises.specs.Exchanges.{Proceeds}

-- ---- the reply

-- what is known of the reply to a request that isn't done: it can be heard, and refuses the request
pub record IsFailure (reply : Reply) : Type 0 where
  pub numbers : IsReply reply
  pub values : IsTypedReply reply
  pub reason : HasReason reply.status
  pub whole : IsHeardWhole reply false
  pub kind : (awaited : Awaited) → reply.status ≡ status_of awaited → IsOfKind awaited reply.body
  pub told : (awaited : Awaited) → told_by awaited reply ≡ Refused reply.status

keeper_kind : (account : Plain) (now : ℕ) (awaited : Awaited) → 503 ≡ status_of awaited → IsOfKind awaited (failed_outcome account now 503 KeeperWord).reply.body
keeper_kind account now Configuration e = absurd (omega (arith, e))
keeper_kind account now FirstPage e = absurd (omega (arith, e))
keeper_kind account now LaterPage e = absurd (omega (arith, e))
keeper_kind account now AllIds e = absurd (omega (arith, e))
keeper_kind account now Staging e = absurd (omega (arith, e))
keeper_kind account now Writing e = absurd (omega (arith, e))

memory_kind : (account : Plain) (now : ℕ) (awaited : Awaited) → 507 ≡ status_of awaited → IsOfKind awaited (failed_outcome account now 507 MemoryWord).reply.body
memory_kind account now Configuration e = absurd (omega (arith, e))
memory_kind account now FirstPage e = absurd (omega (arith, e))
memory_kind account now LaterPage e = absurd (omega (arith, e))
memory_kind account now AllIds e = absurd (omega (arith, e))
memory_kind account now Staging e = absurd (omega (arith, e))
memory_kind account now Writing e = absurd (omega (arith, e))

keeper_told : (account : Plain) (now : ℕ) (awaited : Awaited) → told_by awaited (failed_outcome account now 503 KeeperWord).reply ≡ Refused 503
unfolding told_by
keeper_told account now Configuration = refl
keeper_told account now FirstPage = refl
keeper_told account now LaterPage = refl
keeper_told account now AllIds = refl
keeper_told account now Staging = refl
keeper_told account now Writing = refl

memory_told : (account : Plain) (now : ℕ) (awaited : Awaited) → told_by awaited (failed_outcome account now 507 MemoryWord).reply ≡ Refused 507
unfolding told_by
memory_told account now Configuration = refl
memory_told account now FirstPage = refl
memory_told account now LaterPage = refl
memory_told account now AllIds = refl
memory_told account now Staging = refl
memory_told account now Writing = refl

keeper_whole : (account : Plain) (now : ℕ) → IsHeardWhole (failed_outcome account now 503 KeeperWord).reply false
unfolding body_text
keeper_whole account now = omega arith

memory_whole : (account : Plain) (now : ℕ) → IsHeardWhole (failed_outcome account now 507 MemoryWord).reply false
unfolding body_text
memory_whole account now = omega arith

pub is_failure : (account : Plain) (now : ℕ) (request : Request) (mark : Mark) → IsValid account → (mark ≡ Done → ⊥) → IsFailure (marked_outcome account now request mark).reply
is_failure account now request Done valid h = absurd (h refl)
is_failure account now request Keeper valid h = record {
  numbers = record { moment = (valid-tick account now valid).moment; modified = tt; count = tt; next = tt };
  values = record { next = tt; body = tt };
  reason = omega arith;
  whole = keeper_whole account now;
  kind = keeper_kind account now;
  told = keeper_told account now;
}
is_failure account now request Memory valid h = record {
  numbers = record { moment = (valid-tick account now valid).moment; modified = tt; count = tt; next = tt };
  values = record { next = tt; body = tt };
  reason = omega arith;
  whole = memory_whole account now;
  kind = memory_kind account now;
  told = memory_told account now;
}

-- ---- the machine

stops : (d : DeviceView) (run : Run) (stage : Stage) (status : ℕ) (next : Next) → Follows d run stage (Refused status) next → next ≡ Stop (fault.Refused status None)
unfolding Follows
stops d run stage status next f = f

-- a machine that hears the reply stops: its device is as it was started
pub stopped : (machine : MachineView) (reply : Reply) (last : Bool) (output more : List ℕ) (next : Next) → IsFailure reply → output ≡ wire reply false last → (p : Proceeds machine (output ++ more) next)
    → ((awaited : Awaited) (reply : Reply) (last : Bool) → IsTypedReply reply → (reply.status ≡ status_of awaited → IsOfKind awaited reply.body) → answer_of awaited (heard_of reply false last) ≡ told_by awaited reply)
    → ((reply : Reply) (newlines last : Bool) (rest : List ℕ) → IsReply reply → HasReason reply.status → IsHeardWhole reply newlines → Hears (wire reply newlines last ++ rest) (heard_of reply newlines last) rest)
    → (Hears (wire reply false last ++ more) p.heard p.left → Hears (wire reply false last ++ more) (heard_of reply false last) more → (p.heard ≡ heard_of reply false last) × (p.left ≡ more))
    → (after machine next ≡ Idle machine.device) × (p.left ≡ more)
stopped machine reply last output more next f is p told heard once =
    let same = once (subst (λ out. Hears (out ++ more) p.heard p.left) is p.hears) (heard reply false last more f.numbers f.reason f.whole) in
    let answer : answer_of (awaits machine.stage) p.heard ≡ Refused reply.status =
    ap (answer_of (awaits machine.stage)) same.0 ∙ told (awaits machine.stage) reply last f.values (f.kind (awaits machine.stage)) ∙ f.told (awaits machine.stage) in
    let follows : Follows machine.device machine.run machine.stage (Refused reply.status) next = subst (λ a. Follows machine.device machine.run machine.stage a next) answer p.follows in
    (ap (after machine) (stops machine.device machine.run machine.stage reply.status next follows), same.1)

-- ---- the world

pub ticked : (world : WorldView) (now : ℕ) (server : Server) → Ticks world.server now server → Happens world (Tick now) (record world { server = server })
ticked world now server t = record { server = server; ticks = t; is = refl }

pub given_up : (world : WorldView) (n : ℕ) (machine : MachineView) (server : Server) (seat : Seat) → slice_get world.seats n ≡ Some (Syncs machine) → seat ≡ Idle machine.device
    → Happens (record world { server = server }) (LoseRequest n) (world_with_seat world server n seat)
given_up world n machine server seat there is =
    let w : WorldView = record world { server = server } in
    let v : WorldView = world_with_seat world server n seat in
    subst (λ o. MatchOption o (v ≡ w) (IsGivenUp w n v)) (sym there) (ap (world_with_seat world server n) is)
