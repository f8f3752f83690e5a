-- What a step comes to.
use Rattle.std.proofs.Common.{◌≡◌, ◌⊎◌, ℕ, List, set, slice_get, Option, Some, None, option_map, MatchOption, false, cond}
use Rattle.std.proofs.Common.{sym, subst, refl, ap, inl, inr, ◌∙◌}
use Rattle.std.specs.Bool.{MatchBool}
use Rattle.std.specs.Option.{option_map_or}
use Rattle.std.specs.Prelude.{Result, Ok, Err, IsErrAnd, IfErr, OnOk, OnErr}
use Rattle.std.proofs.lemmas.Option.{none-some}
use Rattle.ss_query.specs.declared.requests.Request.{Request}
use Rattle.ss_query.specs.Api.{api}
use Rattle.ss_client.specs.declared.summaries.Fetch.{Fetch}
use Rattle.ss_client.specs.Runs.{MachineView}
use Rattle.ss_client.specs.Asking.{ask, awaits}
use Rattle.ss_client.specs.Told.{TakesMemory}
use Rattle.ss_device.specs.declared.faults.EditFault.{EditFault}
use Rattle.ss_device.specs.declared.faults.EditFault.TheVariants.{NoItem, NotFolder, Twice, Root, Under, Memory}
use Rattle.ss_serving.specs.Bookmarks.{Server}
use Rattle.ss_serving.specs.Asking.{told_by, touches}
use Rattle.ss_serving.specs.Steps.{Answers, Reopens, Ticks}
use Rattle.ss_world.specs.declared.events.Edit.{Edit}
use Rattle.ss_world.specs.declared.events.Event.{Event}
use Rattle.ss_world.specs.declared.events.Event.TheVariants.{Deliver, LoseReply, Change, Other}
use Rattle.ss_world.specs.declared.faults.WorldFault.{WorldFault}
use Rattle.ss_world.specs.declared.faults.WorldFault.TheVariants as fault
use Rattle.ss_world.specs.Seats.{seat_after_start}
use Rattle.ss_world.specs.Worlds.{Seat, Idle, Syncs, WorldView}
use Rattle.ss_world.specs.Happening.{At, AsksElsewhere, Delivers, Edits, DeliversAtSeat, EditsAtSeat, IsGivenUp, IsLost}
use Rattle.ss_world.specs.Happening.{OpensAnew}
use Rattle.ss_world.specs.Happening.{Starts, ReadsClock}
use Rattle.ss_world.specs.Stepping.{Begins, Changes, Fails, GivesUp, Hears, IsEditedSeat, HearsAtSeat, IsUnheard}
use Rattle.ss_world.specs.Stepping.{IsWanting}
use Rattle.ss_world.specs.Stepping.{at_device, change_fault, edit_refusal, request_fault, start_fault, tested_change}

-- a world of a server and seats
abbrev pub world : Server → List Seat → WorldView
world server seats = record { server = server; seats = seats }

-- what is known of a fault that is handed on
pub handed_on : {X E : Type 0} (r : Result X E) (P Q : E → Type 0) → ((e : E) → P e → Q e) → IsErrAnd r P → IfErr r Q
handed_on (Ok x) P Q f h = tt
handed_on (Err e) P Q f h = f e h

-- an event that isn't refused for want of its device is one of a device that is there
pub there : (seats : List Seat) (n : ℕ) (why : Seat → Option WorldFault) → at_device seats n why ≡ None → (seat : Seat) × (slice_get seats n ≡ Some seat) × (why seat ≡ None)
there seats n why h = go (slice_get seats n) refl h
  where
    go : (o : Option Seat) → slice_get seats n ≡ o → option_map_or why o (Some (fault.NoDevice n)) ≡ None → (seat : Seat) × (slice_get seats n ≡ Some seat) × (why seat ≡ None)
    go None is e = absurd (none-some (fault.NoDevice n) (sym e))
    go (Some seat) is e = (seat, is, e)

-- ---- giving up

pub given_up : (w : WorldView) (server : Server) (seats new : List Seat) (n : ℕ) (m : MachineView) → world server seats ≡ w → slice_get seats n ≡ Some (Syncs m) → GivesUp seats n new
    → At w n (world server new) (IsGivenUp w n (world server new))
given_up w server seats new n m is there gives =
    subst (λ x. At x n (world server new) (IsGivenUp x n (world server new))) is
    (subst (λ (o : Option Seat). MatchOption o (world server new ≡ world server seats) (IsGivenUp (world server seats) n (world server new))) (sym there) (ap (world server) (gives (Syncs m) there)))

pub lost : (w : WorldView) (server after : Server) (seats new : List Seat) (n now : ℕ) (m : MachineView) → world server seats ≡ w → slice_get seats n ≡ Some (Syncs m) → Answers server now (ask m) after → GivesUp seats n new
    → At w n (world after new) (IsLost w n now (world after new))
lost w server after seats new n now m is there a gives =
    subst (λ x. At x n (world after new) (IsLost x n now (world after new))) is
    (subst (λ (o : Option Seat). MatchOption o (world after new ≡ world server seats) (IsLost (world server seats) n now (world after new))) (sym there)
    (record { server = after; answers = a; is = ap (world after) (gives (Syncs m) there) }))

-- ---- a delivery

pub delivered : (w : WorldView) (server after : Server) (seats new : List Seat) (n now : ℕ) (m : MachineView) → world server seats ≡ w → slice_get seats n ≡ Some (Syncs m) → Answers server now (ask m) after
    → Hears (told_by (awaits m.stage) (api server.account now (ask m)).reply) seats n new → At w n (world after new) (DeliversAtSeat w n now (world after new))
delivered w server after seats new n now m is there a hears =
    subst (λ x. At x n (world after new) (DeliversAtSeat x n now (world after new))) is
    (subst (λ (o : Option Seat). MatchOption o (world after new ≡ world server seats) (DeliversAtSeat (world server seats) n now (world after new))) (sym there) (go (hears (Syncs m) there)))
  where
    go : (heard : Seat) × HearsAtSeat (told_by (awaits m.stage) (api server.account now (ask m)).reply) heard (Syncs m) × (new ≡ set seats n heard) → Delivers (world server seats) n now m (world after new)
    go h = record { server = after; answers = a; next = h.1.0; follows = h.1.1; is = ap (world after) (h.2 ∙ ap (set seats n) h.1.2) }

-- ---- the seats

-- the cause at a device that is there
pub cause_at : (seats : List Seat) (n : ℕ) (seat : Seat) (why : Seat → Option WorldFault) → slice_get seats n ≡ Some seat → at_device seats n why ≡ why seat
cause_at seats n seat why at = ap (λ o. option_map_or why o (Some (fault.NoDevice n))) at

-- ---- a start

pub starts : (w : WorldView) (server : Server) (seats new : List Seat) (n : ℕ) (fetch : Fetch) → world server seats ≡ w → at_device seats n (start_fault n) ≡ None → Begins fetch seats n new
    → At w n (world server new) (Starts w n fetch (world server new))
starts w server seats new n fetch is none begins =
    let s = there seats n (start_fault n) none in
    subst (λ x. At x n (world server new) (Starts x n fetch (world server new))) is
    (subst (λ (o : Option Seat). MatchOption o (world server new ≡ world server seats) (Starts (world server seats) n fetch (world server new))) (sym s.1) (by s.0 s.2 (begins s.0 s.1)))
  where
    by : (seat : Seat) → start_fault n seat ≡ None → new ≡ set seats n (seat_after_start fetch seat) → Starts (world server seats) n fetch (world server new) seat
    by (Idle d) e q = ap (world server) q
    by (Syncs m) e q = absurd (none-some (fault.Busy n) (sym e))

-- ---- a change

module _ (w : WorldView) (server : Server) (seats new : List Seat) (n now : ℕ) (edit : Edit) (is : world server seats ≡ w) (seat : Seat) (at : slice_get seats n ≡ Some seat) (changes : Changes now edit seats n new) where
  pub edits : At w n (world server new) (EditsAtSeat w n now edit (world server new))
  edits =
      subst (λ x. At x n (world server new) (EditsAtSeat x n now edit (world server new))) is
      (subst (λ (o : Option Seat). MatchOption o (world server new ≡ world server seats) (EditsAtSeat (world server seats) n now edit (world server new))) (sym at) (by seat (changes seat at)))
    where
      by : (x : Seat) → (changed : Seat) × IsEditedSeat now edit changed x × (new ≡ set seats n changed) → EditsAtSeat (world server seats) n now edit (world server new) x
      by (Idle d) h =
          subst (λ o. MatchOption o (Edits (world server seats) n now edit d (world server new)) (λ f. world server new ≡ world server seats)) (sym h.1.taken)
          (record { device = h.1.device; changed = h.1.changed; valid = h.1.valid; is_tree = h.1.is_tree; is = ap (world server) (h.2 ∙ ap (set seats n) h.1.is) })
      by (Syncs m) h = absurd h.1

  pub editable : at_device w.seats n (change_fault n edit) ≡ None
  editable =
      subst (λ x. at_device x.seats n (change_fault n edit) ≡ None) is (ap (λ o. option_map_or (change_fault n edit) o (Some (fault.NoDevice n))) at ∙ by seat (changes seat at))
    where
      by : (x : Seat) → (changed : Seat) × IsEditedSeat now edit changed x × (new ≡ set seats n changed) → change_fault n edit x ≡ None
      by (Idle d) h = ap (option_map fault.Edit) h.1.taken
      by (Syncs m) h = absurd h.1

-- ---- others, the clock, a new start of the server

pub asked : (w : WorldView) (server after : Server) (seats : List Seat) (now : ℕ) (request : Request) → world server seats ≡ w → touches request ≡ false → Answers server now request after
    → MatchBool (touches request) (world after seats ≡ w) (AsksElsewhere w now request (world after seats))
asked w server after seats now request is spared a =
    subst (λ b. MatchBool b (world after seats ≡ w) (AsksElsewhere w now request (world after seats))) (sym spared)
    (subst (λ x. AsksElsewhere x now request (world after seats)) is (record { server = after; answers = a; is = refl }))

pub ticked : (w : WorldView) (server after : Server) (seats : List Seat) (now : ℕ) → world server seats ≡ w → Ticks server now after → ReadsClock w now (world after seats)
ticked w server after seats now is t = subst (λ x. ReadsClock x now (world after seats)) is (record { server = after; ticks = t; is = refl })

pub reopened : (w : WorldView) (server after : Server) (seats : List Seat) → world server seats ≡ w → Reopens server after → OpensAnew w (world after seats)
reopened w server after seats is r = subst (λ x. OpensAnew x (world after seats)) is (record { server = after; reopens = r; is = refl })

-- ---- want of memory

-- want of memory is handed on
pub wanted : {X : Type 0} (r : Result X WorldFault) (w : WorldView) (event : Event) (v : WorldView) → IsWanting w event v → IsErrAnd r (λ e. e ≡ fault.Memory) → IfErr r (Fails w event v)
wanted r w event v wanting = handed_on r (λ e. e ≡ fault.Memory) (Fails w event v) (λ e is. inl (is, wanting))

-- a device that is there has a request under way
requesting : (seats : List Seat) (n : ℕ) (m : MachineView) → slice_get seats n ≡ Some (Syncs m) → at_device seats n (request_fault n) ≡ None
requesting seats n m there = ap (λ o. option_map_or (request_fault n) o (Some (fault.NoDevice n))) there

module _ (w : WorldView) (server : Server) (seats : List Seat) (n now : ℕ) (m : MachineView) (is : world server seats ≡ w) (there : slice_get seats n ≡ Some (Syncs m)) where
  tested : at_device w.seats n (request_fault n) ≡ None
  tested = subst (λ x. at_device x.seats n (request_fault n) ≡ None) is (requesting seats n m there)

  -- before a request came to the account
  pub unasked : IsWanting w (Deliver n now) w
  unasked = record { tested = tested; left = inl refl }

  pub unasked_loss : IsWanting w (LoseReply n now) w
  unasked_loss = record { tested = tested; left = inl refl }

  -- the account found no memory
  pub unanswered : (after : Server) → Ticks server now after → IsWanting w (Deliver n now) (world after seats)
  unanswered after t = record { tested = tested; left = inr (inl (ticked w server after seats now is t)) }

  pub unanswered_loss : (after : Server) → Ticks server now after → IsWanting w (LoseReply n now) (world after seats)
  unanswered_loss after t = record { tested = tested; left = inr (ticked w server after seats now is t) }

  -- the reply couldn't be handed on
  pub undelivered : (after : Server) (new : List Seat) → Answers server now (ask m) after → GivesUp seats n new
      → TakesMemory m (api server.account now (ask m)).reply.status (told_by (awaits m.stage) (api server.account now (ask m)).reply) → IsWanting w (Deliver n now) (world after new)
  undelivered after new a gives takes = record { tested = tested; left = inr (inr (subst (λ x. At x n (world after new) (IsUnheard x n now (world after new))) is unheard)) }
    where
      unheard : At (world server seats) n (world after new) (IsUnheard (world server seats) n now (world after new))
      unheard =
          subst (λ (o : Option Seat). MatchOption o (world after new ≡ world server seats) (IsUnheard (world server seats) n now (world after new))) (sym there)
          (record { server = after; answers = a; is = ap (world after) (gives (Syncs m) there) }, takes)

-- somebody else isn't answered
pub unserved : (w : WorldView) (server after : Server) (seats : List Seat) (now : ℕ) (request : Request) → world server seats ≡ w → touches request ≡ false → Ticks server now after → IsWanting w (Other now request) (world after seats)
unserved w server after seats now request is spared t =
    record { tested = ap (λ b. cond b (Some fault.Touches) None) spared; left = inr (ticked w server after seats now is t) }

-- what holds of each fault
pub each_fault : {X E : Type 0} (r : Result X E) (Q : E → Type 0) → ((e : E) → Q e) → IfErr r Q
each_fault (Ok x) Q h = tt
each_fault (Err e) Q h = h e

-- want of memory alone is told as such
pub wanting_edit : (f : EditFault) → edit_refusal f ≡ fault.Memory → f ≡ Memory
wanting_edit Memory e = refl
wanting_edit NoItem e = cc
wanting_edit NotFolder e = cc
wanting_edit Twice e = cc
wanting_edit Root e = cc
wanting_edit Under e = cc

-- an edit fails: its device isn't there, or syncs, or is as before
pub unchanged : {X : Type 0} (r : Result X WorldFault) (w : WorldView) (server : Server) (seats new : List Seat) (n now : ℕ) (edit : Edit) → world server seats ≡ w
    → IfErr r (λ e. (e ≡ fault.Memory) ⊎ (at_device seats n (change_fault n edit) ≡ Some e)) → IfErr r (λ e. e ≡ fault.Memory → at_device seats n (tested_change n edit) ≡ None) → OnErr r (new ≡ seats) → IfErr r (Fails w (Change n now edit) (world server new))
unchanged (Ok x) w server seats new n now edit is refused wanting left = tt
unchanged (Err e) w server seats new n now edit is refused wanting left =
    subst (λ x. Fails x (Change n now edit) (world server new) e) is
    (elim refused [ inl m ↦ inl (m, record { tested = wanting m; left = ap (world server) left }) | inr q ↦ inr (record { cause = q; left = ap (world server) left }) ])

-- two facts of a value that is there
pub both : {X E P Q R : Type 0} (r : Result X E) → (P → Q → R) → OnOk r P → OnOk r Q → OnOk r R
both (Ok x) f p q = f p q
both (Err e) f p q = tt
