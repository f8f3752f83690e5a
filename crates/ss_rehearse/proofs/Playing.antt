-- A rehearsal from its opening to its end.
use Rattle.std.proofs.Common.{◌≡◌, ℕ, zero, suc, ◌+◌, ◌<◌, List, [], ◌∷◌, ◌++◌, length, slice_get, Option}
use Rattle.std.proofs.Common.{Some, None, option_map, unwrap_or, refl, sym, ap, subst, ◌∙◌, arith}
use Rattle.std.specs.Prelude.{Result, Ok, Err, IfOk}
use Rattle.std.proofs.lemmas.List.{append_assoc, append-nil}
use Rattle.std.proofs.lemmas.Option.{none-some, same_Some}
use Rattle.ss_device.specs.Device.{DeviceView}
use Rattle.ss_client.specs.declared.summaries.Fetch.TheVariants.{Newer}
use Rattle.ss_world.specs.declared.events.Edit.{Edit}
use Rattle.ss_world.specs.declared.events.Event.{Event}
use Rattle.ss_world.specs.declared.events.Event.TheVariants.{Start}
use Rattle.ss_world.specs.Seats.{device_of}
use Rattle.ss_world.specs.Worlds.{WorldView}
use Rattle.ss_world.specs.declared.seats.Seat.{Seat}
use Rattle.ss_world.specs.Happening.{Runs, Step}
use Rattle.ss_world.specs.Promises.{IsTrustedEvent}
use Rattle.ss_world.specs.Reaching.{IsReachedWorld, KeepsPromises}
use Rattle.ss_world.proofs.Reaching as reaching
use Rattle.ss_rehearse.specs.Summaries.{summary_of, summary_text}
use Rattle.ss_rehearse.specs.Scripts.{Act, changes, sync, script}
use Rattle.ss_rehearse.specs.Plays.{Acts, Asks, PlaysChanges, PlaysSync, Leads, PlayView, Plays}
use Rattle.ss_rehearse.specs.Rehearsals.{ArePromisedSteps, IsFresh, IsSummary, all_trusted}
use Rattle.ss_rehearse.specs.Rehearsals.{tree_at}
use Rattle.ss_rehearse.specs.Syncing.{AreIdle, LeadsByActs}
use Rattle.ss_rehearse.proofs.Steps.{leads_on}

-- ---- what the world promises

all_ok : (event : Event) → IsTrustedEvent all_trusted event
all_ok (Start n Newer) = refl
all_ok event = tt

promised_all : (w : WorldView) (steps : List Step) → IsReachedWorld all_trusted w → Runs w steps → ArePromisedSteps w steps
promised_all w [] r h = tt
promised_all w (s ∷ steps) r h =
    let p : KeepsPromises all_trusted w s.event s.world = reaching.promised all_trusted w s.event s.world r (all_ok s.event) h.0 in (
      record { promised = p; understood = reaching.understood all_trusted w s.event s.world r; whole = λ q. reaching.whole all_trusted w q s.event s.world h.0 },
      promised_all s.world steps p.reached h.1,
    )

-- ---- what acts lead to

asks_lead : (n now : ℕ) (w : WorldView) (steps : List Step) (posts : ℕ) (v : WorldView) → Asks n now w steps posts v → Leads w steps v
asks_lead n now w [] posts v a = record { runs = tt; here = sym a.0 }
asks_lead n now w (s ∷ steps) posts v a = let t = asks_lead n (now + 100) s.world steps a.4 v a.6 in record { runs = (a.3, t.runs); here = t.here }

synced_leads : (n now : ℕ) (w : WorldView) (steps : List Step) (posts : ℕ) (v : WorldView) (next : ℕ) → PlaysSync n now w steps posts v next → Leads w steps v
synced_leads n now w steps posts v next s =
    let t = asks_lead n now s.syncs.started s.syncs.requests posts v s.syncs.asks in
    subst (λ xs. Leads w xs v) (sym s.syncs.steps_are) (record { runs = (s.syncs.starts, t.runs); here = t.here })

act_leads : (p : PlayView) (act : Act) (steps : List Step) (q : PlayView) → Acts p act steps q → Leads p.world steps q.world
act_leads p (changes n edits) steps q h = h.0.leads
act_leads p (sync n) steps q h = synced_leads n p.now p.world steps h.0 q.world q.now h.1

plays_lead : (p : PlayView) (acts : List Act) (steps : List Step) (q : PlayView) → Plays p acts steps q → Leads p.world steps q.world
plays_lead p [] steps q h =
    subst (λ xs. Leads p.world xs q.world) (sym h.0) (record { runs = tt; here = ap (λ (x : PlayView). x.world) (sym h.1) })
plays_lead p (act ∷ acts) steps q h =
    subst (λ xs. Leads p.world xs q.world) (sym h.3)
    (leads_on p.world h.2.world q.world h.0 h.1 (act_leads p act h.0 h.2 h.4) (plays_lead h.2 acts h.1 q h.5))

-- ---- the whole

-- acts that were played one after the other
pub plays_append : (p : PlayView) (acts : List Act) (xs : List Step) (q : PlayView) (more_acts : List Act) (ys : List Step) (r : PlayView) → Plays p acts xs q → Plays q more_acts ys r → Plays p (acts ++ more_acts) (xs ++ ys) r
plays_append p [] xs q more_acts ys r h k = subst (λ (zs : List Step). Plays p more_acts (zs ++ ys) r) (sym h.0) (subst (λ (x : PlayView). Plays x more_acts ys r) h.1 k)
plays_append p (act ∷ acts) xs q more_acts ys r h k = (
  h.0,
  h.1 ++ ys,
  h.2,
  ap (λ (zs : List Step). zs ++ ys) h.3 ∙ append_assoc h.0 h.1 ys,
  h.4,
  plays_append h.2 acts h.1 q more_acts ys r h.5 k,
)

pub played_on : (w v u : WorldView) (now mid next : ℕ) (acts more_acts : List Act) (sent more : List ℕ) → LeadsByActs w now acts sent v mid → LeadsByActs v mid more_acts more u next → LeadsByActs w now (acts ++ more_acts) (sent ++ more) u next
played_on w v u now mid next acts more_acts sent more h k posts =
    let x = h posts in
    let y = k (posts ++ sent) in
    let whole = plays_append (record { world = w; now = now; posts = posts }) acts x.0 (record { world = v; now = mid; posts = posts ++ sent }) more_acts y.0 (record { world = u; now = next; posts = (posts ++ sent) ++ more }) x.1 y.1 in
    (x.0 ++ y.0, subst (λ (ps : List ℕ). Plays (record { world = w; now = now; posts = posts }) (acts ++ more_acts) (x.0 ++ y.0) (record { world = u; now = next; posts = ps })) (append_assoc posts sent more) whole)

pub changes_played : (n now : ℕ) (w : WorldView) (edits : List Edit) (v : WorldView) (next : ℕ) → ((steps : List Step) × PlaysChanges n now w edits steps v next) → LeadsByActs w now (changes n edits ∷ []) [] v next
changes_played n now w edits v next h posts =
    (h.0 ++ [], (h.0, [], record { world = v; now = next; posts = posts ++ [] }, refl, (h.1, append-nil posts), (refl, refl)))

pub sync_played : (n now : ℕ) (w : WorldView) (sent : ℕ) (v : WorldView) (next : ℕ) → ((steps : List Step) × PlaysSync n now w steps sent v next) → LeadsByActs w now (sync n ∷ []) (sent ∷ []) v next
sync_played n now w sent v next h posts =
    (h.0 ++ [], (h.0, [], record { world = v; now = next; posts = posts ++ sent ∷ [] }, refl, (sent, h.1, refl), (refl, refl)))

-- the summary of a script that was played from a fresh world
pub summary_is : (items seed : ℕ) (w end : WorldView) (posts : List ℕ) (next : ℕ) (text : List ℕ) → IsFresh w → IsReachedWorld all_trusted w → LeadsByActs w 100 (script items seed) posts end next
    → text ≡ summary_text posts (summary_of (tree_at 0 end) (tree_at 1 end)) → IsSummary items seed text
summary_is items seed w end posts next text fresh reached played e =
    let p = played [] in
    record {
      opening = record { world = w; now = 100; posts = [] };
      steps = p.0;
      end = record { world = end; now = next; posts = posts };
      rehearsal = record {
        opens = record { fresh = fresh; now = refl; posts = refl };
        reached = reached;
        plays = p.1;
        promised = promised_all w p.0 reached (plays_lead (record { world = w; now = 100; posts = [] }) (script items seed) p.0 (record { world = end; now = next; posts = posts }) p.1).runs;
      };
      text_is = e;
    }

pub summary_ends : {T E : Type 0} (items seed : ℕ) (w end : WorldView) (posts : List ℕ) (next : ℕ) (r : Result T E) (text : T → List ℕ) → IsFresh w → IsReachedWorld all_trusted w → LeadsByActs w 100 (script items seed) posts end next
    → IfOk r (λ t. text t ≡ summary_text posts (summary_of (tree_at 0 end) (tree_at 1 end))) → IfOk r (λ t. IsSummary items seed (text t))
summary_ends items seed w end posts next (Ok t) text fresh reached played h = summary_is items seed w end posts next (text t) fresh reached played h
summary_ends items seed w end posts next (Err e) text fresh reached played h = tt

-- ---- the trees

pub no_device : (w : WorldView) (n : ℕ) → AreIdle w → n < 2 → option_map device_of (slice_get w.seats n) ≡ None → ⊥
no_device w n a h e = go (slice_get w.seats n) refl e
  where
    go : (o : Option Seat) → slice_get w.seats n ≡ o → option_map device_of o ≡ None → ⊥
    go None q e2 = there w.seats n (subst (λ (k : ℕ). n < k) (sym a.two) h) q
      where
        there : (xs : List Seat) (k : ℕ) → k < length xs → slice_get xs k ≡ None → ⊥
        there [] k l q2 = omega (arith, l)
        there (s ∷ xs) zero l q2 = none-some s (sym q2)
        there (s ∷ xs) (suc k) l q2 = there xs k (let z : k < length xs = omega (arith, l) in z) q2
    go (Some s) q e2 = none-some (device_of s) (sym e2)

pub tree_is : (w : WorldView) (n : ℕ) (d : DeviceView) → Some d ≡ option_map device_of (slice_get w.seats n) → d.tree ≡ tree_at n w
tree_is w n d e = go (slice_get w.seats n) refl e
  where
    go : (o : Option Seat) → slice_get w.seats n ≡ o → Some d ≡ option_map device_of o → d.tree ≡ unwrap_or (option_map (λ s. (device_of s).tree) (slice_get w.seats n)) []
    go None q e2 = absurd (none-some d (sym e2))
    go (Some s) q e2 = ap (λ (v : DeviceView). v.tree) (same_Some d (device_of s) e2) ∙ ap (λ (o : Option Seat). unwrap_or (option_map (λ s. (device_of s).tree) o) []) (sym q)
