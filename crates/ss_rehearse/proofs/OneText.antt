-- Two plays of one script from the opening come to the same: as many POSTs of each sync, and worlds that are told alike.
use Rattle.std.proofs.Common.{◌≡◌, ℕ, zero, suc, ◌+◌, ◌*◌, List, [], ◌∷◌, ◌++◌, length, slice_get, Option, Some, None}
use Rattle.std.proofs.Common.{refl, sym, ap, ap₂, subst, ◌∙◌, arith}
use Rattle.ss_bso.specs.Changes.{account_at_opening, fresh_kept}
use Rattle.ss_bso.specs.Validity.{IsValid}
use Rattle.ss_bso.proofs.Reordering.{same-back, same-through}
use Rattle.ss_laws.proofs.SameValid.{valid-same}
use Rattle.ss_record.proofs.IdLists.{Apart-nil}
use Rattle.ss_record.specs.Ids.{Apart}
use Rattle.ss_sync.specs.Rows.{ids_of}
use Rattle.ss_tree.specs.Entries.{IsTree}
use Rattle.ss_device.specs.Device.{DeviceView, IsNew, dead_at}
use Rattle.ss_client.specs.declared.summaries.Fetch.TheVariants.{Newer}
use Rattle.ss_client.specs.Runs.{MachineView}
use Rattle.ss_world.specs.declared.events.Edit.{Edit}
use Rattle.ss_world.specs.declared.events.Event.{Event}
use Rattle.ss_world.specs.declared.events.Event.TheVariants.{Change, Deliver}
use Rattle.ss_world.specs.declared.seats.Seat.{Seat}
use Rattle.ss_world.specs.declared.seats.Seat.TheVariants.{Idle, Syncs}
use Rattle.ss_world.specs.Worlds.{WorldView}
use Rattle.ss_world.specs.Happening.{Happens, Runs, Step, last}
use Rattle.ss_rehearse.specs.Plays.{Acts, Asks, IsIdle, IsSync, PlayView, Plays, events_of, is_post, once}
use Rattle.ss_rehearse.specs.Rehearsals.{IsFresh, IsSummary, tree_at}
use Rattle.ss_rehearse.specs.Scripts.{Act, change_events, changes, script, sync}
use Rattle.ss_rehearse.specs.Summaries.{summary_text}
use Rattle.ss_rehearse.proofs.Machines.{AreMachines, AreDevices, awaits_alike}
use Rattle.ss_rehearse.proofs.Told.{summary_once}
use Rattle.ss_rehearse.proofs.Worlds.{AreAt, AreWorlds, changed_alike, delivered_alike, started_alike, trees_alike}

-- ---- requests until a device is idle

-- what both have at a seat
seen_alike : (w v : WorldView) → AreWorlds w v → (n : ℕ) (o r : Option Seat) → slice_get w.seats n ≡ o → slice_get v.seats n ≡ r → AreAt o r
seen_alike w v a n o r e f = subst (λ p. AreAt p r) e (subst (AreAt (slice_get w.seats n)) f (a.seats n))

never_idle : (m : MachineView) (d : DeviceView) → Syncs m ≡ Idle d → ⊥
never_idle m d e = cc

-- where one is idle the other doesn't sync
idle_first : (w v : WorldView) → AreWorlds w v → (n : ℕ) (m : MachineView) → IsIdle n w → slice_get v.seats n ≡ Some (Syncs m) → ⊥
idle_first w v a n m idle e = go (slice_get w.seats n) refl
  where
    go : (o : Option Seat) → slice_get w.seats n ≡ o → ⊥
    go None q = seen_alike w v a n None (Some (Syncs m)) q e
    go (Some (Idle d)) q = seen_alike w v a n (Some (Idle d)) (Some (Syncs m)) q e
    go (Some (Syncs o)) q = let i = idle (Syncs o) q in never_idle o i.0 i.1

idle_other : (w v : WorldView) → AreWorlds w v → (n : ℕ) (m : MachineView) → IsIdle n v → slice_get w.seats n ≡ Some (Syncs m) → ⊥
idle_other w v a n m idle e = go (slice_get v.seats n) refl
  where
    go : (o : Option Seat) → slice_get v.seats n ≡ o → ⊥
    go None q = seen_alike w v a n (Some (Syncs m)) None e q
    go (Some (Idle d)) q = seen_alike w v a n (Some (Syncs m)) (Some (Idle d)) e q
    go (Some (Syncs o)) q = let i = idle (Syncs o) q in never_idle o i.0 i.1

-- as many steps, as many POSTs, and worlds that are told alike
record AreEnds (steps more : List Step) (posts sent : ℕ) (w v : WorldView) : Type 0 where
  pub long : length steps ≡ length more
  pub many : posts ≡ sent
  pub worlds : AreWorlds w v

asks_alike : (n now : ℕ) (w v : WorldView) (steps more : List Step) (posts sent : ℕ) (p q : WorldView) → AreWorlds w v → Asks n now w steps posts p → Asks n now v more sent q → IsIdle n p → IsIdle n q → AreEnds steps more posts sent p q
asks_alike n now w v [] [] posts sent p q a h k i j = record {
  long = refl;
  many = h.1 ∙ sym k.1;
  worlds = subst (λ x. AreWorlds x q) (sym h.0) (subst (AreWorlds w) (sym k.0) a);
}
asks_alike n now w v [] (t ∷ more) posts sent p q a h k i j = absurd (idle_first w v a n k.0 (subst (IsIdle n) h.0 i) k.1)
asks_alike n now w v (s ∷ steps) [] posts sent p q a h k i j = absurd (idle_other w v a n h.0 (subst (IsIdle n) k.0 j) h.1)
asks_alike n now w v (s ∷ steps) (t ∷ more) posts sent p q a h k i j =
    let happens : Happens w (Deliver n now) s.world = subst (λ (e : Event). Happens w e s.world) h.2 h.3 in
    let other : Happens v (Deliver n now) t.world = subst (λ (e : Event). Happens v e t.world) k.2 k.3 in
    let rest = asks_alike n (now + 100) s.world t.world steps more h.4 k.4 p q (delivered_alike w v a n now s.world t.world happens other) h.6 k.6 i j in
    let machines : AreMachines h.0 k.0 = seen_alike w v a n (Some (Syncs h.0)) (Some (Syncs k.0)) h.1 k.1 in
    record {
      long = let l : length steps ≡ length more = rest.long in omega arith;
      many = h.5 ∙ (ap₂ (λ x y. once (is_post x) + y) (awaits_alike h.0.stage k.0.stage machines.stages) rest.many ∙ sym k.5);
      worlds = rest.worlds;
    }

syncs_alike : (n now time : ℕ) (w v : WorldView) (steps more : List Step) (posts sent : ℕ) (p q : WorldView) → now ≡ time → AreWorlds w v → (h : IsSync n now w steps posts p) (k : IsSync n time v more sent q)
    → AreEnds h.requests k.requests posts sent p q
syncs_alike n now time w v steps more posts sent p q same a h k =
    asks_alike n now h.started k.started h.requests k.requests posts sent p q (started_alike w v a n Newer h.started k.started h.starts k.starts) h.asks
    (subst (λ t. Asks n t k.started k.requests sent q) (sym same) k.asks) h.ends k.ends

-- ---- changes of a device

first_event : (e f : Event) (es fs : List Event) → e ∷ es ≡ f ∷ fs → e ≡ f
first_event e f es fs q = cc

other_events : (e f : Event) (es fs : List Event) → e ∷ es ≡ f ∷ fs → es ≡ fs
other_events e f es fs q = cc

no_event : (e : Event) (es : List Event) → e ∷ es ≡ [] → ⊥
no_event e es q = cc

changes_alike : (n now : ℕ) (edits : List Edit) (w v : WorldView) (steps more : List Step) → AreWorlds w v → events_of steps ≡ change_events now n edits → events_of more ≡ change_events now n edits → Runs w steps → Runs v more → AreWorlds (last w steps) (last v more)
changes_alike n now [] w v [] [] a e f h k = a
changes_alike n now [] w v (s ∷ steps) more a e f h k = absurd (no_event s.event (events_of steps) e)
changes_alike n now [] w v [] (t ∷ more) a e f h k = absurd (no_event t.event (events_of more) f)
changes_alike n now (x ∷ edits) w v [] more a e f h k = absurd (no_event (Change n now x) (change_events (now + 100) n edits) (sym e))
changes_alike n now (x ∷ edits) w v (s ∷ steps) [] a e f h k = absurd (no_event (Change n now x) (change_events (now + 100) n edits) (sym f))
changes_alike n now (x ∷ edits) w v (s ∷ steps) (t ∷ more) a e f h k =
    let first : Happens w (Change n now x) s.world = subst (λ (y : Event). Happens w y s.world) (first_event s.event (Change n now x) (events_of steps) (change_events (now + 100) n edits) e) h.0 in
    let other : Happens v (Change n now x) t.world = subst (λ (y : Event). Happens v y t.world) (first_event t.event (Change n now x) (events_of more) (change_events (now + 100) n edits) f) k.0 in
    changes_alike n (now + 100) edits s.world t.world steps more (changed_alike w v a n now x s.world t.world first other)
    (other_events s.event (Change n now x) (events_of steps) (change_events (now + 100) n edits) e) (other_events t.event (Change n now x) (events_of more) (change_events (now + 100) n edits) f) h.1 k.1

-- ---- plays

-- the same POSTs and reading of the clock, and worlds that are told alike
record ArePlays (p q : PlayView) : Type 0 where
  pub worlds : AreWorlds p.world q.world
  pub now : p.now ≡ q.now
  pub posts : p.posts ≡ q.posts

act_alike : (act : Act) (p q : PlayView) (steps more : List Step) (r s : PlayView) → ArePlays p q → Acts p act steps r → Acts q act more s → ArePlays r s
act_alike (changes n edits) p q steps more r s a h k = record {
  worlds =
      let ends = changes_alike n p.now edits p.world q.world steps more a.worlds h.0.events (k.0.events ∙ ap (λ t. change_events t n edits) (sym a.now)) h.0.leads.runs k.0.leads.runs in
      subst (λ x. AreWorlds x s.world) h.0.leads.here (subst (AreWorlds (last p.world steps)) k.0.leads.here ends);
  now = h.0.next_is ∙ (ap (λ t. t + 100 * length edits) a.now ∙ sym k.0.next_is);
  posts = h.1 ∙ (a.posts ∙ sym k.1);
}
act_alike (sync n) p q steps more r s a h k =
    let ends = syncs_alike n p.now q.now p.world q.world steps more h.0 k.0 r.world s.world a.now a.worlds h.1.syncs k.1.syncs in
    record {
      worlds = ends.worlds;
      now = h.1.next_is ∙ (ap₂ (λ t l. t + 100 * l) a.now ends.long ∙ sym k.1.next_is);
      posts = h.2 ∙ (ap₂ (λ (ps : List ℕ) (n : ℕ). ps ++ n ∷ []) a.posts ends.many ∙ sym k.2);
    }

plays_alike : (acts : List Act) (p q : PlayView) (steps more : List Step) (r s : PlayView) → ArePlays p q → Plays p acts steps r → Plays q acts more s → ArePlays r s
plays_alike [] p q steps more r s a h k = subst (λ x. ArePlays x s) (sym h.1) (subst (ArePlays p) (sym k.1) a)
plays_alike (act ∷ acts) p q steps more r s a h k = plays_alike acts h.2 k.2 h.1 k.1 r s (act_alike act p q h.0 k.0 h.2 k.2 a h.4 k.4) h.5 k.5

-- ---- the opening

fresh_valid : IsValid (account_at_opening fresh_kept)
fresh_valid = record {
  places = λ i j d less within. absurd (omega arith);
  names = λ i j d less within. absurd (omega arith);
  limits = record { within = refl };
  items = λ k d within. absurd (omega arith);
  times = λ k d within. absurd (omega arith);
  store = omega arith;
  moment = omega arith;
  few = omega arith;
  numbers = λ i j d less within. absurd (omega arith);
  batches = λ k d within. absurd (omega arith);
}

new_alike : (d e : DeviceView) → IsNew d → IsNew e → IsTree d.tree → IsTree e.tree → AreDevices d e
new_alike d e a b t u = record {
  alike = record {
    tree = λ x. a.tree x ∙ sym (b.tree x);
    dead = λ x. ap (dead_at x) (a.dead ∙ sym b.dead);
    mirror = a.mirror ∙ sym b.mirror;
    stamp = a.stamp ∙ sym b.stamp;
  };
  one = t;
  other = u;
  apart = subst (λ rows. Apart (ids_of rows)) (sym a.mirror) Apart-nil;
}

fresh_alike : (w v : WorldView) → IsFresh w → IsFresh v → AreWorlds w v
fresh_alike w v a b = record {
  valid = valid-same (account_at_opening fresh_kept) w.server.account fresh_valid a.account;
  accounts = same-through w.server.account (account_at_opening fresh_kept) v.server.account (same-back (account_at_opening fresh_kept) w.server.account a.account) b.account;
  two = ap length a.seats;
  seats = λ n. subst (λ xs. AreAt (slice_get xs n) (slice_get v.seats n)) (sym a.seats) (subst (λ xs. AreAt (slice_get (Idle a.first ∷ Idle a.second ∷ []) n) (slice_get xs n)) (sym b.seats) (at n));
}
  where
    at : (n : ℕ) → AreAt (slice_get (Idle a.first ∷ Idle a.second ∷ []) n) (slice_get (Idle b.first ∷ Idle b.second ∷ []) n)
    at zero = new_alike a.first b.first a.first_new b.first_new a.first_tree b.first_tree
    at (suc zero) = new_alike a.second b.second a.second_new b.second_new a.second_tree b.second_tree
    at (suc (suc n)) = tt

-- ---- the summary

pub one_summary : (items seed : ℕ) (text other : List ℕ) → IsSummary items seed text → IsSummary items seed other → text ≡ other
one_summary items seed text other a b =
    let one = a.rehearsal.opens in
    let two = b.rehearsal.opens in
    let opening : ArePlays a.opening b.opening = record { worlds = fresh_alike a.opening.world b.opening.world one.fresh two.fresh; now = one.now ∙ sym two.now; posts = one.posts ∙ sym two.posts } in
    let end : ArePlays a.end b.end = plays_alike (script items seed) a.opening b.opening a.steps b.steps a.end b.end opening a.rehearsal.plays b.rehearsal.plays in
    let first = trees_alike a.end.world b.end.world end.worlds 0 (omega arith) in
    let second = trees_alike a.end.world b.end.world end.worlds 1 (omega arith) in
    a.text_is
    ∙ (ap₂ summary_text end.posts
    (summary_once (tree_at 0 a.end.world) (tree_at 1 a.end.world) (tree_at 0 b.end.world) (tree_at 1 b.end.world) first.one second.one first.other second.other first.same second.same) ∙ sym b.text_is)
