-- Changes of a device, one after the other.
use Rattle.std.proofs.Common.{◌≡◌, ℕ, suc, ◌+◌, ◌*◌, ◌≤◌, ◌%◌, ◌==◌, List, [], ◌∷◌, ◌++◌, map, length, length-set}
use Rattle.std.proofs.Common.{slice_get, Bool, true, false, cond, Option, Some, None, refl, sym, ap, subst, ◌∙◌, arith}
use Rattle.std.proofs.Common.{inl, inr}
use Rattle.std.proofs.lemmas.Bool.Decides.{nat_tests}
use Rattle.std.specs.Prelude.{MatchOption, filter}
use Rattle.std.proofs.lemmas.List.{length-append, map-append}
use Rattle.std.proofs.lemmas.List.Elements.{filter-append}
use Rattle.ss_device.specs.Device.{DeviceView}
use Rattle.ss_device.specs.declared.faults.EditFault.{EditFault}
use Rattle.ss_serving.specs.Bookmarks.{Server}
use Rattle.ss_world.specs.declared.events.Edit.{Edit}
use Rattle.ss_world.specs.declared.events.Event.TheVariants.{Change}
use Rattle.ss_world.specs.Worlds.{WorldView, world_with_seat}
use Rattle.ss_world.specs.declared.seats.Seat.{Seat}
use Rattle.ss_world.specs.declared.seats.Seat.TheVariants.{Idle, Syncs}
use Rattle.ss_world.specs.Happening.{Edits, Happens, EditsAtSeat, Step, edit_fault}
use Rattle.ss_world.proofs.Lists.{at_set}
use Rattle.ss_rehearse.specs.Draws.{drawn_number, drawn_after}
use Rattle.ss_rehearse.specs.Scripts.{addition, additions, change_events, move, moves, numbers, renaming, renamings}
use Rattle.ss_rehearse.specs.Plays.{PlaysChanges}
use Rattle.ss_rehearse.specs.Syncing.{AreIdle}
use Rattle.ss_rehearse.proofs.Steps.{leads_on, leads_one}

-- ---- one change more

events_more : (now n : ℕ) (es : List Edit) (e : Edit) → change_events now n (es ++ e ∷ []) ≡ change_events now n es ++ Change n (now + 100 * length es) e ∷ []
events_more now n [] e = ap (λ t. Change n t e ∷ []) (let z : now ≡ now + 100 * 0 = omega arith in z)
events_more now n (x ∷ es) e =
    ap (λ xs. Change n now x ∷ xs)
    (events_more (now + 100) n es e ∙ ap (λ t. change_events (now + 100) n es ++ Change n t e ∷ []) (let s : now + 100 + 100 * length es ≡ now + 100 * suc (length es) = omega arith in s))

pub changed_none : (n now : ℕ) (w : WorldView) → PlaysChanges n now w [] [] w now
changed_none n now w = record { leads = record { runs = tt; here = refl }; events = refl; next_is = let z : now ≡ now + 100 * 0 = omega arith in z }

pub changed_more : (n now : ℕ) (w : WorldView) (es : List Edit) (steps : List Step) (v : WorldView) (next : ℕ) (e : Edit) (u : WorldView) → PlaysChanges n now w es steps v next → Happens v (Change n next e) u
    → PlaysChanges n now w (es ++ e ∷ []) (steps ++ record { event = Change n next e; world = u } ∷ []) u (next + 100)
changed_more n now w es steps v next e u c h = record {
  leads = leads_on w v u steps (record { event = Change n next e; world = u } ∷ []) c.leads (leads_one v u (Change n next e) h);
  events =
      map-append (λ (s : Step). s.event) steps (record { event = Change n next e; world = u } ∷ [])
      ∙ (ap (λ xs. xs ++ Change n next e ∷ []) c.events ∙ (ap (λ t. change_events now n es ++ Change n t e ∷ []) c.next_is ∙ sym (events_more now n es e)));
  next_is = let l : length (es ++ e ∷ []) ≡ length es + 1 = length-append es (e ∷ []) in let q : next ≡ now + 100 * length es = c.next_is in omega (arith, l, q);
}

-- with the changes so far, and those with one more
pub more : (n now : ℕ) (w : WorldView) (es all : List Edit) (v : WorldView) (next : ℕ) (e : Edit) (u : WorldView) → all ≡ es ++ e ∷ [] → (steps : List Step) × PlaysChanges n now w es steps v next → Happens v (Change n next e) u
    → (steps : List Step) × PlaysChanges n now w all steps u (next + 100)
more n now w es all v next e u q c h =
    (c.0 ++ record { event = Change n next e; world = u } ∷ [], subst (λ xs. PlaysChanges n now w xs (c.0 ++ record { event = Change n next e; world = u } ∷ []) u (next + 100)) (sym q) (changed_more n now w es c.0 v next e u c.1 h))

pub as_before : (n now : ℕ) (w : WorldView) (es all : List Edit) (v : WorldView) (next : ℕ) → all ≡ es → (steps : List Step) × PlaysChanges n now w es steps v next → (steps : List Step) × PlaysChanges n now w all steps v next
as_before n now w es all v next q c = (c.0, subst (λ xs. PlaysChanges n now w xs c.0 v next) (sym q) c.1)

-- ---- the changes up to a number

numbers_more : (n : ℕ) → numbers (n + 1) ≡ numbers n ++ (n + 1) ∷ []
numbers_more n = let e : n + 1 ≡ suc n = omega arith in ap numbers e ∙ ap (λ k. numbers n ++ k ∷ []) (sym e)

pub drawn_more : (seed n : ℕ) → drawn_number seed (n + 1) ≡ drawn_after (drawn_number seed n)
drawn_more seed n = ap (drawn_number seed) (let e : n + 1 ≡ suc n = omega arith in e)

pub additions_more : (seed n : ℕ) → additions (n + 1) seed ≡ additions n seed ++ addition seed (n + 1) ∷ []
additions_more seed n = ap (map (addition seed)) (numbers_more n) ∙ map-append (addition seed) (numbers n) ((n + 1) ∷ [])

some_more : (is : ℕ → Bool) (f : ℕ → Edit) (n : ℕ) (b : Bool) → is (n + 1) ≡ b → map f (filter is (numbers (n + 1))) ≡ map f (filter is (numbers n)) ++ map f (cond b ((n + 1) ∷ []) [])
some_more is f n b q =
    ap (λ ks. map f (filter is ks)) (numbers_more n)
    ∙ (ap (map f) (filter-append is (numbers n) ((n + 1) ∷ [])) ∙ (map-append f (filter is (numbers n)) (filter is ((n + 1) ∷ [])) ∙ ap (λ c. map f (filter is (numbers n)) ++ map f (cond c ((n + 1) ∷ []) [])) q))

none_more : (xs : List Edit) → xs ++ [] ≡ xs
none_more [] = refl
none_more (x ∷ xs) = ap (λ ys. x ∷ ys) (none_more xs)

pub renamings_more : (n : ℕ) → ((n + 1) % 3 == 0) ≡ true → renamings (n + 1) ≡ renamings n ++ renaming (n + 1) ∷ []
renamings_more n q = some_more (λ k. k % 3 == 0) renaming n true q

pub renamings_same : (n : ℕ) → ((n + 1) % 3 == 0) ≡ false → renamings (n + 1) ≡ renamings n
renamings_same n q = some_more (λ k. k % 3 == 0) renaming n false q ∙ none_more (renamings n)

pub moves_more : (n : ℕ) → ((n + 1) % 2 == 0) ≡ true → moves (n + 1) ≡ moves n ++ move (n + 1) ∷ []
moves_more n q = some_more (λ k. k % 2 == 0) move n true q

pub moves_same : (n : ℕ) → ((n + 1) % 2 == 0) ≡ false → moves (n + 1) ≡ moves n
moves_same n q = some_more (λ k. k % 2 == 0) move n false q ∙ none_more (moves n)

-- ---- no device syncs

pub change_idle : (w v : WorldView) (n now : ℕ) (e : Edit) → AreIdle w → Happens w (Change n now e) v → AreIdle v
change_idle w v n now e a h = go (slice_get w.seats n) h
  where
    set_idle : (server : Server) (d : DeviceView) → v ≡ world_with_seat w server n (Idle d) → AreIdle v
    set_idle server d q = record {
      two = ap (λ (x : WorldView). length x.seats) q ∙ (length-set w.seats n (Idle d) ∙ a.two);
      idle = λ k s t. elim (at_set w.seats n k (Idle d) s (ap (λ (x : WorldView). slice_get x.seats k) (sym q) ∙ t)) [ inl b ↦ (d, b.1) | inr b ↦ a.idle k s b.1 ];
    }

    changed : (d : DeviceView) (o : Option EditFault) → MatchOption o (Edits w n now e d v) (λ fault. v ≡ w) → AreIdle v
    changed d None q = set_idle w.server q.device q.is
    changed d (Some f) q = subst AreIdle (sym q) a

    by : (s : Seat) → EditsAtSeat w n now e v s → AreIdle v
    by (Idle d) q = changed d (edit_fault d e) q
    by (Syncs m) q = subst AreIdle (sym q) a

    go : (o : Option Seat) → MatchOption o (v ≡ w) (EditsAtSeat w n now e v) → AreIdle v
    go None q = subst AreIdle (sym q) a
    go (Some s) q = by s q

-- a test of a remainder
tested : (x : ℕ) → x ≡ 0 → (x == 0) ≡ true
tested x h = grind (arith, nat_tests)

untested : (x : ℕ) → (x ≡ 0 → ⊥) → (x == 0) ≡ false
untested x h = grind (arith, nat_tests)

-- ---- what holds after so many bookmarks

-- the changes so far, what the clock reads, and that no device syncs
abbrev pub AreChanged : ℕ → ℕ → WorldView → List Edit → ℕ → WorldView → ℕ → Type 0
AreChanged n now w es at v next = ((steps : List Step) × PlaysChanges n now w es steps v next) × (next ≤ now + 100 * at) × AreIdle v

one_more : (n now : ℕ) (w : WorldView) (es all : List Edit) (at : ℕ) (v : WorldView) (next : ℕ) (e : Edit) (u : WorldView) → all ≡ es ++ e ∷ [] → AreChanged n now w es at v next → Happens v (Change n next e) u
    → AreChanged n now w all (at + 1) u (next + 100)
one_more n now w es all at v next e u q c h =
    let l : next ≤ now + 100 * at = c.1 in
    (more n now w es all v next e u q c.0 h, (let z : next + 100 ≤ now + 100 * (at + 1) = omega (arith, l) in z), change_idle v u n next e c.2 h)

as_many : (n now : ℕ) (w : WorldView) (es all : List Edit) (at : ℕ) (v : WorldView) (next : ℕ) → all ≡ es → AreChanged n now w es at v next → AreChanged n now w all (at + 1) v next
as_many n now w es all at v next q c =
    let l : next ≤ now + 100 * at = c.1 in
    (as_before n now w es all v next q c.0, (let z : next ≤ now + 100 * (at + 1) = omega (arith, l) in z), c.2)

pub renamed_more : (now : ℕ) (w : WorldView) (at : ℕ) (v : WorldView) (next : ℕ) (e : Edit) (u : WorldView) → (at + 1) % 3 ≡ 0 → e ≡ renaming (at + 1) → AreChanged 1 now w (renamings at) at v next → Happens v (Change 1 next e) u
    → AreChanged 1 now w (renamings (at + 1)) (at + 1) u (next + 100)
renamed_more now w at v next e u q is c h =
    one_more 1 now w (renamings at) (renamings (at + 1)) at v next e u (renamings_more at (tested ((at + 1) % 3) q) ∙ ap (λ x. renamings at ++ x ∷ []) (sym is)) c h

pub renamed_same : (now : ℕ) (w : WorldView) (at : ℕ) (v : WorldView) (next : ℕ) → ((at + 1) % 3 ≡ 0 → ⊥) → AreChanged 1 now w (renamings at) at v next → AreChanged 1 now w (renamings (at + 1)) (at + 1) v next
renamed_same now w at v next q c = as_many 1 now w (renamings at) (renamings (at + 1)) at v next (renamings_same at (untested ((at + 1) % 3) q)) c

pub moved_more : (now : ℕ) (w : WorldView) (at : ℕ) (v : WorldView) (next : ℕ) (e : Edit) (u : WorldView) → (at + 1) % 2 ≡ 0 → e ≡ move (at + 1) → AreChanged 0 now w (moves at) at v next → Happens v (Change 0 next e) u
    → AreChanged 0 now w (moves (at + 1)) (at + 1) u (next + 100)
moved_more now w at v next e u q is c h =
    one_more 0 now w (moves at) (moves (at + 1)) at v next e u (moves_more at (tested ((at + 1) % 2) q) ∙ ap (λ x. moves at ++ x ∷ []) (sym is)) c h

pub moved_same : (now : ℕ) (w : WorldView) (at : ℕ) (v : WorldView) (next : ℕ) → ((at + 1) % 2 ≡ 0 → ⊥) → AreChanged 0 now w (moves at) at v next → AreChanged 0 now w (moves (at + 1)) (at + 1) v next
moved_same now w at v next q c = as_many 0 now w (moves at) (moves (at + 1)) at v next (moves_same at (untested ((at + 1) % 2) q)) c
