-- The collections' times, and lists with each key once.
use Rattle.std.specs.Prelude.{◌≡◌, ℕ, ◌≤◌, Bool, true, false, not, cond, List, [], ◌∷◌, Option, Some, None, option_map}
use Rattle.std.specs.Prelude.{IsSomeAnd, IsFalse, bytes_eq, find, filter, refl}
use Rattle.std.proofs.Common.{ap, ◌∙◌, arith}
use Rattle.ss_text.specs.Texts.{once_by}
use Rattle.ss_bso.specs.Account.{time_of}
use Rattle.ss_bso.specs.Write.{times_without, times_with}
use Rattle.ss_bso.proofs.Lists.{Each-imp, Each-passes, Each-find, Pairs-filter, Pairs-append, find-skip, find-last_not}
use Rattle.ss_bso.proofs.Lists.{find-filter}
use Rattle.ss_bso.specs.Lists.{Each, Pairs}
use Rattle.std.proofs.lemmas.Bool.{not-false, not-true}
use Rattle.ss_text.proofs.Basics.{bytes_eq-flip, same_text, bytes_eq-same}

-- the time of another collection stays
pub time_of-without : (times : List (List ℕ × ℕ)) (collection other : List ℕ) → bytes_eq other collection ≡ false → time_of other (times_without collection times) ≡ time_of other times
time_of-without times collection other e =
    ap (λ found. option_map (λ (entry : List ℕ × ℕ). entry.1) found)
    (find-filter (λ (entry : List ℕ × ℕ). bytes_eq entry.0 other) (λ (entry : List ℕ × ℕ). not (bytes_eq entry.0 collection)) times
    (λ entry h.
    let same : entry.0 ≡ collection = same_text entry.0 collection (not-false (bytes_eq entry.0 collection) h) in
    ap (λ name. bytes_eq name other) same ∙ bytes_eq-flip other collection e))

pub time_of-with_other : (times : List (List ℕ × ℕ)) (collection other : List ℕ) (time : ℕ) → bytes_eq other collection ≡ false → time_of other (times_with collection time times) ≡ time_of other times
time_of-with_other times collection other time e =
    ap (λ found. option_map (λ (entry : List ℕ × ℕ). entry.1) found)
    (find-last_not (λ (entry : List ℕ × ℕ). bytes_eq entry.0 other) (times_without collection times) (collection, time) (bytes_eq-flip other collection e))
    ∙ time_of-without times collection other e

-- none of the others has the collection's name
pub others_named : (times : List (List ℕ × ℕ)) (collection : List ℕ) → Each (λ (entry : List ℕ × ℕ). bytes_eq entry.0 collection ≡ false) (times_without collection times)
others_named times collection =
    Each-imp (λ (entry : List ℕ × ℕ). not (bytes_eq entry.0 collection) ≡ true) (λ (entry : List ℕ × ℕ). bytes_eq entry.0 collection ≡ false)
    (λ entry h. not-true (bytes_eq entry.0 collection) h) (times_without collection times) (Each-passes (λ (entry : List ℕ × ℕ). not (bytes_eq entry.0 collection)) times)

pub time_of-with_same : (times : List (List ℕ × ℕ)) (collection : List ℕ) (time : ℕ) → time_of collection (times_with collection time times) ≡ Some time
time_of-with_same times collection time =
    ap (λ found. option_map (λ (entry : List ℕ × ℕ). entry.1) found)
    (find-skip (λ (entry : List ℕ × ℕ). bytes_eq entry.0 collection) (times_without collection times) ((collection, time) ∷ []) (others_named times collection)
    ∙ ap (λ v. cond v (Some (collection, time)) None) (bytes_eq-same collection collection refl))

-- an item is no later than the store, where it is no later than its collection
time_below : (times : List (List ℕ × ℕ)) (p : (List ℕ × ℕ) → Bool) (found : Option (List ℕ × ℕ)) (modified store : ℕ) → find p times ≡ found → Each (λ (entry : List ℕ × ℕ). entry.1 ≤ store) times
    → IsSomeAnd (option_map (λ (entry : List ℕ × ℕ). entry.1) found) (λ time. modified ≤ time) → modified ≤ store
time_below times p None modified store e all h = absurd h
time_below times p (Some entry) modified store e all h =
    let below : entry.1 ≤ store = Each-find (λ (entry : List ℕ × ℕ). entry.1 ≤ store) p times entry e all in omega (arith, h)

pub item_below : (times : List (List ℕ × ℕ)) (collection : List ℕ) (modified store : ℕ) → Each (λ (entry : List ℕ × ℕ). entry.1 ≤ store) times
    → IsSomeAnd (time_of collection times) (λ time. modified ≤ time) → modified ≤ store
item_below times collection modified store all h =
    time_below times (λ (entry : List ℕ × ℕ). bytes_eq entry.0 collection) (find (λ (entry : List ℕ × ℕ). bytes_eq entry.0 collection) times) modified store refl all h

-- names stay distinct
pub names_with : (times : List (List ℕ × ℕ)) (collection : List ℕ) (time : ℕ) → Pairs (λ (entry other : List ℕ × ℕ). IsFalse (bytes_eq other.0 entry.0)) times
    → Pairs (λ (entry other : List ℕ × ℕ). IsFalse (bytes_eq other.0 entry.0)) (times_with collection time times)
names_with times collection time e =
    Pairs-append (λ (entry other : List ℕ × ℕ). IsFalse (bytes_eq other.0 entry.0)) (times_without collection times) ((collection, time) ∷ [])
    (Pairs-filter (λ (entry other : List ℕ × ℕ). IsFalse (bytes_eq other.0 entry.0)) (λ (entry : List ℕ × ℕ). not (bytes_eq entry.0 collection)) times e)
    (tt, tt)
    (Each-imp (λ (entry : List ℕ × ℕ). bytes_eq entry.0 collection ≡ false) (λ (entry : List ℕ × ℕ). Each (λ (other : List ℕ × ℕ). IsFalse (bytes_eq other.0 entry.0)) ((collection, time) ∷ []))
    (λ entry h. (bytes_eq-flip entry.0 collection h, tt)) (times_without collection times) (others_named times collection))

-- keys that stand once are distinct
pub once_by-distinct : {X : Type 0} (key : X → List ℕ) (xs : List X) → Pairs (λ (x y : X). IsFalse (bytes_eq (key y) (key x))) (once_by key xs)
once_by-distinct key [] = tt
once_by-distinct {X} key (x ∷ xs) = (
  Each-imp (λ (y : X). not (bytes_eq (key y) (key x)) ≡ true) (λ (y : X). IsFalse (bytes_eq (key y) (key x))) (λ y h. not-true (bytes_eq (key y) (key x)) h)
      (filter (λ y. not (bytes_eq (key y) (key x))) (once_by key xs)) (Each-passes (λ y. not (bytes_eq (key y) (key x))) (once_by key xs)),
  Pairs-filter (λ (y z : X). IsFalse (bytes_eq (key z) (key y))) (λ y. not (bytes_eq (key y) (key x))) (once_by key xs) (once_by-distinct key xs),
)
