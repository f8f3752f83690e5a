-- Sets of places and of names, each tested by what it holds.
use Rattle.std.specs.Prelude.{◌≡◌, ℕ, Bool, true, false, not, ◌&&◌, ◌||◌, List, [], ◌∷◌, bytes_eq, refl}
use Rattle.std.specs.Bool.{MatchBool}
use Rattle.std.specs.Borrow.{Bor}
use Rattle.std.specs.List.{list_any}
use Rattle.std.specs.List.Sorted.{IsPermutation}
use Rattle.ss_bso.specs.declared.rows.Row.{Row}
use Rattle.ss_bso.specs.Account.{is_at}
use Rattle.ss_keeper.specs.declared.row_edits.Place.{Place}
use Rattle.std.proofs.Common.{sym, ap, ◌∙◌}
use Rattle.std.proofs.lemmas.List.Sorted.{list_any-IsPermutation}
use Rattle.ss_text.proofs.Basics.{both_left, both_right, was_true, same_text, bytes_eq-same}

-- a test that a key's equals pass finds something where the key is found
found : {K : Type 0} (eq : K → K → Bool) (p : K → Bool) (k : K) → ((x : K) → eq k x ≡ true → p x ≡ true) → (ks : List K) → list_any (eq k) ks ≡ true → list_any p ks ≡ true
found eq p k h [] e = e
found eq p k h (x ∷ ks) e =
    elim (eq k x) as (λ v. eq k x ≡ v → (v || list_any (eq k) ks) ≡ true → (p x || list_any p ks) ≡ true) [
      | true ↦ (λ t _. ap (λ b. b || list_any p ks) (h x t))
      | false ↦ (λ _ f. elim (p x) as (λ b. (b || list_any p ks) ≡ true) [ true ↦ refl | false ↦ found eq p k h ks f ])
    ] refl e

-- what a set answers a test after a key was put into it
pub any-put : {K : Type 0} (eq : K → K → Bool) (p : K → Bool) (k : K) (old new : List K) (added : Bool) → ((x : K) → p k ≡ true → eq k x ≡ true → p x ≡ true)
    → added ≡ not (list_any (eq k) old) → MatchBool added (IsPermutation (k ∷ old) new) (new ≡ old) → list_any p new ≡ (p k || list_any p old)
any-put eq p k old new true h e m = sym (list_any-IsPermutation p (k ∷ old) new m)
any-put eq p k old new false h e m =
    ap (list_any p) m
    ∙ elim (p k) as (λ v. p k ≡ v → list_any p old ≡ (v || list_any p old)) [
      | true ↦ (λ t. found eq p k (λ x f. h x t f) old (was_true (list_any (eq k) old) e))
      | false ↦ (λ t. refl)
    ] refl

-- a name was put into a set of names
pub name-put : (name : List ℕ) (k : Bor (List ℕ)) (old new : List (Bor (List ℕ))) (added : Bool)
    → added ≡ not (list_any (λ held. bytes_eq k.now held.now) old) → MatchBool added (IsPermutation (k ∷ old) new) (new ≡ old)
    → list_any (λ held. bytes_eq name held.now) new ≡ (bytes_eq name k.now || list_any (λ held. bytes_eq name held.now) old)
name-put name k old new added e m =
    any-put (λ one other. bytes_eq one.now other.now) (λ held. bytes_eq name held.now) k old new added
    (λ x t f. bytes_eq-same name x.now (same_text name k.now t ∙ same_text k.now x.now f)) e m

-- a place was put into a set of places
pub place-put : (row : Row) (k : Place) (old new : List Place) (added : Bool)
    → added ≡ not (list_any (λ place. bytes_eq k.collection.now place.collection.now && bytes_eq k.id.now place.id.now) old) → MatchBool added (IsPermutation (k ∷ old) new) (new ≡ old)
    → list_any (λ place. is_at place.collection.now place.id.now row) new ≡ (is_at k.collection.now k.id.now row || list_any (λ place. is_at place.collection.now place.id.now row) old)
place-put row k old new added e m =
    any-put (λ one other. bytes_eq one.collection.now other.collection.now && bytes_eq one.id.now other.id.now) (λ place. is_at place.collection.now place.id.now row) k old new added here e m
  where
    here : (x : Place) → is_at k.collection.now k.id.now row ≡ true → (bytes_eq k.collection.now x.collection.now && bytes_eq k.id.now x.id.now) ≡ true → is_at x.collection.now x.id.now row ≡ true
    here x t f =
        let collection : k.collection.now ≡ x.collection.now =
        same_text k.collection.now x.collection.now (both_left (bytes_eq k.collection.now x.collection.now) (bytes_eq k.id.now x.id.now) f) in
        let id : k.id.now ≡ x.id.now = same_text k.id.now x.id.now (both_right (bytes_eq k.collection.now x.collection.now) (bytes_eq k.id.now x.id.now) f) in
        (λ i. is_at (sym collection i) (sym id i) row) ∙ t
