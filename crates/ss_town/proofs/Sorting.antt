-- What accounts in another order keep, and that a town's uids rise.
use Rattle.std.proofs.Common.{◌≡◌, ◌≢◌, ◌⊎◌, ℕ, zero, suc, ◌+◌, ◌-◌, ◌<◌, ◌≤◌, cond, eq-eqb, ne_eqb, nat_eq, List, []}
use Rattle.std.proofs.Common.{◌∷◌, ◌++◌, length, map, get_or, refl, ap, sym, ◌∙◌, subst, inl, inr, arith}
use Rattle.std.specs.Prelude.{sum_by, Contains}
use Rattle.std.specs.List.Sorted.{IsPermutation, IsNonDecreasingBy, IsStrictlyIncreasing}
use Rattle.std.proofs.lemmas.List.Sorted.{IsPermutation-sym, Contains-permutation, sum_by-IsPermutation}
use Rattle.std.proofs.lemmas.List.Sums.{sum_by-cons}
use mathlib.Core.Option.{some, some-injective, some-ne-none}
use mathlib.Core.Logic.{dite}
use native.Mathlib.Decide.{ℕ_discrete, dec_lt}
use lib.ListN.{get_elem?}
use Rattle.ss_desk.specs.declared.desk.Desk.{Desk}
use Rattle.ss_desk.specs.declared.pass.RawPass.{RawPass}
use Rattle.ss_desk.proofs.Lists.{at_get, at_length}
use Rattle.ss_desk.proofs.Beside.{there_is}
use Rattle.ss_town.specs.Places.{At, HandsBack}
use Rattle.ss_town.specs.Opening.{HasUid, AreDistinct, AreBare, AreReturnedAccounts, ComeBack, IsOpenedTown}
use Rattle.ss_town.proofs.Openings.{returned_all}

module _ {X : Type 0} where
  get_is : (l : List X) (i : ℕ) (x d : X) → get_elem? l i ≡ some x → get_or l i d ≡ x
  get_is l i x d e = some-injective (get_or l i d) x (sym (at_get l i d (at_length l i x e)) ∙ e)

  -- what stands in a list stands in each order of it
  pub moved_at : (xs ys : List X) (i : ℕ) (x : X) → IsPermutation xs ys → get_elem? ys i ≡ some x → (k : ℕ) × (get_elem? xs k ≡ some x)
  moved_at xs ys i x h e =
      let c : Contains xs x = Contains-permutation ys xs x (IsPermutation-sym xs ys h) (i, at_length ys i x e, get_is ys i x x e) in
      (c.0, at_get xs c.0 x c.1 ∙ ap some c.2)

module _ {T : Type 0} where
  -- how many accounts have this uid
  has : ℕ → ℕ × T → ℕ
  has u a = cond (nat_eq a.0 u) 1 0

  has_one : (u : ℕ) (a : ℕ × T) → a.0 ≡ u → has u a ≡ 1
  unfolding has
  has_one u a e = ap (λ b. cond b 1 0) (eq-eqb a.0 u e)

  has_none : (u : ℕ) (a : ℕ × T) → a.0 ≢ u → has u a ≡ 0
  unfolding has
  has_none u a e = ap (λ b. cond b 1 0) (ne_eqb a.0 u e)

  has_more : (u : ℕ) (x : ℕ × T) (xs : List (ℕ × T)) → sum_by (has u) (x ∷ xs) ≡ has u x + sum_by (has u) xs
  has_more u x xs = sum_by-cons (has u) x xs

  first_is : (x : ℕ × T) (xs : List (ℕ × T)) (u : ℕ) → HasUid (x ∷ xs) 0 u → x.0 ≡ u
  first_is x xs u h = ap (λ (a : ℕ × T). a.0) (some-injective x (u, h.0) h.1)

  one_there : (u : ℕ) (l : List (ℕ × T)) (j : ℕ) → HasUid l j u → 1 ≤ sum_by (has u) l
  one_there u [] j h = absurd (some-ne-none (u, h.0) (sym h.1))
  one_there u (x ∷ xs) zero h = omega (arith, has_more u x xs, has_one u x (first_is x xs u h))
  one_there u (x ∷ xs) (suc j) h = omega (arith, has_more u x xs, one_there u xs j h)

  two_there : (u : ℕ) (l : List (ℕ × T)) (i j : ℕ) → i < j → HasUid l i u → HasUid l j u → 2 ≤ sum_by (has u) l
  two_there u [] i j lt a b = absurd (some-ne-none (u, a.0) (sym a.1))
  two_there u (x ∷ xs) i zero lt a b = absurd (omega arith)
  two_there u (x ∷ xs) zero (suc j) lt a b = omega (arith, has_more u x xs, has_one u x (first_is x xs u a), one_there u xs j b)
  two_there u (x ∷ xs) (suc i) (suc j) lt a b = omega (arith, has_more u x xs, two_there u xs i j (omega arith) a b)

  some_there : (u : ℕ) (l : List (ℕ × T)) → 1 ≤ sum_by (has u) l → (j : ℕ) × HasUid l j u
  some_there u [] h = absurd (omega arith)
  some_there u (x ∷ xs) h = dite (ℕ_discrete x.0 u)
      (λ e. (zero, (x.1, ap (λ n. some (n, x.1)) e)))
      (λ ne. let k = some_there u xs (omega (arith, has_more u x xs, has_none u x ne)) in (suc k.0, k.1))

  one_at_most : (u : ℕ) (l : List (ℕ × T)) → AreDistinct l → sum_by (has u) l ≤ 1
  one_at_most u [] far = omega arith
  one_at_most u (x ∷ xs) far = dite (ℕ_discrete x.0 u)
      (λ e. dite (dec_lt 0 (sum_by (has u) xs))
      (λ more. let k = some_there u xs (omega arith) in absurd (omega (arith, far 0 (suc k.0) u (x.1, ap (λ n. some (n, x.1)) e) k.1)))
      (λ none. omega (arith, has_more u x xs, has_one u x e)))
      (λ ne. omega (arith, has_more u x xs, has_none u x ne, one_at_most u xs (λ i j v a b. let s = far (suc i) (suc j) v a b in omega arith)))

  pub distinct_moved : (l m : List (ℕ × T)) → IsPermutation l m → AreDistinct l → AreDistinct m
  distinct_moved l m h far i j u a b =
      let most : sum_by (has u) m ≤ 1 = omega (arith, sum_by-IsPermutation (has u) l m h, one_at_most u l far) in
      dite (ℕ_discrete i j) (λ e. e) (λ ne. dite (dec_lt i j)
      (λ less. absurd (omega (arith, two_there u m i j less a b)))
      (λ more. absurd (omega (arith, two_there u m j i (omega (arith, ne)) b a))))

  pub bare_moved : {E : Type 0} (entries : T → List E) (l m : List (ℕ × T)) → IsPermutation l m → AreBare entries l → AreBare entries m
  bare_moved entries l m h bare i u x e = let k = moved_at l m i (u, x) h e in bare k.0 u x k.1

module _ {T F E A R : Type 0} (fixed : T → F) where
  -- the uids of a town that was opened with sorted accounts rise
  pub uids_rise : (accounts : List (ℕ × T)) (uids : List ℕ) (ds : List (Desk T F E A R)) (ps : List (RawPass T F E))
      → IsOpenedTown fixed accounts uids ds ps → AreDistinct accounts → IsNonDecreasingBy (λ (a : ℕ × T). a.0) accounts → IsStrictlyIncreasing uids
  uids_rise accounts uids ds ps o far sorted k lt =
      let x = there_is accounts k (omega (arith, o.uids_count)) in
      let y = there_is accounts (k + 1) (omega (arith, o.uids_count)) in
      let up = sorted k (k + 1) x.0 (omega arith) (omega (arith, o.uids_count)) in
      let le : x.0.0 ≤ y.0.0 = subst (λ (a : ℕ × T). a.0 ≤ y.0.0) (get_is accounts k x.0 x.0 x.1) (subst (λ (a : ℕ × T). (get_or accounts k x.0).0 ≤ a.0) (get_is accounts (k + 1) y.0 x.0 y.1) up) in
      let ne : x.0.0 ≢ y.0.0 = λ e. absurd (omega (arith, far k (k + 1) y.0.0 (x.0.1, x.1 ∙ ap (λ n. some (n, x.0.1)) e) (y.0.1, y.1))) in
      let a : get_or uids k 0 ≡ x.0.0 = get_is uids k x.0.0 0 (o.uid k x.0.0 x.0.1 x.1) in
      let b : get_or uids (k + 1) 0 ≡ y.0.0 = get_is uids (k + 1) y.0.0 0 (o.uid (k + 1) y.0.0 y.0.1 y.1) in
      omega (arith, ne)

-- where the uids rise, each stands at one place
rise_far : (uids : List ℕ) → IsStrictlyIncreasing uids → (i n : ℕ) → i + n + 1 < length uids → get_or uids i 0 < get_or uids (i + n + 1) 0
rise_far uids up i zero lt = let e : i + 0 + 1 ≡ i + 1 = omega arith in subst (λ k. get_or uids i 0 < get_or uids k 0) (sym e) (up i (omega arith))
rise_far uids up i (suc n) lt =
    let e : i + suc n + 1 ≡ i + n + 1 + 1 = omega arith in
    let a : get_or uids i 0 < get_or uids (i + n + 1) 0 = rise_far uids up i n (omega arith) in
    let b : get_or uids (i + n + 1) 0 < get_or uids (i + n + 1 + 1) 0 = up (i + n + 1) (omega arith) in
    subst (λ k. get_or uids i 0 < get_or uids k 0) (sym e) (omega arith)

pub one_place : (uids : List ℕ) → IsStrictlyIncreasing uids → (i j u : ℕ) → At uids i u → At uids j u → i ≡ j
one_place uids up i j u a b =
    let p : get_or uids i 0 ≡ u = get_is uids i u 0 a in
    let q : get_or uids j 0 ≡ u = get_is uids j u 0 b in
    let in_i : i < length uids = at_length uids i u a in
    let in_j : j < length uids = at_length uids j u b in
    let apart : (i j : ℕ) → i < j → j < length uids → get_or uids i 0 < get_or uids j 0 =
    λ i j less inside. let e : i + (j - i - 1) + 1 ≡ j = omega arith in subst (λ k. get_or uids i 0 < get_or uids k 0) e (rise_far uids up i (j - i - 1) (omega (arith, e))) in
    dite (ℕ_discrete i j) (λ e. e) (λ ne. dite (dec_lt i j)
    (λ less. absurd (omega (arith, apart i j less in_j)))
    (λ more. absurd (omega (arith, apart j i (omega (arith, ne)) in_i))))

module _ {B : Type 0} where
  uid_at : (bs : List (ℕ × B)) (k u : ℕ) (x : B) → get_elem? bs k ≡ some (u, x) → get_or (map (λ (b : ℕ × B). b.0) bs) k 0 ≡ u
  uid_at [] k u x e = absurd (some-ne-none (u, x) (sym e))
  uid_at (b ∷ bs) zero u x e = ap (λ (a : ℕ × B). a.0) (some-injective b (u, x) e)
  uid_at (b ∷ bs) (suc k) u x e = uid_at bs k u x e

  map_long : (bs : List (ℕ × B)) → length (map (λ (b : ℕ × B). b.0) bs) ≡ length bs
  map_long [] = refl
  map_long (b ∷ bs) = ap suc (map_long bs)

  -- accounts are handed back in the order of their uids
  pub handed_rise : (uids : List ℕ) (bs : List (ℕ × B)) → IsStrictlyIncreasing uids → length bs ≡ length uids → ((i u : ℕ) (x : B) → get_elem? bs i ≡ some (u, x) → At uids i u) → IsStrictlyIncreasing (map (λ (b : ℕ × B). b.0) bs)
  handed_rise uids bs up long at k lt =
      let inside : k + 1 < length bs = omega (arith, map_long bs) in
      let x = there_is bs k (omega arith) in
      let y = there_is bs (k + 1) inside in
      let a = uid_at bs k x.0.0 x.0.1 x.1 in
      let b = uid_at bs (k + 1) y.0.0 y.0.1 y.1 in
      let p = get_is uids k x.0.0 0 (at k x.0.0 x.0.1 x.1) in
      let q = get_is uids (k + 1) y.0.0 0 (at (k + 1) y.0.0 y.0.1 y.1) in
      omega (arith, a, b, p, q, up k (omega (arith, long)))

module _ {T F E : Type 0} (fixed : T → F) (entries : T → List E) where
  -- accounts that were only put in order come back
  pub come_back : (accounts order : List (ℕ × T)) → IsPermutation accounts order → AreBare entries accounts → ComeBack fixed entries accounts order
  come_back accounts order h bare = record { order = order; moved = h; returned = returned_all fixed entries order (bare_moved entries accounts order h bare) }
