-- How often a place stands in a list.
use Rattle.std.proofs.Common.{◌≡◌, ◌≢◌, ◌⊎◌, ℕ, ◌+◌, ◌<◌, ◌≤◌, List, [], ◌∷◌, ◌++◌, reverse, cond, eqb, refl, sym, ap}
use Rattle.std.proofs.Common.{inl, inr, arith}
use Rattle.std.proofs.lemmas.Bool.{eq-eqb, ne_eqb}
use Rattle.std.proofs.lemmas.Bool.Decides.{eqb_tells}
use Rattle.std.proofs.lemmas.List.{reverse-append}
use Rattle.std.proofs.lemmas.List.Sums.{sum_by-cons, sum_by-append}
use Rattle.ss_list.specs.Chain.{times}

pub times-here : (p q : ℕ) (ps : List ℕ) → p ≡ q → times p (q ∷ ps) ≡ times p ps + 1
times-here p q ps same =
    rw (sum_by-cons (λ x. cond (eqb p x) 1 0) q ps, eq-eqb p q same) (omega arith)

pub times-apart : (p q : ℕ) (ps : List ℕ) → p ≢ q → times p (q ∷ ps) ≡ times p ps
times-apart p q ps other =
    rw (sum_by-cons (λ x. cond (eqb p x) 1 0) q ps, ne_eqb p q other) (omega arith)

pub times-append : (p : ℕ) (ps qs : List ℕ) → times p (ps ++ qs) ≡ times p ps + times p qs
times-append p ps qs = sum_by-append (λ x. cond (eqb p x) 1 0) ps qs

-- the head, or the rest
pub at_head : (p q : ℕ) (ps : List ℕ) → ((p ≡ q) × (times p (q ∷ ps) ≡ times p ps + 1)) ⊎ ((p ≢ q) × (times p (q ∷ ps) ≡ times p ps))
at_head p q ps =
    elim (eqb_tells p q) [
      | inl same ↦ inl (same.1, times-here p q ps same.1)
      | inr other ↦ inr (other.1, times-apart p q ps other.1)
    ]

pub below-head : (p q : ℕ) (ps : List ℕ) → times p ps ≤ times p (q ∷ ps)
below-head p q ps = elim (at_head p q ps) [ inl same ↦ omega arith | inr other ↦ omega arith ]

-- a place that stands in one list and not in another differs from each of the other's
pub apart : (p q : ℕ) (ps : List ℕ) → 0 < times p ps → times q ps ≡ 0 → p ≢ q
apart p q ps there gone same = let moved = rw same at there in omega arith

-- where a place stands, the list is cut in two
pub cut : (p : ℕ) (ps : List ℕ) → 0 < times p ps → (before : List ℕ) × (after : List ℕ) × (ps ≡ before ++ p ∷ after)
cut p [] there = absurd (omega arith)
cut p (q ∷ ps) there =
    elim (at_head p q ps) [
      | inl same ↦ ([], ps, ap (λ r. r ∷ ps) (sym same.0))
      | inr other ↦ let rest = cut p ps (omega arith) in (q ∷ rest.0, rest.1, ap (λ rs. q ∷ rs) rest.2)
    ]

-- ---- a list that is cut at x, where u stands nowhere and each other place at most once

module _ (u : ℕ) (xs : List ℕ) (x : ℕ) (ys : List ℕ) (once : (p : ℕ) → times p (xs ++ x ∷ ys) ≤ 1) (alone : times u (xs ++ x ∷ ys) ≡ 0) where
  pub gone_before : times u xs ≡ 0
  gone_before = omega (arith, times-append u xs (x ∷ ys))

  pub gone_after : times u ys ≡ 0
  gone_after = omega (arith, times-append u xs (x ∷ ys), below-head u x ys)

  pub once_before : (p : ℕ) → times p (u ∷ xs) ≤ 1
  once_before p =
      let below = once p in
      elim (at_head p u xs) [
        | inl same ↦ let none : times p xs ≡ 0 = rw same.0 gone_before in omega arith
        | inr other ↦ omega (arith, times-append p xs (x ∷ ys))
      ]

  -- what stands after x stands nowhere before it
  pub after_apart : (p : ℕ) → 0 < times p ys → times p xs ≡ 0
  after_apart p there =
      let below = once p in omega (arith, times-append p xs (x ∷ ys), below-head p x ys)

  pub before_apart : (p : ℕ) → 0 < times p (u ∷ xs) → times p ys ≡ 0
  before_apart p there =
      let below = once p in
      elim (at_head p u xs) [
        | inl same ↦ rw same.0 gone_after
        | inr other ↦ omega (arith, times-append p xs (x ∷ ys), below-head p x ys)
      ]

pub times-reverse : (p : ℕ) (ps : List ℕ) → times p (reverse ps) ≡ times p ps
times-reverse p [] = refl
times-reverse p (q ∷ qs) =
    rw (reverse-append (q ∷ []) qs) (omega (arith, times-append p (reverse qs) (q ∷ []), times-append p (q ∷ []) qs, times-reverse p qs))
