-- Loops that look for an account that was full.
use Rattle.std.proofs.Common.{◌≡◌, ◌⊎◌, inl, inr, ℕ, ◌+◌, ◌<◌, ◌≤◌, List, length, get_or, min, refl, sym, ap, ◌∙◌}
use Rattle.std.proofs.Common.{subst, arith, Bool, true, false, Some, None, Option}
use mathlib.Core.Option.{some, some-injective}
use mathlib.Core.Logic.{dite}
use native.Mathlib.Decide.{ℕ_discrete, dec_lt}
use lib.ListN.{get_elem?}
use Rattle.ss_desk.proofs.Lists.{at_length, at_get}
use Rattle.ss_serve.specs.Fullness.{IsTestOf, OneMore}
use Rattle.ss_serve.specs.Terms.{SomeIs, Smallest}

pub yes : (b : Bool) (P : Type 0) → b ≡ true → IsTestOf b P → P
yes true P e d = d
yes false P e d = absurd (cc)

pub not : (b : Bool) (P : Type 0) → b ≡ false → IsTestOf b P → P → ⊥
not false P e d = d
not true P e d = absurd (cc)

module _ {X : Type 0} (P : X → Type 0) (l : List X) where
  -- none of those before this place is so
  abbrev pub NoneBefore : ℕ → Type 0
  NoneBefore n = (k : ℕ) (x : X) → k < n → get_elem? l k ≡ some x → P x → ⊥

  pub found : (k : ℕ) (d : X) → k < length l → P (get_or l k d) → SomeIs P l
  found k d lt p = (k, get_or l k d, at_get l k d lt, p)

  same_at : (k i : ℕ) (d x : X) → k < length l → i ≡ k → get_elem? l i ≡ some x → get_or l k d ≡ x
  same_at k i d x lt e at = some-injective (get_or l k d) x (sym (at_get l k d lt) ∙ (ap (get_elem? l) (sym e) ∙ at))

  pub none_next : (k : ℕ) (d : X) → k < length l → (P (get_or l k d) → ⊥) → NoneBefore k → NoneBefore (k + 1)
  none_next k d lt absent none i x less at p = dite (ℕ_discrete i k)
      (λ e. absent (subst P (sym (same_at k i d x lt e at)) p))
      (λ ne. none i x (omega (arith, ne)) at p)

  pub none_at_all : (k : ℕ) → length l ≤ k → NoneBefore k → SomeIs P l → ⊥
  none_at_all k le none s = none s.0 s.1 (omega (arith, at_length l s.0 s.1 s.2)) s.2 s.3

module _ {B : Type 0} (P : (ℕ × B) → Type 0) (accounts : List (ℕ × B)) where
  module _ (i : ℕ) (d : ℕ × B) (lt : i < length accounts) where
    here : (k : ℕ) (a : ℕ × B) → k ≡ i → get_elem? accounts k ≡ some a → get_or accounts i d ≡ a
    here k a e at = same_at P accounts i k d a lt e at

    lesser : (least : ℕ) → (min least (get_or accounts i d).0 ≡ least) ⊎ (min least (get_or accounts i d).0 ≡ (get_or accounts i d).0)
    lesser least = dite (dec_lt least (get_or accounts i d).0) (λ less. inl (omega arith)) (λ more. inr (omega arith))

    next : (b : Bool) (r r' : Option ℕ) → Smallest P accounts i r → IsTestOf b (P (get_or accounts i d)) → OneMore b r (get_or accounts i d).0 r' → Smallest P accounts (i + 1) r'
    next false None r' s absent e = subst (Smallest P accounts (i + 1)) (sym e) (none_next P accounts i d lt absent s)
    next false (Some v) r' s absent e = subst (Smallest P accounts (i + 1)) (sym e) (
      s.0,
      λ k a less at p. dite (ℕ_discrete k i)
          (λ is. absurd (absent (subst P (sym (here k a is at)) p)))
          (λ ne. s.1 k a (omega (arith, ne)) at p),
    )
    next true None r' s p e = subst (Smallest P accounts (i + 1)) (sym e) (
      (i, get_or accounts i d, at_get accounts i d lt, (p, refl)),
      λ k a less at q. dite (ℕ_discrete k i)
          (λ is. omega (arith, ap (λ (x : ℕ × B). x.0) (here k a is at)))
          (λ ne. absurd (s k a (omega (arith, ne)) at q)),
    )
    next true (Some v) r' s p e = subst (Smallest P accounts (i + 1)) (sym e) (
      elim (lesser v) [ inl same ↦ (s.0.0, s.0.1, s.0.2, (s.0.3.0, s.0.3.1 ∙ sym same)) | inr same ↦ (i, get_or accounts i d, at_get accounts i d lt, (p, sym same)) ],
      λ k a less at q. dite (ℕ_discrete k i)
          (λ is. omega (arith, ap (λ (x : ℕ × B). x.0) (here k a is at)))
          (λ ne. let low = s.1 k a (omega (arith, ne)) at q in omega (arith, low)),
    )

  pub smallest_next : (i : ℕ) (d : ℕ × B) → i < length accounts → (r r' : Option ℕ) → Smallest P accounts i r → ((b : Bool) × IsTestOf b (P (get_or accounts i d)) × OneMore b r (get_or accounts i d).0 r') → Smallest P accounts (i + 1) r'
  smallest_next i d lt r r' s o = next i d lt o.0 r r' s o.1 o.2

  -- the smallest by one test is the smallest by another that says the same of these accounts
  pub smallest_same : (Q : (ℕ × B) → Type 0) (n : ℕ) (r : Option ℕ) → ((k : ℕ) (a : ℕ × B) → get_elem? accounts k ≡ some a → (P a → Q a) × (Q a → P a)) → Smallest P accounts n r → Smallest Q accounts n r
  smallest_same Q n None same s = λ k a less at q. s k a less at ((same k a at).1 q)
  smallest_same Q n (Some uid) same s = ((s.0.0, s.0.1, s.0.2, ((same s.0.0 s.0.1 s.0.2).0 s.0.3.0, s.0.3.1)), λ k a less at q. s.1 k a less at ((same k a at).1 q))
