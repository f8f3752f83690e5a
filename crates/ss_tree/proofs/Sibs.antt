-- How often a node stands in a list of siblings with one more or one less.
use Rattle.std.proofs.Common.{◌≡◌, ◌≢◌, ℕ, ◌+◌, ◌≤◌, ◌==◌, List, [], ◌∷◌, ◌++◌, Bool, true, false, not, cond, refl, sym}
use Rattle.std.proofs.Common.{ap, ◌∙◌, arith, inl, inr, Option, Some, None}
use Rattle.std.proofs.lemmas.Bool.{eqb-true, ne_eqb, eq-eqb}
use Rattle.ss_list.specs.Chain.{times}
use Rattle.ss_list.proofs.Times.{times-here, times-apart, times-append, at_head, below-head}
use Rattle.ss_tree.specs.Entries.{put_before, without_node}

pub without_absent : (x : ℕ) (ks : List ℕ) → times x ks ≡ 0 → without_node x ks ≡ ks
without_absent x [] none = refl
without_absent x (k ∷ ks) none =
    elim (at_head x k ks) [
      | inl same ↦ absurd (omega arith)
      | inr other ↦ ap (λ b. cond (not b) (k ∷ without_node x ks) (without_node x ks)) (ne_eqb x k other.0) ∙ ap (λ r. k ∷ r) (without_absent x ks (omega arith))
    ]

pub without_cut : (x : ℕ) (xs ys : List ℕ) → times x xs ≡ 0 → times x ys ≡ 0 → without_node x (xs ++ x ∷ ys) ≡ xs ++ ys
without_cut x [] ys none gone = ap (λ b. cond (not b) (x ∷ without_node x ys) (without_node x ys)) (eq-eqb x x refl) ∙ without_absent x ys gone
without_cut x (k ∷ ks) ys none gone =
    elim (at_head x k ks) [
      | inl same ↦ absurd (omega arith)
      | inr other ↦ ap (λ b. cond (not b) (k ∷ without_node x (ks ++ x ∷ ys)) (without_node x (ks ++ x ∷ ys))) (ne_eqb x k other.0) ∙ ap (λ r. k ∷ r) (without_cut x ks ys (omega arith) gone)
    ]

same_head : (y k : ℕ) (ks ms : List ℕ) → times y ks ≤ times y ms → times y (k ∷ ks) ≤ times y (k ∷ ms)
same_head y k ks ms le =
    elim (at_head y k ks) [
      | inl same ↦ omega (arith, times-here y k ms same.0)
      | inr other ↦ omega (arith, times-apart y k ms other.0)
    ]

pub times-without : (y x : ℕ) (ks : List ℕ) → times y (without_node x ks) ≤ times y ks
times-without y x [] = omega arith
times-without y x (k ∷ ks) = go (x == k) (times-without y x ks)
  where
    go : (b : Bool) → times y (without_node x ks) ≤ times y ks → times y (cond (not b) (k ∷ without_node x ks) (without_node x ks)) ≤ times y (k ∷ ks)
    go true le = omega (arith, below-head y k ks)
    go false le = same_head y k (without_node x ks) ks le

pub times-gone : (x : ℕ) (ks : List ℕ) → times x (without_node x ks) ≡ 0
times-gone x [] = refl
times-gone x (k ∷ ks) = go (x == k) refl (times-gone x ks)
  where
    go : (b : Bool) → (x == k) ≡ b → times x (without_node x ks) ≡ 0 → times x (cond (not b) (k ∷ without_node x ks) (without_node x ks)) ≡ 0
    go true c ih = ih
    go false c ih =
        elim (at_head x k (without_node x ks)) [
          | inl same ↦ cc (c, eq-eqb x k same.0)
          | inr other ↦ omega arith
        ]

pub put_cut : (b x : ℕ) (xs ys : List ℕ) → times b xs ≡ 0 → put_before (Some b) x (xs ++ b ∷ ys) ≡ xs ++ x ∷ b ∷ ys
put_cut b x [] ys none = ap (λ c. cond c (x ∷ b ∷ ys) (b ∷ put_before (Some b) x ys)) (eq-eqb b b refl)
put_cut b x (k ∷ ks) ys none =
    elim (at_head b k ks) [
      | inl same ↦ absurd (omega arith)
      | inr other ↦ ap (λ c. cond c (x ∷ k ∷ (ks ++ b ∷ ys)) (k ∷ put_before (Some b) x (ks ++ b ∷ ys))) (ne_eqb b k other.0) ∙ ap (λ r. k ∷ r) (put_cut b x ks ys (omega arith))
    ]

pub times-put : (y : ℕ) (before : Option ℕ) (x : ℕ) (ks : List ℕ) → times y (put_before before x ks) ≡ times y ks + times y (x ∷ [])
times-put y None x ks = times-append y ks (x ∷ [])
times-put y (Some b) x [] = omega arith
times-put y (Some b) x (k ∷ ks) = go (b == k) (times-put y (Some b) x ks)
  where
    go : (c : Bool) → times y (put_before (Some b) x ks) ≡ times y ks + times y (x ∷ []) → times y (cond c (x ∷ k ∷ ks) (k ∷ put_before (Some b) x ks)) ≡ times y (k ∷ ks) + times y (x ∷ [])
    go true ih = omega (arith, times-append y (x ∷ []) (k ∷ ks))
    go false ih =
        elim (at_head y k ks) [
          | inl same ↦ omega (arith, times-here y k (put_before (Some b) x ks) same.0)
          | inr other ↦ omega (arith, times-apart y k (put_before (Some b) x ks) other.0)
        ]

-- another node stands as often as before
pub times-kept : (y x : ℕ) (ks : List ℕ) → y ≢ x → times y (without_node x ks) ≡ times y ks
times-kept y x [] ne = refl
times-kept y x (k ∷ ks) ne = go (x == k) refl (times-kept y x ks ne)
  where
    go : (b : Bool) → (x == k) ≡ b → times y (without_node x ks) ≡ times y ks → times y (cond (not b) (k ∷ without_node x ks) (without_node x ks)) ≡ times y (k ∷ ks)
    go true c ih = ih ∙ sym (times-apart y k ks (λ is. ne (is ∙ sym (eqb-true x k c))))
    go false c ih =
        elim (at_head y k ks) [
          | inl same ↦ times-here y k (without_node x ks) same.0 ∙ (ap (λ n. n + 1) ih ∙ sym same.1)
          | inr other ↦ times-apart y k (without_node x ks) other.0 ∙ (ih ∙ sym other.1)
        ]
