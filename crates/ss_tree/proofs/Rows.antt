-- Rows of places, and how many there may be.
use Rattle.std.proofs.Common.{◌≡◌, ◌≢◌, ℕ, zero, suc, ◌<◌, ◌≤◌, List, [], ◌∷◌, ◌++◌, length, cond, eqb, refl, sym, ap}
use Rattle.std.proofs.Common.{◌∙◌, arith, inl, inr, length-append}
use Rattle.std.proofs.lemmas.Bool.{cases_lt, eq-eqb, ne_eqb}
use Rattle.ss_list.specs.Chain.{times}
use Rattle.ss_list.proofs.Times.{times-here, times-append, at_head, below-head, cut}
use Rattle.ss_list.proofs.Paths.{Path}
use Rattle.ss_tree.specs.declared.cells.TheConstants.{END}
use Rattle.ss_tree.specs.Cells.{row}

-- a path is what its steps lead through
pub row_path : (f g : ℕ → ℕ) (u : ℕ) (ps : List ℕ) (n : ℕ) → Path f g u ps END → times END ps ≡ 0 → length ps ≤ n → row f n (f u) ≡ ps
row_path f g u [] zero path none le = refl
row_path f g u [] (suc n) path none le = rw (eq-eqb (f u) END path.0) refl
row_path f g u (x ∷ xs) zero path none le = absurd (omega arith)
row_path f g u (x ∷ xs) (suc n) path none le =
    let inner : x ≢ END = λ same. omega (arith, times-here END x xs (sym same)) in
    let rest : row f n (f x) ≡ xs = row_path f g x xs n path.2 (omega (arith, below-head END x xs)) (omega arith) in
    ap (λ k. cond (eqb k END) [] (k ∷ row f n (f k))) path.0 ∙ (ap (λ b. cond b [] (x ∷ row f n (f x))) (ne_eqb x END inner) ∙ ap (λ r. x ∷ r) rest)

-- of numbers below n, each once at most, there are n at most
pub length_within : (n : ℕ) (ps : List ℕ) → ((p : ℕ) → times p ps ≤ 1) → ((p : ℕ) → 0 < times p ps → p < n) → length ps ≤ n
length_within zero [] once below = omega arith
length_within zero (p ∷ ps) once below = let low = below p (omega (arith, times-here p p ps refl)) in absurd (omega arith)
length_within (suc n) ps once below =
    elim (cases_lt 0 (times n ps)) [
      | inl there ↦
          let halves = cut n ps there in
          let same : (p : ℕ) → times p ps ≡ times p (halves.0 ++ n ∷ halves.1) = λ p. ap (times p) halves.2 in
          let fewer = length_within n (halves.0 ++ halves.1)
          (λ p. let one = once p in let is = same p in omega (arith, times-append p halves.0 (n ∷ halves.1), times-append p halves.0 halves.1, below-head p n halves.1))
          (λ p there_still.
          let is = same p in
          let low : p < suc n = below p (omega (arith, times-append p halves.0 (n ∷ halves.1), times-append p halves.0 halves.1, below-head p n halves.1)) in
          let one = once p in
          elim (at_head p n halves.1) [
            | inl here ↦ absurd (omega (arith, times-append p halves.0 (n ∷ halves.1), times-append p halves.0 halves.1))
            | inr other ↦ let apart = other.0 in omega arith
          ]) in
          let long : length ps ≡ length (halves.0 ++ n ∷ halves.1) = ap length halves.2 in
          omega (arith, length-append halves.0 (n ∷ halves.1), length-append halves.0 halves.1)
      | inr none ↦
          let fewer = length_within n ps once (λ p there.
          let low : p < suc n = below p there in
          let apart : p ≢ n = λ is. let same : times p ps ≡ times n ps = ap (λ k. times k ps) is in omega arith in
          omega arith) in
          omega arith
    ]
