-- A text cut at its first point.
use Rattle.std.proofs.Common.{◌≡◌, ℕ, suc, ◌+◌, ◌<◌, ◌≤◌, List, [], ◌∷◌, length, take, drop, Bool, true, false, cond}
use Rattle.std.proofs.Common.{◌==◌, Option, Some, None, refl, sym, ap, ◌∙◌, arith, lit≤}
use Rattle.ss_text.specs.Time.{split_point}

pub record CutAt (text : List ℕ) (n : ℕ) : Type 0 where
  pub within : n ≤ length text
  pub front : (split_point text).0 ≡ take n text
  pub whole : length text ≤ n → (split_point text).1 ≡ None
  pub rest : n < length text → (split_point text).1 ≡ Some (drop (n + 1) text)

at_point : (x : ℕ) (xs : List ℕ) → (x == 46) ≡ true → CutAt (x ∷ xs) 0
at_point x xs e =
    let cut : split_point (x ∷ xs) ≡ ([], Some xs) = ap (λ b. cond b ([], Some xs) (x ∷ (split_point xs).0, (split_point xs).1)) e in
    record { within = omega arith; front = ap (λ p. p.0) cut; whole = λ h. absurd (let never : ⊥ = omega arith in never); rest = λ h. ap (λ p. p.1) cut }

past : (x : ℕ) (xs : List ℕ) (n : ℕ) → (x == 46) ≡ false → CutAt xs n → CutAt (x ∷ xs) (suc n)
past x xs n e c =
    let cut : split_point (x ∷ xs) ≡ (x ∷ (split_point xs).0, (split_point xs).1) = ap (λ b. cond b ([], Some xs) (x ∷ (split_point xs).0, (split_point xs).1)) e in
    record {
      within = omega (arith, c.within);
      front = ap (λ p. p.0) cut ∙ ap (λ l. x ∷ l) c.front;
      whole = λ h. ap (λ p. p.1) cut ∙ c.whole (omega arith);
      rest = λ h. ap (λ p. p.1) cut ∙ c.rest (omega arith) ∙ (let next : suc n + 1 ≡ suc (n + 1) = omega arith in ap (λ k. Some (drop k (x ∷ xs))) (sym next));
    }

chosen : (x : ℕ) (xs : List ℕ) (b : Bool) → (x == 46) ≡ b → CutAt xs (length (split_point xs).0) → CutAt (x ∷ xs) (length (cond {A = List ℕ × Option (List ℕ)} b ([], Some xs) (x ∷ (split_point xs).0, (split_point xs).1)).0)
chosen x xs true e c = at_point x xs e
chosen x xs false e c = past x xs (length (split_point xs).0) e c

pub cut_at : (text : List ℕ) → CutAt text (length (split_point text).0)
cut_at [] = record { within = lit≤ tt; front = refl; whole = λ h. refl; rest = λ h. absurd (let never : ⊥ = omega arith in never) }
cut_at (x ∷ xs) = chosen x xs (x == 46) refl (cut_at xs)
