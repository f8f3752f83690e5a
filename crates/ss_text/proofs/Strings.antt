-- Strings as they are written: what needs no escape stands as it is.
use Rattle.std.proofs.Common.{◌≡◌, ℕ, suc, ◌+◌, ◌-◌, ◌/◌, ◌%◌, ◌<◌, ◌≤◌, List, [], ◌∷◌, ◌++◌, length, take, drop}
use Rattle.std.proofs.Common.{get_or, Bool, true, false, not, cond, ◌&&◌, ◌==◌, leb, ltb, ◌⊎◌, inl, inr, refl, sym, ap}
use Rattle.std.proofs.Common.{ap₂, ◌∙◌, subst, arith, append_assoc, append-nil}
use Rattle.std.proofs.lemmas.Bool.{true≢false, and_parts, leb-true, not-true, ne_eqb, le-leb, lt-ltb, cases_lt}
use Rattle.std.proofs.lemmas.Bool.{eqb-false}
use Rattle.std.proofs.lemmas.List.{drop-drop, drop_more, length-drop, drop_all, take_at, get_or-drop}
use Rattle.std.proofs.lemmas.List.Sums.{prefix_len-le-length}
use Rattle.std.specs.Char.{digit_char}
use Rattle.std.specs.List.{prefix_len}
use Rattle.json.specs.Print.{escape_letter, escape_byte, escape}
use Rattle.json.proofs.Printed.Strings.{escape_byte_plain}
use Rattle.std.proofs.lemmas.Bool.Decides.{leb_tells}
use Rattle.std.proofs.Common.{◌||◌, le-ltb}
use Rattle.ss_text.specs.Scan.{is_escaped, is_unescaped}

-- ---- one byte

no_less : (x : ℕ) → leb 32 x ≡ not (ltb x 32)
no_less x = go (leb_tells 32 x)
  where
    go : ((leb 32 x ≡ true) × (32 ≤ x)) ⊎ ((leb 32 x ≡ false) × (x < 32)) → leb 32 x ≡ not (ltb x 32)
    go (inl p) = p.0 ∙ sym (ap not (le-ltb x 32 p.1))
    go (inr p) = p.0 ∙ sym (ap not (lt-ltb x 32 p.1))

each_fails : (l q b : Bool) → (not l && not q && not b) ≡ not (q || b || l)
each_fails true true true = refl
each_fails true true false = refl
each_fails true false true = refl
each_fails true false false = refl
each_fails false true true = refl
each_fails false true false = refl
each_fails false false true = refl
each_fails false false false = refl

pub unescaped_is : (x : ℕ) → is_unescaped x ≡ not (is_escaped x)
unescaped_is x = ap (λ l. l && not (x == 34) && not (x == 92)) (no_less x) ∙ each_fails (ltb x 32) (x == 34) (x == 92)

unescaped_parts : (x : ℕ) → is_unescaped x ≡ true → (32 ≤ x) × ((x == 34) ≡ false) × ((x == 92) ≡ false)
unescaped_parts x h =
    let a = and_parts (leb 32 x && not (x == 34)) (not (x == 92)) h in
    let b = and_parts (leb 32 x) (not (x == 34)) a.0 in
    (leb-true 32 x b.0, not-true (x == 34) b.1, not-true (x == 92) a.1)

plain_escape : (x : ℕ) → is_unescaped x ≡ true → escape_byte x ≡ x ∷ []
plain_escape x h = let p = unescaped_parts x h in escape_byte_plain x (eqb-false x 34 p.1) (eqb-false x 92 p.2) p.0

pub letter_escape : (x : ℕ) → 0 < escape_letter x → escape_byte x ≡ 92 ∷ escape_letter x ∷ []
unfolding escape_byte
letter_escape x h =
    ap (λ b. cond b (92 ∷ escape_letter x ∷ []) (cond (ltb x 32) (92 ∷ 117 ∷ 48 ∷ 48 ∷ digit_char (x / 16) ∷ digit_char (x % 16) ∷ []) (x ∷ []))) (lt-ltb 0 (escape_letter x) h)

low : (x : ℕ) → is_unescaped x ≡ false → escape_letter x ≡ 0 → x < 32
low x h e = go (cases_lt x 32)
  where
    apart : (c : ℕ) → (c ≡ 34) ⊎ (c ≡ 92) → x ≡ c → ⊥
    apart c (inl q) k = let n : escape_letter 34 ≡ 0 = ap escape_letter (sym (k ∙ q)) ∙ e in let never : ⊥ = omega arith in never
    apart c (inr q) k = let n : escape_letter 92 ≡ 0 = ap escape_letter (sym (k ∙ q)) ∙ e in let never : ⊥ = omega arith in never

    go : (x < 32) ⊎ (32 ≤ x) → x < 32
    go (inl l) = l
    go (inr l) = absurd (true≢false (sym (ap₂ (λ a b. a && b) (ap₂ (λ a b. a && not b) (le-leb 32 x l) (ne_eqb x 34 (apart 34 (inl refl)))) (ap not (ne_eqb x 92 (apart 92 (inr refl))))) ∙ h))

pub control_escape : (x : ℕ) → is_unescaped x ≡ false → escape_letter x ≡ 0 → escape_byte x ≡ 92 ∷ 117 ∷ 48 ∷ 48 ∷ digit_char (x / 16) ∷ digit_char (x % 16) ∷ []
unfolding escape_byte
control_escape x h e =
    ap₂ (λ a b. cond (ltb 0 a) (92 ∷ a ∷ []) (cond b (92 ∷ 117 ∷ 48 ∷ 48 ∷ digit_char (x / 16) ∷ digit_char (x % 16) ∷ []) (x ∷ []))) e (lt-ltb x 32 (low x h e))

-- ---- what is copied as one piece

escape-front : (xs : List ℕ) → escape xs ≡ take (prefix_len is_unescaped xs) xs ++ escape (drop (prefix_len is_unescaped xs) xs)
escape-front [] = refl
escape-front (x ∷ xs) = go (is_unescaped x) refl (escape-front xs)
  where
    go : (b : Bool) → is_unescaped x ≡ b → escape xs ≡ take (prefix_len is_unescaped xs) xs ++ escape (drop (prefix_len is_unescaped xs) xs)
        → escape (x ∷ xs) ≡ take (cond b (1 + prefix_len is_unescaped xs) 0) (x ∷ xs) ++ escape (drop (cond b (1 + prefix_len is_unescaped xs) 0) (x ∷ xs))
    go true e ih =
        let one : suc (prefix_len is_unescaped xs) ≡ 1 + prefix_len is_unescaped xs = omega arith in
        subst (λ n. escape (x ∷ xs) ≡ take n (x ∷ xs) ++ escape (drop n (x ∷ xs))) one (ap₂ (λ a b. a ++ b) (plain_escape x e) ih)
    go false e ih = refl

front_stops : (xs : List ℕ) → prefix_len is_unescaped xs < length xs → is_unescaped (get_or xs (prefix_len is_unescaped xs) 0) ≡ false
front_stops [] h = let never : ⊥ = omega arith in absurd never
front_stops (x ∷ xs) h = go (is_unescaped x) refl h (front_stops xs)
  where
    go : (b : Bool) → is_unescaped x ≡ b → cond b (1 + prefix_len is_unescaped xs) 0 < suc (length xs)
        → (prefix_len is_unescaped xs < length xs → is_unescaped (get_or xs (prefix_len is_unescaped xs) 0) ≡ false) → is_unescaped (get_or (x ∷ xs) (cond b (1 + prefix_len is_unescaped xs) 0) 0) ≡ false
    go true e k ih =
        let one : suc (prefix_len is_unescaped xs) ≡ 1 + prefix_len is_unescaped xs = omega arith in
        subst (λ n. is_unescaped (get_or (x ∷ xs) n 0) ≡ false) one (ih (omega arith))
    go false e k ih = e

pub record PlainTo (t : List ℕ) (at end : ℕ) : Type 0 where
  pub later : at ≤ end
  pub within : end ≤ length t
  pub written : escape (drop at t) ≡ take (end - at) (drop at t) ++ escape (drop end t)
  pub stops : end < length t → is_unescaped (get_or t end 0) ≡ false

pub plain_to : (t : List ℕ) (at end : ℕ) → at < length t → end ≡ at + prefix_len is_unescaped (drop at t) → PlainTo t at end
plain_to t at end h is =
    let n = prefix_len is_unescaped (drop at t) in
    let few : n ≤ length (drop at t) = prefix_len-le-length is_unescaped (drop at t) in
    let long : length (drop at t) ≡ length t - at = length-drop at t in
    let gap : n ≡ end - at = omega arith in
    let there : drop n (drop at t) ≡ drop end t = drop-drop n at t ∙ ap (λ k. drop k t) (sym is) in
    record {
      later = omega arith;
      within = omega arith;
      written = escape-front (drop at t) ∙ ap₂ (λ k r. take k (drop at t) ++ escape r) gap there;
      stops = λ k. ap is_unescaped (ap (λ j. get_or t j 0) is ∙ sym (get_or-drop at t n 0)) ∙ front_stops (drop at t) (omega arith);
    }

-- ---- steps of the loop

pub after_plain : (out old t : List ℕ) (at end : ℕ) → PlainTo t at end → out ++ escape (drop at t) ≡ old ++ escape t → (out ++ take (end - at) (drop at t)) ++ escape (drop end t) ≡ old ++ escape t
after_plain out old t at end p h = append_assoc out (take (end - at) (drop at t)) (escape (drop end t)) ∙ ap (λ r. out ++ r) (sym p.written) ∙ h

pub after_escape : (out old t : List ℕ) (end : ℕ) → end < length t → out ++ escape (drop end t) ≡ old ++ escape t → (out ++ escape_byte (get_or t end 0)) ++ escape (drop (end + 1) t) ≡ old ++ escape t
after_escape out old t end h e =
    append_assoc out (escape_byte (get_or t end 0)) (escape (drop (end + 1) t)) ∙ ap (λ r. out ++ r) (sym (ap escape (drop_more t end 0 h))) ∙ e

pub more_behind : (out old a : List ℕ) → (rest : List ℕ) × (out ≡ old ++ rest) → (rest : List ℕ) × (out ++ a ≡ old ++ rest)
more_behind out old a (r, e) = (r ++ a, ap (λ l. l ++ a) e ∙ append_assoc old r a)

pub front_kept : (out old : List ℕ) → (rest : List ℕ) × (out ≡ old ++ rest) → take (length old) out ≡ old
front_kept out old (r, e) = ap (take (length old)) e ∙ take_at old r (length old) refl

pub all_done : (out old t : List ℕ) (at : ℕ) → length t ≤ at → out ++ escape (drop at t) ≡ old ++ escape t → out ≡ old ++ escape t
all_done out old t at h e = sym (append-nil out) ∙ ap (λ r. out ++ escape r) (sym (drop_all at t h)) ∙ e
