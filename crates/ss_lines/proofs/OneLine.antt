-- No line break stands in a text that JSON's strings and numbers are written as, and a line ends at its first one.
use Rattle.std.proofs.Common.{◌≡◌, ◌≢◌, ℕ, suc, ◌+◌, ◌/◌, ◌%◌, ◌<◌, ◌==◌, ◌&&◌, ◌||◌, nat_lt, Bool, true, false, not}
use Rattle.std.proofs.Common.{cond, List, [], ◌∷◌, ◌++◌, length, Some, None, position, refl, sym, ap, ap₂, ◌∙◌, arith}
use Rattle.std.proofs.Common.{lt-ltb, ne_eqb, length-append}
use Rattle.std.specs.List.{prefix_len}
use Rattle.std.specs.Bool.{⊤}
use Rattle.std.proofs.lemmas.Bool.{and_parts, false≢true, not-true}
use Rattle.std.specs.Char.{digit_char, digit_value}
use Rattle.std.specs.Str.Parse.{AllDigits}
use Rattle.json.specs.Print.{escape_letter, escape_byte, escape, quoted}

-- ---- texts of one line

abbrev pub NoLine : List ℕ → Type 0
NoLine [] = ⊤
NoLine (x ∷ xs) = (x ≢ 10) × NoLine xs

abbrev pub clean : List ℕ → Bool
clean [] = true
clean (x ∷ xs) = not (x == 10) && clean xs

pub noline_by : (xs : List ℕ) → clean xs ≡ true → NoLine xs
noline_by [] h = tt
noline_by (x ∷ xs) h =
    let p = and_parts (not (x == 10)) (clean xs) h in
    (λ is. false≢true (sym (not-true (x == 10) p.0) ∙ ap (λ y. y == 10) is), noline_by xs p.1)

pub noline_append : (xs ys : List ℕ) → NoLine xs → NoLine ys → NoLine (xs ++ ys)
noline_append [] ys a b = b
noline_append (x ∷ xs) ys a b = (a.0, noline_append xs ys a.1 b)

abbrev first : List ℕ → ℕ
first [] = 0
first (x ∷ xs) = x

abbrev rest : List ℕ → List ℕ
rest [] = []
rest (x ∷ xs) = xs

-- a line ends where the next one begins
pub cut : (a b x y : List ℕ) → NoLine a → NoLine b → a ++ 10 ∷ x ≡ b ++ 10 ∷ y → (a ≡ b) × (x ≡ y)
cut [] [] x y p q h = (refl, ap rest h)
cut [] (b ∷ vs) x y p q h = absurd (q.0 (sym (ap first h)))
cut (a ∷ us) [] x y p q h = absurd (p.0 (ap first h))
cut (a ∷ us) (b ∷ vs) x y p q h = let r = cut us vs x y p.1 q.1 (ap rest h) in (ap₂ (λ u w. u ∷ w) (ap first h) r.0, r.1)

-- ---- strings and numbers

pub digits_noline : (ds : List ℕ) → AllDigits 10 ds → NoLine ds
digits_noline [] h = tt
digits_noline (c ∷ cs) h = (λ is. let low : digit_value c < 10 = h.0 in let large : digit_value c ≡ 36 = ap digit_value is in omega (arith, low, large), digits_noline cs h.1)

letter_other : (x : ℕ) → escape_letter x ≢ 10
letter_other x = cases ((x == 34) || (x == 92)) refl (x == 8) (x == 12) (x == 10) (x == 13) (x == 9)
  where
    cases : (a : Bool) → ((x == 34) || (x == 92)) ≡ a → (b c d e f : Bool) → cond a x (cond b 98 (cond c 102 (cond d 110 (cond e 114 (cond f 116 0))))) ≢ 10
    cases true q b c d e f is = false≢true (sym (ap (λ y. (y == 34) || (y == 92)) is) ∙ q)
    cases false q true c d e f is = omega arith
    cases false q false true d e f is = omega arith
    cases false q false false true e f is = omega arith
    cases false q false false false true f is = omega arith
    cases false q false false false false true is = omega arith
    cases false q false false false false false is = omega arith

char_other : (d : ℕ) → digit_char d ≢ 10
char_other d = cases (nat_lt d 10)
  where
    cases : (b : Bool) → cond b (48 + d) (87 + d) ≢ 10
    cases true is = omega arith
    cases false is = omega arith

byte_noline : (x : ℕ) → NoLine (escape_byte x)
unfolding escape_byte
byte_noline x = cases (nat_lt 0 (escape_letter x)) (nat_lt x 32) refl
  where
    cases : (a b : Bool) → nat_lt x 32 ≡ b → NoLine (cond a (92 ∷ escape_letter x ∷ []) (cond b (92 ∷ 117 ∷ 48 ∷ 48 ∷ digit_char (x / 16) ∷ digit_char (x % 16) ∷ []) (x ∷ [])))
    cases true b q = ((λ is. omega arith), (letter_other x, tt))
    cases false true q = noline_append (92 ∷ 117 ∷ 48 ∷ 48 ∷ []) (digit_char (x / 16) ∷ digit_char (x % 16) ∷ []) (noline_by (92 ∷ 117 ∷ 48 ∷ 48 ∷ []) refl) (char_other (x / 16), (char_other (x % 16), tt))
    cases false false q = ((λ is. false≢true (sym q ∙ ap (λ y. nat_lt y 32) is)), tt)

escape_noline : (s : List ℕ) → NoLine (escape s)
escape_noline [] = tt
escape_noline (x ∷ xs) = noline_append (escape_byte x) (escape xs) (byte_noline x) (escape_noline xs)

pub quoted_noline : (s : List ℕ) → NoLine (quoted s)
quoted_noline s = ((λ is. omega arith), noline_append (escape s) (34 ∷ []) (escape_noline s) (noline_by (34 ∷ []) refl))

-- ---- where the first line break stands

before_break : (body rest : List ℕ) → NoLine body → prefix_len (λ b. not (b == 10)) (body ++ 10 ∷ rest) ≡ length body
before_break [] rest h = refl
before_break (x ∷ xs) rest h = let ih = before_break xs rest h.1 in ap (λ t. cond (not t) (1 + prefix_len (λ b. not (b == 10)) (xs ++ 10 ∷ rest)) 0) (ne_eqb x 10 h.0) ∙ omega arith

pub break_at : (body rest : List ℕ) → NoLine body → position (λ b. b == 10) (body ++ 10 ∷ rest) ≡ Some (length body)
break_at body rest h =
    let p = before_break body rest h in
    let l : length (body ++ 10 ∷ rest) ≡ length body + suc (length rest) = length-append body (10 ∷ rest) in
    ap₂ (λ k b. cond b (Some k) None) p (ap (λ k. nat_lt k (length (body ++ 10 ∷ rest))) p ∙ lt-ltb _ _ (omega arith))
