-- No line break stands inside a line of compact JSON.
use Rattle.std.proofs.Common.{◌≡◌, ◌≢◌, ℕ, suc, ◌+◌, ◌/◌, ◌%◌, ◌<◌, ◌^◌, ◌==◌, ◌&&◌, ◌||◌, nat_lt, pos, negsuc, Bool}
use Rattle.std.proofs.Common.{true, false, not, cond, List, [], ◌∷◌, ◌++◌, decimal, refl, sym, ap, ap₂, ◌∙◌, arith}
use Rattle.std.specs.Bool.{⊤}
use Rattle.std.proofs.lemmas.Bool.{and_parts, false≢true, not-true}
use Rattle.std.proofs.lemmas.Fmt.{decimal_is_IsNumeral}
use Rattle.std.specs.Char.{digit_char, digit_value}
use Rattle.std.specs.Str.Parse.{AllDigits}
use Rattle.json.specs.Print.{escape_letter, escape_byte, escape, quoted}
use Rattle.serde_json.specs.Data.{Num, unsigned, negative, float, Data, null, boolean, number, string, array, object}
use Rattle.serde_json.specs.Data.{Items, no_items, item, Members, no_members, member}
use Rattle.serde_json.specs.Written.{number_text, comma_if, compact_text, items_text, members_text}
use Rattle.ss_record.specs.Marks.{is_plain_number, is_plain, items_plain, members_plain}
use Rattle.ss_record.proofs.Sorted.{plain_below, no_positive, negative_below}

-- ---- texts of one line

abbrev pub NoLine : List ℕ → Type 0
NoLine [] = ⊤
NoLine (x ∷ xs) = (x ≢ 10) × NoLine xs

abbrev pub clean : List ℕ → Bool
clean [] = true
clean (x ∷ xs) = not (x == 10) && clean xs

pub noline_by : (xs : List ℕ) → clean xs ≡ true → NoLine xs
noline_by [] h = tt
noline_by (x ∷ xs) h =
    let p = and_parts (not (x == 10)) (clean xs) h in
    (λ is. false≢true (sym (not-true (x == 10) p.0) ∙ ap (λ y. y == 10) is), noline_by xs p.1)

pub noline_append : (xs ys : List ℕ) → NoLine xs → NoLine ys → NoLine (xs ++ ys)
noline_append [] ys a b = b
noline_append (x ∷ xs) ys a b = (a.0, noline_append xs ys a.1 b)

abbrev first : List ℕ → ℕ
first [] = 0
first (x ∷ xs) = x

abbrev rest : List ℕ → List ℕ
rest [] = []
rest (x ∷ xs) = xs

-- a line ends where the next one begins
pub cut : (a b x y : List ℕ) → NoLine a → NoLine b → a ++ 10 ∷ x ≡ b ++ 10 ∷ y → (a ≡ b) × (x ≡ y)
cut [] [] x y p q h = (refl, ap rest h)
cut [] (b ∷ vs) x y p q h = absurd (q.0 (sym (ap first h)))
cut (a ∷ us) [] x y p q h = absurd (p.0 (ap first h))
cut (a ∷ us) (b ∷ vs) x y p q h = let r = cut us vs x y p.1 q.1 (ap rest h) in (ap₂ (λ u w. u ∷ w) (ap first h) r.0, r.1)

-- ---- compact JSON is one line

pub digits_noline : (ds : List ℕ) → AllDigits 10 ds → NoLine ds
digits_noline [] h = tt
digits_noline (c ∷ cs) h = (λ is. let low : digit_value c < 10 = h.0 in let large : digit_value c ≡ 36 = ap digit_value is in omega (arith, low, large), digits_noline cs h.1)

pub number_noline : (n : Num) → is_plain_number n ≡ true → NoLine (number_text n)
unfolding is_plain_number
number_noline (unsigned n) h = let lt : n < 10 ^ 18 = plain_below n h in digits_noline (decimal n) (decimal_is_IsNumeral n (omega arith)).0.1
number_noline (negative (pos n)) h = absurd (no_positive n h)
number_noline (negative (negsuc n)) h = let lt : suc n < 10 ^ 18 = negative_below n h in ((λ is. omega arith), digits_noline (decimal (suc n)) (decimal_is_IsNumeral (suc n) (omega arith)).0.1)
number_noline (float x) h = absurd (false≢true h)

pub letter_other : (x : ℕ) → escape_letter x ≢ 10
letter_other x = cases ((x == 34) || (x == 92)) refl (x == 8) (x == 12) (x == 10) (x == 13) (x == 9)
  where
    cases : (a : Bool) → ((x == 34) || (x == 92)) ≡ a → (b c d e f : Bool) → cond a x (cond b 98 (cond c 102 (cond d 110 (cond e 114 (cond f 116 0))))) ≢ 10
    cases true q b c d e f is = false≢true (sym (ap (λ y. (y == 34) || (y == 92)) is) ∙ q)
    cases false q true c d e f is = omega arith
    cases false q false true d e f is = omega arith
    cases false q false false true e f is = omega arith
    cases false q false false false true f is = omega arith
    cases false q false false false false true is = omega arith
    cases false q false false false false false is = omega arith

pub char_other : (d : ℕ) → digit_char d ≢ 10
char_other d = cases (nat_lt d 10)
  where
    cases : (b : Bool) → cond b (48 + d) (87 + d) ≢ 10
    cases true is = omega arith
    cases false is = omega arith

pub byte_noline : (x : ℕ) → NoLine (escape_byte x)
unfolding escape_byte
byte_noline x = cases (nat_lt 0 (escape_letter x)) (nat_lt x 32) refl
  where
    cases : (a b : Bool) → nat_lt x 32 ≡ b → NoLine (cond a (92 ∷ escape_letter x ∷ []) (cond b (92 ∷ 117 ∷ 48 ∷ 48 ∷ digit_char (x / 16) ∷ digit_char (x % 16) ∷ []) (x ∷ [])))
    cases true b q = ((λ is. omega arith), (letter_other x, tt))
    cases false true q = noline_append (92 ∷ 117 ∷ 48 ∷ 48 ∷ []) (digit_char (x / 16) ∷ digit_char (x % 16) ∷ []) (noline_by (92 ∷ 117 ∷ 48 ∷ 48 ∷ []) refl) (char_other (x / 16), (char_other (x % 16), tt))
    cases false false q = ((λ is. false≢true (sym q ∙ ap (λ y. nat_lt y 32) is)), tt)

pub escape_noline : (s : List ℕ) → NoLine (escape s)
escape_noline [] = tt
escape_noline (x ∷ xs) = noline_append (escape_byte x) (escape xs) (byte_noline x) (escape_noline xs)

pub quoted_noline : (s : List ℕ) → NoLine (quoted s)
quoted_noline s = ((λ is. omega arith), noline_append (escape s) (34 ∷ []) (escape_noline s) (noline_by (34 ∷ []) refl))

pub comma_noline : (later : Bool) → NoLine (comma_if later)
comma_noline true = noline_by (44 ∷ []) refl
comma_noline false = tt

mutual
  pub value_noline : (d : Data) → is_plain d ≡ true → NoLine (compact_text d)
  value_noline null h = noline_by (compact_text null) refl
  value_noline (boolean true) h = noline_by (compact_text (boolean true)) refl
  value_noline (boolean false) h = noline_by (compact_text (boolean false)) refl
  value_noline (number n) h = number_noline n h
  value_noline (string s) h = quoted_noline s
  value_noline (array ds) h = ((λ is. omega arith), items_noline false ds h)
  value_noline (object ms) h = ((λ is. omega arith), members_noline false ms h)

  pub items_noline : (later : Bool) (ds : Items) → items_plain ds ≡ true → NoLine (items_text later ds)
  items_noline later no_items h = noline_by (93 ∷ []) refl
  items_noline later (item d ds) h =
      let p = and_parts (is_plain d) (items_plain ds) h in
      noline_append (comma_if later) (compact_text d ++ items_text true ds) (comma_noline later) (noline_append (compact_text d) (items_text true ds) (value_noline d p.0) (items_noline true ds p.1))

  pub members_noline : (later : Bool) (ms : Members) → members_plain ms ≡ true → NoLine (members_text later ms)
  members_noline later no_members h = noline_by (125 ∷ []) refl
  members_noline later (member k d ms) h =
      let q = and_parts _ (is_plain d && members_plain ms) h in
      let p = and_parts (is_plain d) (members_plain ms) q.1 in
      noline_append (comma_if later) (quoted k ++ 58 ∷ (compact_text d ++ members_text true ms)) (comma_noline later)
      (noline_append (quoted k) (58 ∷ (compact_text d ++ members_text true ms)) (quoted_noline k)
      ((λ is. omega arith), noline_append (compact_text d) (members_text true ms) (value_noline d p.0) (members_noline true ms p.1)))
