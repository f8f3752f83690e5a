-- A number that is not to be wrapped is a whole one.
use Rattle.std.proofs.Common.{◌≡◌, ℕ, zero, suc, ◌+◌, ◌*◌, ◌^◌, ◌<◌, ◌≤◌, ◌≢◌, List, [], ◌∷◌, ◌++◌, length, filter}
use Rattle.std.proofs.Common.{get_or, drop, Bool, true, false, cond, ◌&&◌, ◌||◌, ◌==◌, leb, ltb, codes, Option, Some}
use Rattle.std.proofs.Common.{None, is_some, bytes_eq, option_and_then, refl, sym, ap, ap₂, ◌∙◌, subst, arith, lit<}
use Rattle.std.proofs.Common.{inl, inr, ◌⊎◌, append-nil, lt-ltb, le-leb, ne_eqb}
use Rattle.std.proofs.lemmas.Bool.{true≢false, false≢true, and_parts, or_parts, leb-true, eqb-true, cases_eq, ltb-false}
use Rattle.std.proofs.lemmas.List.{length-drop, nil_from_length}
use Rattle.std.proofs.lemmas.List.Sums.{length-filter, prefix_len-le-length}
use Rattle.std.proofs.lemmas.Str.{digit_value_digit}
use Rattle.std.proofs.lemmas.Str.Parse.{digit_from_value}
use Rattle.std.proofs.lemmas.Int.Digits.{digits_value-lt}
use Rattle.std.proofs.Math.Nat.{pow-le-pow_right}
use Rattle.std.specs.List.{prefix_len, list_any, list_all, count_by}
use Rattle.std.specs.Char.{is_ascii_digit, digit_value}
use Rattle.std.specs.Fmt.{sign_text}
use Rattle.std.specs.Str.Parse.{AllDigits, digits_value, digits_value_after}
use Rattle.fast_float.specs.Text.{Parts, text_of, IsWellFormed}
use Rattle.fast_float.proofs.Writing.{scan-text_of}
use Rattle.json.specs.Word.{head, after_digits, after_whole, after_fraction, after_exponent, after_number, after_sign}
use Rattle.json.specs.Print.{IsNumber}
use Rattle.serde_json.specs.Data.{Num, unsigned, negative}
use Rattle.fast_float.specs.Text.{with_sign}
use Rattle.serde_json.specs.Read.{number_of, number_from}
use Rattle.serde_json.specs.Find.{is_float}
use Rattle.ss_text.specs.Decimals.{is_point, is_all, is_decimal}
use Rattle.ss_text.proofs.Basics.{some_same}

-- ---- a sign and digits are read as a whole number

no_minus : (ds rest : List ℕ) → AllDigits 10 ds → 0 < length ds → get_or (ds ++ rest) 0 0 ≡ 45 → ⊥
no_minus [] rest h some e = omega arith
no_minus (d ∷ ds) rest h some e = let digit : digit_value d < 10 = h.0 in let is : d ≡ 45 = e in grind arith

number_of-text_of : (sign : Bool) (p : Parts) → IsWellFormed p → 0 < length p.whole → number_of (sign_text sign ++ text_of p) ≡ number_from sign p
unfolding number_of
number_of-text_of true p h some = ap (number_from true) (scan-text_of p h)
number_of-text_of false p h some = rw (ne_eqb (get_or (text_of p) 0 0) 45 (no_minus p.whole _ h.whole_digits some)) (ap (number_from false) (scan-text_of p h))

abbrev digits : List ℕ → Parts
digits ds = record { whole = ds; point = false; fraction = []; exponent_negative = false; exponent = []; len = length (ds ++ []) }

module _ (m : List ℕ) (all : AllDigits 10 m) (some : 0 < length m) (few : length m ≤ 18) where
  formed : IsWellFormed (digits m)
  formed = record { whole_digits = all; fraction_digits = tt; exponent_digits = tt; no_point = λ _. refl; no_exponent = λ _. refl; len_is = refl }

  value_small : digits_value 10 (m ++ []) < 10 ^ 18
  value_small =
      let below = digits_value-lt 10 m all in
      let power : 10 ^ length m ≤ 10 ^ 18 = pow-le-pow_right (lit< tt) few in
      let same = ap (digits_value 10) (append-nil m) in
      omega (arith, below, power, same)

  read_as : (sign : Bool) → number_of (sign_text sign ++ m) ≡ number_from sign (digits m)
  read_as sign = ap (λ t. number_of (sign_text sign ++ t)) (sym (append-nil m)) ∙ number_of-text_of sign (digits m) formed some

  whole_positive : (n : Num) → number_of (sign_text false ++ m) ≡ Some n → is_float n ≡ false
  whole_positive n e =
      let small : digits_value 10 (m ++ []) < 2 ^ 64 = omega (arith, value_small) in
      let whole : number_from false (digits m) ≡ Some (unsigned (digits_value 10 (m ++ []))) = rw (lt-ltb 0 (length m) some, lt-ltb _ _ small) refl in
      ap is_float (some_same (sym e ∙ read_as false ∙ whole))

  whole_negative : 0 < digits_value 10 m → (n : Num) → number_of (sign_text true ++ m) ≡ Some n → is_float n ≡ false
  whole_negative positive n e =
      let v = digits_value 10 (m ++ []) in
      let small : v ≤ 2 ^ 63 = omega (arith, value_small) in
      let some_value : 0 < v = omega (arith, positive, ap (digits_value 10) (append-nil m)) in
      let whole : number_from true (digits m) ≡ Some (negative (with_sign true v)) = rw (lt-ltb 0 (length m) some, lt-ltb 0 v some_value, le-leb v (2 ^ 63) small) refl in
      ap is_float (some_same (sym e ∙ read_as true ∙ whole))

-- ---- the shape of a number without marks

none_in_drop : (k : ℕ) (m : List ℕ) → list_any is_point m ≡ false → list_any is_point (drop k m) ≡ false
none_in_drop zero m h = h
none_in_drop (suc k) [] h = h
none_in_drop (suc k) (x ∷ m) h = none_in_drop k m (or_parts (is_point x) (list_any is_point m) h).1

unmarked_head : (t : List ℕ) → list_any is_point t ≡ false → is_point (head t) ≡ false
unmarked_head [] h = refl
unmarked_head (x ∷ t) h = (or_parts (is_point x) (list_any is_point t) h).0

no_fraction : (t : List ℕ) → list_any is_point t ≡ false → after_fraction t ≡ Some t
no_fraction t h =
    let parts = or_parts (head t == 46 || head t == 101) (head t == 69) (unmarked_head t h) in
    ap (λ b. cond b (after_digits (drop 1 t)) (Some t)) (or_parts (head t == 46) (head t == 101) parts.0).0

no_exponent : (t : List ℕ) → list_any is_point t ≡ false → after_exponent t ≡ Some t
no_exponent t h =
    let parts = or_parts (head t == 46 || head t == 101) (head t == 69) (unmarked_head t h) in
    let first = (or_parts (head t == 46) (head t == 101) parts.0).1 in
    ap₂ (λ a b. cond (a || b) (after_digits (after_sign (drop 1 t))) (Some t)) first parts.1

abbrev unmarked_or_none : Option (List ℕ) → Type 0
unmarked_or_none None = Unit {0}
unmarked_or_none (Some t) = list_any is_point t ≡ false

whole_left : (m : List ℕ) → list_any is_point m ≡ false → unmarked_or_none (after_whole m)
whole_left m h =
    either (head m == 48) (Some (drop 1 m)) (after_digits m) (none_in_drop 1 m h)
    (either (prefix_len is_ascii_digit m == 0) None (Some (drop (prefix_len is_ascii_digit m) m)) tt (none_in_drop (prefix_len is_ascii_digit m) m h))
  where
    either : (b : Bool) (o p : Option (List ℕ)) → unmarked_or_none o → unmarked_or_none p → unmarked_or_none (cond b o p)
    either true o p h k = h
    either false o p h k = k

whole_is_all : (o : Option (List ℕ)) → unmarked_or_none o → option_and_then after_exponent (option_and_then after_fraction o) ≡ Some [] → o ≡ Some []
whole_is_all None h e = e
whole_is_all (Some t) h e = sym (ap (option_and_then after_exponent) (no_fraction t h) ∙ no_exponent t h) ∙ e

record Digits (m : List ℕ) : Type 0 where
  all : AllDigits 10 m
  some : 0 < length m
  counted : count_by is_ascii_digit m ≡ length m
  zero_alone : get_or m 0 0 ≡ 48 → length m ≡ 1

head_is : (t : List ℕ) (c : ℕ) → c ≢ 32 → head t ≡ c → t ≡ c ∷ drop 1 t
head_is [] c other e = absurd (other (sym e))
head_is (x ∷ t) c other e = ap (λ y. y ∷ t) e

Digits-zero : Digits (48 ∷ [])
Digits-zero = record { all = (lit< tt, tt); some = lit< tt; counted = refl; zero_alone = λ _. refl }

front_step : (b : Bool) (x : ℕ) (m : List ℕ) → is_ascii_digit x ≡ b → suc (length m) ≤ prefix_len is_ascii_digit (x ∷ m) → (length m ≤ prefix_len is_ascii_digit m → list_all is_ascii_digit m ≡ true)
    → list_all is_ascii_digit (x ∷ m) ≡ true
front_step true x m e h ih = let n = ap (λ b. cond b (1 + prefix_len is_ascii_digit m) 0) e in ap₂ (λ a b. a && b) e (ih (omega (arith, n)))
front_step false x m e h ih = let n = ap (λ b. cond b (1 + prefix_len is_ascii_digit m) 0) e in let never : ⊥ = omega (arith, n) in absurd never

all_front : (m : List ℕ) → length m ≤ prefix_len is_ascii_digit m → list_all is_ascii_digit m ≡ true
all_front [] h = refl
all_front (x ∷ m) h = front_step (is_ascii_digit x) x m refl h (λ k. all_front m k)

digit_is : (c : ℕ) → is_ascii_digit c ≡ true → digit_value c + 48 ≡ c
digit_is c e = let parts = and_parts (leb 48 c) (leb c 57) e in digit_value_digit c (leb-true 48 c parts.0, leb-true c 57 parts.1)

digits_all : (m : List ℕ) → list_all is_ascii_digit m ≡ true → AllDigits 10 m
digits_all [] h = tt
digits_all (x ∷ m) h =
    let parts = and_parts (is_ascii_digit x) (list_all is_ascii_digit m) h in
    let high = leb-true x 57 (and_parts (leb 48 x) (leb x 57) parts.0).1 in
    let e = digit_is x parts.0 in
    (omega arith, digits_all m parts.1)

filter_all : (m : List ℕ) → list_all is_ascii_digit m ≡ true → filter is_ascii_digit m ≡ m
filter_all [] h = refl
filter_all (x ∷ m) h =
    let parts = and_parts (is_ascii_digit x) (list_all is_ascii_digit m) h in
    ap₂ (λ b l. cond b (x ∷ l) l) parts.0 (filter_all m parts.1)

first_same : (m : List ℕ) → 0 < length m → get_or m 0 0 ≡ head m
first_same [] h = let never : ⊥ = omega arith in absurd never
first_same (x ∷ m) h = refl

Digits-run : (m : List ℕ) (n : ℕ) → prefix_len is_ascii_digit m ≡ n → n ≢ 0 → drop n m ≡ [] → (head m == 48) ≡ false → Digits m
Digits-run m n e some_left rest other =
    let long : length m ≤ n = omega (arith, ap length rest, length-drop n m) in
    let whole = all_front m (omega arith) in
    let some : 0 < length m = omega (arith, prefix_len-le-length is_ascii_digit m) in
    record {
      all = digits_all m whole;
      some = some;
      counted = sym (length-filter is_ascii_digit m) ∙ ap length (filter_all m whole);
      zero_alone = λ z. absurd (true≢false (sym (ap (λ c. c == 48) (sym (first_same m some) ∙ z)) ∙ other));
    }

digits_from : (m : List ℕ) → after_whole m ≡ Some [] → Digits m
digits_from m e = at (head m == 48) refl e
  where
    run : (b : Bool) → (prefix_len is_ascii_digit m == 0) ≡ b → (head m == 48) ≡ false → cond b None (Some (drop (prefix_len is_ascii_digit m) m)) ≡ Some [] → Digits m
    run true z other e = absurd (let f : Option (List ℕ) → Bool = λ o. is_some o in false≢true (ap f e))
    run false z other e = Digits-run m (prefix_len is_ascii_digit m) refl (λ n. true≢false (sym (ap (λ k. k == 0) n) ∙ z)) (some_same e) other

    at : (b : Bool) → (head m == 48) ≡ b → cond b (Some (drop 1 m)) (after_digits m) ≡ Some [] → Digits m
    at true z e = subst Digits (sym (head_is m 48 (λ k. let never : ⊥ = omega arith in never) (eqb-true (head m) 48 z) ∙ ap (λ t. 48 ∷ t) (some_same e))) Digits-zero
    at false z e = run (prefix_len is_ascii_digit m == 0) refl z e

value_grows : (n : ℕ) (ds : List ℕ) → n ≤ digits_value_after 10 n ds
value_grows n [] = omega arith
value_grows n (d ∷ ds) = let e = value_grows (n * 10 + digit_value d) ds in omega arith

positive_value : (x : ℕ) (m : List ℕ) → Digits (x ∷ m) → (x ≡ 48 → m ≡ [] → ⊥) → 0 < digits_value 10 (x ∷ m)
positive_value x m d never = at (cases_eq x 48)
  where
    at : (x ≡ 48) ⊎ (x ≡ 48 → ⊥) → 0 < digits_value 10 (x ∷ m)
    at (inl z) = absurd (never z (nil_from_length m (omega (arith, d.zero_alone z))))
    at (inr other) =
        let within = digit_from_value x d.all.0 in
        let value = digit_value_digit x within in
        let grows = value_grows (0 * 10 + digit_value x) m in
        let apart : x ≢ 48 = other in
        omega (arith, within.0)

pub number_is_whole : (s : List ℕ) → IsNumber s → is_decimal s ≡ false → (n : Num) → number_of s ≡ Some n → is_float n ≡ false
unfolding is_decimal after_number
number_is_whole s number kept n reads = at (head s == 45) refl
  where
    wanted : Bool
    wanted = list_any is_point s || ltb 18 (count_by is_ascii_digit s) || bytes_eq s (codes "-0")

    unwanted : (w : Bool) → (w && true) ≡ false → w ≡ false
    unwanted true h = h
    unwanted false h = refl

    not_wanted : (list_any is_point s || ltb 18 (count_by is_ascii_digit s) || bytes_eq s (codes "-0")) ≡ false
    not_wanted = unwanted _ (ap (λ o. (list_any is_point s || ltb 18 (count_by is_ascii_digit s) || bytes_eq s (codes "-0")) && is_all o) (sym number) ∙ kept)

    zero_parts : ((list_any is_point s || ltb 18 (count_by is_ascii_digit s)) ≡ false) × (bytes_eq s (codes "-0") ≡ false)
    zero_parts = or_parts (list_any is_point s || ltb 18 (count_by is_ascii_digit s)) (bytes_eq s (codes "-0")) not_wanted

    first_parts : (list_any is_point s ≡ false) × (ltb 18 (count_by is_ascii_digit s) ≡ false)
    first_parts = or_parts (list_any is_point s) (ltb 18 (count_by is_ascii_digit s)) zero_parts.0

    few : count_by is_ascii_digit s ≤ 18
    few = ltb-false 18 (count_by is_ascii_digit s) first_parts.1

    signed : (m : List ℕ) → s ≡ 45 ∷ m → Digits m → is_float n ≡ false
    signed [] e d = let never : ⊥ = omega (arith, d.some) in absurd never
    signed (x ∷ m) e d =
        let count : length (x ∷ m) ≤ 18 = omega (arith, d.counted, ap (count_by is_ascii_digit) e, few) in
        let positive : 0 < digits_value 10 (x ∷ m) = positive_value x m d (λ z r. true≢false (sym (ap (λ t. bytes_eq t (codes "-0")) (e ∙ ap₂ (λ a b. 45 ∷ a ∷ b) z r)) ∙ zero_parts.1)) in
        whole_negative (x ∷ m) d.all d.some count positive n (ap number_of (sym e) ∙ reads)

    at : (b : Bool) → (head s == 45) ≡ b → is_float n ≡ false
    at true z =
        let e = head_is s 45 (λ k. let never : ⊥ = omega arith in never) (eqb-true (head s) 45 z) in
        let left = sym (ap (λ b. option_and_then after_exponent (option_and_then after_fraction (after_whole (cond b (drop 1 s) s)))) z) ∙ number in
        signed (drop 1 s) e (digits_from (drop 1 s) (whole_is_all (after_whole (drop 1 s)) (whole_left (drop 1 s) (none_in_drop 1 s first_parts.0)) left))
    at false z =
        let left = sym (ap (λ b. option_and_then after_exponent (option_and_then after_fraction (after_whole (cond b (drop 1 s) s)))) z) ∙ number in
        let d = digits_from s (whole_is_all (after_whole s) (whole_left s first_parts.0) left) in
        whole_positive s d.all d.some (omega (arith, d.counted, few)) n reads
