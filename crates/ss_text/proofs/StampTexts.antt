-- Numbers and times as text are ASCII digits, and are read back.
use Rattle.std.proofs.Common.{◌≡◌, ℕ, ◌-◌, ◌<◌, true, ◌&&◌, ap₂, le-leb, List, [], ◌∷◌, refl, ◌^◌, decimal, ◌+◌, ◌/◌}
use Rattle.std.proofs.Common.{◌%◌, arith, Bool, cond, Option, None, ap, ◌∙◌, ◌++◌, false, ◌==◌, leb, Some, ne_eqb, ◌*◌}
use Rattle.std.proofs.Common.{◌≤◌, length, lit<, IsUtf8}
use Rattle.std.proofs.lemmas.Str.Parse.{digit_from_value}
use Rattle.std.specs.Char.{is_ascii_digit, digit_value}
use Rattle.std.specs.List.{list_all}
use Rattle.std.specs.Str.Parse.{AllDigits, digits_value}
use Rattle.std.proofs.lemmas.Fmt.{decimal_is_IsNumeral, decimal_nonempty, length-decimal-le}
use Rattle.ss_text.specs.Time.{two_digits, split_point, stamp_text, hundredths, with_fraction, stamp_of, last_stamp}
use Rattle.std.proofs.lemmas.Bool.{and_parts, leb-true, lt-ltb}
use Rattle.json.proofs.Printed.Utf8.{are_ascii, IsUtf8-are_ascii}
use Rattle.std.proofs.lemmas.Str.{IsUtf8-append}

pub digit_passes : (c : ℕ) → digit_value c < 10 → is_ascii_digit c ≡ true
digit_passes c h = let r = digit_from_value c h in ap₂ (λ a b. a && b) (le-leb 48 c r.0) (le-leb c 57 r.1)

pub all_digits : (ds : List ℕ) → AllDigits 10 ds → list_all is_ascii_digit ds ≡ true
all_digits [] h = refl
all_digits (d ∷ ds) h = ap₂ (λ a b. a && b) (digit_passes d h.0) (all_digits ds h.1)

pub decimal_digits : (n : ℕ) → n < 2 ^ 64 → list_all is_ascii_digit (decimal n) ≡ true
decimal_digits n h = all_digits (decimal n) (decimal_is_IsNumeral n h).0.1

pub two_are_digits : (n : ℕ) → n < 100 → list_all is_ascii_digit (two_digits n) ≡ true
two_are_digits n few =
    let tens : n / 10 < 10 = omega arith in
    let ones : n % 10 < 10 = omega arith in
    let first : is_ascii_digit (48 + n / 10) ≡ true = ap₂ (λ a b. a && b) (le-leb 48 (48 + n / 10) (omega arith)) (le-leb (48 + n / 10) 57 (omega arith)) in
    let second : is_ascii_digit (48 + n % 10) ≡ true = ap₂ (λ a b. a && b) (le-leb 48 (48 + n % 10) (omega arith)) (le-leb (48 + n % 10) 57 (omega arith)) in
    ap₂ (λ a b. a && (b && true)) first second

pub all_three : {A : Type 0} (a b c : Bool) (o : Option A) → a ≡ true → b ≡ true → c ≡ true → cond (a && b && c) o None ≡ o
all_three a b c o p q r = ap₂ (λ x y. cond (x && y && c) o None) p q ∙ ap (λ z. cond z o None) r

pub split_there : (ds rest : List ℕ) → list_all is_ascii_digit ds ≡ true → split_point (ds ++ 46 ∷ rest) ≡ (ds, Some rest)
split_there [] rest h = refl
split_there (d ∷ ds) rest h =
    let parts = and_parts (is_ascii_digit d) (list_all is_ascii_digit ds) h in
    let low = leb-true 48 d (and_parts (leb 48 d) (leb d 57) parts.0).0 in
    let other : (d == 46) ≡ false = ne_eqb d 46 (λ e. omega arith) in
    ap₂ (λ t p. cond t ([], Some (ds ++ 46 ∷ rest)) (d ∷ p.0, p.1)) other (split_there ds rest parts.1)

-- a time as text is read back
pub stamp_again : (s : ℕ) → s ≤ last_stamp → stamp_of (stamp_text s) ≡ Some s
unfolding stamp_of stamp_text
stamp_again s h =
    let few : s / 100 < 10 ^ 10 = omega arith in
    let wide : s / 100 < 2 ^ 64 = omega arith in
    let seconds = decimal (s / 100) in
    let last = s % 100 in
    let sum : 100 * (s / 100) + (10 * ((48 + last / 10) - 48) + ((48 + last % 10) - 48)) ≡ s = omega arith in
    ap (λ p. cond (leb 1 (length p.0) && leb (length p.0) 10 && list_all is_ascii_digit p.0) (with_fraction (digits_value 10 p.0) p.1) None)
    (split_there seconds (two_digits last) (decimal_digits (s / 100) wide))
    ∙ all_three _ _ _ (with_fraction (digits_value 10 seconds) (Some (two_digits last)))
    (le-leb 1 _ (decimal_nonempty (s / 100) wide)) (le-leb _ 10 (length-decimal-le 10 (s / 100) (lit< tt) few wide)) (decimal_digits (s / 100) wide)
    ∙ ap (λ b. cond b (Some (100 * digits_value 10 seconds + hundredths (two_digits last))) None) (two_are_digits last (omega arith))
    ∙ ap Some (ap (λ v. 100 * v + hundredths (two_digits last)) (decimal_is_IsNumeral (s / 100) wide).1 ∙ sum)

pub digits_are_ascii : (xs : List ℕ) → list_all is_ascii_digit xs ≡ true → are_ascii xs ≡ true
digits_are_ascii [] h = refl
digits_are_ascii (x ∷ xs) h =
    let parts = and_parts (is_ascii_digit x) (list_all is_ascii_digit xs) h in
    let high : x ≤ 57 = leb-true x 57 (and_parts (leb 48 x) (leb x 57) parts.0).1 in
    ap₂ (λ a b. a && b) (lt-ltb x 128 (omega arith)) (digits_are_ascii xs parts.1)

pub digits_are_utf8 : (xs : List ℕ) → list_all is_ascii_digit xs ≡ true → IsUtf8 xs
digits_are_utf8 xs h = IsUtf8-are_ascii xs (digits_are_ascii xs h)

pub decimal_is_utf8 : (n : ℕ) → n < 2 ^ 64 → IsUtf8 (decimal n)
decimal_is_utf8 n h = digits_are_utf8 (decimal n) (decimal_digits n h)

pub stamp_is_utf8 : (time : ℕ) → time ≤ last_stamp → IsUtf8 (stamp_text time)
unfolding stamp_text
stamp_is_utf8 time h =
    IsUtf8-append (decimal (time / 100)) (46 ∷ two_digits (time % 100)) (decimal_is_utf8 (time / 100) (omega arith))
    (IsUtf8-append (46 ∷ []) (two_digits (time % 100)) (IsUtf8-are_ascii (46 ∷ []) refl) (digits_are_utf8 (two_digits (time % 100)) (two_are_digits (time % 100) (omega arith))))
