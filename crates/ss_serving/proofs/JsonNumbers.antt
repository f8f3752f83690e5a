-- Times and numbers as numbers of JSON, which are ASCII.
use Rattle.std.proofs.Common.{◌≡◌, ℕ, ℤ, pos, negsuc, zero, suc, ◌+◌, ◌/◌, ◌%◌, ◌^◌, ◌<◌, ◌≤◌, true, false, cond, ◌==◌}
use Rattle.std.proofs.Common.{List, [], ◌∷◌, ◌++◌, length, drop, get_or, Some, option_and_then, decimal, refl, ap, ◌∙◌}
use Rattle.std.proofs.Common.{arith, IsUtf8, ne_eqb}
use Rattle.std.proofs.lemmas.Bool.{and_parts}
use Rattle.std.proofs.lemmas.Fmt.{decimal_digit, first_decimal}
use Rattle.std.proofs.lemmas.Str.{IsUtf8-append}
use Rattle.std.specs.Fmt.{signed_decimal}
use lib.Signed.{mag}
use Rattle.std.specs.List.{list_all, prefix_len}
use Rattle.std.specs.Char.{is_ascii_digit}
use Rattle.json.specs.Word.{head, after_whole, after_fraction, after_exponent, after_number}
use Rattle.json.specs.Print.{IsNumber}
use Rattle.json.proofs.Printed.Utf8.{IsUtf8-are_ascii}
use Rattle.ss_text.specs.Time.{stamp_text, two_digits, last_stamp}
use Rattle.ss_text.proofs.StampTexts.{two_are_digits, decimal_is_utf8, decimal_digits}

pub signed_is_utf8 : (z : ℤ) → mag z < 2 ^ 63 → IsUtf8 (signed_decimal z)
signed_is_utf8 (pos n) h = decimal_is_utf8 n (omega arith)
signed_is_utf8 (negsuc n) h = IsUtf8-append (45 ∷ []) (decimal (suc n)) (IsUtf8-are_ascii (45 ∷ []) refl) (decimal_is_utf8 (suc n) (omega arith))

-- ---- a time is a number

prefix_all : (xs ys : List ℕ) → list_all is_ascii_digit xs ≡ true → prefix_len is_ascii_digit (xs ++ ys) ≡ length xs + prefix_len is_ascii_digit ys
prefix_all [] ys h = omega arith
prefix_all (x ∷ xs) ys h =
    let parts = and_parts (is_ascii_digit x) (list_all is_ascii_digit xs) h in
    ap (λ b. cond b (1 + prefix_len is_ascii_digit (xs ++ ys)) 0) parts.0 ∙ omega (arith, prefix_all xs ys parts.1)

drop_front : (xs ys : List ℕ) → drop (length xs) (xs ++ ys) ≡ ys
drop_front [] ys = refl
drop_front (x ∷ xs) ys = drop_front xs ys

-- digits, the first of them not 0, before a point
whole_front : (ds rest : List ℕ) → 48 < get_or ds 0 0 → list_all is_ascii_digit ds ≡ true → (after_whole (ds ++ 46 ∷ rest) ≡ Some (46 ∷ rest)) × ((head (ds ++ 46 ∷ rest) == 45) ≡ false)
whole_front [] rest first all = absurd (omega arith)
whole_front (d ∷ ds) rest first all =
    let count : prefix_len is_ascii_digit (d ∷ (ds ++ 46 ∷ rest)) ≡ length (d ∷ ds) = omega (arith, prefix_all (d ∷ ds) (46 ∷ rest) all) in
    (rw (ne_eqb d 48 (λ e. omega arith), count, ne_eqb (length (d ∷ ds)) 0 (λ e. omega arith)) (ap Some (drop_front (d ∷ ds) (46 ∷ rest))), ne_eqb d 45 (λ e. omega arith))

whole_seconds : (n : ℕ) (rest : List ℕ) → n < 2 ^ 64 → (after_whole (decimal n ++ 46 ∷ rest) ≡ Some (46 ∷ rest)) × ((head (decimal n ++ 46 ∷ rest) == 45) ≡ false)
whole_seconds zero rest h = let e = decimal_digit 0 (omega arith) in (ap (λ l. after_whole (l ++ 46 ∷ rest)) e, ap (λ l. head (l ++ 46 ∷ rest) == 45) e)
whole_seconds (suc n) rest h = whole_front (decimal (suc n)) rest (first_decimal (suc n) (omega arith) h) (decimal_digits (suc n) h)

fraction_ends : (a b : ℕ) → list_all is_ascii_digit (a ∷ b ∷ []) ≡ true → option_and_then after_exponent (after_fraction (46 ∷ a ∷ b ∷ [])) ≡ Some []
fraction_ends a b h =
    let count : prefix_len is_ascii_digit (a ∷ b ∷ []) ≡ 2 = prefix_all (a ∷ b ∷ []) [] h in
    rw count refl

pub IsNumber-stamp : (time : ℕ) → time ≤ last_stamp → IsNumber (stamp_text time)
unfolding stamp_text after_number
IsNumber-stamp time h =
    let rest = two_digits (time % 100) in
    let w = whole_seconds (time / 100) rest (omega arith) in
    ap (λ b. option_and_then after_exponent (option_and_then after_fraction (after_whole (cond b (drop 1 (decimal (time / 100) ++ 46 ∷ rest)) (decimal (time / 100) ++ 46 ∷ rest))))) w.1
    ∙ ap (λ o. option_and_then after_exponent (option_and_then after_fraction o)) w.0
    ∙ fraction_ends (48 + time % 100 / 10) (48 + time % 100 % 10) (two_are_digits (time % 100) (omega arith))
