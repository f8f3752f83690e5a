-- A whole number of at most 18 digits is written as one that stays.
use Rattle.std.proofs.Common.{◌≡◌, ◌≢◌, ℕ, suc, ◌^◌, ◌<◌, ◌≤◌, pos, negsuc, List, [], ◌∷◌, length, get_or, Bool, true}
use Rattle.std.proofs.Common.{false, ◌&&◌, ◌||◌, ◌==◌, nat_lt, refl, ap, ap₂, arith, bytes_eq, decimal, count_by}
use Rattle.std.specs.List.{list_any}
use Rattle.std.specs.Char.{is_ascii_digit}
use Rattle.std.proofs.lemmas.Bool.{false≢true, ne_eqb, le-ltb}
use Rattle.std.proofs.lemmas.Fmt.{length-decimal-le, decimal_is_IsNumeral, first_decimal}
use Rattle.std.proofs.lemmas.Str.Parse.{digit_at}
use Rattle.std.proofs.lemmas.List.Sums.{count_by-le-length}
use Rattle.json.specs.Word.{after_number}
use Rattle.serde_json.specs.Data.{Num, unsigned, negative, float}
use Rattle.serde_json.specs.Written.{number_text}
use Rattle.ss_text.specs.Decimals.{is_inexact, is_decimal, is_all}
use Rattle.ss_record.specs.Marks.{is_plain_number}
use Rattle.ss_record.proofs.Sorted.{plain_below, negative_below, no_positive}

none_of : (p : ℕ → Bool) (xs : List ℕ) → ((i : ℕ) → i < length xs → p (get_or xs i 0) ≡ false) → list_any p xs ≡ false
none_of p [] h = refl
none_of p (x ∷ xs) h = ap₂ (λ a b. a || b) (h 0 (omega arith)) (none_of p xs (λ i l. h (suc i) (omega arith)))

digits_of_decimal : (n : ℕ) → n < 2 ^ 64 → (i : ℕ) → i < length (decimal n) → (48 ≤ get_or (decimal n) i 0) × (get_or (decimal n) i 0 ≤ 57)
digits_of_decimal n h i l = digit_at _ i (decimal_is_IsNumeral n h).0.1 l

no_point : (c : ℕ) → 48 ≤ c → c ≤ 57 → ((c == 46) || (c == 101) || (c == 69)) ≡ false
no_point c low high = rw (ne_eqb c 46 (λ e. omega arith), ne_eqb c 101 (λ e. omega arith), ne_eqb c 69 (λ e. omega arith))

few_digits : (n : ℕ) → n < 10 ^ 18 → nat_lt 18 (count_by is_ascii_digit (decimal n)) ≡ false
few_digits n h =
    let l : length (decimal n) ≤ 18 = length-decimal-le 18 n (omega arith) h (omega arith) in
    let c : count_by is_ascii_digit (decimal n) ≤ length (decimal n) = count_by-le-length is_ascii_digit (decimal n) in
    le-ltb 18 (count_by is_ascii_digit (decimal n)) (omega arith)

other_first : (c : ℕ) (xs ys : List ℕ) → ((i : ℕ) → i < length xs → get_or xs i 0 ≢ c) → bytes_eq xs (c ∷ ys) ≡ false
other_first c [] ys h = refl
other_first c (x ∷ xs) ys h = ap (λ b. b && bytes_eq xs ys) (ne_eqb x c (h 0 (omega arith)))

unmarked_decimal : (n : ℕ) → n < 10 ^ 18 → is_inexact (decimal n) ≡ false
unmarked_decimal n h =
    let ds = digits_of_decimal n (omega arith) in
    ap₂ (λ a b. a || b)
    (ap₂ (λ a b. a || b) (none_of (λ c. (c == 46) || (c == 101) || (c == 69)) (decimal n) (λ i l. no_point (get_or (decimal n) i 0) (ds i l).0 (ds i l).1)) (few_digits n h))
    (other_first 45 (decimal n) (48 ∷ []) (λ i l e. let d : 48 ≤ get_or (decimal n) i 0 = (ds i l).0 in omega arith))

unmarked_negative : (n : ℕ) → 0 < n → n < 10 ^ 18 → is_inexact (45 ∷ decimal n) ≡ false
unmarked_negative n some h =
    let ds = digits_of_decimal n (omega arith) in
    ap₂ (λ a b. a || b)
    (ap₂ (λ a b. a || b) (none_of (λ c. (c == 46) || (c == 101) || (c == 69)) (decimal n) (λ i l. no_point (get_or (decimal n) i 0) (ds i l).0 (ds i l).1)) (few_digits n h))
    (first (decimal n) (first_decimal n some (omega arith)))
  where
    first : (xs : List ℕ) → 48 < get_or xs 0 0 → bytes_eq xs (48 ∷ []) ≡ false
    first [] f = refl
    first (x ∷ xs) f = ap (λ b. b && bytes_eq xs []) (ne_eqb x 48 (λ e. omega arith))

unmarked_number : (n : Num) → is_plain_number n ≡ true → is_inexact (number_text n) ≡ false
unfolding is_plain_number
unmarked_number (unsigned n) h = unmarked_decimal n (plain_below n h)
unmarked_number (negative (pos n)) h = absurd (no_positive n h)
unmarked_number (negative (negsuc n)) h = unmarked_negative (suc n) (omega arith) (negative_below n h)
unmarked_number (float x) h = absurd (false≢true h)

pub exact_number : (n : Num) → is_plain_number n ≡ true → is_decimal (number_text n) ≡ false
unfolding is_decimal
exact_number n h = ap (λ b. b && is_all (after_number (number_text n))) (unmarked_number n h)
