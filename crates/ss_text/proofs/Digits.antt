-- A number that is read digit by digit.
use Rattle.std.proofs.Common.{◌≡◌, ℕ, zero, suc, ◌+◌, ◌-◌, ◌*◌, ◌^◌, ◌<◌, ◌≤◌, List, [], ◌∷◌, length, take, get_or}
use Rattle.std.proofs.Common.{true, leb, ap, ◌∙◌, arith, lit<, length-take}
use Rattle.std.proofs.lemmas.Bool.{and_parts, leb-true}
use Rattle.std.proofs.lemmas.List.{take_more, take_all}
use Rattle.std.proofs.lemmas.List.Sums.{AllPass-from_list_all}
use Rattle.std.proofs.lemmas.Str.{digit_value_digit}
use Rattle.std.proofs.lemmas.Int.Digits.{digits_value-lt, digits_value_push}
use Rattle.std.proofs.Math.Nat.{pow-le-pow_right}
use Rattle.std.specs.List.{list_all}
use Rattle.std.specs.Char.{is_ascii_digit}
use Rattle.std.specs.Str.Parse.{digits_value, AllDigits}

within : (x : ℕ) → is_ascii_digit x ≡ true → (48 ≤ x) × (x ≤ 57)
within x e = let parts = and_parts (leb 48 x) (leb x 57) e in (leb-true 48 x parts.0, leb-true x 57 parts.1)

front_digits : (i : ℕ) (text : List ℕ) → list_all is_ascii_digit text ≡ true → AllDigits 10 (take i text)
front_digits zero text h = tt
front_digits (suc i) [] h = tt
front_digits (suc i) (x ∷ text) h =
    let parts = and_parts (is_ascii_digit x) (list_all is_ascii_digit text) h in
    let range = within x parts.0 in
    let value = digit_value_digit x range in
    (omega arith, front_digits i text parts.1)

pub record Step (text : List ℕ) (i number : ℕ) : Type 0 where
  pub digit : 48 ≤ get_or text i 0
  pub small : number * 10 + (get_or text i 0 - 48) < 2 ^ 64
  pub next : number * 10 + (get_or text i 0 - 48) ≡ digits_value 10 (take (i + 1) text)

pub digit_step : (text : List ℕ) (i number : ℕ) → list_all is_ascii_digit text ≡ true → length text ≤ 18 → i < length text → number ≡ digits_value 10 (take i text) → Step text i number
digit_step text i number h few here is =
    let d = get_or text i 0 in
    let range = within d (AllPass-from_list_all is_ascii_digit text h i 0 here) in
    let digit = digit_value_digit d range in
    let below = digits_value-lt 10 (take i text) (front_digits i text h) in
    let short : length (take i text) ≤ 17 = omega (arith, length-take i text) in
    let power : 10 ^ length (take i text) ≤ 10 ^ 17 = pow-le-pow_right (lit< tt) short in
    let pushed = ap (digits_value 10) (take_more text i 0 here) ∙ digits_value_push 10 (take i text) d in
    record { digit = range.0; small = omega arith; next = omega arith }

pub whole_small : (text : List ℕ) (i number : ℕ) → list_all is_ascii_digit text ≡ true → length text ≤ i → number ≡ digits_value 10 (take i text) → number < 10 ^ length text
whole_small text i number h past is =
    let below = digits_value-lt 10 (take i text) (front_digits i text h) in
    let same = ap length (take_all i text past) in
    let power : 10 ^ length (take i text) ≡ 10 ^ length text = ap (λ n. 10 ^ n) same in
    omega arith
