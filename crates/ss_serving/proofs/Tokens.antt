-- The id of a batch is UTF-8 and needs no escape.
use Rattle.std.proofs.Common.{◌≡◌, ℕ, ◌+◌, ◌*◌, ◌/◌, ◌%◌, ◌^◌, ◌<◌, ◌==◌, List, [], ◌∷◌, ◌++◌, get_or, Bool, true, ◌&&◌}
use Rattle.std.proofs.Common.{not, leb, decimal, refl, ap, ap₂, ◌∙◌, arith, append-nil, IsUtf8}
use Rattle.std.proofs.lemmas.Bool.{and_parts, leb-true, lt-ltb, not-true, eqb-false}
use Rattle.std.proofs.lemmas.List.Sums.{AllPass-from_list_all}
use Rattle.std.proofs.lemmas.List.Folds.{list_all-append}
use Rattle.std.specs.List.{list_all, AllByRecursion}
use Rattle.std.specs.Char.{is_ascii_digit}
use Rattle.base64.specs.Rfc4648.{encode_symbols}
use Rattle.base64.specs.Engines.{url_safe_no_pad}
use Rattle.json.specs.Print.{escape}
use Rattle.json.proofs.Printed.Strings.{escape_byte_plain}
use Rattle.json.proofs.Printed.Utf8.{are_ascii, IsUtf8-are_ascii}
use Rattle.ss_route.specs.Posts.{token}
use Rattle.ss_text.proofs.StampTexts.{decimal_digits}

abbrev letters : List ℕ
letters = url_safe_no_pad.encode_table

-- a byte that stands in a string as it is
abbrev is_mild : ℕ → Bool
is_mild x = leb 35 x && (leb x 126 && not (x == 92))

all_append : (xs ys : List ℕ) → list_all is_mild xs ≡ true → list_all is_mild ys ≡ true → list_all is_mild (xs ++ ys) ≡ true
all_append xs ys a b = list_all-append is_mild xs ys ∙ ap₂ (λ s t. s && t) a b

symbol : (i : ℕ) → i < 64 → is_mild (get_or letters i 0) ≡ true
symbol i h = AllPass-from_list_all is_mild letters refl i 0 h

three : (x y z : ℕ) → is_mild x ≡ true → is_mild y ≡ true → is_mild z ≡ true → list_all is_mild (x ∷ y ∷ z ∷ []) ≡ true
three x y z a b c = ap₂ (λ s t. s && (t && (is_mild z && true))) a b ∙ ap (λ t. t && true) c

symbols_are_mild : (m : List ℕ) → AllByRecursion (λ b. b < 256) m → list_all is_mild (encode_symbols letters m) ≡ true
unfolding encode_symbols
symbols_are_mild [] h = refl
symbols_are_mild (a ∷ []) h = ap₂ (λ x y. x && (y && true)) (symbol (a / 4) (omega (arith, h.0))) (symbol (a % 4 * 16) (omega arith))
symbols_are_mild (a ∷ b ∷ []) h =
    three (get_or letters (a / 4) 0) (get_or letters (a % 4 * 16 + b / 16) 0) (get_or letters (b % 16 * 4) 0) (symbol (a / 4) (omega (arith, h.0))) (symbol (a % 4 * 16 + b / 16) (omega (arith, h.1.0))) (symbol (b % 16 * 4) (omega arith))
symbols_are_mild (a ∷ b ∷ c ∷ rest) h =
    let first = symbol (a / 4) (omega (arith, h.0)) in
    let last = three (get_or letters (a % 4 * 16 + b / 16) 0) (get_or letters (b % 16 * 4 + c / 64) 0) (get_or letters (c % 64) 0) (symbol (a % 4 * 16 + b / 16) (omega (arith, h.1.0))) (symbol (b % 16 * 4 + c / 64) (omega (arith, h.1.1.0))) (symbol (c % 64) (omega arith)) in
    all_append (get_or letters (a / 4) 0 ∷ get_or letters (a % 4 * 16 + b / 16) 0 ∷ get_or letters (b % 16 * 4 + c / 64) 0 ∷ get_or letters (c % 64) 0 ∷ []) (encode_symbols letters rest)
    (ap₂ (λ s t. s && t) first last) (symbols_are_mild rest h.1.1.1)

-- the digits of a number are bytes
decimal_bytes : (n : ℕ) → n < 2 ^ 64 → AllByRecursion (λ b. b < 256) (decimal n)
decimal_bytes n h = digits (decimal n) (decimal_digits n h)
  where
    digits : (xs : List ℕ) → list_all is_ascii_digit xs ≡ true → AllByRecursion (λ b. b < 256) xs
    digits [] h = tt
    digits (x ∷ xs) h =
        let parts = and_parts (is_ascii_digit x) (list_all is_ascii_digit xs) h in
        let high = leb-true x 57 (and_parts (leb 48 x) (leb x 57) parts.0).1 in
        (omega arith, digits xs parts.1)

token_is_mild : (n : ℕ) → n < 2 ^ 64 → list_all is_mild (token n) ≡ true
unfolding token
token_is_mild n h = ap (list_all is_mild) (append-nil (encode_symbols letters (decimal n))) ∙ symbols_are_mild (decimal n) (decimal_bytes n h)

escape_mild : (xs : List ℕ) → list_all is_mild xs ≡ true → escape xs ≡ xs
escape_mild [] h = refl
escape_mild (x ∷ xs) h =
    let parts = and_parts (is_mild x) (list_all is_mild xs) h in
    let low = leb-true 35 x (and_parts (leb 35 x) (leb x 126 && not (x == 92)) parts.0).0 in
    let other = eqb-false x 92 (not-true (x == 92) (and_parts (leb x 126) (not (x == 92)) (and_parts (leb 35 x) (leb x 126 && not (x == 92)) parts.0).1).1) in
    ap₂ (λ (s t : List ℕ). s ++ t) (escape_byte_plain x (λ e. omega arith) other (omega arith)) (escape_mild xs parts.1)

mild_ascii : (xs : List ℕ) → list_all is_mild xs ≡ true → are_ascii xs ≡ true
mild_ascii [] h = refl
mild_ascii (x ∷ xs) h =
    let parts = and_parts (is_mild x) (list_all is_mild xs) h in
    let high = leb-true x 126 (and_parts (leb x 126) (not (x == 92)) (and_parts (leb 35 x) (leb x 126 && not (x == 92)) parts.0).1).0 in
    ap₂ (λ a b. a && b) (lt-ltb x 128 (omega arith)) (mild_ascii xs parts.1)

pub token_unescaped : (n : ℕ) → n < 2 ^ 64 → escape (token n) ≡ token n
token_unescaped n h = escape_mild (token n) (token_is_mild n h)

pub token_utf8 : (n : ℕ) → n < 2 ^ 64 → IsUtf8 (token n)
token_utf8 n h = IsUtf8-are_ascii (token n) (mild_ascii (token n) (token_is_mild n h))
