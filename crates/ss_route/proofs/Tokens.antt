-- Numbers and ids of batches, as they are written and read.
use Rattle.std.proofs.Common.{◌≡◌, ℕ, ◌+◌, ◌*◌, ◌/◌, ◌%◌, ◌^◌, ◌<◌, ◌≤◌, List, [], ◌∷◌, ◌++◌, length, get_or, Bool}
use Rattle.std.proofs.Common.{true, false, ◌&&◌, ◌||◌, ◌==◌, cond, leb, eq-eqb, rules, Result, Ok, Err, Option, Some}
use Rattle.std.proofs.Common.{None, option_and_then, codes, decimal, refl, sym, ap, ap₂, ◌∙◌, arith, lit<, append-nil}
use Rattle.std.proofs.Common.{le-leb, ne_eqb}
use Rattle.std.proofs.lemmas.Bool.{and_parts, leb-true, false_from_ne_true}
use Rattle.std.proofs.lemmas.Fmt.{decimal_is_IsNumeral, decimal_nonempty, length-decimal-le, first_decimal}
use Rattle.std.proofs.lemmas.Fmt.{IsAscii-decimal, decimal-digits_value}
use Rattle.std.proofs.lemmas.Str.Parse.{IsNumeralModel, numerals_by_value, digits_value_short}
use Rattle.std.proofs.lemmas.List.Sums.{AllPass-from_list_all}
use Rattle.std.proofs.lemmas.Slice.Eq.{bytes_eq-Decides}
use Rattle.std.specs.List.{list_all, AllByRecursion}
use Rattle.std.specs.Char.{is_ascii_digit}
use Rattle.std.specs.Prelude.{bytes_eq}
use Rattle.std.specs.Result.{result_ok}
use Rattle.std.specs.Str.Parse.{digits_value}
use Rattle.base64.specs.Decode.{groups_error, scan_steps, groups_bytes}
use Rattle.base64.specs.Rfc4648.{encode_symbols}
use Rattle.base64.specs.GeneralPurpose.{IsBytes, decode_of, decoded_of, encode_of}
use Rattle.base64.specs.declared.decode.DecodeError.{DecodeError}
use Rattle.base64.specs.Engines.{url_safe_no_pad}
use Rattle.base64.proofs.EngineFacts.{decode_of-encode_of, decode_of_strict}
use Rattle.std.proofs.lemmas.List.Folds.{list_all-append}
use Rattle.ss_text.specs.Time.{stamp_text, two_digits, last_stamp}
use Rattle.ss_text.specs.Numbers.{number_of}
use Rattle.ss_route.specs.Posts.{token, batch_of}
use Rattle.ss_route.specs.Targets.{positive_of, uid_of}
use Rattle.ss_route.proofs.Composed.{is_plain, all_append}
use Rattle.ss_text.proofs.StampTexts.{two_are_digits, decimal_digits, all_three}

digit_is_plain : (x : ℕ) → is_ascii_digit x ≡ true → is_plain x ≡ true
digit_is_plain x e = ap (λ b. ((b || (leb 65 x && leb x 90)) || (leb 97 x && leb x 122)) || x == 45 || x == 46 || x == 95) e

digits_are_plain : (xs : List ℕ) → list_all is_ascii_digit xs ≡ true → list_all is_plain xs ≡ true
digits_are_plain [] h = refl
digits_are_plain (x ∷ xs) h = let parts = and_parts (is_ascii_digit x) (list_all is_ascii_digit xs) h in ap₂ (λ s t. s && t) (digit_is_plain x parts.0) (digits_are_plain xs parts.1)

pub decimal_is_plain : (n : ℕ) → n < 2 ^ 64 → list_all is_plain (decimal n) ≡ true
decimal_is_plain n h = digits_are_plain (decimal n) (decimal_digits n h)

pub stamp_is_plain : (time : ℕ) → time ≤ last_stamp → list_all is_plain (stamp_text time) ≡ true
unfolding stamp_text
stamp_is_plain time h =
    let seconds = decimal_is_plain (time / 100) (omega arith) in
    let rest : list_all is_plain (46 ∷ two_digits (time % 100)) ≡ true = digits_are_plain (two_digits (time % 100)) (two_are_digits (time % 100) (omega arith)) in
    list_all-append is_plain (decimal (time / 100)) (46 ∷ two_digits (time % 100)) ∙ ap₂ (λ a b. a && b) seconds rest

-- ---- the id of a batch

abbrev letters : List ℕ
letters = url_safe_no_pad.encode_table

symbol : (i : ℕ) → i < 64 → is_plain (get_or letters i 0) ≡ true
symbol i h = AllPass-from_list_all is_plain letters refl i 0 h

three : (x y z : ℕ) → is_plain x ≡ true → is_plain y ≡ true → is_plain z ≡ true → list_all is_plain (x ∷ y ∷ z ∷ []) ≡ true
three x y z a b c = ap₂ (λ s t. s && (t && (is_plain z && true))) a b ∙ ap (λ t. t && true) c

symbols_are_plain : (m : List ℕ) → AllByRecursion (λ b. b < 256) m → list_all is_plain (encode_symbols letters m) ≡ true
unfolding encode_symbols
symbols_are_plain [] h = refl
symbols_are_plain (a ∷ []) h = ap₂ (λ x y. x && (y && true)) (symbol (a / 4) (omega (arith, h.0))) (symbol (a % 4 * 16) (omega arith))
symbols_are_plain (a ∷ b ∷ []) h =
    three (get_or letters (a / 4) 0) (get_or letters (a % 4 * 16 + b / 16) 0) (get_or letters (b % 16 * 4) 0) (symbol (a / 4) (omega (arith, h.0))) (symbol (a % 4 * 16 + b / 16) (omega (arith, h.1.0))) (symbol (b % 16 * 4) (omega arith))
symbols_are_plain (a ∷ b ∷ c ∷ rest) h =
    let first = symbol (a / 4) (omega (arith, h.0)) in
    let last = three (get_or letters (a % 4 * 16 + b / 16) 0) (get_or letters (b % 16 * 4 + c / 64) 0) (get_or letters (c % 64) 0) (symbol (a % 4 * 16 + b / 16) (omega (arith, h.1.0))) (symbol (b % 16 * 4 + c / 64) (omega (arith, h.1.1.0))) (symbol (c % 64) (omega arith)) in
    all_append is_plain (get_or letters (a / 4) 0 ∷ get_or letters (a % 4 * 16 + b / 16) 0 ∷ get_or letters (b % 16 * 4 + c / 64) 0 ∷ get_or letters (c % 64) 0 ∷ []) (encode_symbols letters rest)
    (ap₂ (λ s t. s && t) first last) (symbols_are_plain rest h.1.1.1)

pub few_bytes : (xs : List ℕ) → list_all is_ascii_digit xs ≡ true → AllByRecursion (λ b. b < 256) xs
few_bytes [] h = tt
few_bytes (x ∷ xs) h =
    let parts = and_parts (is_ascii_digit x) (list_all is_ascii_digit xs) h in
    let high = leb-true x 57 (and_parts (leb 48 x) (leb x 57) parts.0).1 in
    (omega arith, few_bytes xs parts.1)

pub token_is_plain : (n : ℕ) → n < 2 ^ 64 → list_all is_plain (token n) ≡ true
unfolding token
token_is_plain n h = ap (list_all is_plain) (append-nil (encode_symbols letters (decimal n))) ∙ symbols_are_plain (decimal n) (few_bytes (decimal n) (decimal_digits n h))

symbols_short : (m : List ℕ) → length (encode_symbols letters m) ≤ 4 * length m
unfolding encode_symbols
symbols_short [] = omega arith
symbols_short (a ∷ []) = omega arith
symbols_short (a ∷ b ∷ []) = omega arith
symbols_short (a ∷ b ∷ c ∷ rest) = let more = symbols_short rest in omega (arith, more)

pub token_short : (n : ℕ) → n ≤ 999999999999 → length (token n) ≤ 48
unfolding token
token_short n below =
    let digits = length-decimal-le 12 n (lit< tt) (omega arith) (omega arith) in
    let symbols = symbols_short (decimal n) in
    let same : length (encode_symbols letters (decimal n) ++ []) ≡ length (encode_symbols letters (decimal n)) = ap length (append-nil (encode_symbols letters (decimal n))) in
    omega (arith, digits, symbols, same)

-- a number is read back
pub number_back : (most n : ℕ) → 0 < most → n < 2 ^ 64 → n < 10 ^ most → number_of most (decimal n) ≡ Some n
unfolding number_of
number_back most n some few small =
    all_three _ _ _ (Some (digits_value 10 (decimal n))) (le-leb 1 _ (decimal_nonempty n few)) (le-leb _ most (length-decimal-le most n some small few)) (decimal_digits n few)
    ∙ ap Some (decimal_is_IsNumeral n few).1

pub positive_back : (most n : ℕ) → 0 < most → 0 < n → n < 2 ^ 64 → n < 10 ^ most → positive_of most (decimal n) ≡ Some n
unfolding positive_of
positive_back most n some above few small =
    let first : (get_or (decimal n) 0 0 == 48) ≡ false = ne_eqb (get_or (decimal n) 0 0) 48 (λ e. (let high = first_decimal n above few in let never : ⊥ = omega arith in never)) in
    ap (λ test. cond test None (number_of most (decimal n))) first ∙ number_back most n some few small

pub uid_back : (uid : ℕ) → 1 ≤ uid → uid ≤ 4294967295 → uid_of (decimal uid) ≡ Some uid
unfolding uid_of
uid_back uid above below =
    ap (λ o. option_and_then (λ number. cond (leb number 4294967295) (Some number) None) o) (positive_back 10 uid (lit< tt) (omega arith) (omega arith) (omega arith))
    ∙ ap (λ test. cond test (Some uid) None) (le-leb uid 4294967295 below)

pub batch_back : (n : ℕ) → 1 ≤ n → n ≤ 999999999999 → batch_of (token n) ≡ Some n
unfolding token batch_of decoded_of
batch_back n above below =
    let few : n < 2 ^ 64 = omega arith in
    let bytes : (i : ℕ) → get_or (decimal n) i 0 < 256 = λ i. (let ascii = IsAscii-decimal n few i in omega arith) in
    let decoded = decode_of-encode_of url_safe_no_pad (decimal n) refl bytes in
    ap (λ r. option_and_then (positive_of 12) (result_ok r)) decoded ∙ positive_back 12 n (lit< tt) (omega arith) few (omega arith)

own : IsNumeralModel (λ ds. list_all is_ascii_digit ds ≡ true) (digits_value 10)
own = numerals_by_value (λ ds. list_all is_ascii_digit ds ≡ true) (search rules)

guarded : (b : Bool) (x : Option ℕ) (n : ℕ) → cond b None x ≡ Some n → (b ≡ false) × (x ≡ Some n)
guarded true x n e = absurd (let f : None ≡ Some n = e in cc)
guarded false x n e = (refl, e)

chosen : (b : Bool) (v n : ℕ) → cond b (Some v) None ≡ Some n → (b ≡ true) × (v ≡ n)
chosen true v n e = (refl, (let f : Some v ≡ Some n = e in cc))
chosen false v n e = absurd (let f : None ≡ Some n = e in cc)

-- digits without a leading zero are those of their number
digits_again : (digits : List ℕ) (n : ℕ) → positive_of 12 digits ≡ Some n → decimal n ≡ digits
unfolding positive_of number_of
digits_again digits n given =
    let outer = guarded (get_or digits 0 0 == 48) _ n given in
    let inner = chosen _ (digits_value 10 digits) n outer.1 in
    let parts = and_parts (leb 1 (length digits) && leb (length digits) 12) (list_all is_ascii_digit digits) inner.0 in
    let sizes = and_parts (leb 1 (length digits)) (leb (length digits) 12) parts.0 in
    let some : 1 ≤ length digits = leb-true 1 (length digits) sizes.0 in
    let few : length digits ≤ 12 = leb-true (length digits) 12 sizes.1 in
    let small : digits_value 10 digits < 10 ^ 12 = digits_value_short own digits 12 parts.1 few in
    let unled : get_or digits 0 0 ≡ 48 → length digits ≡ 1 = λ zero. absurd (let t : (get_or digits 0 0 == 48) ≡ true = eq-eqb (get_or digits 0 0) 48 zero in let f = outer.0 in cc) in
    ap decimal (sym inner.1) ∙ decimal-digits_value own digits parts.1 (omega arith) unled (omega arith)

decoded_again : (text : List ℕ) (n : ℕ) (r : Result (List ℕ) DecodeError) → IsBytes text → decode_of url_safe_no_pad text ≡ r
    → option_and_then (positive_of 12) (result_ok r) ≡ Some n → text ≡ token n
unfolding token
decoded_again text n (Ok digits) bytes is given =
    decode_of_strict url_safe_no_pad text digits (refl, refl) bytes is ∙ ap (encode_of url_safe_no_pad) (sym (digits_again digits n given))
decoded_again text n (Err e) bytes is given = absurd (let f : None ≡ Some n = given in cc)

-- the id of a batch is the one text that is given out for its number
pub batch_canonical : (text : List ℕ) (n : ℕ) → IsBytes text → batch_of text ≡ Some n → text ≡ token n
unfolding batch_of decoded_of
batch_canonical text n bytes given = decoded_again text n (decode_of url_safe_no_pad text) bytes refl given

-- `true` is the id of no batch
true_is_none : batch_of (codes "true") ≡ None
unfolding batch_of decoded_of positive_of number_of groups_error scan_steps groups_bytes
true_is_none = refl

some_is_not_none : (n : ℕ) → Some n ≡ None → ⊥
some_is_not_none n e = cc

pub token_is_not_true : (n : ℕ) → 1 ≤ n → n ≤ 999999999999 → bytes_eq (token n) (codes "true") ≡ false
token_is_not_true n above below =
    false_from_ne_true _ (λ e. (let same : token n ≡ codes "true" = (bytes_eq-Decides (token n) (codes "true")).0 e in
    some_is_not_none n (sym (batch_back n above below) ∙ ap batch_of same ∙ true_is_none)))
