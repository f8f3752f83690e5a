-- Numbers and stamps as values of fields, and read back.
use Rattle.std.proofs.Common.{◌≡◌, ℕ, ◌/◌, ◌%◌, ◌^◌, ◌<◌, ◌≤◌, List, [], ◌∷◌, ◌++◌, reverse, Bool, true, false, ◌&&◌}
use Rattle.std.proofs.Common.{◌||◌, not, ◌==◌, cond, leb, Some, decimal, refl, ap, ap₂, ◌∙◌, arith, lit<, le-leb}
use Rattle.std.proofs.Common.{ne_eqb}
use Rattle.std.proofs.lemmas.Bool.{and_parts, leb-true}
use Rattle.std.proofs.lemmas.Fmt.{decimal_is_IsNumeral, decimal_nonempty, length-decimal-le}
use Rattle.std.proofs.lemmas.List.Folds.{list_all-append}
use Rattle.std.proofs.lemmas.List.Sums.{AllPass-from_list_all, list_all-from_AllPass}
use Rattle.std.specs.List.{list_all}
use Rattle.std.specs.Char.{is_ascii_digit}
use Rattle.std.specs.Str.Parse.{digits_value}
use Rattle.httparse.specs.Grammar.{skip_ows, is_ows, is_value_byte}
use Rattle.httparse.proofs.TrimLemmas.{trim_ows_space, AllPass-reverse}
use Rattle.ss_text.specs.Numbers.{number_of}
use Rattle.ss_text.specs.Time.{stamp_text, two_digits, last_stamp}
use Rattle.ss_http.specs.Hearing.{IsBare}
use Rattle.ss_http.specs.declared.limits.TheConstants.{LENGTH_DIGITS}
use Rattle.ss_text.proofs.StampTexts.{two_are_digits, decimal_digits, all_three}

-- a visible byte
abbrev pub is_visible : ℕ → Bool
is_visible b = leb 33 b && leb b 126

not_blank : (b : ℕ) → is_visible b ≡ true → is_ows b ≡ false
not_blank b h =
    let low = leb-true 33 b (and_parts (leb 33 b) (leb b 126) h).0 in
    ap₂ (λ x y. x || y) (ne_eqb b 32 (λ e. omega arith)) (ne_eqb b 9 (λ e. omega arith))

is_valued : (b : ℕ) → is_visible b ≡ true → is_value_byte b ≡ true
is_valued b h =
    let low = leb-true 33 b (and_parts (leb 33 b) (leb b 126) h).0 in
    let high = leb-true b 126 (and_parts (leb 33 b) (leb b 126) h).1 in
    let tail : (leb 32 b && not (b == 127)) ≡ true = ap₂ (λ x y. x && y) (le-leb 32 b (omega arith)) (ap not (ne_eqb b 127 (λ e. omega arith))) in
    ap (λ x. x || (leb 32 b && not (b == 127))) (ne_eqb b 9 (λ e. omega arith)) ∙ tail

skipped : (v : List ℕ) → list_all is_visible v ≡ true → skip_ows v ≡ v
skipped [] h = refl
skipped (b ∷ bs) h = ap (λ t. cond t (skip_ows bs) (b ∷ bs)) (not_blank b (and_parts (is_visible b) (list_all is_visible bs) h).0)

pub all_weaker : (p q : ℕ → Bool) → ((b : ℕ) → p b ≡ true → q b ≡ true) → (v : List ℕ) → list_all p v ≡ true → list_all q v ≡ true
all_weaker p q f [] h = refl
all_weaker p q f (b ∷ bs) h = let parts = and_parts (p b) (list_all p bs) h in ap₂ (λ x y. x && y) (f b parts.0) (all_weaker p q f bs parts.1)

all_reverse : (p : ℕ → Bool) (v : List ℕ) → list_all p v ≡ true → list_all p (reverse v) ≡ true
all_reverse p v h = list_all-from_AllPass p (reverse v) (AllPass-reverse p v (AllPass-from_list_all p v h))

-- a value of visible bytes is not trimmed
pub visible_is_bare : (v : List ℕ) → list_all is_visible v ≡ true → IsBare v
visible_is_bare v h = record {
  back = trim_ows_space v (skipped v h) (skipped (reverse v) (all_reverse is_visible v h));
  bytes = all_weaker is_visible is_value_byte is_valued v h;
}

digit_is_visible : (b : ℕ) → is_ascii_digit b ≡ true → is_visible b ≡ true
digit_is_visible b h =
    let low = leb-true 48 b (and_parts (leb 48 b) (leb b 57) h).0 in
    let high = leb-true b 57 (and_parts (leb 48 b) (leb b 57) h).1 in
    ap₂ (λ x y. x && y) (le-leb 33 b (omega arith)) (le-leb b 126 (omega arith))

pub decimal_is_bare : (n : ℕ) → n < 2 ^ 64 → IsBare (decimal n)
decimal_is_bare n h = visible_is_bare (decimal n) (all_weaker is_ascii_digit is_visible digit_is_visible (decimal n) (decimal_digits n h))

pub stamp_is_bare : (s : ℕ) → s ≤ last_stamp → IsBare (stamp_text s)
unfolding stamp_text
stamp_is_bare s h =
    let few : s / 100 < 2 ^ 64 = omega arith in
    let seconds = all_weaker is_ascii_digit is_visible digit_is_visible (decimal (s / 100)) (decimal_digits (s / 100) few) in
    let rest = all_weaker is_ascii_digit is_visible digit_is_visible (two_digits (s % 100)) (two_are_digits (s % 100) (omega arith)) in
    visible_is_bare (decimal (s / 100) ++ 46 ∷ two_digits (s % 100)) (list_all-append is_visible (decimal (s / 100)) (46 ∷ two_digits (s % 100)) ∙ ap₂ (λ a b. a && b) seconds rest)

-- a number is read back
pub number_again : (n : ℕ) → n < 10 ^ LENGTH_DIGITS → number_of LENGTH_DIGITS (decimal n) ≡ Some n
unfolding number_of
number_again n h =
    let few : n < 2 ^ 64 = omega arith in
    all_three _ _ _ (Some (digits_value 10 (decimal n))) (le-leb 1 _ (decimal_nonempty n few)) (le-leb _ LENGTH_DIGITS (length-decimal-le LENGTH_DIGITS n (lit< tt) h few)) (decimal_digits n few)
    ∙ ap Some (decimal_is_IsNumeral n few).1
