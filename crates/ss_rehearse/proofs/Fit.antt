-- The bookmarks of a rehearsal are fit, and their ids have the form of ids.
use Rattle.std.proofs.Common.{◌≡◌, ℕ, zero, suc, ◌+◌, ◌-◌, ◌<◌, ◌≤◌, List, [], ◌∷◌, ◌++◌, length, drop, Bool, true}
use Rattle.std.proofs.Common.{false, ◌&&◌, leb, decimal, codes, refl, ap, ap₂, ◌∙◌, arith, lit<, le-leb, Some}
use Rattle.std.proofs.Common.{unwrap_or, option_map}
use Rattle.std.proofs.lemmas.Bool.{and_parts}
use Rattle.std.proofs.lemmas.Fmt.{decimal_is_IsNumeral, length-decimal-le}
use Rattle.std.proofs.lemmas.Str.Parse.{digit_from_value}
use Rattle.std.proofs.lemmas.List.{length-append, length-drop}
use Rattle.std.proofs.lemmas.List.Folds.{list_all-append}
use Rattle.std.specs.List.{list_all}
use Rattle.std.specs.Char.{digit_value}
use Rattle.std.specs.Str.Parse.{AllDigits}
use Rattle.serde_json.specs.Data.{object, depth}
use Rattle.serde_json.specs.Written.{members_have_float}
use Rattle.ss_text.specs.Names.{is_id, is_visible}
use Rattle.ss_record.specs.declared.kinds.Kind.TheVariants.{Bookmark}
use Rattle.ss_record.specs.Ids.{has, places, roots}
use Rattle.ss_record.specs.Items.{names_of, are_content, has_content, is_fit}
use Rattle.ss_record.specs.Marks.{is_string_or_decimal, members_plain, plain_text, said_text}
use Rattle.ss_record.specs.Payloads.{payload_members}
use Rattle.ss_record.proofs.Exact.{float_members}
use Rattle.ss_record.proofs.Unmarked.{payload_back}
use Rattle.ss_rehearse.specs.Bookmarks.{address, bookmark_id, eleven_digits, members_of, title}
use Rattle.ss_text.proofs.Basics.{bytes_eq-same}

-- ---- ids

digit_visible : (c : ℕ) → digit_value c < 10 → is_visible c ≡ true
digit_visible c h = let r = digit_from_value c h in ap₂ (λ a b. a && b) (le-leb 32 c (omega (arith, r.0))) (le-leb c 126 (omega (arith, r.1)))

digits_visible : (ds : List ℕ) → AllDigits 10 ds → list_all is_visible ds ≡ true
digits_visible [] h = refl
digits_visible (d ∷ ds) h = ap₂ (λ a b. a && b) (digit_visible d h.0) (digits_visible ds h.1)

dropped : (n : ℕ) (xs : List ℕ) → list_all is_visible xs ≡ true → list_all is_visible (drop n xs) ≡ true
dropped zero xs h = h
dropped (suc n) [] h = refl
dropped (suc n) (x ∷ xs) h = dropped n xs (and_parts (is_visible x) (list_all is_visible xs) h).1

all_three : (a b c : Bool) → a ≡ true → b ≡ true → c ≡ true → (a && b && c) ≡ true
all_three a b c p q r = ap₂ (λ x y. x && y && c) p q ∙ r

pub few_digits : (k : ℕ) → k ≤ 99999999999 → length (decimal k) ≤ 11
few_digits k h = length-decimal-le 11 k (lit< tt) (omega arith) (omega arith)

pub eleven_long : (k : ℕ) → k ≤ 99999999999 → length (eleven_digits k) ≡ 11
eleven_long k h =
    let few : length (decimal k) ≤ 11 = few_digits k h in
    let front : length (drop (length (decimal k)) (codes "00000000000")) ≡ 11 - length (decimal k) = length-drop (length (decimal k)) (codes "00000000000") in
    length-append (drop (length (decimal k)) (codes "00000000000")) (decimal k) ∙ (ap (λ n. n + length (decimal k)) front ∙ (let e : 11 - length (decimal k) + length (decimal k) ≡ 11 = omega arith in e))

pub id_form : (k : ℕ) → k ≤ 99999999999 → is_id (bookmark_id k) ≡ true
unfolding bookmark_id
id_form k h =
    let long : length (codes "b" ++ eleven_digits k) ≡ 12 = ap (λ n. suc n) (eleven_long k h) in
    let front : list_all is_visible (drop (length (decimal k)) (codes "00000000000")) ≡ true = dropped (length (decimal k)) (codes "00000000000") refl in
    let back : list_all is_visible (decimal k) ≡ true = digits_visible (decimal k) (decimal_is_IsNumeral k (omega arith)).0.1 in
    let low : 1 ≤ length (codes "b" ++ eleven_digits k) = omega (arith, long) in
    let high : length (codes "b" ++ eleven_digits k) ≤ 64 = omega (arith, long) in
    all_three (leb 1 (length (codes "b" ++ eleven_digits k))) (leb (length (codes "b" ++ eleven_digits k)) 64) (list_all is_visible (eleven_digits k)) (le-leb 1 (length (codes "b" ++ eleven_digits k)) low) (le-leb (length (codes "b" ++ eleven_digits k)) 64 high)
    (list_all-append is_visible (drop (length (decimal k)) (codes "00000000000")) (decimal k) ∙ ap₂ (λ a b. a && b) front back)

-- ---- fitness

plain : (k x : ℕ) → members_plain (members_of (address k) (title x)) ≡ true
unfolding address title said_text is_string_or_decimal
plain k x = refl

pub no_float : (k x : ℕ) → members_have_float (members_of (address k) (title x)) ≡ false
no_float k x = float_members (members_of (address k) (title x)) (plain k x)

back : (k x : ℕ) → payload_members (plain_text (object (members_of (address k) (title x)))) ≡ Some (members_of (address k) (title x))
back k x =
    let shallow : depth (object (members_of (address k) (title x))) ≡ 1 = refl in
    payload_back (members_of (address k) (title x)) (tt, refl, (tt, tt, tt)) (plain k x) (omega (arith, shallow))

is_content : (k x : ℕ) → are_content (record { id = bookmark_id k; kind = Bookmark; content = plain_text (object (members_of (address k) (title x))) }) (members_of (address k) (title x)) ≡ true
unfolding are_content bookmark_id names_of has roots
is_content k x = ap (λ b. b && true) (bytes_eq-same (plain_text (object (members_of (address k) (title x)))) _ refl)

pub fit : (k x : ℕ) → is_fit (record { id = bookmark_id k; kind = Bookmark; content = plain_text (object (members_of (address k) (title x))) }) ≡ true
unfolding is_fit has_content places bookmark_id
fit k x = ap (λ o. unwrap_or (option_map (are_content (record { id = bookmark_id k; kind = Bookmark; content = plain_text (object (members_of (address k) (title x))) })) o) false) (back k x) ∙ is_content k x
