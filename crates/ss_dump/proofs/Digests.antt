-- A digest in text has the form of one.
use Rattle.std.proofs.Common.{◌≡◌, ℕ, zero, suc, ◌*◌, ◌/◌, ◌%◌, ◌<◌, ◌==◌, ◌&&◌, Bool, true, List, [], ◌∷◌, ◌++◌}
use Rattle.std.proofs.Common.{length, refl, ap, ap₂, ◌∙◌, arith, inl, inr, eq-eqb}
use Rattle.std.specs.Prelude.{slice_index}
use Rattle.std.specs.Int.{to_be_bytes, w32}
use Rattle.std.specs.List.{AllByRecursion, list_all}
use Rattle.std.proofs.lemmas.Bool.{and_parts, cases_eq}
use Rattle.hex.specs.Hex.{encode_lower, encode_with, lower_digits}
use Rattle.hex.proofs.HexLemmas.{length-encode_with}
use Rattle.sha2.specs.Sha256.{digest_bytes, final_hash, initial_hash_256, sha256}
use Rattle.ss_lines.specs.Digests.{is_digest, is_lower_hex}
use Rattle.ss_dump.specs.Dumps.{digest_of}

-- ---- digits

abbrev digits_below : ℕ → Bool
digits_below zero = true
digits_below (suc n) = is_lower_hex (slice_index lower_digits n) && digits_below n

digit_below : (n : ℕ) → digits_below n ≡ true → (i : ℕ) → i < n → is_lower_hex (slice_index lower_digits i) ≡ true
digit_below zero e i h = absurd (omega arith)
digit_below (suc n) e i h =
    let p = and_parts (is_lower_hex (slice_index lower_digits n)) (digits_below n) e in
    elim (cases_eq i n) [ inl same ↦ ap (λ k. is_lower_hex (slice_index lower_digits k)) same ∙ p.0 | inr other ↦ digit_below n p.1 i (omega arith) ]

digit_is : (i : ℕ) → i < 16 → is_lower_hex (slice_index lower_digits i) ≡ true
digit_is i h = digit_below 16 refl i h

digits_are : (xs : List ℕ) → AllByRecursion (λ b. b < 256) xs → list_all is_lower_hex (encode_with lower_digits xs) ≡ true
unfolding encode_with
digits_are [] h = refl
digits_are (b ∷ rest) h =
    let small : b < 256 = h.0 in
    ap₂ (λ x y. x && y) (digit_is (b / 16) (omega arith)) (ap₂ (λ x y. x && y) (digit_is (b % 16) (omega arith)) (digits_are rest h.1))

-- ---- bytes

all_append : (xs ys : List ℕ) → AllByRecursion (λ b. b < 256) xs → AllByRecursion (λ b. b < 256) ys → AllByRecursion (λ b. b < 256) (xs ++ ys)
all_append [] ys h k = k
all_append (x ∷ xs) ys h k = (h.0, all_append xs ys h.1 k)

four_bytes : (n : ℕ) → AllByRecursion (λ b. b < 256) (to_be_bytes w32 n)
four_bytes n = (omega arith, (omega arith, (omega arith, (omega arith, tt))))

bytes_are : (h : List ℕ) (n : ℕ) → AllByRecursion (λ b. b < 256) (digest_bytes h n)
unfolding digest_bytes
bytes_are h zero = tt
bytes_are h (suc n) = all_append (digest_bytes h n) (to_be_bytes w32 (slice_index h n)) (bytes_are h n) (four_bytes (slice_index h n))

bytes_long : (h : List ℕ) → length (digest_bytes h 8) ≡ 32
unfolding digest_bytes
bytes_long h = refl

both : (a b : Bool) → a ≡ true → b ≡ true → (a && b) ≡ true
both a b h k = ap₂ (λ x y. x && y) h k

encoded : (xs : List ℕ) → length xs ≡ 32 → AllByRecursion (λ b. b < 256) xs → is_digest (encode_lower xs) ≡ true
encoded xs long h =
    let n : length (encode_lower xs) ≡ 64 = length-encode_with lower_digits xs ∙ ap (λ k. 2 * k) long in
    both (length (encode_lower xs) == 64) (list_all is_lower_hex (encode_lower xs)) (eq-eqb (length (encode_lower xs)) 64 n) (digits_are xs h)

pub digest_form : (text : List ℕ) → is_digest (digest_of text) ≡ true
unfolding digest_of sha256
digest_form text = encoded (digest_bytes (final_hash initial_hash_256 text) 8) (bytes_long (final_hash initial_hash_256 text)) (bytes_are (final_hash initial_hash_256 text) 8)
