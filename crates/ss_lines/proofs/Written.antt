-- Lines: what a time and a list are written as.
use Rattle.std.proofs.Common.{◌≡◌, ℕ, ◌/◌, ◌%◌, ◌≤◌, leb, true, List, [], ◌∷◌, ◌++◌, decimal, append_assoc, refl, sym}
use Rattle.std.proofs.Common.{ap, ap₂, ◌∙◌, arith}
use Rattle.std.proofs.lemmas.Bool.{and_parts, leb-true}
use Rattle.std.specs.List.{list_all}
use Rattle.std.specs.Char.{is_ascii_digit}
use Rattle.json.specs.Print.{escape, escape_byte, quoted}
use Rattle.json.proofs.Printed.Strings.{escape_byte_plain}
use Rattle.serde_json.specs.Written.{compact_text, items_text}
use Rattle.ss_text.specs.Time.{last_stamp, stamp_text, two_digits}
use Rattle.ss_text.proofs.StampTexts.{decimal_digits, two_are_digits}
use Rattle.ss_lines.specs.declared.cells.Cell.{Cell}
use Rattle.ss_lines.specs.Cells.{cells_text, data_of, items_of, list_text}

-- ---- a time has no byte that is escaped

digit_plain : (c : ℕ) → is_ascii_digit c ≡ true → escape_byte c ≡ c ∷ []
digit_plain c h = let low = leb-true 48 c (and_parts (leb 48 c) (leb c 57) h).0 in let high = leb-true c 57 (and_parts (leb 48 c) (leb c 57) h).1 in escape_byte_plain c (λ e. omega arith) (λ e. omega arith) (omega arith)

digits_plain : (ds : List ℕ) → list_all is_ascii_digit ds ≡ true → escape ds ≡ ds
digits_plain [] h = refl
digits_plain (d ∷ ds) h = let p = and_parts (is_ascii_digit d) (list_all is_ascii_digit ds) h in ap₂ (λ a b. a ++ b) (digit_plain d p.0) (digits_plain ds p.1)

escape-append : (xs ys : List ℕ) → escape (xs ++ ys) ≡ escape xs ++ escape ys
escape-append [] ys = refl
escape-append (x ∷ xs) ys = ap (λ t. escape_byte x ++ t) (escape-append xs ys) ∙ sym (append_assoc (escape_byte x) (escape xs) (escape ys))

pub stamp_plain : (t : ℕ) → t ≤ last_stamp → escape (stamp_text t) ≡ stamp_text t
unfolding stamp_text
stamp_plain t h =
    escape-append (decimal (t / 100)) (0x2e ∷ two_digits (t % 100))
    ∙ ap₂ (λ a b. a ++ b) (digits_plain (decimal (t / 100)) (decimal_digits (t / 100) (omega arith)))
    (ap₂ (λ a b. a ++ b) (escape_byte_plain 0x2e (λ e. omega arith) (λ e. omega arith) (omega arith)) (digits_plain (two_digits (t % 100)) (two_are_digits (t % 100) (omega arith))))

-- ---- a list is its first text and the values behind it

items_are : (cs : List Cell) → items_text true (items_of cs) ≡ cells_text cs ++ 93 ∷ []
items_are [] = refl
items_are (c ∷ cs) = ap (λ t. 44 ∷ (compact_text (data_of c) ++ t)) (items_are cs) ∙ ap (λ t. 44 ∷ t) (sym (append_assoc (compact_text (data_of c)) (cells_text cs) (93 ∷ [])))

shape : (out q cs : List ℕ) → (((out ++ 91 ∷ []) ++ 34 ∷ (q ++ 34 ∷ [])) ++ cs) ++ 93 ∷ 10 ∷ [] ≡ out ++ 91 ∷ 34 ∷ (q ++ 34 ∷ (cs ++ 93 ∷ 10 ∷ []))
shape out q cs = simp append_assoc

inner : (q cs : List ℕ) → ((q ++ 34 ∷ []) ++ (cs ++ 93 ∷ [])) ++ 10 ∷ [] ≡ q ++ 34 ∷ (cs ++ 93 ∷ 10 ∷ [])
inner q cs = simp append_assoc

-- the pieces that are appended for a list
pub list_is : (out tag : List ℕ) (cs : List Cell) → (((out ++ 91 ∷ []) ++ quoted tag) ++ cells_text cs) ++ 93 ∷ 10 ∷ [] ≡ out ++ list_text tag cs
list_is out tag cs =
    shape out (escape tag) (cells_text cs)
    ∙ (ap (λ t. out ++ 91 ∷ 34 ∷ t) (sym (inner (escape tag) (cells_text cs)))
    ∙ ap (λ t. out ++ 91 ∷ 34 ∷ (((escape tag ++ 34 ∷ []) ++ t) ++ 10 ∷ [])) (sym (items_are cs)))
