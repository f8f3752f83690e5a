-- Flat JSON lists: what is written for one is read back as it, is UTF-8, and has no line break.
use Rattle.std.proofs.Common.{◌≡◌, suc, ◌^◌, ◌<◌, ◌≤◌, pos, negsuc, Bool, true, false, [], ◌∷◌, ◌++◌, Some, option_map}
use Rattle.std.proofs.Common.{option_and_then, decimal, append-nil, refl, sym, ap, ap₂, ◌∙◌, arith}
use Rattle.std.specs.Bool.{⊤}
use Rattle.std.specs.Str.{IsUtf8}
use Rattle.std.proofs.lemmas.Str.{IsUtf8-append}
use Rattle.std.proofs.lemmas.Fmt.{decimal_is_IsNumeral}
use Rattle.json.specs.Json as json
use Rattle.json.specs.Lex.{tokens}
use Rattle.json.specs.Tree as tree
use Rattle.json.proofs.Printed.Decimals.{IsNumber-decimal, IsNumber-signed_decimal}
use Rattle.json.proofs.Printed.Tokens.{tokens-print}
use Rattle.json.proofs.Printed.Trees.{value-json_tokens, ArePrintable-json_tokens}
use Rattle.json.proofs.Printed.Utf8.{IsUtf8-are_ascii, IsUtf8-quoted}
use Rattle.serde_json.specs.Data.{Num, unsigned, negative, float, Data, null, boolean, number, string, array, object}
use Rattle.serde_json.specs.Data.{Items, no_items, item}
use Rattle.serde_json.specs.Read.{read, number_of, of_items, of_json, max_depth}
use Rattle.serde_json.specs.Written.{comma_if, compact_text, items_outline, items_text, number_text, outline}
use Rattle.serde_json.proofs.Numbers.{number_of-decimal, number_of-negative}
use Rattle.serde_json.proofs.Texts.{print-outline}
use Rattle.ss_text.proofs.StampTexts.{decimal_is_utf8}
use Rattle.ss_lines.proofs.OneLine.{NoLine, noline_append, noline_by, digits_noline, quoted_noline}

-- ---- flat values: texts, whole numbers of 64 bits, `null` and `[]`

abbrev pub IsFlatNumber : Num → Type 0
IsFlatNumber (unsigned n) = n < 2 ^ 64
IsFlatNumber (negative (pos n)) = ⊥
IsFlatNumber (negative (negsuc n)) = suc n < 2 ^ 63
IsFlatNumber (float x) = ⊥

abbrev pub IsFlat : Data → Type 0
IsFlat null = ⊤
IsFlat (boolean b) = ⊥
IsFlat (number n) = IsFlatNumber n
IsFlat (string s) = IsUtf8 s
IsFlat (array no_items) = ⊤
IsFlat (array (item d ds)) = ⊥
IsFlat (object ms) = ⊥

abbrev pub AreFlat : Items → Type 0
AreFlat no_items = ⊤
AreFlat (item d ds) = IsFlat d × AreFlat ds

-- ---- numbers

pub number_is : (n : Num) → IsFlatNumber n → tree.HasNumbers (json.number (number_text n))
number_is (unsigned n) h = IsNumber-decimal n h
number_is (negative (pos n)) h = absurd h
number_is (negative (negsuc n)) h = IsNumber-signed_decimal (negsuc n) (omega arith)
number_is (float x) h = absurd h

pub number_back : (n : Num) → IsFlatNumber n → number_of (number_text n) ≡ Some n
number_back (unsigned n) h = number_of-decimal n h
number_back (negative (pos n)) h = absurd h
number_back (negative (negsuc n)) h = number_of-negative n (omega arith)
number_back (float x) h = absurd h

pub number_utf8 : (n : Num) → IsFlatNumber n → IsUtf8 (number_text n)
number_utf8 (unsigned n) h = decimal_is_utf8 n h
number_utf8 (negative (pos n)) h = absurd h
number_utf8 (negative (negsuc n)) h = IsUtf8-append (45 ∷ []) (decimal (suc n)) (IsUtf8-are_ascii (45 ∷ []) refl) (decimal_is_utf8 (suc n) (omega arith))
number_utf8 (float x) h = absurd h

pub number_noline : (n : Num) → IsFlatNumber n → NoLine (number_text n)
number_noline (unsigned n) h = digits_noline (decimal n) (decimal_is_IsNumeral n h).0.1
number_noline (negative (pos n)) h = absurd h
number_noline (negative (negsuc n)) h = ((λ is. omega arith), digits_noline (decimal (suc n)) (decimal_is_IsNumeral (suc n) (omega arith)).0.1)
number_noline (float x) h = absurd h

-- ---- values

value_numbers : (d : Data) → IsFlat d → tree.HasNumbers (outline d)
value_numbers null h = tt
value_numbers (boolean b) h = absurd h
value_numbers (number n) h = number_is n h
value_numbers (string s) h = tt
value_numbers (array no_items) h = tt
value_numbers (array (item d ds)) h = absurd h
value_numbers (object ms) h = absurd h

value_back : (d : Data) → IsFlat d → of_json (outline d) ≡ Some d
value_back null h = refl
value_back (boolean b) h = absurd h
value_back (number n) h = ap (option_map number) (number_back n h)
value_back (string s) h = refl
value_back (array no_items) h = refl
value_back (array (item d ds)) h = absurd h
value_back (object ms) h = absurd h

value_shallow : (d : Data) → IsFlat d → tree.depth (outline d) ≤ 1
value_shallow null h = omega arith
value_shallow (boolean b) h = absurd h
value_shallow (number n) h = omega arith
value_shallow (string s) h = omega arith
value_shallow (array no_items) h = omega arith
value_shallow (array (item d ds)) h = absurd h
value_shallow (object ms) h = absurd h

value_utf8 : (d : Data) → IsFlat d → IsUtf8 (compact_text d)
value_utf8 null h = IsUtf8-are_ascii (compact_text null) refl
value_utf8 (boolean b) h = absurd h
value_utf8 (number n) h = number_utf8 n h
value_utf8 (string s) h = IsUtf8-quoted s h
value_utf8 (array no_items) h = IsUtf8-are_ascii (compact_text (array no_items)) refl
value_utf8 (array (item d ds)) h = absurd h
value_utf8 (object ms) h = absurd h

value_noline : (d : Data) → IsFlat d → NoLine (compact_text d)
value_noline null h = noline_by (compact_text null) refl
value_noline (boolean b) h = absurd h
value_noline (number n) h = number_noline n h
value_noline (string s) h = quoted_noline s
value_noline (array no_items) h = noline_by (compact_text (array no_items)) refl
value_noline (array (item d ds)) h = absurd h
value_noline (object ms) h = absurd h

-- ---- lists

items_numbers : (ds : Items) → AreFlat ds → tree.ItemsHaveNumbers (items_outline ds)
items_numbers no_items h = tt
items_numbers (item d ds) h = (value_numbers d h.0, items_numbers ds h.1)

items_back : (ds : Items) → AreFlat ds → of_items (items_outline ds) ≡ Some ds
items_back no_items h = refl
items_back (item d ds) h = ap₂ (λ a b. option_and_then (λ e. option_map (item e) b) a) (value_back d h.0) (items_back ds h.1)

items_shallow : (ds : Items) → AreFlat ds → tree.items_depth (items_outline ds) ≤ 1
items_shallow no_items h = omega arith
items_shallow (item d ds) h =
    let first = value_shallow d h.0 in
    let rest = items_shallow ds h.1 in
    omega arith

pub comma_utf8 : (later : Bool) → IsUtf8 (comma_if later)
comma_utf8 true = IsUtf8-are_ascii (44 ∷ []) refl
comma_utf8 false = IsUtf8-are_ascii [] refl

items_utf8 : (later : Bool) (ds : Items) → AreFlat ds → IsUtf8 (items_text later ds)
items_utf8 later no_items h = IsUtf8-are_ascii (93 ∷ []) refl
items_utf8 later (item d ds) h =
    IsUtf8-append (comma_if later) (compact_text d ++ items_text true ds) (comma_utf8 later)
    (IsUtf8-append (compact_text d) (items_text true ds) (value_utf8 d h.0) (items_utf8 true ds h.1))

pub comma_noline : (later : Bool) → NoLine (comma_if later)
comma_noline true = noline_by (44 ∷ []) refl
comma_noline false = tt

items_noline : (later : Bool) (ds : Items) → AreFlat ds → NoLine (items_text later ds)
items_noline later no_items h = noline_by (93 ∷ []) refl
items_noline later (item d ds) h =
    noline_append (comma_if later) (compact_text d ++ items_text true ds) (comma_noline later)
    (noline_append (compact_text d) (items_text true ds) (value_noline d h.0) (items_noline true ds h.1))

-- ---- what is written for a flat list

pub list_utf8 : (ds : Items) → AreFlat ds → IsUtf8 (compact_text (array ds))
list_utf8 ds h = IsUtf8-append (91 ∷ []) (items_text false ds) (IsUtf8-are_ascii (91 ∷ []) refl) (items_utf8 false ds h)

pub list_noline : (ds : Items) → AreFlat ds → NoLine (compact_text (array ds))
list_noline ds h = ((λ is. omega arith), items_noline false ds h)

tokens_compact : (d : Data) → tree.HasNumbers (outline d) → tokens (compact_text d) ≡ tree.json_tokens (outline d)
tokens_compact d h = ap tokens (sym (print-outline d)) ∙ tokens-print (tree.json_tokens (outline d)) (ArePrintable-json_tokens (outline d) h)

pub read_compact : (d : Data) → tree.HasNumbers (outline d) → tree.depth (outline d) ≤ max_depth → read (compact_text d) ≡ of_json (outline d)
read_compact d h shallow =
    ap (λ o. option_and_then of_json (option_and_then (λ p. json.if_last p.0 p.1) o))
    (ap (json.value max_depth) (tokens_compact d h ∙ sym (append-nil (tree.json_tokens (outline d)))) ∙ value-json_tokens (outline d) max_depth [] shallow)

pub list_back : (ds : Items) → AreFlat ds → read (compact_text (array ds)) ≡ Some (array ds)
list_back ds h =
    let shallow = items_shallow ds h in
    read_compact (array ds) (items_numbers ds h) (omega arith) ∙ ap (option_map array) (items_back ds h)
