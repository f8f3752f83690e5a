-- Which lines begin as an item's does, and that the record in one is a text.
use Rattle.std.proofs.Common.{◌≡◌, ◌≢◌, ℕ, ◌+◌, ◌<◌, Bool, true, false, List, [], ◌∷◌, ◌++◌, length, Option, Some}
use Rattle.std.proofs.Common.{option_map, codes, decimal, append_assoc, refl, sym, ap, ap₂, subst, ◌∙◌, arith, lit<}
use Rattle.std.proofs.Common.{length-append}
use Rattle.std.specs.Str.{IsUtf8}
use Rattle.std.proofs.lemmas.Bool.{false≢true}
use Rattle.serde_json.specs.Data.{array}
use Rattle.serde_json.specs.Read.{read}
use Rattle.serde_json.specs.Written.{compact_text}
use Rattle.ss_device.specs.Writing.{dead_line, device_line, end_line, item_line, row_line, stamp_line}
use Rattle.ss_device_file.specs.declared.lines.Version.TheVariants.{First, Second}
use Rattle.ss_device_file.specs.declared.lines.ItemLine.{ItemLine}
use Rattle.ss_device_file.specs.declared.lines.Line.{Line}
use Rattle.ss_device_file.specs.declared.lines.Line.TheVariants.{Head, Synced, Row, Item, Dead, End}
use Rattle.ss_device_file.specs.Cuts.{begins_as_item, item_front}
use Rattle.ss_device_file.specs.Lines.{HasForm, IsItemLine, IsLine, line_text, record_in}
use Rattle.ss_device_file.specs.Values.{is_item, line_in, parts_of}
use Rattle.ss_device_file.proofs.Written.{from_parts, json_line, read_line_back}
use Rattle.ss_text.proofs.Marks.{cut_at_byte}

pub begins_is : (l : Line) → begins_as_item (line_text l) ≡ is_item l
unfolding item_front device_line stamp_line row_line item_line dead_line end_line
begins_is (Head First) = refl
begins_is (Head Second) = refl
begins_is (Synced time) = refl
begins_is (Row r) = refl
begins_is (Item i) = refl
begins_is (Dead id time) = refl
begins_is End = refl

-- ---- cutting a text at a byte of ASCII

pub record_utf8 : (time : ℕ) (text : List ℕ) → IsUtf8 (item_line time text) → IsUtf8 text
unfolding item_line
record_utf8 time text u =
    let shape : codes "[\"item\"," ++ decimal time ++ codes "," ++ text ++ codes "]\n" ≡ (codes "[\"item\"," ++ decimal time) ++ 44 ∷ (text ++ 93 ∷ 10 ∷ []) = simp append_assoc in
    (cut_at_byte text (10 ∷ []) 93 (lit< tt) (cut_at_byte (codes "[\"item\"," ++ decimal time) (text ++ 93 ∷ 10 ∷ []) 44 (lit< tt) (subst IsUtf8 shape u)).1).0

-- ---- what a line says is the line that was written

ends_so : (xs ys : List ℕ) (a b : ℕ) → xs ++ a ∷ [] ≡ ys ++ b ∷ [] → (xs ≡ ys) × (a ≡ b)
ends_so [] [] a b e = (refl, cc)
ends_so [] (y ∷ ys) a b e =
    let l : length ([] ++ a ∷ []) ≡ length ((y ∷ ys) ++ b ∷ []) = ap length e in
    let m : length ((y ∷ ys) ++ b ∷ []) ≡ length (y ∷ ys) + 1 = length-append (y ∷ ys) (b ∷ []) in
    absurd (omega arith)
ends_so (x ∷ xs) [] a b e =
    let l : length ((x ∷ xs) ++ a ∷ []) ≡ length ([] ++ b ∷ []) = ap length e in
    let m : length ((x ∷ xs) ++ a ∷ []) ≡ length (x ∷ xs) + 1 = length-append (x ∷ xs) (a ∷ []) in
    absurd (omega arith)
ends_so (x ∷ xs) (y ∷ ys) a b e =
    let h : x ≡ y = cc in
    let t : xs ++ a ∷ [] ≡ ys ++ b ∷ [] = cc in
    let r = ends_so xs ys a b t in
    (ap₂ (λ u w. u ∷ w) h r.0, r.1)

pub value_said : (l : Line) → IsLine l → is_item l ≡ false → (text : List ℕ) (b : ℕ) → line_text l ≡ text ++ b ∷ [] → (line_in (read text) ≡ Some l) × (b ≡ 10)
value_said l h e text b is =
    let r = ends_so (compact_text (array (parts_of l))) text 10 b (sym (json_line l h.form e) ∙ is) in
    (ap (λ t. line_in (read t)) (sym r.0) ∙ (ap line_in (read_line_back l h.form e) ∙ from_parts l h.form e), sym r.1)

pub front_utf8 : (text : List ℕ) → IsUtf8 (text ++ 10 ∷ []) → IsUtf8 text
front_utf8 text u = (cut_at_byte text [] 10 (lit< tt) u).0

-- an item's line is told as such
pub item_told : (l : Line) (line : List ℕ) → line_text l ≡ line → (b : Bool) → b ≡ begins_as_item line → is_item l ≡ b
item_told l line is b e = sym (begins_is l) ∙ (ap begins_as_item is ∙ sym e)

pub some_length : (l : Line) → line_text l ≢ []
unfolding device_line stamp_line row_line item_line dead_line end_line
some_length (Head First) e = cc
some_length (Head Second) e = cc
some_length (Synced time) e = cc
some_length (Row r) e = cc
some_length (Item i) e = cc
some_length (Dead id time) e = cc
some_length End e = cc

-- by whether it is an item's
pub of_item : (l : Line) → is_item l ≡ true → (i : ItemLine) × (l ≡ Item i)
of_item (Head v) e = absurd (false≢true e)
of_item (Synced time) e = absurd (false≢true e)
of_item (Row r) e = absurd (false≢true e)
of_item (Item i) e = (i, refl)
of_item (Dead id time) e = absurd (false≢true e)
of_item End e = absurd (false≢true e)

pub line_utf8 : (l : Line) (line : List ℕ) → HasForm l → IsUtf8 line → line_text l ≡ line → IsLine l
line_utf8 l line h u is = record { form = h; utf8 = subst IsUtf8 (sym is) u }

pub item_said : (o : Option ItemLine) (line : List ℕ) → ((i : ItemLine) → IsItemLine i → IsUtf8 (record_in i) → item_line i.time (record_in i) ≡ line → o ≡ Some i)
    → (l : Line) → IsLine l → line_text l ≡ line → is_item l ≡ true → option_map Item o ≡ Some l
item_said o line all l h is e =
    let r = of_item l e in
    let k : IsLine (Item r.0) = subst IsLine r.1 h in
    let t : line_text (Item r.0) ≡ line = ap line_text (sym r.1) ∙ is in
    ap (option_map Item) (all r.0 k.form (record_utf8 r.0.time (record_in r.0) k.utf8) t) ∙ ap Some (sym r.1)
