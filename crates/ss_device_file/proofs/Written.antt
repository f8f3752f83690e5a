-- Lines as JSON values: what is written for a line reads back as it.
use Rattle.std.proofs.Common.{◌≡◌, ℕ, ◌/◌, ◌%◌, ◌≤◌, leb, Bool, true, false, cond, List, [], ◌∷◌, ◌++◌, Option, Some}
use Rattle.std.proofs.Common.{None, option_map, option_and_then, codes, decimal, append_assoc, refl, sym, ap, ap₂}
use Rattle.std.proofs.Common.{subst, ◌∙◌, arith, le-leb, lt-ltb, lit≤, bytes_eq}
use Rattle.std.specs.List.{list_all}
use Rattle.std.proofs.lemmas.Bool.{and_parts, false≢true, leb-true}
use Rattle.std.specs.Char.{is_ascii_digit}
use Rattle.std.specs.Fmt.{digits}
use Rattle.json.specs.Print.{escape_byte, escape}
use Rattle.json.proofs.Printed.Strings.{escape_byte_plain}
use Rattle.json.specs.Json as json
use Rattle.serde_json.specs.Data.{unsigned, Data, null, boolean, number, string, array, object, Items, no_items, item}
use Rattle.serde_json.specs.Read.{read, of_items, number_of}
use Rattle.serde_json.specs.Written.{compact_text}
use Rattle.serde_json.proofs.Numbers.{number_of-decimal}
use Rattle.ss_text.specs.Names.{is_id}
use Rattle.ss_text.specs.Time.{last_stamp, stamp_of, stamp_text, two_digits}
use Rattle.ss_record.proofs.Texts.{read_compact}
use Rattle.ss_record.proofs.Sorted.{HasNumbers-number}
use Rattle.ss_record.specs.Marks.{is_plain_number}
use Rattle.ss_device.specs.Writing.{dead_line, device_line, end_line, row_line, stamp_line}
use Rattle.ss_device_file.specs.declared.lines.Version.TheVariants.{First, Second}
use Rattle.ss_device_file.specs.declared.lines.Line.{Line}
use Rattle.ss_device_file.specs.declared.lines.Line.TheVariants.{Head, Synced, Row, Item, Dead, End}
use Rattle.ss_device_file.specs.Lines.{HasForm, line_text}
use Rattle.ss_device_file.specs.Values.{parts_of, is_item, line_in, line_from, head_from, synced_from, row_from}
use Rattle.ss_device_file.specs.Values.{dead_from, row_with, device_line_of_tag, time_of, version_of, text_at}
use Rattle.ss_device_file.specs.Values.{number_at}
use Rattle.ss_text.specs.Names.{id_of}
use Rattle.ss_device_file.specs.Values.{stamp_at, id_at, time_at}
use Rattle.ss_device_file.proofs.Numbers.{stamp_small}
use Rattle.ss_text.proofs.StampTexts.{two_are_digits, decimal_digits, stamp_again}
use Rattle.ss_text.proofs.Basics.{and_then_some, map_some, some_same}

-- ---- from a line's items

pub from_parts : (l : Line) → HasForm l → is_item l ≡ false → line_from (parts_of l) ≡ Some l
unfolding line_from head_from synced_from row_from dead_from
from_parts (Head First) h e = refl
from_parts (Head Second) h e = refl
from_parts (Synced time) h e = ap (option_map Synced) (stamp_again time h)
from_parts (Row r) h e =
    ap (option_and_then (λ time. option_and_then (λ id. option_map (row_with time id) (Some r.payload)) (cond (is_id r.id) (Some r.id) None))) (stamp_again r.modified h.1)
    ∙ ap (λ b. option_and_then (λ id. option_map (row_with r.modified id) (Some r.payload)) (cond b (Some r.id) None)) h.0
from_parts (Item i) h e = absurd (false≢true (sym e))
from_parts (Dead id time) h e =
    ap₂ (λ a b. option_and_then (λ t. option_map (λ x. Dead x t) (cond b (Some id) None)) (cond a (Some time) None)) (le-leb time last_stamp h.1) h.0
from_parts End h e = refl

-- ---- what is read has its form

has_id_form : (o : Option (List ℕ)) (id : List ℕ) → option_and_then id_of o ≡ Some id → is_id id ≡ true
has_id_form o id h =
    let r = and_then_some id_of o id h in
    go r.0 (is_id r.0) refl r.2
  where
    go : (text : List ℕ) (b : Bool) → is_id text ≡ b → cond b (Some text) None ≡ Some id → is_id id ≡ true
    go text true q e = let same : text ≡ id = cc in subst (λ x. is_id x ≡ true) same q
    go text false q e = cc

has_time_form : (o : Option ℕ) (time : ℕ) → option_and_then time_of o ≡ Some time → time ≤ last_stamp
has_time_form o time h =
    let r = and_then_some time_of o time h in
    go r.0 (leb r.0 last_stamp) refl r.2
  where
    go : (n : ℕ) (b : Bool) → leb n last_stamp ≡ b → cond b (Some n) None ≡ Some time → time ≤ last_stamp
    go n true q e = let same : n ≡ time = cc in let le : n ≤ last_stamp = leb-true n last_stamp q in subst (λ x. x ≤ last_stamp) same le
    go n false q e = cc

has_stamp_form : (o : Option (List ℕ)) (time : ℕ) → option_and_then stamp_of o ≡ Some time → time ≤ last_stamp
has_stamp_form o time h = let r = and_then_some stamp_of o time h in stamp_small r.0 time r.2

-- ---- a line of this list has its form

head_form : (ps : Items) (l : Line) → head_from ps ≡ Some l → HasForm l
unfolding head_from
head_form ps l h = let r = map_some Head (option_and_then version_of (number_at 1 ps)) l h in subst HasForm r.2 tt

synced_form : (ps : Items) (l : Line) → synced_from ps ≡ Some l → HasForm l
unfolding synced_from
synced_form ps l h = let r = map_some Synced (stamp_at 1 ps) l h in subst HasForm r.2 (has_stamp_form (text_at 1 ps) r.0 r.1)

row_form : (ps : Items) (l : Line) → row_from ps ≡ Some l → HasForm l
unfolding row_from
row_form ps l h =
    let t = and_then_some (λ time. option_and_then (λ id. option_map (row_with time id) (text_at 3 ps)) (id_at 2 ps)) (stamp_at 1 ps) l h in
    let i = and_then_some (λ id. option_map (row_with t.0 id) (text_at 3 ps)) (id_at 2 ps) l t.2 in
    let p = map_some (row_with t.0 i.0) (text_at 3 ps) l i.2 in
    subst HasForm p.2 (has_id_form (text_at 2 ps) i.0 i.1, has_stamp_form (text_at 1 ps) t.0 t.1)

dead_form : (ps : Items) (l : Line) → dead_from ps ≡ Some l → HasForm l
unfolding dead_from
dead_form ps l h =
    let t = and_then_some (λ time. option_map (λ id. Dead id time) (id_at 2 ps)) (time_at 1 ps) l h in
    let i = map_some (λ id. Dead id t.0) (id_at 2 ps) l t.2 in
    subst HasForm i.2 (has_id_form (text_at 2 ps) i.0 i.1, has_time_form (number_at 1 ps) t.0 t.1)

tagged_form : (tag : List ℕ) (ps : Items) (l : Line) → device_line_of_tag tag ps ≡ Some l → HasForm l
tagged_form tag ps l = go (bytes_eq tag (codes "device")) (bytes_eq tag (codes "stamp")) (bytes_eq tag (codes "row")) (bytes_eq tag (codes "dead")) (bytes_eq tag (codes "end"))
  where
    go : (a b c d e : Bool) → cond a (head_from ps) (cond b (synced_from ps) (cond c (row_from ps) (cond d (dead_from ps) (cond e (Some End) None)))) ≡ Some l → HasForm l
    go true b c d e h = head_form ps l h
    go false true c d e h = synced_form ps l h
    go false false true d e h = row_form ps l h
    go false false false true e h = dead_form ps l h
    go false false false false true h = subst HasForm (some_same h) tt
    go false false false false false h = cc

pub form_from : (ps : Items) (l : Line) → line_from ps ≡ Some l → HasForm l
unfolding line_from
form_from ps l h = let r = and_then_some (λ tag. device_line_of_tag tag ps) (text_at 0 ps) l h in tagged_form r.0 ps l r.2

pub form_in : (o : Option Data) (l : Line) → line_in o ≡ Some l → HasForm l
form_in None l h = cc
form_in (Some null) l h = cc
form_in (Some (boolean b)) l h = cc
form_in (Some (number n)) l h = cc
form_in (Some (string s)) l h = cc
form_in (Some (array ps)) l h = form_from ps l h
form_in (Some (object ms)) l h = cc

-- ---- a line is the compact text of its items

digit_plain : (c : ℕ) → is_ascii_digit c ≡ true → escape_byte c ≡ c ∷ []
digit_plain c h = let low = leb-true 48 c (and_parts (leb 48 c) (leb c 57) h).0 in let high = leb-true c 57 (and_parts (leb 48 c) (leb c 57) h).1 in escape_byte_plain c (λ e. omega arith) (λ e. omega arith) (omega arith)

digits_plain : (ds : List ℕ) → list_all is_ascii_digit ds ≡ true → escape ds ≡ ds
digits_plain [] h = refl
digits_plain (d ∷ ds) h = let p = and_parts (is_ascii_digit d) (list_all is_ascii_digit ds) h in ap₂ (λ a b. a ++ b) (digit_plain d p.0) (digits_plain ds p.1)

escape-append : (xs ys : List ℕ) → escape (xs ++ ys) ≡ escape xs ++ escape ys
escape-append [] ys = refl
escape-append (x ∷ xs) ys = ap (λ t. escape_byte x ++ t) (escape-append xs ys) ∙ sym (append_assoc (escape_byte x) (escape xs) (escape ys))

stamp_plain : (t : ℕ) → t ≤ last_stamp → escape (stamp_text t) ≡ stamp_text t
unfolding stamp_text
stamp_plain t h =
    escape-append (decimal (t / 100)) (0x2e ∷ two_digits (t % 100))
    ∙ ap₂ (λ a b. a ++ b) (digits_plain (decimal (t / 100)) (decimal_digits (t / 100) (omega arith)))
    (ap₂ (λ a b. a ++ b) (escape_byte_plain 0x2e (λ e. omega arith) (λ e. omega arith) (omega arith)) (digits_plain (two_digits (t % 100)) (two_are_digits (t % 100) (omega arith))))

-- the text of a list of a tag and more, with its newline
abbrev list_text : Items → List ℕ
list_text ps = compact_text (array ps) ++ 10 ∷ []

first_head : line_text (Head First) ≡ compact_text (array (parts_of (Head First))) ++ 10 ∷ []
unfolding escape_byte digits
first_head = refl

second_head : line_text (Head Second) ≡ compact_text (array (parts_of (Head Second))) ++ 10 ∷ []
unfolding device_line escape_byte digits
second_head = refl

row_shape : (front s i p : List ℕ) → front ++ s ++ 34 ∷ 44 ∷ [] ++ 34 ∷ (i ++ 34 ∷ []) ++ 44 ∷ [] ++ 34 ∷ (p ++ 34 ∷ []) ++ 93 ∷ 10 ∷ []
    ≡ front ++ (s ++ 34 ∷ 44 ∷ 34 ∷ (i ++ 34 ∷ 44 ∷ 34 ∷ (p ++ 34 ∷ 93 ∷ 10 ∷ [])))
row_shape front s i p = simp append_assoc

row_parts : (front s i p : List ℕ) → front ++ ((s ++ 34 ∷ []) ++ 44 ∷ (34 ∷ (i ++ 34 ∷ []) ++ 44 ∷ (34 ∷ (p ++ 34 ∷ []) ++ 93 ∷ []))) ++ 10 ∷ []
    ≡ front ++ (s ++ 34 ∷ 44 ∷ 34 ∷ (i ++ 34 ∷ 44 ∷ 34 ∷ (p ++ 34 ∷ 93 ∷ 10 ∷ [])))
row_parts front s i p = simp append_assoc

dead_shape : (front d i : List ℕ) → front ++ d ++ 44 ∷ [] ++ 34 ∷ (i ++ 34 ∷ []) ++ 93 ∷ 10 ∷ [] ≡ front ++ (d ++ 44 ∷ 34 ∷ (i ++ 34 ∷ 93 ∷ 10 ∷ []))
dead_shape front d i = simp append_assoc

dead_parts : (front d i : List ℕ) → front ++ (d ++ 44 ∷ (34 ∷ (i ++ 34 ∷ []) ++ 93 ∷ [])) ++ 10 ∷ [] ≡ front ++ (d ++ 44 ∷ 34 ∷ (i ++ 34 ∷ 93 ∷ 10 ∷ []))
dead_parts front d i = simp append_assoc

pub json_line : (l : Line) → HasForm l → is_item l ≡ false → line_text l ≡ compact_text (array (parts_of l)) ++ 10 ∷ []
unfolding stamp_line row_line dead_line end_line escape_byte
json_line (Head First) h e = first_head
json_line (Head Second) h e = second_head
json_line (Synced time) h e = let q : escape (stamp_text time) ≡ stamp_text time = stamp_plain time h in simp (append_assoc, q)
json_line (Row r) h e =
    row_shape (codes "[\"row\",\"") (stamp_text r.modified) (escape r.id) (escape r.payload)
    ∙ (ap (λ s. codes "[\"row\",\"" ++ (s ++ 34 ∷ 44 ∷ 34 ∷ (escape r.id ++ 34 ∷ 44 ∷ 34 ∷ (escape r.payload ++ 34 ∷ 93 ∷ 10 ∷ [])))) (sym (stamp_plain r.modified h.1))
    ∙ sym (row_parts (codes "[\"row\",\"") (escape (stamp_text r.modified)) (escape r.id) (escape r.payload)))
json_line (Item i) h e = absurd (false≢true (sym e))
json_line (Dead id time) h e = dead_shape (codes "[\"dead\",") (decimal time) (escape id) ∙ sym (dead_parts (codes "[\"dead\",") (decimal time) (escape id))
json_line End h e = refl

-- ---- that text is read back

numbered : (n : ℕ) → n ≤ last_stamp → is_plain_number (unsigned n) ≡ true
unfolding is_plain_number
numbered n h = lt-ltb n 1000000000000000000 (omega arith)

with_number : (tag : List ℕ) (n : ℕ) (js : json.Items) (rest : Items) → of_items js ≡ Some rest → n ≤ last_stamp
    → option_map array (option_map (item (string tag)) (option_and_then (λ d. option_map (item d) (of_items js)) (option_map number (number_of (decimal n))))) ≡ Some (array (item (string tag) (item (number (unsigned n)) rest)))
with_number tag n js rest e h =
    ap₂ (λ o m. option_map array (option_map (item (string tag)) (option_and_then (λ d. option_map (item d) o) (option_map number m)))) e (number_of-decimal n (omega arith))

pub read_line_back : (l : Line) → HasForm l → is_item l ≡ false → read (compact_text (array (parts_of l))) ≡ Some (array (parts_of l))
read_line_back (Head First) h e = read_compact (array (parts_of (Head First))) (tt, (HasNumbers-number (unsigned 1) (numbered 1 (lit≤ tt)), tt)) (lit≤ tt) ∙ with_number (codes "device") 1 json.no_items no_items refl (lit≤ tt)
read_line_back (Head Second) h e = read_compact (array (parts_of (Head Second))) (tt, (HasNumbers-number (unsigned 2) (numbered 2 (lit≤ tt)), tt)) (lit≤ tt) ∙ with_number (codes "device") 2 json.no_items no_items refl (lit≤ tt)
read_line_back (Synced time) h e = read_compact (array (parts_of (Synced time))) (tt, (tt, tt)) (lit≤ tt)
read_line_back (Row r) h e = read_compact (array (parts_of (Row r))) (tt, (tt, (tt, (tt, tt)))) (lit≤ tt)
read_line_back (Item i) h e = absurd (false≢true (sym e))
read_line_back (Dead id time) h e = read_compact (array (parts_of (Dead id time))) (tt, (HasNumbers-number (unsigned time) (numbered time h.1), (tt, tt))) (lit≤ tt) ∙ with_number (codes "dead") time (json.item (json.string id) json.no_items) (item (string id) no_items) refl h.1
read_line_back End h e = read_compact (array (parts_of End)) (tt, tt) (lit≤ tt)
