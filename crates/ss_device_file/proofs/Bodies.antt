-- A line of a device's file has one line break, at its end.
use Rattle.std.proofs.Common.{◌≡◌, ℕ, suc, ◌+◌, ◌≤◌, ◌==◌, ◌||◌, not, nat_lt, Bool, true, false, cond, List, [], ◌∷◌}
use Rattle.std.proofs.Common.{◌++◌, length, take, Some, None, is_some, codes, decimal, position, append_assoc, refl}
use Rattle.std.proofs.Common.{sym, ap, ap₂, subst, ◌∙◌, arith, ltb, lt-ltb, ne_eqb, length-append}
use Rattle.std.specs.Bool.{⊤}
use Rattle.std.specs.List.{prefix_len, list_any}
use Rattle.std.proofs.lemmas.Bool.{false≢true, le-ltb, ltb-false, ltb-true}
use Rattle.std.proofs.lemmas.Fmt.{decimal_is_IsNumeral}
use Rattle.std.proofs.Math.Seq.{take-append_seam}
use Rattle.serde_json.specs.Data.{unsigned, negative, float, null, boolean, number, string, array, object, Items}
use Rattle.serde_json.specs.Data.{no_items, item, Members, put}
use Rattle.serde_json.specs.Written.{comma_if, compact_text, items_text}
use Rattle.ss_text.specs.Time.{last_stamp}
use Rattle.ss_record.specs.declared.kinds.Kind.{Kind}
use Rattle.ss_record.specs.Items.{ItemView, is_fit}
use Rattle.ss_record.specs.Kinds.{is_folder, kind_name}
use Rattle.ss_record.specs.Marks.{is_plain, marked_string, members_plain, said_text}
use Rattle.ss_record.specs.Records.{record_members, record_of, string_items}
use Rattle.ss_record.proofs.Exact.{payload_plain}
use Rattle.ss_record.proofs.Fit.{fit_members, record_text_is}
use Rattle.ss_record.proofs.Strings.{kind_said, name_plain, string_plain}
use Rattle.ss_record.proofs.Unmarked.{plain-put, plain_strings}
use Rattle.ss_device.specs.Writing.{item_line}
use Rattle.ss_device_file.specs.declared.lines.Version.TheVariants.{First, Second}
use Rattle.ss_device_file.specs.declared.lines.Line.{Line}
use Rattle.ss_device_file.specs.declared.lines.Line.TheVariants.{Head, Synced, Row, Item, Dead, End}
use Rattle.ss_device_file.specs.Lines.{HasForm, line_text, record_in}
use Rattle.ss_device_file.specs.Values.{is_item, parts_of}
use Rattle.ss_device_file.proofs.Breaks.{unmarked_noline}
use Rattle.ss_device_file.proofs.Written.{json_line}
use Rattle.ss_record.proofs.OneLine.{NoLine, noline_by, noline_append, digits_noline, quoted_noline, value_noline}
use Rattle.ss_record.proofs.OneLine.{comma_noline}

-- ---- lists of texts and numbers

abbrev AreFlat : Items → Type 0
AreFlat no_items = ⊤
AreFlat (item (string s) ps) = AreFlat ps
AreFlat (item (number (unsigned n)) ps) = (n ≤ last_stamp) × AreFlat ps
AreFlat (item _ ps) = ⊥

number_noline : (n : ℕ) → n ≤ last_stamp → NoLine (decimal n)
number_noline n h = digits_noline (decimal n) (decimal_is_IsNumeral n (omega arith)).0.1

flat_noline : (later : Bool) (ps : Items) → AreFlat ps → NoLine (items_text later ps)
flat_noline later no_items h = noline_by (93 ∷ []) refl
flat_noline later (item (string s) ps) h = noline_append (comma_if later) _ (comma_noline later) (noline_append (compact_text (string s)) (items_text true ps) (quoted_noline s) (flat_noline true ps h))
flat_noline later (item (number (unsigned n)) ps) h = noline_append (comma_if later) _ (comma_noline later) (noline_append (decimal n) (items_text true ps) (number_noline n h.0) (flat_noline true ps h.1))
flat_noline later (item (number (negative z)) ps) h = absurd h
flat_noline later (item (number (float x)) ps) h = absurd h
flat_noline later (item null ps) h = absurd h
flat_noline later (item (boolean b) ps) h = absurd h
flat_noline later (item (array ds) ps) h = absurd h
flat_noline later (item (object ms) ps) h = absurd h

parts_flat : (l : Line) → HasForm l → is_item l ≡ false → AreFlat (parts_of l)
parts_flat (Head First) h e = (omega arith, tt)
parts_flat (Head Second) h e = (omega arith, tt)
parts_flat (Synced time) h e = tt
parts_flat (Row r) h e = tt
parts_flat (Item i) h e = absurd (false≢true (sym e))
parts_flat (Dead id time) h e = (h.1, tt)
parts_flat End h e = tt

value_body : (l : Line) → HasForm l → is_item l ≡ false → NoLine (compact_text (array (parts_of l)))
value_body l h e = ((λ is. omega arith), flat_noline false (parts_of l) (parts_flat l h e))

-- ---- records

text_plain : (s : List ℕ) → is_plain (string (marked_string s)) ≡ true
text_plain s = string_plain s

kind_plain : (k : Kind) → is_plain (string (kind_name k)) ≡ true
kind_plain k = name_plain (kind_name k) (ap is_some (kind_said k))

abbrev told : ItemView → Members → List ℕ → Members
told i ms p = put (codes "id") (string (marked_string i.id)) (put (codes "type") (string (kind_name i.kind)) (put (codes "parentid") (string (marked_string p)) ms))

told_plain : (i : ItemView) (ms : Members) (p : List ℕ) → members_plain ms ≡ true → members_plain (told i ms p) ≡ true
unfolding said_text
told_plain i ms p h =
    plain-put (codes "id") (string (marked_string i.id)) (put (codes "type") (string (kind_name i.kind)) (put (codes "parentid") (string (marked_string p)) ms)) refl (text_plain i.id)
    (plain-put (codes "type") (string (kind_name i.kind)) (put (codes "parentid") (string (marked_string p)) ms) refl (kind_plain i.kind)
    (plain-put (codes "parentid") (string (marked_string p)) ms refl (text_plain p) h))

record_plain : (i : ItemView) (ms : Members) (p : List ℕ) (cs : List (List ℕ)) → members_plain ms ≡ true → members_plain (record_members i.id i.kind ms p cs) ≡ true
unfolding record_members said_text
record_plain i ms p cs h = go (is_folder i.kind) (told_plain i ms p h)
  where
    go : (b : Bool) → members_plain (told i ms p) ≡ true → members_plain (cond b (put (codes "children") (array (string_items cs)) (told i ms p)) (told i ms p)) ≡ true
    go true t = plain-put (codes "children") (array (string_items cs)) (told i ms p) refl (plain_strings cs) t
    go false t = t

pub record_noline : (i : ItemView) (p : List ℕ) (cs : List (List ℕ)) → is_fit i ≡ true → NoLine (record_of i p cs)
record_noline i p cs fit =
    let m = fit_members i fit in
    subst NoLine (record_text_is i m.0 p cs m.1)
    (unmarked_noline (compact_text (object (record_members i.id i.kind m.0 p cs))) (value_noline (object (record_members i.id i.kind m.0 p cs)) (record_plain i m.0 p cs (payload_plain i.content m.0 m.1))))

-- ---- a line is its body and a line break

pub record HasBody (text : List ℕ) : Type 0 where
  pub body : List ℕ
  pub text_is : text ≡ body ++ 10 ∷ []
  pub one : NoLine body

item_body : (i : ItemView) (time : ℕ) (p : List ℕ) (cs : List (List ℕ)) → is_fit i ≡ true → time ≤ last_stamp → HasBody (item_line time (record_of i p cs))
unfolding item_line
item_body i time p cs fit h = record {
  body = (codes "[\"item\"," ++ decimal time ++ codes "," ++ record_of i p cs) ++ 93 ∷ [];
  text_is = sym (append_assoc (codes "[\"item\"," ++ decimal time ++ codes "," ++ record_of i p cs) (93 ∷ []) (10 ∷ []));
  one =
      noline_append (codes "[\"item\"," ++ decimal time ++ codes "," ++ record_of i p cs) (93 ∷ []) (noline_append (codes "[\"item\"," ++ decimal time ++ codes ",") (record_of i p cs) (noline_append (codes "[\"item\"," ++ decimal time) (codes ",") (noline_append (codes "[\"item\",") (decimal time) (noline_by (codes "[\"item\",") refl) (number_noline time h)) (noline_by (codes ",") refl)) (record_noline i p cs fit)) (noline_by (93 ∷ []) refl);
}

value_has_body : (l : Line) → HasForm l → is_item l ≡ false → HasBody (line_text l)
value_has_body l h e = record { body = compact_text (array (parts_of l)); text_is = json_line l h e; one = value_body l h e }

pub line_body : (l : Line) → HasForm l → HasBody (line_text l)
unfolding record_in
line_body (Head v) h = value_has_body (Head v) h refl
line_body (Synced time) h = value_has_body (Synced time) h refl
line_body (Row r) h = value_has_body (Row r) h refl
line_body (Item i) h = item_body i.item i.time i.parent i.children h.fit h.time
line_body (Dead id time) h = value_has_body (Dead id time) h refl
line_body End h = value_has_body End h refl

-- ---- where the first line break stands

before_break : (body rest : List ℕ) → NoLine body → prefix_len (λ b. not (b == 10)) (body ++ 10 ∷ rest) ≡ length body
before_break [] rest h = refl
before_break (x ∷ xs) rest h = let ih = before_break xs rest h.1 in ap (λ t. cond (not t) (1 + prefix_len (λ b. not (b == 10)) (xs ++ 10 ∷ rest)) 0) (ne_eqb x 10 h.0) ∙ omega arith

pub break_at : (body rest : List ℕ) → NoLine body → position (λ b. b == 10) (body ++ 10 ∷ rest) ≡ Some (length body)
break_at body rest h =
    let p = before_break body rest h in
    let l : length (body ++ 10 ∷ rest) ≡ length body + suc (length rest) = length-append body (10 ∷ rest) in
    ap₂ (λ k b. cond b (Some k) None) p (ap (λ k. nat_lt k (length (body ++ 10 ∷ rest))) p ∙ lt-ltb _ _ (omega arith))

ltb_both : (a b : ℕ) → ltb a b ≡ ltb (1 + a) (suc b)
ltb_both a b = go (ltb a b) refl
  where
    go : (t : Bool) → ltb a b ≡ t → ltb a b ≡ ltb (1 + a) (suc b)
    go true q = let l = ltb-true a b q in q ∙ sym (lt-ltb (1 + a) (suc b) (omega arith))
    go false q = let l = ltb-false a b q in q ∙ sym (le-ltb (1 + a) (suc b) (omega arith))

any_break : (xs : List ℕ) → list_any (λ b. b == 10) xs ≡ nat_lt (prefix_len (λ b. not (b == 10)) xs) (length xs)
any_break [] = refl
any_break (x ∷ xs) = go (x == 10) (any_break xs)
  where
    go : (b : Bool) → list_any (λ c. c == 10) xs ≡ nat_lt (prefix_len (λ c. not (c == 10)) xs) (length xs)
        → (b || list_any (λ c. c == 10) xs) ≡ nat_lt (cond (not b) (1 + prefix_len (λ c. not (c == 10)) xs) 0) (suc (length xs))
    go true ih = sym (lt-ltb 0 (suc (length xs)) (omega arith))
    go false ih = ih ∙ ltb_both (prefix_len (λ c. not (c == 10)) xs) (length xs)

pub has_break : (xs : List ℕ) → list_any (λ b. b == 10) xs ≡ is_some (position (λ b. b == 10) xs)
has_break xs = any_break xs ∙ go (nat_lt (prefix_len (λ b. not (b == 10)) xs) (length xs))
  where
    go : (b : Bool) → b ≡ is_some (cond b (Some (prefix_len (λ c. not (c == 10)) xs)) None)
    go true = refl
    go false = refl

-- a text that goes on with a line has its first line break at that line's end
pub goes_on : (l : Line) → HasForm l → (rest back : List ℕ) → rest ≡ line_text l ++ back → (k : ℕ) × (Some k ≡ position (λ b. b == 10) rest) × (take (k + 1) rest ≡ line_text l)
goes_on l h rest back is =
    let b = line_body l h in
    let shape : rest ≡ b.body ++ 10 ∷ back = is ∙ (ap (λ t. t ++ back) b.text_is ∙ append_assoc b.body (10 ∷ []) back) in (
      length b.body,
      sym (ap (position (λ x. x == 10)) shape ∙ break_at b.body back b.one),
      let n : length (b.body ++ 10 ∷ []) ≡ length b.body + 1 = length-append b.body (10 ∷ []) in
          ap₂ take (sym n) (is ∙ ap (λ t. t ++ back) b.text_is) ∙ (take-append_seam (b.body ++ 10 ∷ []) back ∙ sym b.text_is),
    )
