-- The bodies of replies as JSON values: each body's text is its value's.
use Rattle.std.proofs.Common.{◌≡◌, ℕ, ℤ, true, false, List, [], ◌∷◌, ◌++◌, map, Option, Some, None, codes, decimal}
use Rattle.std.proofs.Common.{refl, sym, ap, ap₂, ◌∙◌, append_assoc}
use Rattle.std.specs.Fmt.{signed_decimal}
use Rattle.std.specs.List.{join_with_byte}
use Rattle.json.specs.Json.{Json, number, string, array, object, Items, no_items, item, Members, no_members, member}
use Rattle.json.specs.Print.{escape, escape_byte, quoted}
use Rattle.ss_text.specs.Time.{stamp_text}
use Rattle.ss_bso.specs.declared.rows.Row.{Row}
use Rattle.ss_bso.specs.declared.parts.Reason.{Reason}
use Rattle.ss_route.specs.Posts.{token}
use Rattle.ss_route.specs.Texts as texts
use Rattle.ss_query.specs.Reasons.{reason_name}
use Rattle.ss_route.specs.Texts.{list_text, object_text, member_text, row_text, sortindex_text, failure_text}
use Rattle.ss_route.specs.Texts.{records_text, limits, limits_text}
use Rattle.ss_serving.proofs.JsonTexts.{json_text, items_text, members_text}

-- ---- pieces in a row

five : (a b c d e : List ℕ) → a ++ b ++ c ++ d ++ e ≡ a ++ (b ++ (c ++ (d ++ e)))
five a b c d e = simp append_assoc

eight : (a b c d e f g h : List ℕ) → a ++ b ++ c ++ d ++ e ++ f ++ g ++ h ≡ a ++ (b ++ (c ++ (d ++ (e ++ (f ++ (g ++ h))))))
eight a b c d e f g h = simp append_assoc

-- ---- lists

abbrev pub items_of : List Json → Items
items_of [] = no_items
items_of (j ∷ js) = item j (items_of js)

module _ {X : Type 0} (text : X → List ℕ) (json : X → Json) (same : (x : X) → text x ≡ json_text (json x)) where
  joined_from : (x : X) (xs : List X) → join_with_byte 44 (map text (x ∷ xs)) ++ 93 ∷ [] ≡ json_text (json x) ++ items_text true (items_of (map json xs))
  joined_from x [] = ap (λ t. t ++ 93 ∷ []) (same x)
  joined_from x (y ∷ ys) =
      append_assoc (text x) (44 ∷ join_with_byte 44 (map text (y ∷ ys))) (93 ∷ [])
      ∙ ap₂ (λ s t. s ++ (44 ∷ t)) (same x) (joined_from y ys)

  joined : (xs : List X) → join_with_byte 44 (map text xs) ++ 93 ∷ [] ≡ items_text false (items_of (map json xs))
  joined [] = refl
  joined (x ∷ xs) = joined_from x xs

  pub list_is : (xs : List X) → list_text (map text xs) ≡ json_text (array (items_of (map json xs)))
  unfolding list_text
  list_is xs = ap (λ t. 91 ∷ t) (joined xs)

-- ---- objects

abbrev pub members_of : List (List ℕ × Json) → Members
members_of [] = no_members
members_of (e ∷ es) = member e.0 e.1 (members_of es)

abbrev pub entry_text : List ℕ × Json → List ℕ
entry_text e = quoted e.0 ++ 58 ∷ json_text e.1

module _ {X : Type 0} (text : X → List ℕ) (entry : X → List ℕ × Json) (same : (x : X) → text x ≡ entry_text (entry x)) where
  entries_from : (x : X) (xs : List X) → join_with_byte 44 (map text (x ∷ xs)) ++ 125 ∷ [] ≡ entry_text (entry x) ++ members_text true (members_of (map entry xs))
  entries_from x [] = ap (λ t. t ++ 125 ∷ []) (same x)
  entries_from x (y ∷ ys) =
      append_assoc (text x) (44 ∷ join_with_byte 44 (map text (y ∷ ys))) (125 ∷ [])
      ∙ ap₂ (λ s t. s ++ (44 ∷ t)) (same x) (entries_from y ys ∙ append_assoc (quoted (entry y).0) (58 ∷ json_text (entry y).1) _)

  entries : (xs : List X) → join_with_byte 44 (map text xs) ++ 125 ∷ [] ≡ members_text false (members_of (map entry xs))
  entries [] = refl
  entries (x ∷ xs) = entries_from x xs ∙ append_assoc (quoted (entry x).0) (58 ∷ json_text (entry x).1) _

  pub object_is : (xs : List X) → object_text (map text xs) ≡ json_text (object (members_of (map entry xs)))
  unfolding object_text
  object_is xs = ap (λ t. 123 ∷ t) (entries xs)

-- ---- rows

abbrev pub sortindex_json : Option ℤ → Members
sortindex_json None = no_members
sortindex_json (Some index) = member (codes "sortindex") (number (signed_decimal index)) no_members

abbrev pub row_json : Row → Json
row_json row = object (member (codes "id") (string row.id) (member (codes "modified") (number (stamp_text row.modified)) (member (codes "payload") (string row.payload) (sortindex_json row.sortindex))))

last_member : (index : Option ℤ) → sortindex_text index ++ codes "}" ≡ members_text true (sortindex_json index)
unfolding sortindex_text escape_byte
last_member None = refl
last_member (Some index) = refl

pub row_is : (row : Row) → row_text row ≡ json_text (row_json row)
unfolding row_text texts.json_text escape_byte
row_is row =
    eight (codes "{\"id\":") (quoted row.id) (codes ",\"modified\":") (stamp_text row.modified) (codes ",\"payload\":") (quoted row.payload) (sortindex_text row.sortindex) (codes "}")
    ∙ ap (λ t. codes "{\"id\":" ++ (quoted row.id ++ (codes ",\"modified\":" ++ (stamp_text row.modified ++ (codes ",\"payload\":" ++ (quoted row.payload ++ t)))))) (last_member row.sortindex)

-- ---- ids

pub id_is : (id : List ℕ) → texts.json_text id ≡ json_text (string id)
unfolding texts.json_text
id_is id = refl

abbrev pub rows_json : List Row → Json
rows_json rows = array (items_of (map row_json rows))

abbrev pub ids_json : List (List ℕ) → Json
ids_json ids = array (items_of (map string ids))

pub rows_are : (rows : List Row) → list_text (map row_text rows) ≡ json_text (rows_json rows)
rows_are rows = list_is row_text row_json row_is rows

pub ids_are : (ids : List (List ℕ)) → list_text (map texts.json_text ids) ≡ json_text (ids_json ids)
ids_are ids = list_is texts.json_text string id_is ids

-- ---- what a POST is told

abbrev pub failure_json : List ℕ × Reason → List ℕ × Json
failure_json failure = (failure.0, array (item (string (reason_name failure.1)) no_items))

reason_is : (reason : Reason) → codes "[\"" ++ reason_name reason ++ codes "\"]" ≡ json_text (array (item (string (reason_name reason)) no_items))
unfolding escape_byte
reason_is Reason.Payload = refl
reason_is Reason.TooLarge = refl
reason_is Reason.Sortindex = refl
reason_is Reason.Ttl = refl

failure_is : (failure : List ℕ × Reason) → failure_text failure ≡ entry_text (failure_json failure)
unfolding member_text texts.json_text
failure_is failure = append_assoc (quoted failure.0) (58 ∷ []) _ ∙ ap (λ t. quoted failure.0 ++ 58 ∷ t) (reason_is failure.1)

abbrev pub failed_json : List (List ℕ × Reason) → Json
failed_json failed = object (members_of (map failure_json failed))

pub failed_are : (failed : List (List ℕ × Reason)) → object_text (map failure_text failed) ≡ json_text (failed_json failed)
failed_are failed = object_is failure_text failure_json failure_is failed

abbrev pub records_json : List (List ℕ) → List (List ℕ × Reason) → Members
records_json success failed = member (codes "success") (ids_json success) (member (codes "failed") (failed_json failed) no_members)

records_are : (success : List (List ℕ)) (failed : List (List ℕ × Reason)) → records_text success failed ≡ members_text true (records_json success failed)
unfolding records_text escape_byte
records_are success failed =
    ap₂ (λ s t. codes ",\"success\":" ++ s ++ codes ",\"failed\":" ++ t ++ codes "}") (ids_are success) (failed_are failed)
    ∙ five (codes ",\"success\":") (json_text (ids_json success)) (codes ",\"failed\":") (json_text (failed_json failed)) (codes "}")

abbrev pub posted_json : ℕ → List (List ℕ) → List (List ℕ × Reason) → Json
posted_json time success failed = object (member (codes "modified") (number (stamp_text time)) (records_json success failed))

pub posted_is : (time : ℕ) (success : List (List ℕ)) (failed : List (List ℕ × Reason))
    → codes "{\"modified\":" ++ stamp_text time ++ records_text success failed ≡ json_text (posted_json time success failed)
unfolding escape_byte
posted_is time success failed = ap (λ t. codes "{\"modified\":" ++ stamp_text time ++ t) (records_are success failed)

abbrev pub staged_json : ℕ → List (List ℕ) → List (List ℕ × Reason) → Json
staged_json batch success failed = object (member (codes "batch") (string (token batch)) (records_json success failed))

pub staged_is : (batch : ℕ) (success : List (List ℕ)) (failed : List (List ℕ × Reason)) → escape (token batch) ≡ token batch
    → codes "{\"batch\":\"" ++ token batch ++ codes "\"" ++ records_text success failed ≡ json_text (staged_json batch success failed)
unfolding escape_byte
staged_is batch success failed plain =
    ap₂ (λ s t. codes "{\"batch\":\"" ++ s ++ codes "\"" ++ t) (sym plain) (records_are success failed)

-- ---- the limits

abbrev pub limit_json : List ℕ × ℕ → List ℕ × Json
limit_json limit = (limit.0, number (decimal limit.1))

limit_is : (limit : List ℕ × ℕ) → member_text limit.0 (decimal limit.1) ≡ entry_text (limit_json limit)
unfolding member_text texts.json_text
limit_is limit = append_assoc (quoted limit.0) (58 ∷ []) (decimal limit.1)

abbrev pub limits_json : Json
limits_json = object (members_of (map limit_json limits))

pub limits_are : limits_text ≡ json_text limits_json
unfolding limits_text
limits_are = object_is (λ limit. member_text limit.0 (decimal limit.1)) limit_json limit_is limits
