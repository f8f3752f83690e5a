-- The body that a client writes is read as its parts.
use Rattle.std.proofs.Common.{◌≡◌, ℕ, ◌+◌, ◌≤◌, List, [], ◌∷◌, ◌++◌, length, map, Bool, true, false, ◌==◌, cond, Option}
use Rattle.std.proofs.Common.{Some, None, option_map, option_and_then, Ok, Err, codes, is_some, refl, sym, ap, ap₂, ◌∙◌}
use Rattle.std.proofs.Common.{arith, lit≤, append_assoc, append-nil, le-ltb}
use Rattle.std.specs.List.{flat_map, filter_map, cons_option, join_with_byte, AllByRecursion}
use Rattle.std.specs.Str.{IsUtf8, is_utf8}
use Rattle.std.proofs.lemmas.Str.{IsUtf8-append, is_utf8-from_IsUtf8}
use Rattle.json.proofs.Printed.Utf8.{IsUtf8-are_ascii, IsUtf8-quoted}
use Rattle.json.specs.Print.{escape_byte, quoted}
use Rattle.json.specs.Print.{print, print_from}
use Rattle.json.specs.Token.{Token, end_array}
use Rattle.json.specs.Tree.{json_tokens, items_tokens, ItemsHaveNumbers, items_depth, depth}
use Rattle.json.specs.Json as json
use Rattle.json.specs.Lex.{tokens}
use Rattle.json.proofs.Printed.Tokens.{tokens-print}
use Rattle.json.proofs.Printed.Trees.{ArePrintable-json_tokens, value-json_tokens}
use Rattle.serde_json.specs.Read.{read, max_depth, of_json, of_items}
use Rattle.ss_text.specs.Names.{is_id}
use Rattle.ss_text.specs.Decimals.{is_number_byte, outside, pieces, bytes_of_piece, wrapped_pieces, wrapped_text}
use Rattle.ss_text.proofs.Pieces.{at_byte}
use Rattle.ss_text.proofs.Printed.{quoted_there}
use Rattle.ss_bso.specs.Bodies.{id_of, records_of_text, records_of, part_of, failed_of, first_fault, or_fault}
use Rattle.ss_bso.specs.Bodies.{part_with, failure_with, items_list, json_records}
use Rattle.ss_bso.specs.Members.{fields_of, payload_of, sortindex_of, ttl_of, parsed_body, ◌>>=◌}
use Rattle.ss_bso.specs.declared.bodies.BodyFault.TheVariants.{NoId}
use Rattle.ss_bso.specs.declared.parts.Field.TheVariants.{Keep, Set}
use Rattle.ss_bso.specs.declared.parts.Part.{Part}
use Rattle.ss_bso.specs.declared.parts.Reason.{Reason}
use Rattle.ss_bso.specs.declared.parts.Reason.TheVariants.{TooLarge}
use Rattle.serde_json.specs.Data.{Data, string, object, array, put, no_members, Items, item, no_items}
use Rattle.ss_route.specs.Sending.{IsUpload as SetsPayload, upload_text, uploads_text}
use Rattle.ss_bso.specs.Put.{payload_set}
use Rattle.ss_route.specs.Texts.{list_text, json_text}
use Rattle.ss_bso.specs.declared.limits.TheConstants.{MOST_RECORD_PAYLOAD_BYTES}
use Rattle.ss_text.proofs.NameLemmas.{IsUtf8-from_id}

-- an id and a payload
record Upload : Type 0 where
  id : List ℕ
  payload : List ℕ

abbrev object_text : Upload → List ℕ
object_text u = codes "{\"id\":" ++ quoted u.id ++ codes ",\"payload\":" ++ quoted u.payload ++ codes "}"

objects_text : List Upload → List ℕ
objects_text us = codes "[" ++ join_with_byte 44 (map object_text us) ++ codes "]"

record IsUpload (u : Upload) : Type 0 where
  id : is_id u.id ≡ true
  payload : IsUtf8 u.payload
  size : length u.payload ≤ MOST_RECORD_PAYLOAD_BYTES

abbrev part_from : Upload → Part
part_from u = record { id = u.id; fields = record { payload = Set u.payload; sortindex = Keep; ttl = Keep } }

-- ---- nothing in it is wrapped

abbrev W : List ℕ → List ℕ
W text = flat_map bytes_of_piece (flat_map wrapped_pieces (pieces outside text))

W_byte : (x : ℕ) (xs : List ℕ) → (x == 34) ≡ false → is_number_byte x ≡ false → W (x ∷ xs) ≡ x ∷ W xs
W_byte x xs q n = ap (λ ps. flat_map bytes_of_piece (flat_map wrapped_pieces ps)) (at_byte x xs q n)

W_quoted : (s r : List ℕ) → W (quoted s ++ r) ≡ quoted s ++ W r
W_quoted s r = ap (λ ps. flat_map bytes_of_piece (flat_map wrapped_pieces ps)) (quoted_there s r)

W_open : (r : List ℕ) → W (codes "{\"id\":" ++ r) ≡ codes "{\"id\":" ++ W r
unfolding pieces
W_open r = refl

W_middle : (r : List ℕ) → W (codes ",\"payload\":" ++ r) ≡ codes ",\"payload\":" ++ W r
unfolding pieces
W_middle r = refl

W_object : (u : Upload) (r : List ℕ) → W (object_text u ++ r) ≡ object_text u ++ W r
W_object u r =
    ap W (regroup (quoted u.id) (quoted u.payload) r)
    ∙ W_open _ ∙ ap (λ t. codes "{\"id\":" ++ t) (W_quoted u.id _ ∙ ap (λ t. quoted u.id ++ t) (W_middle _ ∙ ap (λ t. codes ",\"payload\":" ++ t)
    (W_quoted u.payload _ ∙ ap (λ t. quoted u.payload ++ t) (W_byte 125 r refl refl))))
    ∙ sym (regroup (quoted u.id) (quoted u.payload) (W r))
  where
    regroup : (a b t : List ℕ) → (codes "{\"id\":" ++ a ++ codes ",\"payload\":" ++ b ++ codes "}") ++ t ≡ codes "{\"id\":" ++ (a ++ (codes ",\"payload\":" ++ (b ++ (125 ∷ t))))
    regroup a b t = simp append_assoc

-- the objects with commas between, and then r
W_objects : (us : List Upload) (r : List ℕ) → W (join_with_byte 44 (map object_text us) ++ r) ≡ join_with_byte 44 (map object_text us) ++ W r
W_objects [] r = refl
W_objects (u ∷ []) r = W_object u r
W_objects (u ∷ v ∷ us) r =
    let rest = join_with_byte 44 (map object_text (v ∷ us)) in
    ap W (append_assoc (object_text u) (44 ∷ rest) r) ∙ W_object u (44 ∷ (rest ++ r))
    ∙ ap (λ t. object_text u ++ t) (W_byte 44 (rest ++ r) refl refl ∙ ap (λ t. 44 ∷ t) (W_objects (v ∷ us) r))
    ∙ sym (append_assoc (object_text u) (44 ∷ rest) (W r))

nothing_wrapped : (us : List Upload) → wrapped_text (objects_text us) ≡ objects_text us
unfolding objects_text pieces
nothing_wrapped us =
    let objects = join_with_byte 44 (map object_text us) in
    W_byte 91 (objects ++ 93 ∷ []) refl refl ∙ ap (λ t. 91 ∷ t) (W_objects us (93 ∷ []) ∙ ap (λ t. objects ++ t) (W_byte 93 [] refl refl))

-- ---- what is read

abbrev json_of : Upload → json.Json
json_of u = json.object (json.member (codes "id") (json.string u.id) (json.member (codes "payload") (json.string u.payload) json.no_members))

abbrev jsons_of : List Upload → json.Items
jsons_of [] = json.no_items
jsons_of (u ∷ us) = json.item (json_of u) (jsons_of us)

abbrev data_of : Upload → Data
data_of u = object (put (codes "payload") (string u.payload) (put (codes "id") (string u.id) no_members))

abbrev datas_of : List Upload → Items
datas_of [] = no_items
datas_of (u ∷ us) = item (data_of u) (datas_of us)

print_object : (c : Bool) (u : Upload) (ts : List Token) → print_from c (json_tokens (json_of u) ++ ts) ≡ cond c (44 ∷ []) [] ++ (object_text u ++ print_from true ts)
unfolding print_from escape_byte
print_object true u ts = simp append_assoc
print_object false u ts = simp append_assoc

print_items : (us : List Upload) → print_from false (items_tokens (jsons_of us)) ≡ join_with_byte 44 (map object_text us) ++ 93 ∷ []
unfolding print_from
print_items [] = refl
print_items (u ∷ []) = print_object false u (end_array ∷ [])
print_items (u ∷ v ∷ us) =
    let rest = items_tokens (jsons_of us) in
    let objects = join_with_byte 44 (map object_text (v ∷ us)) in
    print_object false u (json_tokens (json_of v) ++ rest)
    ∙ ap (λ t. object_text u ++ t) (print_object true v rest ∙ ap (λ t. 44 ∷ t) (sym (print_object false v rest) ∙ print_items (v ∷ us)))
    ∙ sym (append_assoc (object_text u) (44 ∷ objects) (93 ∷ []))

list_is_printed : (us : List Upload) → print (json_tokens (json.array (jsons_of us))) ≡ objects_text us
unfolding objects_text print_from
list_is_printed us = ap (λ t. 91 ∷ t) (print_items us)

numbers : (us : List Upload) → ItemsHaveNumbers (jsons_of us)
numbers [] = tt
numbers (u ∷ us) = ((tt, (tt, tt)), numbers us)

shallow : (us : List Upload) → items_depth (jsons_of us) ≤ 1
shallow [] = lit≤ tt
shallow (u ∷ us) = let e = shallow us in omega arith

of_items_is : (us : List Upload) → of_items (jsons_of us) ≡ Some (datas_of us)
of_items_is [] = refl
of_items_is (u ∷ us) = ap (option_map (item (data_of u))) (of_items_is us)

list_is_read : (us : List Upload) → read (objects_text us) ≡ Some (array (datas_of us))
list_is_read us =
    let j = json.array (jsons_of us) in
    let deep : depth j ≤ max_depth = let e = shallow us in omega arith in
    let tokened : tokens (objects_text us) ≡ json_tokens j ++ [] =
    ap tokens (sym (list_is_printed us)) ∙ tokens-print (json_tokens j) (ArePrintable-json_tokens j (numbers us)) ∙ sym (append-nil (json_tokens j)) in
    ap (λ ts. option_and_then of_json (option_and_then (λ p. json.if_last p.0 p.1) (json.value max_depth ts))) tokened
    ∙ ap (λ v. option_and_then of_json (option_and_then (λ p. json.if_last p.0 p.1) v)) (value-json_tokens j max_depth [] deep)
    ∙ ap (option_map array) (of_items_is us)

-- ---- the parts

id_again : (u : Upload) → IsUpload u → id_of (data_of u) ≡ Some u.id
unfolding id_of
id_again u h = ap (λ b. cond b (Some u.id) None) h.id

fields_again : (u : Upload) → IsUpload u → fields_of (data_of u) ≡ Ok (record { payload = Set u.payload; sortindex = Keep; ttl = Keep })
unfolding fields_of payload_of sortindex_of ttl_of
fields_again u h = ap (λ b. cond b (Err TooLarge) (Ok (Set u.payload)) >>= (λ p. Ok (record { payload = p; sortindex = Keep; ttl = Keep }))) (le-ltb MOST_RECORD_PAYLOAD_BYTES (length u.payload) h.size)

abbrev elements : List Upload → List (Option Data)
elements us = items_list (datas_of us)

no_fault : (us : List Upload) (place : ℕ) → AllByRecursion IsUpload us → first_fault place (elements us) ≡ None
no_fault [] place h = refl
no_fault (u ∷ us) place h =
    ap (λ o. cond (is_some (cond (is_some o) None (Some (NoId place)))) (cond (is_some o) None (Some (NoId place))) (first_fault (place + 1) (elements us))) (id_again u h.0)
    ∙ no_fault us (place + 1) h.1

good_parts : (us : List Upload) → AllByRecursion IsUpload us → filter_map part_of (elements us) ≡ map part_from us
good_parts [] h = refl
good_parts (u ∷ us) h = ap₂ (λ o ps. cons_option o ps) (ap₂ part_with (id_again u h.0) (fields_again u h.0)) (good_parts us h.1)

no_failures : (us : List Upload) → AllByRecursion IsUpload us → filter_map failed_of (elements us) ≡ []
no_failures [] h = refl
no_failures (u ∷ us) h = ap₂ (λ o ps. cons_option o ps) (ap₂ failure_with (id_again u h.0) (fields_again u h.0)) (no_failures us h.1)

-- ---- the text is UTF-8

object_is_text : (u : Upload) → IsUpload u → IsUtf8 (object_text u)
object_is_text u h =
    IsUtf8-append _ (codes "}") (IsUtf8-append _ (quoted u.payload) (IsUtf8-append _ (codes ",\"payload\":") (IsUtf8-append (codes "{\"id\":") (quoted u.id) (IsUtf8-are_ascii _ refl) (IsUtf8-quoted u.id (IsUtf8-from_id u.id h.id)))
    (IsUtf8-are_ascii _ refl)) (IsUtf8-quoted u.payload h.payload)) (IsUtf8-are_ascii _ refl)

objects_are_text : (us : List Upload) → AllByRecursion IsUpload us → IsUtf8 (join_with_byte 44 (map object_text us))
objects_are_text [] h = IsUtf8-are_ascii [] refl
objects_are_text (u ∷ []) h = object_is_text u h.0
objects_are_text (u ∷ v ∷ us) h = IsUtf8-append (object_text u) _ (object_is_text u h.0) (IsUtf8-append (44 ∷ []) _ (IsUtf8-are_ascii (44 ∷ []) refl) (objects_are_text (v ∷ us) h.1))

list_is_text : (us : List Upload) → AllByRecursion IsUpload us → IsUtf8 (objects_text us)
unfolding objects_text
list_is_text us h = IsUtf8-append _ (codes "]") (IsUtf8-append (codes "[") _ (IsUtf8-are_ascii (codes "[") refl) (objects_are_text us h)) (IsUtf8-are_ascii (codes "]") refl)

list_is_parsed : (us : List Upload) → AllByRecursion IsUpload us → parsed_body (objects_text us) ≡ Some (array (datas_of us))
unfolding parsed_body
list_is_parsed us h =
    ap (λ t. cond (is_utf8 t) (read t) None) (nothing_wrapped us) ∙ ap (λ b. cond b (read (objects_text us)) None) (is_utf8-from_IsUtf8 (objects_text us) (list_is_text us h)) ∙ list_is_read us

all_records : (es : List (Option Data)) (parts : List Part) (failed : List (List ℕ × Reason)) → first_fault 1 es ≡ None → filter_map part_of es ≡ parts → filter_map failed_of es ≡ failed
    → records_of es ≡ Ok (record { parts = parts; failed = failed })
unfolding records_of
all_records es parts failed a b c =
    ap (λ o. or_fault o (record { parts = filter_map part_of es; failed = filter_map failed_of es })) a
    ∙ (λ i. Ok (record { parts = b i; failed = c i }))

parts_again : (us : List Upload) → AllByRecursion IsUpload us → records_of_text false (objects_text us) ≡ Ok (record { parts = map part_from us; failed = [] })
unfolding records_of_text
parts_again us h =
    ap json_records (list_is_parsed us h) ∙ all_records (elements us) (map part_from us) [] (no_fault us 1 h) (good_parts us h) (no_failures us h)

-- ---- the parts of a POST

-- a part's id is one, and its payload is a text that isn't too large
pub record IsPart (part : Part) : Type 0 where
  pub id : is_id part.id ≡ true
  pub sets : SetsPayload part
  pub payload : IsUtf8 (payload_set part.fields.payload)
  pub size : length (payload_set part.fields.payload) ≤ MOST_RECORD_PAYLOAD_BYTES

abbrev upload_of : Part → Upload
upload_of part = record { id = part.id; payload = payload_set part.fields.payload }

same_part : (part : Part) → SetsPayload part → part_from (upload_of part) ≡ part
same_part part h =
    let payload : Set (payload_set part.fields.payload) ≡ part.fields.payload = ap (λ field. Set (payload_set field)) h.payload ∙ sym h.payload in
    λ i. record { id = part.id; fields = record { payload = payload i; sortindex = sym h.sortindex i; ttl = sym h.ttl i } }

same_parts : (parts : List Part) → AllByRecursion IsPart parts → map part_from (map upload_of parts) ≡ parts
same_parts [] h = refl
same_parts (part ∷ parts) h = ap₂ (λ p ps. p ∷ ps) (same_part part h.0.sets) (same_parts parts h.1)

are_uploads : (parts : List Part) → AllByRecursion IsPart parts → AllByRecursion IsUpload (map upload_of parts)
are_uploads [] h = tt
are_uploads (part ∷ parts) h = (record { id = h.0.id; payload = h.0.payload; size = h.0.size }, are_uploads parts h.1)

same_texts : (parts : List Part) → map upload_text parts ≡ map object_text (map upload_of parts)
unfolding upload_text json_text
same_texts [] = refl
same_texts (part ∷ parts) = ap (λ texts. object_text (upload_of part) ∷ texts) (same_texts parts)

same_text : (parts : List Part) → uploads_text parts ≡ objects_text (map upload_of parts)
unfolding list_text objects_text
same_text parts = ap (λ texts. codes "[" ++ join_with_byte 44 texts ++ codes "]") (same_texts parts)

-- the body that is written is read as its parts, none of which fails
pub uploads_are_read : (parts : List Part) → AllByRecursion IsPart parts → records_of_text false (uploads_text parts) ≡ Ok (record { parts = parts; failed = [] })
uploads_are_read parts h =
    ap (records_of_text false) (same_text parts) ∙ parts_again (map upload_of parts) (are_uploads parts h)
    ∙ ap (λ ps. Ok (record { parts = ps; failed = [] })) (same_parts parts h)
