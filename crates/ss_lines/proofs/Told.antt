-- Lines as JSON values: what is written for a line is read back as it.
use Rattle.std.proofs.Common.{◌≡◌, ℕ, ℤ, pos, negsuc, ◌^◌, ◌<◌, ◌&&◌, Bool, true, cond, List, Option, Some, None}
use Rattle.std.proofs.Common.{is_some, option_map, option_and_then, codes, refl, sym, ap, ap₂, subst, ◌∙◌, arith}
use Rattle.std.proofs.Common.{le-leb, lt-ltb, lit<}
use Rattle.std.specs.Prelude.{FitsSigned}
use Rattle.std.specs.Int.{w32}
use Rattle.std.specs.Str.{IsUtf8}
use Rattle.std.specs.List.{list_all}
use Rattle.std.specs.Cmp.{second_so}
use Rattle.std.proofs.lemmas.Bool.Decides.{nat_tests}
use Rattle.std.proofs.lemmas.Str.{IsUtf8-from_ascii}
use Rattle.json.proofs.Printed.Utf8.{IsUtf8-are_ascii}
use Rattle.serde_json.specs.Data.{Data, array, string}
use Rattle.serde_json.specs.Find.{as_array, as_null, as_str}
use Rattle.serde_json.specs.Read.{read}
use Rattle.serde_json.specs.Written.{compact_text}
use Rattle.ss_text.specs.Time.{stamp_of, stamp_text}
use Rattle.ss_text.proofs.NameLemmas.{IsAscii-from_list_all, IsUtf8-from_id, IsUtf8-from_name}
use Rattle.ss_text.proofs.StampTexts.{stamp_again, stamp_is_utf8}
use Rattle.ss_text.proofs.Basics.{some_same, none_some}
use Rattle.ss_bso.specs.declared.rows.Row.{Row}
use Rattle.ss_bso.specs.declared.parts.Part.{Part}
use Rattle.ss_bso.specs.declared.parts.Field.{Field}
use Rattle.ss_bso.specs.declared.parts.Field.TheVariants.{Keep, Clear, Set}
use Rattle.ss_lines.specs.Digests.{is_digest, is_lower_hex}
use Rattle.ss_lines.specs.Lines.{IsLine, IsPart, IsRow, OfField, OfOption, field, integer, list_of, natural, optional}
use Rattle.ss_lines.specs.Values.{batch_from, collection_from, digest_from, field_of, integer_if, integer_of, line_from}
use Rattle.ss_lines.specs.Values.{natural_of, optional_of, part_from, row_from, seconds_of, times_from}
use Rattle.ss_lines.specs.declared.lines.Line.{Line}
use Rattle.ss_lines.specs.declared.lines.Line.TheVariants.{Account, Times, Collection, Row as RowLine, Batch}
use Rattle.ss_lines.specs.declared.lines.Line.TheVariants.{Part as PartLine, Digest, End}
use Rattle.ss_lines.proofs.Flat.{AreFlat, IsFlat, list_back, list_utf8}

-- ---- a line's list is flat

hex_below : (b : ℕ) → is_lower_hex b ≡ true → b < 128
hex_below b h = grind (arith, nat_tests)

digest_utf8 : (bs : List ℕ) → is_digest bs ≡ true → IsUtf8 bs
digest_utf8 bs h = IsUtf8-from_ascii bs (IsAscii-from_list_all is_lower_hex hex_below bs (second_so _ (list_all is_lower_hex bs) h))

pub integer_flat : (z : ℤ) → FitsSigned w32 z → IsFlat (integer z)
integer_flat (pos n) h = let few = h.sfits in omega arith
integer_flat (negsuc n) h = let few = h.sfits in omega arith

pub seconds_flat : (n : ℕ) → n < 2 ^ 32 → IsFlat (natural n)
seconds_flat n h = omega arith

pub optional_flat : {X : Type 0} (written : X → Data) (P : X → Type 0) → ((x : X) → P x → IsFlat (written x)) → (o : Option X) → OfOption P o → IsFlat (optional written o)
optional_flat written P all None h = tt
optional_flat written P all (Some x) h = all x h

pub field_flat : {X : Type 0} (written : X → Data) (P : X → Type 0) → ((x : X) → P x → IsFlat (written x)) → (f : Field X) → OfField P f → IsFlat (field written f)
field_flat written P all Keep h = tt
field_flat written P all Clear h = tt
field_flat written P all (Set x) h = all x h

flat : (l : Line) → IsLine l → AreFlat (list_of l)
flat Account h = (IsUtf8-are_ascii (codes "account") refl, (lit< tt, tt))
flat (Times store last_delete counter) h = (IsUtf8-are_ascii (codes "times") refl, (stamp_is_utf8 store h.0, (stamp_is_utf8 last_delete h.1, (h.2, tt))))
flat (Collection name modified) h = (IsUtf8-are_ascii (codes "collection") refl, (IsUtf8-from_name name h.0, (stamp_is_utf8 modified h.1, tt)))
flat (RowLine r) h =
    let sortindex = optional_flat integer (λ z. FitsSigned w32 z) integer_flat r.sortindex h.sortindex in
    let expires = optional_flat natural (λ n. n < 2 ^ 64) (λ n few. few) r.expires h.expires in
    (IsUtf8-are_ascii (codes "row") refl, (IsUtf8-from_name r.collection h.collection, (IsUtf8-from_id r.id h.id, (stamp_is_utf8 r.modified h.modified, (sortindex, (expires, (h.payload, tt)))))))
flat (Batch counted collection begun) h = (IsUtf8-are_ascii (codes "batch") refl, (h.0, (IsUtf8-from_name collection h.1, (stamp_is_utf8 begun h.2, tt))))
flat (PartLine p) h =
    let payload = field_flat string IsUtf8 (λ s u. u) p.fields.payload h.payload in
    let sortindex = field_flat integer (λ z. FitsSigned w32 z) integer_flat p.fields.sortindex h.sortindex in
    let ttl = field_flat natural (λ n. n < 2 ^ 32) seconds_flat p.fields.ttl h.ttl in
    (IsUtf8-are_ascii (codes "part") refl, (IsUtf8-from_id p.id h.id, (payload, (sortindex, (ttl, tt)))))
flat (Digest digest) h = (IsUtf8-are_ascii (codes "digest") refl, (digest_utf8 digest h, tt))
flat End h = (IsUtf8-are_ascii (codes "end") refl, tt)

-- ---- a line from its list

pub integer_back : (z : ℤ) → FitsSigned w32 z → integer_of (integer z) ≡ Some z
unfolding integer_of
integer_back (pos n) h =
    let few = h.sfits in
    ap (λ b. integer_if (cond b (Some (pos n)) None)) (lt-ltb n (2 ^ 63) (omega arith))
    ∙ ap (λ b. cond b (Some (pos n)) None) (le-leb n 2147483647 (omega arith))
integer_back (negsuc n) h =
    let few = h.sfits in
    ap (λ b. cond (b && true) (Some (negsuc n)) None) (le-leb n 2147483647 (omega arith))

pub seconds_back : (n : ℕ) → n < 2 ^ 32 → seconds_of (natural n) ≡ Some n
unfolding seconds_of
seconds_back n h = ap (λ b. cond b (Some n) None) (le-leb n 4294967295 (omega arith))

pub optional_back : {X : Type 0} (told : Data → Option X) (written : X → Data) (P : X → Type 0) → ((x : X) → as_null (written x) ≡ None) → ((x : X) → P x → told (written x) ≡ Some x)
    → (o : Option X) → OfOption P o → optional_of told (optional written o) ≡ Some o
optional_back told written P other back None h = refl
optional_back told written P other back (Some x) h =
    ap (λ a. cond (is_some a) (Some None) (option_map (λ y. Some y) (told (written x)))) (other x) ∙ ap (option_map (λ y. Some y)) (back x h)

pub field_back : {X : Type 0} (told : Data → Option X) (written : X → Data) (P : X → Type 0) → ((x : X) → as_null (written x) ≡ None) → ((x : X) → as_array (written x) ≡ None)
    → ((x : X) → P x → told (written x) ≡ Some x) → (f : Field X) → OfField P f → field_of told (field written f) ≡ Some f
field_back told written P other more back Keep h = refl
field_back told written P other more back Clear h = refl
field_back told written P other more back (Set x) h =
    ap₂ (λ a b. cond (is_some a) (Some Clear) (cond (is_some b) (Some Keep) (option_map (λ y. Set y) (told (written x))))) (other x) (more x)
    ∙ ap (option_map (λ y. Set y)) (back x h)

pub integer_other : (z : ℤ) → as_null (integer z) ≡ None
integer_other z = refl

pub integer_more : (z : ℤ) → as_array (integer z) ≡ None
integer_more z = refl

-- a row by what is told of its values
row_by : (r : Row) → Bool → Bool → Option ℕ → Option (Option ℤ) → Option (Option ℕ) → Option Line
row_by r named formed modified sortindex expires =
    option_and_then (λ collection.
    option_and_then (λ id.
    option_and_then (λ modified.
    option_and_then (λ sortindex.
    option_and_then (λ expires.
    Some (RowLine (record { collection = collection; id = id; modified = modified; sortindex = sortindex; payload = r.payload; expires = expires })))
    expires) sortindex) modified) (cond formed (Some r.id) None)) (cond named (Some r.collection) None)

row_back : (r : Row) → IsRow r → row_from (array (list_of (RowLine r))) ≡ Some (RowLine r)
unfolding row_from row_by
row_back r h =
    let sortindex = optional_back integer_of integer (λ z. FitsSigned w32 z) integer_other integer_back r.sortindex h.sortindex in
    let expires = optional_back natural_of natural (λ n. n < 2 ^ 64) (λ n. refl) (λ n few. refl) r.expires h.expires in
    ap₂ (λ a b. row_by r a b (stamp_of (stamp_text r.modified)) (optional_of integer_of (optional integer r.sortindex)) (optional_of natural_of (optional natural r.expires))) h.collection h.id
    ∙ (ap₂ (λ a b. row_by r true true a b (optional_of natural_of (optional natural r.expires))) (stamp_again r.modified h.modified) sortindex
    ∙ ap (λ a. row_by r true true (Some r.modified) (Some r.sortindex) a) expires)

-- a part by what is told of its values
part_by : (p : Part) → Bool → Option (Field (List ℕ)) → Option (Field ℤ) → Option (Field ℕ) → Option Line
part_by p formed payload sortindex ttl =
    option_and_then (λ id.
    option_and_then (λ sortindex.
    option_and_then (λ ttl.
    option_map (λ payload. PartLine (record { id = id; fields = record { payload = payload; sortindex = sortindex; ttl = ttl } }))
    payload) ttl) sortindex) (cond formed (Some p.id) None)

part_back : (p : Part) → IsPart p → part_from (array (list_of (PartLine p))) ≡ Some (PartLine p)
unfolding part_from part_by
part_back p h =
    let payload = field_back as_str string IsUtf8 (λ s. refl) (λ s. refl) (λ s u. refl) p.fields.payload h.payload in
    let sortindex = field_back integer_of integer (λ z. FitsSigned w32 z) integer_other integer_more integer_back p.fields.sortindex h.sortindex in
    let ttl = field_back seconds_of natural (λ n. n < 2 ^ 32) (λ n. refl) (λ n. refl) seconds_back p.fields.ttl h.ttl in
    ap₂ (λ a b. part_by p a b (field_of integer_of (field integer p.fields.sortindex)) (field_of seconds_of (field natural p.fields.ttl))) h.id payload
    ∙ ap₂ (λ a b. part_by p true (Some p.fields.payload) a b) sortindex ttl

pub told_again : (l : Line) → IsLine l → line_from (array (list_of l)) ≡ Some l
unfolding line_from times_from collection_from batch_from digest_from
told_again Account h = refl
told_again (Times store last_delete counter) h =
    ap₂ (λ a b. option_and_then (λ s. option_and_then (λ d. Some (Times s d counter)) b) a) (stamp_again store h.0) (stamp_again last_delete h.1)
told_again (Collection name modified) h =
    ap₂ (λ a b. option_and_then (λ n. option_map (λ m. Collection n m) b) (cond a (Some name) None)) h.0 (stamp_again modified h.1)
told_again (RowLine r) h = row_back r h
told_again (Batch counted collection begun) h =
    ap₂ (λ a b. option_and_then (λ n. option_map (λ t. Batch counted n t) b) (cond a (Some collection) None)) h.1 (stamp_again begun h.2)
told_again (PartLine p) h = part_back p h
told_again (Digest digest) h = ap (λ b. option_map (λ d. Digest d) (cond b (Some digest) None)) h
told_again End h = refl

-- ---- the text of a line's list

pub line_utf8 : (l : Line) → IsLine l → IsUtf8 (compact_text (array (list_of l)))
line_utf8 l h = list_utf8 (list_of l) (flat l h)

pub line_flat : (l : Line) → IsLine l → AreFlat (list_of l)
line_flat l h = flat l h

pub told_in : (d : Data) (text : List ℕ) → read text ≡ Some d → (l : Line) → IsLine l → compact_text (array (list_of l)) ≡ text → line_from d ≡ Some l
told_in d text r l h is =
    let same : array (list_of l) ≡ d = some_same (sym (list_back (list_of l) (flat l h)) ∙ (ap read is ∙ r)) in
    ap line_from (sym same) ∙ told_again l h

pub none_told : (text : List ℕ) → (IsUtf8 text → read text ≡ None) → (l : Line) → IsLine l → compact_text (array (list_of l)) ≡ text → ⊥
none_told text none l h is =
    none_some (sym (none (subst IsUtf8 is (line_utf8 l h))) ∙ (ap read (sym is) ∙ list_back (list_of l) (flat l h)))
