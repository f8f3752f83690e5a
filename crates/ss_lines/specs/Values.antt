-- What a JSON value says as a line, for private clauses; a line may be told that isn't written so.
use Rattle.std.specs.Prelude.{◌&&◌, ℕ, ℤ, negsuc, pos, nat_le, List, Bool, if◌then◌else◌, Option, Some, None, is_some}
use Rattle.std.specs.Prelude.{option_map, option_and_then, bytes_eq, codes}
use Rattle.std.specs.Int.Signed.{le_z}
use Rattle.serde_json.specs.Data.{Data}
use Rattle.serde_json.specs.Find.{as_array, as_i64, as_null, as_number, as_str, as_u64, at}
use Rattle.ss_text.specs.Names.{is_id, is_name}
use Rattle.ss_text.specs.Time.{stamp_of}
use Rattle.ss_bso.specs.declared.parts.Field.{Field}
use Rattle.ss_bso.specs.declared.parts.Field.TheVariants.{Keep, Clear, Set}
use Rattle.ss_lines.specs.Digests.{is_digest}
use Rattle.ss_lines.specs.declared.values.Tag.{Tag}
use Rattle.ss_lines.specs.declared.values.Tag.TheVariants as tag
use Rattle.ss_lines.specs.declared.lines.Line.{Line}
use Rattle.ss_lines.specs.declared.lines.Line.TheVariants.{Account, Times, Collection, Row as RowLine, Batch}
use Rattle.ss_lines.specs.declared.lines.Line.TheVariants.{Part as PartLine, Digest, End}
use Rattle.ss_text.specs.Names.{id_of}

-- ---- what a value says

abbrev pub natural_of : Data → Option ℕ
natural_of d = option_and_then as_u64 (as_number d)

abbrev pub fits_32 : ℤ → Bool
fits_32 z = le_z (negsuc 2147483647) z && le_z z (pos 2147483647)

abbrev pub integer_if : Option ℤ → Option ℤ
integer_if None = None
integer_if (Some z) = if fits_32 z then Some z else None

unfoldable pub integer_of : Data → Option ℤ
integer_of d = integer_if (option_and_then as_i64 (as_number d))

abbrev pub seconds_if : Option ℕ → Option ℕ
seconds_if None = None
seconds_if (Some n) = if nat_le n 4294967295 then Some n else None

unfoldable pub seconds_of : Data → Option ℕ
seconds_of d = seconds_if (natural_of d)

-- a value, or none for `null`
abbrev pub optional_of : {X : Type 0} → (Data → Option X) → Data → Option (Option X)
optional_of told d = if is_some (as_null d) then Some None else option_map (λ x. Some x) (told d)

-- nothing for a list, the default for `null`, or the value
abbrev pub field_of : {X : Type 0} → (Data → Option X) → Data → Option (Field X)
field_of told d = if is_some (as_null d) then Some Clear else (if is_some (as_array d) then Some Keep else option_map (λ x. Set x) (told d))

-- ---- what stands at a place of a list

abbrev pub text_at : ℕ → Data → Option (List ℕ)
text_at k d = option_and_then as_str (at k d)

abbrev pub natural_at : ℕ → Data → Option ℕ
natural_at k d = option_and_then natural_of (at k d)

abbrev pub time_at : ℕ → Data → Option ℕ
time_at k d = option_and_then stamp_of (text_at k d)

abbrev pub id_at : ℕ → Data → Option (List ℕ)
id_at k d = option_and_then id_of (text_at k d)

abbrev pub name_of : List ℕ → Option (List ℕ)
name_of text = if is_name text then Some text else None

abbrev pub name_at : ℕ → Data → Option (List ℕ)
name_at k d = option_and_then name_of (text_at k d)

abbrev pub digest_of : List ℕ → Option (List ℕ)
digest_of text = if is_digest text then Some text else None

-- ---- lines

unfoldable pub times_from : Data → Option Line
times_from d =
    option_and_then (λ store. option_and_then (λ last_delete. option_map (λ counter. Times store last_delete counter) (natural_at 3 d)) (time_at 2 d)) (time_at 1 d)

unfoldable pub collection_from : Data → Option Line
collection_from d = option_and_then (λ name. option_map (λ modified. Collection name modified) (time_at 2 d)) (name_at 1 d)

unfoldable pub batch_from : Data → Option Line
batch_from d =
    option_and_then (λ number. option_and_then (λ collection. option_map (λ begun. Batch number collection begun) (time_at 3 d)) (name_at 2 d)) (natural_at 1 d)

unfoldable pub digest_from : Data → Option Line
digest_from d = option_map (λ digest. Digest digest) (option_and_then digest_of (text_at 1 d))

unfoldable pub row_from : Data → Option Line
row_from d =
    option_and_then (λ collection.
    option_and_then (λ id.
    option_and_then (λ modified.
    option_and_then (λ sortindex.
    option_and_then (λ expires.
    option_map (λ payload. RowLine (record { collection = collection; id = id; modified = modified; sortindex = sortindex; payload = payload; expires = expires }))
    (text_at 6 d)) (option_and_then (optional_of natural_of) (at 5 d))) (option_and_then (optional_of integer_of) (at 4 d))) (time_at 3 d)) (id_at 2 d)) (name_at 1 d)

unfoldable pub part_from : Data → Option Line
part_from d =
    option_and_then (λ id.
    option_and_then (λ sortindex.
    option_and_then (λ ttl.
    option_map (λ payload. PartLine (record { id = id; fields = record { payload = payload; sortindex = sortindex; ttl = ttl } }))
    (option_and_then (field_of as_str) (at 2 d))) (option_and_then (field_of seconds_of) (at 4 d))) (option_and_then (field_of integer_of) (at 3 d))) (id_at 1 d)

-- the kind of line that a first text names
abbrev pub tag_of : List ℕ → Option Tag
tag_of text =
    if bytes_eq text (codes "account") then Some tag.Account
    else (if bytes_eq text (codes "times") then Some tag.Times
    else (if bytes_eq text (codes "collection") then Some tag.Collection
    else (if bytes_eq text (codes "row") then Some tag.Row
    else (if bytes_eq text (codes "batch") then Some tag.Batch
    else (if bytes_eq text (codes "part") then Some tag.Part
    else (if bytes_eq text (codes "digest") then Some tag.Digest
    else (if bytes_eq text (codes "end") then Some tag.End
    else None)))))))

-- the line of a kind that a list is
abbrev pub line_of_tag : Tag → Data → Option Line
line_of_tag tag.Account d = Some Account
line_of_tag tag.Times d = times_from d
line_of_tag tag.Collection d = collection_from d
line_of_tag tag.Row d = row_from d
line_of_tag tag.Batch d = batch_from d
line_of_tag tag.Part d = part_from d
line_of_tag tag.Digest d = digest_from d
line_of_tag tag.End d = Some End

unfoldable pub line_from : Data → Option Line
line_from d = option_and_then (λ kind. line_of_tag kind d) (option_and_then tag_of (text_at 0 d))
