-- An id of which a record reads as an item is the one that the record says.
use Rattle.std.proofs.Common.{◌≡◌, ℕ, ◌&&◌, nat_le, List, Bool, true, false, not, cond, Option, Some, None, bytes_eq, codes}
use Rattle.std.proofs.Common.{option_map, option_and_then, unwrap_or, refl, sym, ap, ◌∙◌}
use Rattle.std.proofs.lemmas.Bool.{false≢true}
use Rattle.std.proofs.lemmas.Option.{none-some}
use Rattle.serde_json.specs.Data.{Data, Members, depth}
use Rattle.serde_json.specs.Find.{as_object, get_member}
use Rattle.serde_json.specs.Read.{read}
use Rattle.ss_text.specs.Decimals.{marked_text}
use Rattle.ss_text.specs.Names.{id_of, is_id}
use Rattle.ss_text.proofs.Basics.{same_text}
use Rattle.ss_record.specs.declared.readings.Reading.{Reading}
use Rattle.ss_record.specs.declared.readings.Reading.TheVariants.{Tombstone, Skipped}
use Rattle.ss_record.specs.Ids.{has, places, roots}
use Rattle.ss_record.specs.Marks.{is_plain, string_of}
use Rattle.ss_record.specs.Payloads.{is_json, is_string, is_true, payload_members}
use Rattle.ss_record.specs.Records.{item_of, members_reading, reading}
use Rattle.ss_build.specs.Rows.{is_item}
use Rattle.ss_device_file.specs.Records.{id_told, item_from, read_item, record_id, record_parts}

-- the members of a payload are those that the text is read as
parts_of : (text : List ℕ) (ms : Members) → payload_members text ≡ Some ms → record_parts text ≡ Some ms
unfolding payload_members
parts_of text ms e = by (is_json text) e
  where
    plain : (d : Data) (b : Bool) → cond b (as_object d) None ≡ Some ms → as_object d ≡ Some ms
    plain d true q = q
    plain d false q = absurd (none-some ms q)

    each : (o : Option Data) → option_and_then (λ d. cond (nat_le (depth d) 126 && is_plain d) (as_object d) None) o ≡ Some ms → option_and_then as_object o ≡ Some ms
    each None q = absurd (none-some ms q)
    each (Some d) q = plain d (nat_le (depth d) 126 && is_plain d) q

    by : (b : Bool) → cond b (option_and_then (λ d. cond (nat_le (depth d) 126 && is_plain d) (as_object d) None) (read (marked_text text))) None ≡ Some ms → option_and_then as_object (read (marked_text text)) ≡ Some ms
    by true q = each (read (marked_text text)) q
    by false q = absurd (none-some ms q)

-- a member that is the string x
string_is : (x : List ℕ) (o : Option Data) → is_string x o ≡ true → option_and_then string_of o ≡ Some x
string_is x None h = absurd (false≢true h)
string_is x (Some d) h = by (string_of d) h
  where
    by : (o : Option (List ℕ)) → unwrap_or (option_map (bytes_eq x) o) false ≡ true → o ≡ Some x
    by None q = absurd (false≢true q)
    by (Some y) q = ap Some (sym (same_text x y q))

told_by : (x : List ℕ) (ms : Members) → is_id x ≡ true → is_item (members_reading x ms) ≡ true → id_told ms ≡ Some x
unfolding members_reading
told_by x ms form h = by (is_string x (get_member (codes "id") ms)) refl (cond (is_true (get_member (codes "deleted") ms)) (cond (has x roots) Skipped Tombstone) (unwrap_or (item_of x ms) Skipped)) h
  where
    by : (b : Bool) → is_string x (get_member (codes "id") ms) ≡ b → (rest : Reading) → is_item (cond (not b) Skipped rest) ≡ true → id_told ms ≡ Some x
    by true e rest q = ap (option_and_then id_of) (string_is x (get_member (codes "id") ms) e) ∙ ap (λ b. cond b (Some x) None) form
    by false e rest q = absurd (false≢true q)

pub said : (x text : List ℕ) → is_id x ≡ true → is_item (reading x text) ≡ true → record_id text ≡ Some x
unfolding reading record_id
said x text form h = by (bytes_eq x places) (payload_members text) refl h
  where
    by : (b : Bool) (o : Option Members) → payload_members text ≡ o → is_item (cond b Skipped (unwrap_or (option_map (members_reading x) o) Skipped)) ≡ true → option_and_then id_told (record_parts text) ≡ Some x
    by true o e q = absurd (false≢true q)
    by false None e q = absurd (false≢true q)
    by false (Some ms) e q = ap (option_and_then id_told) (parts_of text ms e) ∙ told_by x ms form q

-- so the line is what that reading says
pub line_said : (time : ℕ) (x text : List ℕ) → is_id x ≡ true → is_item (reading x text) ≡ true → item_from time text ≡ read_item time (reading x text)
unfolding item_from
line_said time x text form h = ap (option_and_then (λ id. read_item time (reading id text))) (said x text form h)
