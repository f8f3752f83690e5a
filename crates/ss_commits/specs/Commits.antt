-- The text of a commit (the format is this project's): a line says the account's moment, one its times, and then there is one for each
-- change of a collection, of a row and of a batch, with the parts of a batch behind it. Lines are those of an account, and of their own
-- kinds for what an account has none.
use Rattle.std.specs.Prelude.{◌≡◌, ◌≤◌, ◌<◌, ◌^◌, ◌==◌, ◌++◌, ◌∷◌, [], ℕ, Bool, true, false, List, codes, map}
use Rattle.std.specs.List.{AllByRecursion, flat_map, slice_get}
use Rattle.std.specs.Option.{option_map_or}
use Rattle.serde_json.specs.Data.{Items, array, item, no_items, string}
use Rattle.serde_json.specs.Written.{compact_text}
use Rattle.ss_text.specs.Names.{is_id, is_name}
use Rattle.ss_text.specs.Time.{last_stamp}
use Rattle.ss_bso.specs.declared.parts.Part.{Part}
use Rattle.ss_bso.specs.declared.changes.Changes.{Changes}
use Rattle.ss_bso.specs.declared.changes.RowChange.{RowChange}
use Rattle.ss_bso.specs.declared.changes.RowChange.TheVariants as row
use Rattle.ss_bso.specs.declared.changes.CollectionChange.{CollectionChange}
use Rattle.ss_bso.specs.declared.changes.CollectionChange.TheVariants as collection
use Rattle.ss_bso.specs.declared.changes.BatchChange.{BatchChange}
use Rattle.ss_bso.specs.declared.changes.BatchChange.TheVariants as batch
use Rattle.ss_lines.specs.Lines.{IsLine, line_text, natural, time}
use Rattle.ss_lines.specs.declared.lines.Line.TheVariants.{Times, Collection, Row as RowLine, Batch, Part as PartLine}
use Rattle.ss_commits.specs.declared.marks.Mark.{Mark}
use Rattle.ss_commits.specs.declared.marks.Mark.TheVariants.{Now, NoRow, NoCollection, NoBatch, NextParts}
use Rattle.ss_commits.specs.declared.notes.Note.{Note}
use Rattle.ss_commits.specs.declared.notes.Note.TheVariants.{Of, Beside}

-- ---- lines that no account has

abbrev pub mark_list : Mark → Items
mark_list (Now moment) = item (string (codes "now")) (item (time moment) no_items)
mark_list (NoRow collection id) = item (string (codes "no-row")) (item (string collection) (item (string id) no_items))
mark_list (NoCollection name) = item (string (codes "no-collection")) (item (string name) no_items)
mark_list (NoBatch number) = item (string (codes "no-batch")) (item (natural number) no_items)
mark_list (NextParts number) = item (string (codes "next-parts")) (item (natural number) no_items)

-- the text of such a line, its newline included
abbrev pub mark_text : Mark → List ℕ
mark_text m = compact_text (array (mark_list m)) ++ 10 ∷ []

-- each value has the form of its type
abbrev pub IsMark : Mark → Type 0
IsMark (Now moment) = moment ≤ last_stamp
IsMark (NoRow collection id) = (is_name collection ≡ true) × (is_id id ≡ true)
IsMark (NoCollection name) = is_name name ≡ true
IsMark (NoBatch number) = number < 2 ^ 64
IsMark (NextParts number) = number < 2 ^ 64

-- whether the first text of a line begins with `n`, as that of these lines does and of no other
abbrev pub is_marked : List ℕ → Bool
is_marked line = option_map_or (λ b. b == 110) (slice_get line 2) false

-- ---- the lines of a commit

abbrev pub note_text : Note → List ℕ
note_text (Of l) = line_text l
note_text (Beside m) = mark_text m

abbrev pub IsNote : Note → Type 0
IsNote (Of l) = IsLine l
IsNote (Beside m) = IsMark m

abbrev pub collection_note : CollectionChange → Note
collection_note (collection.Set name time) = Of (Collection name time)
collection_note (collection.Drop name) = Beside (NoCollection name)

abbrev pub row_note : RowChange → Note
row_note (row.Put new) = Of (RowLine new)
row_note (row.Drop collection id) = Beside (NoRow collection id)

abbrev pub part_note : Part → Note
part_note p = Of (PartLine p)

-- a batch that begins, that gets parts, or that ends
abbrev pub batch_notes : BatchChange → List Note
batch_notes (batch.End number) = Beside (NoBatch number) ∷ []
batch_notes (batch.Begin new) = Of (Batch new.number new.collection new.begun) ∷ map part_note new.parts
batch_notes (batch.Append number parts) = Beside (NextParts number) ∷ map part_note parts

unfoldable pub changes_notes : Changes → List Note
changes_notes c =
    Beside (Now c.moment) ∷ Of (Times c.store c.last_delete c.counter)
    ∷ (map collection_note c.collections ++ (map row_note c.rows ++ flat_map batch_notes c.batches))

abbrev pub text_of : List Note → List ℕ
text_of notes = flat_map note_text notes

-- the text of a commit
unfoldable pub changes_text : Changes → List ℕ
changes_text c = text_of (changes_notes c)

-- each value of the changes has the form of its type
abbrev pub HasFormedValues : Changes → Type 0
HasFormedValues c = AllByRecursion IsNote (changes_notes c)
