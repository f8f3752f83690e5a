-- What lines tell of a commit, in whatever order they come, for private clauses.
use Rattle.std.specs.Prelude.{◌≡◌, ◌++◌, ◌∷◌, [], ℕ, List, Option, Some, None, option_map, option_and_then}
use Rattle.std.specs.List.{AllByRecursion}
use Rattle.ss_bso.specs.declared.parts.Part.{Part}
use Rattle.ss_bso.specs.declared.changes.Changes.{Changes}
use Rattle.ss_bso.specs.declared.changes.RowChange.{RowChange}
use Rattle.ss_bso.specs.declared.changes.RowChange.TheVariants as row
use Rattle.ss_bso.specs.declared.changes.CollectionChange.{CollectionChange}
use Rattle.ss_bso.specs.declared.changes.CollectionChange.TheVariants as collection
use Rattle.ss_bso.specs.declared.changes.BatchChange.{BatchChange}
use Rattle.ss_bso.specs.declared.changes.BatchChange.TheVariants as batch
use Rattle.ss_lines.specs.declared.lines.Line.{Line}
use Rattle.ss_lines.specs.declared.lines.Line.TheVariants.{Account, Times, Collection, Row as RowLine, Batch}
use Rattle.ss_lines.specs.declared.lines.Line.TheVariants.{Part as PartLine, Digest, End}
use Rattle.ss_commits.specs.Commits.{IsNote, text_of}
use Rattle.ss_commits.specs.declared.marks.Mark.{Mark}
use Rattle.ss_commits.specs.declared.marks.Mark.TheVariants.{Now, NoRow, NoCollection, NoBatch, NextParts}
use Rattle.ss_commits.specs.declared.notes.Note.{Note}
use Rattle.ss_commits.specs.declared.notes.Note.TheVariants.{Of, Beside}

-- nothing is told
abbrev pub nothing : Changes
nothing = record { moment = 0; rows = []; collections = []; store = 0; last_delete = 0; counter = 0; batches = [] }

abbrev pub with_row : Changes → RowChange → Option Changes
with_row told change = Some (record told { rows = told.rows ++ change ∷ [] })

abbrev pub with_collection : Changes → CollectionChange → Option Changes
with_collection told change = Some (record told { collections = told.collections ++ change ∷ [] })

abbrev pub with_batch : Changes → BatchChange → Option Changes
with_batch told change = Some (record told { batches = told.batches ++ change ∷ [] })

-- what becomes of a batch, with one more part; one that ends has none
abbrev pub with_part_of : BatchChange → Part → Option BatchChange
with_part_of (batch.End number) part = None
with_part_of (batch.Begin new) part = Some (batch.Begin (record new { parts = new.parts ++ part ∷ [] }))
with_part_of (batch.Append number parts) part = Some (batch.Append number (parts ++ part ∷ []))

-- the last of them with one more part
abbrev pub with_part_last : List BatchChange → Part → Option (List BatchChange)
with_part_last [] part = None
with_part_last (b ∷ []) part = option_map (λ more. more ∷ []) (with_part_of b part)
with_part_last (b ∷ c ∷ bs) part = option_map (λ rest. b ∷ rest) (with_part_last (c ∷ bs) part)

abbrev pub with_part : Changes → Part → Option Changes
with_part told part = option_map (λ batches. record told { batches = batches }) (with_part_last told.batches part)

abbrev pub with_line : Changes → Line → Option Changes
with_line told Account = None
with_line told (Times store last_delete counter) = Some (record told { store = store; last_delete = last_delete; counter = counter })
with_line told (Collection name modified) = with_collection told (collection.Set name modified)
with_line told (RowLine new) = with_row told (row.Put new)
with_line told (Batch number of begun) = with_batch told (batch.Begin (record { number = number; collection = of; begun = begun; parts = [] }))
with_line told (PartLine part) = with_part told part
with_line told (Digest digest) = None
with_line told End = None

abbrev pub with_mark : Changes → Mark → Option Changes
with_mark told (Now moment) = Some (record told { moment = moment })
with_mark told (NoRow of id) = with_row told (row.Drop of id)
with_mark told (NoCollection name) = with_collection told (collection.Drop name)
with_mark told (NoBatch number) = with_batch told (batch.End number)
with_mark told (NextParts number) = with_batch told (batch.Append number [])

-- what is told with one more line
abbrev pub told_by : Changes → Note → Option Changes
told_by told (Of l) = with_line told l
told_by told (Beside m) = with_mark told m

-- what lines tell behind what is told
abbrev pub told_from : Changes → List Note → Option Changes
told_from told [] = Some told
told_from told (n ∷ ns) = option_and_then (λ more. told_from more ns) (told_by told n)

-- a text is lines that tell these changes, behind what is told
pub record Tells (text : List ℕ) (told c : Changes) : Type 0 where
  pub notes : List Note
  pub are : AllByRecursion IsNote notes
  pub text_is : text_of notes ≡ text
  pub tell : told_from told notes ≡ Some c
