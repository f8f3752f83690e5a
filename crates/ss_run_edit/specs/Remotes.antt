-- The remote rows behind a device's file, as `merge` reads them (the format is this project's).
use Rattle.std.specs.Prelude.{◌≡◌, ◌≢◌, ◌+◌, ◌≤◌, ◌<◌, ℕ, List, ◌∷◌, [], ◌++◌, true, false, codes, length, take, ⊤}
use Rattle.std.specs.List.{AllByRecursion, flat_map}
use Rattle.ss_text.specs.Time.{stamp_text}
use Rattle.ss_record.specs.declared.readings.Sheet.{Sheet}
use Rattle.ss_device.specs.Device.{AreById, row_ids}
use Rattle.ss_device.specs.Writing.{end_line, quoted_string}
use Rattle.ss_device_file.specs.declared.lines.Line.TheVariants.{Row}
use Rattle.ss_device_file.specs.Lines.{IsLine}
use Rattle.ss_device_file.specs.Files.{has_line}
use Rattle.ss_run_edit.specs.declared.endings.Ending.{Ending}
use Rattle.ss_run_edit.specs.declared.endings.Ending.TheVariants.{Cut, BadLine, Memory}
use Rattle.ss_run_edit.specs.declared.remotes.Found.{Found}
use Rattle.ss_run_edit.specs.declared.remotes.Found.TheVariants as found

-- the line of a remote row
unfoldable pub remote_line : Sheet → List ℕ
remote_line r = codes "[\"remote\",\"" ++ stamp_text r.modified ++ codes "\"," ++ quoted_string r.id ++ codes "," ++ quoted_string r.payload ++ codes "]\n"

abbrev pub remote_lines : List Sheet → List ℕ
remote_lines rows = flat_map remote_line rows

-- a row in form, as a device's file may have it too
abbrev pub IsRow : Sheet → Type 0
IsRow r = IsLine (Row r)

-- rows in form, by id, each id once
pub record AreRemotes (rows : List Sheet) : Type 0 where
  pub form : AllByRecursion IsRow rows
  pub by_id : AreById (row_ids rows)

-- the text goes on with neither another row, nor the end
pub record IsStuck (rows : List Sheet) (rest : List ℕ) : Type 0 where
  pub no_row : (r : Sheet) (back : List ℕ) → IsRow r → AreById (row_ids (rows ++ r ∷ [])) → rest ≢ remote_line r ++ back
  pub no_end : (back : List ℕ) → rest ≢ end_line ++ back

-- what comes next behind rows
abbrev pub IsNextRemote : List Sheet → List ℕ → Found → Type 0
IsNextRemote rows rest (found.Row row long) = IsRow row × AreById (row_ids (rows ++ row ∷ [])) × (0 < long) × (long ≤ length rest) × (take long rest ≡ remote_line row)
IsNextRemote rows rest (found.End long) = (long ≤ length rest) × (take long rest ≡ end_line)

-- nothing comes next, at the line of this number, for this reason
abbrev pub IsStuckBy : List Sheet → List ℕ → ℕ → Ending → Type 0
IsStuckBy rows rest n (Cut m) = IsStuck rows rest × (m ≡ n) × (has_line rest ≡ false)
IsStuckBy rows rest n (BadLine m) = IsStuck rows rest × (m ≡ n) × (has_line rest ≡ true)
IsStuckBy rows rest n Memory = ⊤
IsStuckBy rows rest n ending = ⊥

-- so many bytes of the text are the lines of these rows, and an end
pub record ReadsRemotes (text : List ℕ) (rows : List Sheet) (used : ℕ) : Type 0 where
  pub rows_are : AreRemotes rows
  pub inside : used ≤ length text
  pub text_is : take used text ≡ remote_lines rows ++ end_line

-- the text begins with rows, and is stuck behind them, at a line whose number is this one and that of the rows
pub record IsStuckAt (text : List ℕ) (before : ℕ) (ending : Ending) : Type 0 where
  pub rows : List Sheet
  pub rest : List ℕ
  pub rows_are : AreRemotes rows
  pub text_is : text ≡ remote_lines rows ++ rest
  pub stuck : IsStuckBy rows rest (before + length rows + 1) ending

-- why rows are not read to their end
abbrev pub Stops : List ℕ → ℕ → Ending → Type 0
Stops text before (Cut n) = IsStuckAt text before (Cut n)
Stops text before (BadLine n) = IsStuckAt text before (BadLine n)
Stops text before Memory = ⊤
Stops text before ending = ⊥
