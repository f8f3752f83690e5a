-- A file of rows: a line each, in any order and as often as they like, and the end (the format is this project's; the lines are those
-- of a device's file).
use Rattle.std.specs.Prelude.{◌≡◌, ◌≢◌, ◌⊎◌, ◌+◌, ◌≤◌, ◌<◌, ℕ, List, [], ◌++◌, true, false, map, length, take, codes}
use Rattle.std.specs.Prelude.{Contains, Option, Some, None, ⊤}
use Rattle.std.specs.List.{AllByRecursion, flat_map}
use Rattle.ss_bso.specs.declared.rows.Row.{Row as Stored}
use Rattle.ss_record.specs.declared.readings.Sheet.{Sheet}
use Rattle.ss_device.specs.Writing.{end_line, row_line}
use Rattle.ss_device_file.specs.declared.lines.Line.{Line}
use Rattle.ss_device_file.specs.declared.lines.Line.TheVariants.{Row, End}
use Rattle.ss_device_file.specs.Files.{has_line}
use Rattle.ss_device_file.specs.Lines.{IsLine}
use Rattle.ss_flat.specs.declared.kinds.FlatKind.{FlatKind}
use Rattle.ss_flat.specs.declared.kinds.FlatKind.TheVariants.{Forms, History}
use Rattle.ss_flat.specs.States.{IsFlatState, State}
use Rattle.ss_run_flat.specs.declared.endings.Ending.{Ending}
use Rattle.ss_run_flat.specs.declared.endings.Ending.TheVariants.{Cut, BadLine, Memory}
use Rattle.ss_run_flat.specs.declared.files.Found.{Found}
use Rattle.ss_run_flat.specs.declared.files.Found.TheVariants as found
use Rattle.ss_run_flat.specs.declared.files.Seen.{Seen}

-- ---- the file

-- a row in form: its time, its id and its payload
abbrev pub IsRow : Sheet → Type 0
IsRow r = IsLine (Row r)

abbrev pub row_lines : List Sheet → List ℕ
row_lines rows = flat_map row_line rows

-- the text is the lines of these rows, and the end
pub record IsFile (text : List ℕ) (rows : List Sheet) : Type 0 where
  pub form : AllByRecursion IsRow rows
  pub text_is : text ≡ row_lines rows ++ end_line

-- ---- the rows of a collection

-- the name of the kind, which is that of the collection
unfoldable pub name_of : FlatKind → List ℕ
name_of History = codes "history"
name_of Forms = codes "forms"

-- the row of a line, as the collection of this kind stores it
abbrev pub stored_row : FlatKind → Sheet → Stored
stored_row kind r = record { collection = name_of kind; id = r.id; modified = r.modified; sortindex = None; payload = r.payload; expires = None }

abbrev pub stored_rows : FlatKind → List Sheet → List Stored
stored_rows kind rows = map (stored_row kind) rows

-- two lists of rows have the same rows, in whatever order and however often
pub record SameRows (rows others : List Sheet) : Type 0 where
  pub there : (r : Sheet) → Contains rows r → Contains others r
  pub back : (r : Sheet) → Contains others r → Contains rows r

-- ---- texts that are no file

-- a text goes on with neither a row nor the end
pub record IsStuck (rest : List ℕ) : Type 0 where
  pub no_row : (r : Sheet) (back : List ℕ) → IsRow r → rest ≢ row_line r ++ back
  pub no_end : (back : List ℕ) → rest ≢ end_line ++ back

-- behind the lines of some rows the text goes on with neither a row nor the end, in this line
pub record IsStuckAt (text : List ℕ) (n : ℕ) (rest : List ℕ) : Type 0 where
  pub rows : List Sheet
  pub form : AllByRecursion IsRow rows
  pub text_is : text ≡ row_lines rows ++ rest
  pub stuck : IsStuck rest
  pub number : n ≡ length rows + 1

-- the text goes on behind the end of a file, in this line
pub record IsExcess (text : List ℕ) (n : ℕ) : Type 0 where
  pub rows : List Sheet
  pub file : List ℕ
  pub rest : List ℕ
  pub is_file : IsFile file rows
  pub text_is : text ≡ file ++ rest
  pub more : rest ≢ []
  pub number : n ≡ length rows + 2

-- Why a text is no file of rows. Where it ends, or has a last piece without a newline, and a line is still awaited, it is cut
abbrev pub IsNoFile : List ℕ → Ending → Type 0
IsNoFile text (Cut n) = (rest : List ℕ) × IsStuckAt text n rest × (has_line rest ≡ false)
IsNoFile text (BadLine n) = ((rest : List ℕ) × IsStuckAt text n rest × (has_line rest ≡ true)) ⊎ IsExcess text n
IsNoFile text Memory = ⊤
IsNoFile text ending = ⊥

-- ---- reading one, for private clauses

-- what a line of so many bytes is in a file of rows
abbrev pub found_in : ℕ → Line → Option Found
found_in long (Row r) = Some (found.Row r long)
found_in long End = Some (found.End long)
found_in long _ = None

-- what comes next
abbrev pub IsNextFound : List ℕ → Found → Type 0
IsNextFound rest (found.Row row long) = IsRow row × (0 < long) × (long ≤ length rest) × (take long rest ≡ row_line row)
IsNextFound rest (found.End long) = (long ≤ length rest) × (take long rest ≡ end_line)

-- nothing comes next, at the line of this number, for this reason
abbrev pub IsStuckBy : List ℕ → ℕ → Ending → Type 0
IsStuckBy rest n (Cut m) = IsStuck rest × (m ≡ n) × (has_line rest ≡ false)
IsStuckBy rest n (BadLine m) = IsStuck rest × (m ≡ n) × (has_line rest ≡ true)
IsStuckBy rest n Memory = ⊤
IsStuckBy rest n ending = ⊥

-- the text begins with a file of so many bytes, whose end is this line, and the state is that of its rows
pub record BeginsWithFile (kind : FlatKind) (text : List ℕ) (s : Seen) : Type 0 where
  pub rows : List Sheet
  pub inside : s.used ≤ length text
  pub is_file : IsFile (take s.used text) rows
  pub kind_is : s.flat.kind ≡ kind
  pub state : IsFlatState (stored_rows kind rows) s.flat
  pub number : s.line ≡ length rows + 1
  pub few : length rows ≤ s.used

-- why rows are not seen to their end
abbrev pub IsWhyNoRows : List ℕ → Ending → Type 0
IsWhyNoRows text (Cut n) = (rest : List ℕ) × IsStuckAt text n rest × (has_line rest ≡ false)
IsWhyNoRows text (BadLine n) = (rest : List ℕ) × IsStuckAt text n rest × (has_line rest ≡ true)
IsWhyNoRows text Memory = ⊤
IsWhyNoRows text ending = ⊥

-- the text is a file, and the state is that of its rows
pub record IsStateOfFile (kind : FlatKind) (text : List ℕ) (flat : State) : Type 0 where
  pub rows : List Sheet
  pub is_file : IsFile text rows
  pub kind_is : flat.kind ≡ kind
  pub state : IsFlatState (stored_rows kind rows) flat
