-- The file of a device as a whole, and how it is refused (the format is this project's).
use Rattle.std.specs.Prelude.{◌≡◌, ◌≢◌, ◌==◌, ◌+◌, ◌<◌, ◌≤◌, ◌||◌, ◌&&◌, ◌⊎◌, ℕ, List, [], ◌++◌, Bool, true, false, not}
use Rattle.std.specs.Prelude.{if◌then◌else◌, Option, Some, None, filter, filter_map, find, length, take}
use Rattle.ss_text.specs.Decimals.{count_of}
use Rattle.ss_record.specs.declared.readings.Sheet.{Sheet}
use Rattle.ss_record.specs.Ids.{has}
use Rattle.ss_tree.specs.Entries.{tree}
use Rattle.ss_tree.specs.Trees.{IsSame, PlacedItem, node_ids}
use Rattle.ss_build.specs.Rows.{rows_of}
use Rattle.ss_build.specs.Built.{built}
use Rattle.ss_device.specs.Device.{Dead, DeviceView, dead_ids, row_ids}
use Rattle.ss_device_file.specs.declared.lines.Version.{Version}
use Rattle.ss_device_file.specs.declared.lines.Version.TheVariants.{First, Second}
use Rattle.ss_device_file.specs.declared.lines.ItemLine.{ItemLine}
use Rattle.ss_device_file.specs.declared.lines.Line.{Line}
use Rattle.ss_device_file.specs.declared.lines.Line.TheVariants.{Synced, Row, Item, Dead as Died}
use Rattle.std.specs.List.{list_any, slice_get}
use Rattle.ss_device_file.specs.declared.front.Front.{Front}
use Rattle.ss_device_file.specs.declared.faults.LinesFault.{LinesFault}
use Rattle.ss_device_file.specs.declared.faults.LinesFault.TheVariants.{Refused, Cut, Memory as NoRoom}
use Rattle.ss_device_file.specs.declared.faults.DeviceFault.{DeviceFault}
use Rattle.ss_device_file.specs.declared.faults.DeviceFault.TheVariants.{BadLine, BadTree, Memory}
use Rattle.ss_device_file.specs.Lines.{AreLines, IsLine, NoneComes, may_come, is_ended, line_text, text_of, version_in}
use Rattle.ss_device_file.specs.Places.{IsAstray, IsShort, IsWhole, tree_of}

-- ---- what lines say

abbrev pub row_in : Line → Option Sheet
row_in (Row r) = Some r
row_in _ = None

abbrev pub item_in : Line → Option ItemLine
item_in (Item i) = Some i
item_in _ = None

abbrev pub death_in : Line → Option (List ℕ × ℕ)
death_in (Died id time) = Some (id, time)
death_in _ = None

abbrev pub time_in : Option Line → ℕ
time_in (Some (Synced time)) = time
time_in _ = 0

-- the time of the last sync, which the second line says
abbrev pub stamp_in : List Line → ℕ
stamp_in ls = time_in (slice_get ls 1)

unfoldable pub rows_in : List Line → List Sheet
rows_in ls = filter_map row_in ls

unfoldable pub items_in : List Line → List ItemLine
items_in ls = filter_map item_in ls

unfoldable pub deaths_in : List Line → Dead
deaths_in ls = filter_map death_in ls

-- the payload has no number with a point, an exponent or more than 18 digits, and no -0
abbrev pub is_exact : Sheet → Bool
is_exact r = count_of r.payload == 0

-- the rows of the mirror: the first version forgets those whose payload has such a number
abbrev pub kept_rows : Version → List Sheet → List Sheet
kept_rows First rows = filter is_exact rows
kept_rows Second rows = rows

unfoldable pub mirror_in : List Line → List Sheet
mirror_in ls = kept_rows (version_in ls) (rows_in ls)

-- the time of the last sync, which is 0 where a row was forgotten, so that all rows are fetched again
unfoldable pub synced_in : List Line → ℕ
synced_in ls = if length (mirror_in ls) == length (rows_in ls) then stamp_in ls else 0

-- ---- items of the mirror

-- an item of the first tree that is neither in the second one nor among the deleted
abbrev pub is_lost : List PlacedItem → List PlacedItem → Dead → List ℕ → Bool
is_lost b t dead x = has x (node_ids b) && not (has x (node_ids t) || has x (dead_ids dead))

-- the first item, in the order of the rows, that the mirror's rows are built to and that is neither in the tree nor among
-- the deleted
unfoldable pub lost_in : List Line → Option (List ℕ)
lost_in ls = find (is_lost (built (rows_of (mirror_in ls))) (tree_of (items_in ls)) (deaths_in ls)) (row_ids (mirror_in ls))

-- ---- the file

-- the lines are those of a whole file: the last one is the end
pub record AreAll (text : List ℕ) (ls : List Line) : Type 0 where
  pub lines : AreLines ls
  pub ended : is_ended ls ≡ true
  pub text_is : text ≡ text_of ls

-- the device that lines tell
pub record Tells (ls : List Line) (d : DeviceView) : Type 0 where
  pub items : IsSame (tree d.tree) (tree_of (items_in ls))
  pub dead : d.dead ≡ deaths_in ls
  pub mirror : d.mirror ≡ mirror_in ls
  pub stamp : d.stamp ≡ synced_in ls

-- lines of a whole file tell a device: all items have their places, and none of the mirror is lost
pub record TellsDevice (ls : List Line) (d : DeviceView) : Type 0 where
  pub whole : IsWhole (items_in ls)
  pub found : lost_in ls ≡ None
  pub tells : Tells ls d

-- the text is a file of this device
pub record IsFileOf (text : List ℕ) (d : DeviceView) : Type 0 where
  pub lines : List Line
  pub all : AreAll text lines
  pub told : TellsDevice lines d

-- ---- lines at the front of a text

-- the text begins with the lines of a whole file, which are so many bytes
pub record IsFront (text : List ℕ) (f : Front) : Type 0 where
  pub lines : AreLines f.lines.items
  pub ended : is_ended f.lines.items ≡ true
  pub inside : f.used ≤ length text
  pub text_is : take f.used text ≡ text_of f.lines.items

-- the text begins with lines of a file, the end not among them, and goes on with no line that may come next
pub record IsStoppedAt (text : List ℕ) (n : ℕ) (rest : List ℕ) : Type 0 where
  pub lines : List Line
  pub are : AreLines lines
  pub unended : is_ended lines ≡ false
  pub text_is : text ≡ text_of lines ++ rest
  pub none : NoneComes lines rest
  pub number : n ≡ length lines + 1

-- the line that may come next, with which the text goes on, and its length
pub record IsNextLine (lines : List Line) (rest : List ℕ) (l : Line) (long : ℕ) : Type 0 where
  pub may : may_come lines l ≡ true
  pub line : IsLine l
  pub inside : long ≤ length rest
  pub some : 0 < long
  pub text_is : take long rest ≡ line_text l

-- whether a line of any kind is there: a newline
abbrev pub has_line : List ℕ → Bool
has_line text = list_any (λ b. b == 10) text

-- what is there is another line, or none at all
abbrev pub IsWhyNoFront : List ℕ → LinesFault → Type 0
IsWhyNoFront text (Refused n) = (rest : List ℕ) × IsStoppedAt text n rest × (has_line rest ≡ true)
IsWhyNoFront text (Cut n) = (rest : List ℕ) × IsStoppedAt text n rest × (has_line rest ≡ false)
IsWhyNoFront text NoRoom = Unit {0}

-- the text goes on with no line that may come next, for this reason
abbrev pub IsStoppedBy : List Line → List ℕ → LinesFault → Type 0
IsStoppedBy lines rest (Refused n) = NoneComes lines rest × (n ≡ length lines + 1) × (has_line rest ≡ true)
IsStoppedBy lines rest (Cut n) = NoneComes lines rest × (n ≡ length lines + 1) × (has_line rest ≡ false)
IsStoppedBy lines rest NoRoom = Unit {0}

-- ---- refusals

-- The first line, from 1, that isn't the next one: the text begins with the lines in front of it, and goes on with none that
-- may come next. Behind the end none may come; where the lines end without it, the line behind the last is named
pub record IsBadLine (text : List ℕ) (n : ℕ) : Type 0 where
  pub lines : List Line
  pub rest : List ℕ
  pub are : AreLines lines
  pub text_is : text ≡ text_of lines ++ rest
  pub none : NoneComes lines rest
  pub more : is_ended lines ≡ true → rest ≢ []
  pub number : n ≡ length lines + 1

-- why items make no tree, or one without an item of the mirror: the first cause that there is
abbrev pub HasUnseatedItem : List Line → List ℕ → Type 0
HasUnseatedItem ls id = IsAstray (items_in ls) id ⊎ (IsShort (items_in ls) id ⊎ (IsWhole (items_in ls) × (lost_in ls ≡ Some id)))

-- lines that are all of a text, or the first that is bad
abbrev pub IsRefusedFront : List ℕ → DeviceFault → Type 0
IsRefusedFront text (BadLine n) = IsBadLine text n
IsRefusedFront text (BadTree id) = ⊥
IsRefusedFront text Memory = Unit {0}

-- some item has not its place
abbrev pub IsFaultOfPlace : List ItemLine → DeviceFault → Type 0
IsFaultOfPlace is (BadLine n) = ⊥
IsFaultOfPlace is (BadTree id) = IsAstray is id ⊎ IsShort is id
IsFaultOfPlace is Memory = Unit {0}

-- items that make no device
abbrev pub IsUnseatedBy : List Line → DeviceFault → Type 0
IsUnseatedBy ls (BadLine n) = ⊥
IsUnseatedBy ls (BadTree id) = HasUnseatedItem ls id
IsUnseatedBy ls Memory = Unit {0}

-- no line is bad, and the items have not their places
pub record IsBadTree (text : List ℕ) (id : List ℕ) : Type 0 where
  pub lines : List Line
  pub all : AreAll text lines
  pub unseated : HasUnseatedItem lines id

abbrev pub IsWhyNoDevice : List ℕ → DeviceFault → Type 0
IsWhyNoDevice text (BadLine n) = IsBadLine text n
IsWhyNoDevice text (BadTree id) = IsBadTree text id
IsWhyNoDevice text Memory = Unit {0}
