-- The lines of a device's file: what each says, how it is written, and which may come behind which (the format is this
-- project's).
use Rattle.std.specs.Prelude.{◌≡◌, ◌≢◌, ◌==◌, ◌&&◌, ◌-◌, ◌≤◌, ℕ, List, [], ◌∷◌, ◌++◌, Bool, true, false, Option, Some}
use Rattle.std.specs.Prelude.{None, bytes_eq, codes, length}
use Rattle.std.specs.List.{flat_map, list_all, slice_get}
use Rattle.std.specs.Str.{IsUtf8}
use Rattle.ss_text.specs.Decimals.{count_of}
use Rattle.ss_text.specs.Names.{is_id}
use Rattle.ss_text.specs.Time.{last_stamp}
use Rattle.ss_record.specs.Ids.{before, places}
use Rattle.ss_record.specs.Items.{is_fit}
use Rattle.ss_record.specs.Kinds.{is_folder}
use Rattle.ss_record.specs.Records.{record_of}
use Rattle.ss_device.specs.Writing.{dead_line, device_line, end_line, item_line, row_line, stamp_line}
use Rattle.ss_device_file.specs.declared.lines.Version.{Version}
use Rattle.ss_device_file.specs.declared.lines.Version.TheVariants.{First, Second}
use Rattle.ss_device_file.specs.declared.lines.ItemLine.{ItemLine}
use Rattle.ss_device_file.specs.declared.lines.Line.{Line}
use Rattle.ss_device_file.specs.declared.lines.Line.TheVariants.{Head, Synced, Row, Item, Dead, End}

-- ---- how a line is written

-- the first line: the version of the file
abbrev pub head_line : Version → List ℕ
head_line First = codes "[\"device\",1]\n"
head_line Second = device_line

-- an item's record where its line puts it
unfoldable pub record_in : ItemLine → List ℕ
record_in i = record_of i.item i.parent i.children

abbrev pub line_text : Line → List ℕ
line_text (Head v) = head_line v
line_text (Synced time) = stamp_line time
line_text (Row r) = row_line r
line_text (Item i) = item_line i.time (record_in i)
line_text (Dead id time) = dead_line (id, time)
line_text End = end_line

-- lines, one behind the other
abbrev pub text_of : List Line → List ℕ
text_of ls = flat_map line_text ls

-- ---- values in form

-- an item other than `places`, with the ids of a parent and of children, which only a folder has
pub record IsItemLine (i : ItemLine) : Type 0 where
  pub time : i.time ≤ last_stamp
  pub id : is_id i.item.id ≡ true
  pub fit : is_fit i.item ≡ true
  pub inner : bytes_eq i.item.id places ≡ false
  pub parent : is_id i.parent ≡ true
  pub children : list_all is_id i.children ≡ true
  pub leaf : is_folder i.item.kind ≡ false → i.children ≡ []

abbrev pub HasForm : Line → Type 0
HasForm (Head v) = Unit {0}
HasForm (Synced time) = time ≤ last_stamp
HasForm (Row r) = (is_id r.id ≡ true) × (r.modified ≤ last_stamp)
HasForm (Item i) = IsItemLine i
HasForm (Dead id time) = (is_id id ≡ true) × (time ≤ last_stamp)
HasForm End = Unit {0}

-- a line with values in form, which is a text
pub record IsLine (l : Line) : Type 0 where
  pub form : HasForm l
  pub utf8 : IsUtf8 (line_text l)

-- ---- which line may come next

-- the last of these
abbrev pub last_of : List Line → Option Line
last_of ls = slice_get ls (length ls - 1)

-- the second may stand right behind the first, or in front of all: the version, the time of the last sync, the rows by id,
-- the items, the deleted ids by id, and the end, behind which there is nothing
abbrev pub follows : Option Line → Line → Bool
follows None (Head v) = true
follows (Some (Head v)) (Synced time) = true
follows (Some (Synced time)) (Row r) = true
follows (Some (Synced time)) (Item i) = true
follows (Some (Synced time)) (Dead id died) = true
follows (Some (Synced time)) End = true
follows (Some (Row q)) (Row r) = before q.id r.id
follows (Some (Row q)) (Item i) = true
follows (Some (Row q)) (Dead id died) = true
follows (Some (Row q)) End = true
follows (Some (Item h)) (Item i) = true
follows (Some (Item h)) (Dead id died) = true
follows (Some (Item h)) End = true
follows (Some (Dead x died)) (Dead y time) = before x y
follows (Some (Dead x died)) End = true
follows _ _ = false

-- the version that a first line says; of another one the second
abbrev pub version_in : List Line → Version
version_in (Head v ∷ ls) = v
version_in _ = Second

-- in the first version no item has a number with a point, an exponent or more than 18 digits, or -0
abbrev pub suits : Version → Line → Bool
suits First (Item i) = count_of i.item.content == 0
suits _ _ = true

-- the line may come next behind these
unfoldable pub may_come : List Line → Line → Bool
may_come ls l = follows (last_of ls) l && suits (version_in ls) l

-- each of the lines is one, and may come next behind those in front of it
abbrev pub ComeAfter : List Line → List Line → Type 0
ComeAfter front [] = Unit {0}
ComeAfter front (l ∷ ls) = (may_come front l ≡ true) × IsLine l × ComeAfter (front ++ l ∷ []) ls

unfoldable pub AreLines : List Line → Type 0
AreLines ls = ComeAfter [] ls

-- the last line is the end
abbrev pub is_end : Option Line → Bool
is_end (Some End) = true
is_end _ = false

abbrev pub is_ended : List Line → Bool
is_ended ls = is_end (last_of ls)

-- no line may come next that the text goes on with
abbrev pub NoneComes : List Line → List ℕ → Type 0
NoneComes ls rest = (l : Line) (back : List ℕ) → may_come ls l ≡ true → IsLine l → rest ≢ line_text l ++ back
