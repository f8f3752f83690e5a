-- Lines as JSON values, for private clauses.
use Rattle.std.specs.Prelude.{◌==◌, ℕ, nat_le, List, Bool, true, false, if◌then◌else◌, Option, Some, None, option_map}
use Rattle.std.specs.Prelude.{option_and_then, bytes_eq, codes}
use Rattle.serde_json.specs.Data.{unsigned, Data, null, boolean, number, string, array, object, Items, no_items, item}
use Rattle.serde_json.specs.Find.{as_number, as_str, as_u64, get_item}
use Rattle.ss_text.specs.Names.{is_id}
use Rattle.ss_text.specs.Time.{last_stamp, stamp_of, stamp_text}
use Rattle.ss_device_file.specs.declared.lines.Version.{Version}
use Rattle.ss_device_file.specs.declared.lines.Version.TheVariants.{First, Second}
use Rattle.ss_device_file.specs.declared.lines.Line.{Line}
use Rattle.ss_device_file.specs.declared.lines.Line.TheVariants.{Head, Synced, Row, Item, Dead, End}
use Rattle.ss_text.specs.Names.{id_of}

abbrev pub version_number : Version → ℕ
version_number First = 1
version_number Second = 2

-- the items of the list that a line is; an item's line isn't read so
abbrev pub parts_of : Line → Items
parts_of (Head v) = item (string (codes "device")) (item (number (unsigned (version_number v))) no_items)
parts_of (Synced time) = item (string (codes "stamp")) (item (string (stamp_text time)) no_items)
parts_of (Row r) = item (string (codes "row")) (item (string (stamp_text r.modified)) (item (string r.id) (item (string r.payload) no_items)))
parts_of (Item i) = no_items
parts_of (Dead id time) = item (string (codes "dead")) (item (number (unsigned time)) (item (string id) no_items))
parts_of End = item (string (codes "end")) no_items

abbrev pub is_item : Line → Bool
is_item (Item i) = true
is_item _ = false

-- ---- what the items of a list say

abbrev pub text_at : ℕ → Items → Option (List ℕ)
text_at k ps = option_and_then as_str (get_item k ps)

abbrev pub number_at : ℕ → Items → Option ℕ
number_at k ps = option_and_then as_u64 (option_and_then as_number (get_item k ps))

abbrev pub stamp_at : ℕ → Items → Option ℕ
stamp_at k ps = option_and_then stamp_of (text_at k ps)

abbrev pub id_at : ℕ → Items → Option (List ℕ)
id_at k ps = option_and_then id_of (text_at k ps)

abbrev pub time_of : ℕ → Option ℕ
time_of n = if nat_le n last_stamp then Some n else None

abbrev pub time_at : ℕ → Items → Option ℕ
time_at k ps = option_and_then time_of (number_at k ps)

abbrev pub version_of : ℕ → Option Version
version_of n = if n == 1 then Some First else (if n == 2 then Some Second else None)

unfoldable pub head_from : Items → Option Line
head_from ps = option_map Head (option_and_then version_of (number_at 1 ps))

unfoldable pub synced_from : Items → Option Line
synced_from ps = option_map Synced (stamp_at 1 ps)

abbrev pub row_with : ℕ → List ℕ → List ℕ → Line
row_with modified id payload = Row (record { id = id; modified = modified; payload = payload })

unfoldable pub row_from : Items → Option Line
row_from ps = option_and_then (λ time. option_and_then (λ id. option_map (row_with time id) (text_at 3 ps)) (id_at 2 ps)) (stamp_at 1 ps)

unfoldable pub dead_from : Items → Option Line
dead_from ps = option_and_then (λ time. option_map (λ id. Dead id time) (id_at 2 ps)) (time_at 1 ps)

-- the line that a first item names, of this list
abbrev pub device_line_of_tag : List ℕ → Items → Option Line
device_line_of_tag tag ps =
    if bytes_eq tag (codes "device") then head_from ps
    else (if bytes_eq tag (codes "stamp") then synced_from ps
    else (if bytes_eq tag (codes "row") then row_from ps
    else (if bytes_eq tag (codes "dead") then dead_from ps
    else (if bytes_eq tag (codes "end") then Some End
    else None))))

unfoldable pub line_from : Items → Option Line
line_from ps = option_and_then (λ tag. device_line_of_tag tag ps) (text_at 0 ps)

-- what a JSON value says as a line
abbrev pub line_in : Option Data → Option Line
line_in None = None
line_in (Some null) = None
line_in (Some (boolean b)) = None
line_in (Some (number n)) = None
line_in (Some (string s)) = None
line_in (Some (array ps)) = line_from ps
line_in (Some (object ms)) = None
