-- The file of a device (the format is this project's).
use Rattle.std.specs.Prelude.{◌==◌, ℕ, List, [], ◌++◌, if◌then◌else◌, codes, decimal, length, option_map, unwrap_or}
use Rattle.std.specs.List.{flat_map}
use Rattle.serde_json.specs.Data.{string}
use Rattle.serde_json.specs.Written.{compact_text}
use Rattle.ss_text.specs.Time.{stamp_text}
use Rattle.ss_record.specs.declared.readings.Sheet.{Sheet}
use Rattle.ss_record.specs.Records.{record_of}
use Rattle.ss_tree.specs.declared.entries.Entry.{Entry}
use Rattle.ss_tree.specs.Entries.{entry, placed, preorder}
use Rattle.ss_device.specs.Device.{DeviceView}

-- a string as JSON writes it
abbrev pub quoted_string : List ℕ → List ℕ
quoted_string s = compact_text (string s)

-- ---- lines: a JSON list each, with its newline

unfoldable pub device_line : List ℕ
device_line = codes "[\"device\",2]\n"

unfoldable pub stamp_line : ℕ → List ℕ
stamp_line stamp = codes "[\"stamp\",\"" ++ stamp_text stamp ++ codes "\"]\n"

unfoldable pub row_line : Sheet → List ℕ
row_line r = codes "[\"row\",\"" ++ stamp_text r.modified ++ codes "\"," ++ quoted_string r.id ++ codes "," ++ quoted_string r.payload ++ codes "]\n"

-- an item's time in hundredths of a second, and its record, in which each number stands with the characters that it has
unfoldable pub item_line : ℕ → List ℕ → List ℕ
item_line time record_text = codes "[\"item\"," ++ decimal time ++ codes "," ++ record_text ++ codes "]\n"

unfoldable pub dead_line : List ℕ × ℕ → List ℕ
dead_line d = codes "[\"dead\"," ++ decimal d.1 ++ codes "," ++ quoted_string d.0 ++ codes "]\n"

unfoldable pub end_line : List ℕ
end_line = codes "[\"end\"]\n"

-- ---- the items, in preorder

-- the record of an item where it stands
unfoldable pub record_at : List Entry → Entry → List ℕ
record_at es e = record_of e.item (unwrap_or (placed es e).parent []) (placed es e).children

-- the line of a node's item; `places`, whose node is 0, has none
unfoldable pub node_line : List Entry → ℕ → List ℕ
node_line es k = if k == 0 then [] else unwrap_or (option_map (λ e. item_line e.time (record_at es e)) (entry k es)) []

-- the lines of nodes
abbrev pub node_lines : List Entry → List ℕ → List ℕ
node_lines es ks = flat_map (node_line es) ks

-- ---- the file: its version, the time of the last sync, the rows of the mirror, the items, the deleted ids, and the end

unfoldable pub device_text : DeviceView → List ℕ
device_text d =
    device_line ++ stamp_line d.stamp
    ++ flat_map row_line d.mirror
    ++ node_lines d.tree (preorder d.tree (length d.tree) 0)
    ++ flat_map dead_line d.dead
    ++ end_line
