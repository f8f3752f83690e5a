-- The file of a device that was never synced and has nothing but the four empty roots: seven lines.
use Rattle.std.specs.Prelude.{ℕ, List, [], ◌++◌}
use Rattle.std.specs.List.{flat_map}
use Rattle.ss_record.specs.Ids.{places, roots}
use Rattle.ss_record.specs.Items.{empty_folder}
use Rattle.ss_record.specs.Records.{record_of}
use Rattle.ss_device.specs.Writing.{device_line, end_line, item_line, stamp_line}

-- the line of an empty root
abbrev pub root_line : List ℕ → List ℕ
root_line r = item_line 0 (record_of (empty_folder r) places [])

unfoldable pub fresh_text : List ℕ
fresh_text = device_line ++ stamp_line 0 ++ flat_map root_line roots ++ end_line
