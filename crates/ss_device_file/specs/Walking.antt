-- The ids that are to come, on a stack, for private clauses.
use Rattle.std.specs.Prelude.{◌&&◌, ℕ, List, Bool, not, map, reverse}
use Rattle.ss_record.specs.Ids.{has}
use Rattle.ss_device_file.specs.declared.lines.ItemLine.{ItemLine}
use Rattle.ss_device_file.specs.declared.walk.Waiting.{Waiting}
use Rattle.ss_device_file.specs.Places.{Seat, is_next}

abbrev pub seat_of : Waiting → Seat
seat_of w = (w.id, w.parent)

-- the top of the stack comes first
abbrev pub seats_on : List Waiting → List Seat
seats_on ws = map seat_of (reverse ws)

-- the item comes next, and was not met
abbrev pub comes_next : List Seat → List (List ℕ) → ItemLine → Bool
comes_next seats met i = is_next seats i && not (has i.item.id met)
