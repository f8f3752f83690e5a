-- Pages of rows, and the list of all ids (SyncStorage API 1.5).
use Rattle.std.specs.Prelude.{ℕ, List, Option, Some, None, option_map, option_and_then, codes}
use Rattle.json.specs.Json.{Json}
use Rattle.json.specs.Find.{get, as_array}
use Rattle.ss_text.specs.Numbers.{number_of}
use Rattle.ss_record.specs.declared.readings.Sheet.{Sheet}
use Rattle.ss_hearing.specs.Bodies.{string_in, stamp_in, id_of, each, ◌>>=◌}

-- the row that an object is: an id, a time and a payload; other members aren't looked at
unfoldable pub sheet_of : Json → Option Sheet
sheet_of d = do
  id ← option_and_then id_of (get (codes "id") d)
  modified ← stamp_in (codes "modified") d
  payload ← string_in (codes "payload") d
  Some (record { id = id; modified = modified; payload = payload })

-- the rows of a page
unfoldable pub rows_of : Json → Option (List Sheet)
rows_of d = option_and_then (each sheet_of) (as_array d)

-- the ids of a list
unfoldable pub ids_of : Json → Option (List (List ℕ))
ids_of d = option_and_then (each id_of) (as_array d)

-- the next offset that a page names, of 1 to 9 digits; or that it names none
unfoldable pub next_of : Option (List ℕ) → Option (Option ℕ)
next_of None = Some None
next_of (Some text) = option_map Some (number_of 9 text)
