-- Rows after parts were put.
use Rattle.std.specs.Prelude.{◌≡◌, ℕ, List, [], Option, Some, fold, filter, find, map, bytes_eq}
use Rattle.std.specs.Option.{option_map_or}
use Rattle.ss_record.specs.declared.readings.Sheet.{Sheet}
use Rattle.ss_record.specs.Ids.{Apart}
use Rattle.ss_bso.specs.declared.parts.Part.{Part}
use Rattle.ss_bso.specs.Put.{field_value}

-- the row of an id
unfoldable pub sheet : List ℕ → List Sheet → Option Sheet
sheet x sheets = find (λ s. bytes_eq x s.id) sheets

-- the row that a part makes of the old one, if there is one, at this time
unfoldable pub sheet_put : ℕ → Option Sheet → Part → Sheet
sheet_put stamp old part = record { id = part.id; modified = stamp; payload = field_value part.fields.payload (option_map_or (λ s. s.payload) old []) [] (λ text. text) }

-- the row of an id after the parts that name it, one after the other
unfoldable pub sheet_after : ℕ → List Part → List ℕ → Option Sheet → Option Sheet
sheet_after stamp parts x old = fold (λ row part. Some (sheet_put stamp row part)) old (filter (λ part. bytes_eq part.id x) parts)

-- The rows after the parts were put with one stamp, whatever their order: each id that a part names has the row that its
-- parts make of the old one, and each other id the row that it had.
pub record AreRowsAfter (sheets : List Sheet) (parts : List Part) (stamp : ℕ) (after : List Sheet) : Type 0 where
  pub apart : Apart (map (λ s. s.id) after)
  pub each : (x : List ℕ) → sheet x after ≡ sheet_after stamp parts x (sheet x sheets)
