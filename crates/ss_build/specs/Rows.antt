-- Rows as they were read, and the items among them with the places that their records claim.
use Rattle.std.specs.Prelude.{ℕ, List, Bool, true, false, Option, Some, None, map, filter}
use Rattle.ss_record.specs.declared.readings.Reading.{Reading}
use Rattle.ss_record.specs.declared.readings.Reading.TheVariants.{Item, Tombstone, Skipped}
use Rattle.ss_record.specs.declared.readings.Sheet.{Sheet}
use Rattle.ss_record.specs.Ids.{by_id}
use Rattle.ss_record.specs.Records.{reading}
use Rattle.ss_build.specs.declared.claims.Claim.{Claim}
pub use Rattle.ss_build.specs.declared.rows.Row.{Row}

-- what a sheet says of its id
unfoldable pub row_of : Sheet → Row
row_of s = record { id = s.id; time = s.modified; reading = reading s.id s.payload }

abbrev pub rows_of : List Sheet → List Row
rows_of sheets = map row_of sheets

-- the item of a reading, with the parent and the children that its record names
abbrev pub claim_at : ℕ → Reading → Option Claim
claim_at time (Item i p cs) = Some (record { item = i; parentid = p; children = cs; time = time })
claim_at time Tombstone = None
claim_at time Skipped = None

unfoldable pub claim_of : Row → Option Claim
claim_of r = claim_at r.time r.reading

abbrev pub is_item : Reading → Bool
is_item (Item i p cs) = true
is_item Tombstone = false
is_item Skipped = false

abbrev pub is_tombstone : Reading → Bool
is_tombstone (Item i p cs) = false
is_tombstone Tombstone = true
is_tombstone Skipped = false

abbrev pub is_skipped : Reading → Bool
is_skipped (Item i p cs) = false
is_skipped Tombstone = false
is_skipped Skipped = true

-- each id with what was read of it
abbrev pub readings : List Row → List (List ℕ × Reading)
readings rows = map (λ r. (r.id, r.reading)) rows

-- the ids that are told as deleted
unfoldable pub dead : List Row → List (List ℕ)
dead rows = by_id (map (λ r. r.id) (filter (λ r. is_tombstone r.reading) rows))

-- the ids of which nothing is understood
unfoldable pub skipped : List Row → List (List ℕ)
skipped rows = by_id (map (λ r. r.id) (filter (λ r. is_skipped r.reading) rows))
