-- What `flat` tells of rows (the format is this project's).
use Rattle.std.specs.Prelude.{◌≡◌, ℕ, List, ◌++◌, codes}
use Rattle.std.specs.List.{flat_map}
use Rattle.ss_text.specs.Time.{stamp_text}
use Rattle.ss_bso.specs.declared.rows.Row.{Row}
use Rattle.ss_device.specs.Writing.{end_line, quoted_string}
use Rattle.ss_flat.specs.declared.kinds.FlatKind.{FlatKind}
use Rattle.ss_flat.specs.declared.lists.Shown.{Shown}
use Rattle.ss_flat.specs.Lists.{AreGoneIds, AreShownRecords, AreSkippedIds}

-- an item with its record
unfoldable pub item_line : Shown → List ℕ
item_line shown = codes "[\"item\"," ++ quoted_string shown.id ++ codes "," ++ shown.text ++ codes "]\n"

-- an id that is gone, with the time of its last tombstone
unfoldable pub gone_line : List ℕ × ℕ → List ℕ
gone_line gone = codes "[\"gone\"," ++ quoted_string gone.0 ++ codes ",\"" ++ stamp_text gone.1 ++ codes "\"]\n"

-- an id of which a row was skipped
unfoldable pub skipped_line : List ℕ → List ℕ
skipped_line id = codes "[\"skipped\"," ++ quoted_string id ++ codes "]\n"

unfoldable pub flat_text : List Shown → List (List ℕ × ℕ) → List (List ℕ) → List ℕ
flat_text shown gone skipped = flat_map item_line shown ++ flat_map gone_line gone ++ flat_map skipped_line skipped ++ end_line

-- the text of the state of a set of rows: what is shown, gone and skipped, each by id, and the end
pub record IsTelling (kind : FlatKind) (rows : List Row) (out : List ℕ) : Type 0 where
  pub shown : List Shown
  pub gone : List (List ℕ × ℕ)
  pub skipped : List (List ℕ)
  pub are_shown : AreShownRecords kind rows shown
  pub are_gone : AreGoneIds kind rows gone
  pub are_skipped : AreSkippedIds kind rows skipped
  pub out_is : out ≡ flat_text shown gone skipped
