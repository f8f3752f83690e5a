-- The ids that a record says, for private clauses.
use Rattle.std.specs.Prelude.{ℕ, List, [], ◌∷◌, Option, Some, None, bytes_eq, codes, option_map, option_and_then}
use Rattle.std.specs.Prelude.{if◌then◌else◌}
use Rattle.serde_json.specs.Data.{Members}
use Rattle.serde_json.specs.Find.{as_object, get_member}
use Rattle.serde_json.specs.Read.{read}
use Rattle.ss_text.specs.Decimals.{marked_text}
use Rattle.ss_record.specs.Marks.{string_of}
use Rattle.ss_record.specs.declared.readings.Reading.{Reading}
use Rattle.ss_record.specs.declared.readings.Reading.TheVariants.{Item, Tombstone, Skipped}
use Rattle.ss_record.specs.Ids.{places}
use Rattle.ss_record.specs.Items.{ItemView}
use Rattle.ss_record.specs.Records.{reading}
use Rattle.ss_device_file.specs.declared.lines.ItemLine.{ItemLine}
use Rattle.ss_text.specs.Names.{id_of}

-- the members of a record, as its marked text is read
abbrev pub record_parts : List ℕ → Option Members
record_parts text = option_and_then as_object (read (marked_text text))

abbrev pub id_told : Members → Option (List ℕ)
id_told ms = option_and_then id_of (option_and_then string_of (get_member (codes "id") ms))

-- the id that a record says
unfoldable pub record_id : List ℕ → Option (List ℕ)
record_id text = option_and_then id_told (record_parts text)

-- the texts, where each has the form of an id
abbrev pub all_ids : List (List ℕ) → Option (List (List ℕ))
all_ids [] = Some []
all_ids (x ∷ xs) = option_and_then (λ y. option_map (λ ys. y ∷ ys) (all_ids xs)) (id_of x)

-- an item with the ids that its record names
abbrev pub item_line_of : ℕ → ItemView → List ℕ → List (List ℕ) → ItemLine
item_line_of time i parent children = record { time = time; item = i; parent = parent; children = children }

unfoldable pub in_place : ℕ → ItemView → List ℕ → List (List ℕ) → Option ItemLine
in_place time i parent children =
    if bytes_eq i.id places then None
    else option_and_then (λ p. option_map (λ cs. item_line_of time i p cs) (all_ids children)) (id_of parent)

-- what a reading says as an item's line
abbrev pub read_item : ℕ → Reading → Option ItemLine
read_item time (Item i None children) = None
read_item time (Item i (Some parent) children) = in_place time i parent children
read_item time Tombstone = None
read_item time Skipped = None

-- what a record says as an item's line
unfoldable pub item_from : ℕ → List ℕ → Option ItemLine
item_from time text = option_and_then (λ id. read_item time (reading id text)) (record_id text)
