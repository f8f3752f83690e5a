-- The plan of an upload: what has to be put so that the rows stand for a tree (the rule is this project's).
use Rattle.std.specs.Prelude.{◌&&◌, ◌||◌, ℕ, List, [], ◌++◌, Bool, false, not, if◌then◌else◌, Option, Some, None}
use Rattle.std.specs.Prelude.{length, map, filter, filter_map, find, option_map, option_and_then, unwrap_or, bytes_eq}
use Rattle.ss_record.specs.declared.readings.Reading.{Reading}
use Rattle.ss_record.specs.Ids.{by_id, has, places}
use Rattle.ss_record.specs.Items.{ItemView}
use Rattle.ss_record.specs.Records.{record_of, tombstone_of}
use Rattle.ss_bso.specs.declared.parts.Part.{Part}
use Rattle.ss_bso.specs.declared.parts.Field.TheVariants.{Keep, Set}
use Rattle.ss_tree.specs.declared.entries.Entry.{Entry}
use Rattle.ss_tree.specs.Trees.{PlacedItem, node, node_ids}
use Rattle.ss_tree.specs.Entries.{entry, preorder, tree}
use Rattle.ss_build.specs.Rows.{is_item}
use Rattle.ss_build.specs.Stand.{agrees}
use Rattle.ss_tree.specs.Trees.{item_of}
use Rattle.ss_tree.specs.Entries.{id_at}

-- ids with what their rows say
abbrev pub Readings : Type 0
Readings = List (List ℕ × Reading)

-- what the row of an id says
unfoldable pub reading_at : List ℕ → Readings → Option Reading
reading_at x readings = option_map (λ r. r.1) (find (λ r. bytes_eq x r.0) readings)

-- its row is there and agrees
unfoldable pub is_told : PlacedItem → Option Reading → Bool
is_told n r = unwrap_or (option_map (agrees n) r) false

-- the record of an item where it stands
unfoldable pub record_at : PlacedItem → List ℕ
record_at n = record_of (item_of n) (unwrap_or n.parent []) n.children

-- the record that has to be put for an item, by what its row says: it is absent or doesn't agree. `places` has no row.
unfoldable pub record_due : PlacedItem → Option Reading → Option (List ℕ)
record_due n r = if bytes_eq n.id places || is_told n r then None else Some (record_at n)

-- that of an id, where the tree has an item of it
unfoldable pub record_for : List PlacedItem → Readings → List ℕ → Option (List ℕ)
record_for t readings x = option_and_then (λ n. record_due n (reading_at x readings)) (node x t)

-- the ids whose row reads as an item that isn't in the tree, by id
unfoldable pub gone : List PlacedItem → Readings → List (List ℕ)
gone t readings = by_id (map (λ r. r.0) (filter (λ r. is_item r.1 && not (has r.0 (node_ids t))) readings))

-- what is put for an id: its payload; sortindex and ttl stay
abbrev pub part : List ℕ → List ℕ → Part
part x payload = record { id = x; fields = record { payload = Set payload; sortindex = Keep; ttl = Keep } }

-- a part for each id that has a payload
unfoldable pub puts : (List ℕ → Option (List ℕ)) → List (List ℕ) → List Part
puts payload xs = filter_map (λ x. option_map (part x) (payload x)) xs

-- the ids of the tree, in preorder
abbrev pub order : List Entry → List (List ℕ)
order es = map (id_at es) (preorder es (length es) 0)

-- the plan: in preorder the records that have to be put, and then by id a tombstone for each item that is gone
unfoldable pub plan : List Entry → Readings → List Part
plan es readings =
    puts (record_for (tree es) readings) (order es)
    ++ puts (λ x. Some (tombstone_of x)) (gone (tree es) readings)
