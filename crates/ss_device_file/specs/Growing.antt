-- A tree of the first item lines, for private clauses: children stand in it as far as they have come.
use Rattle.std.specs.Prelude.{◌≡◌, ℕ, List, true, false, Option, Some, None, option_map, find, filter, map, bytes_eq}
use Rattle.std.specs.Prelude.{if◌then◌else◌}
use Rattle.ss_record.specs.Ids.{has, places, roots}
use Rattle.ss_tree.specs.Trees.{PlacedItem, empty_node, node, places_node}
use Rattle.ss_record.specs.declared.kinds.Kind.TheVariants.{Folder}
use Rattle.ss_record.specs.Items.{is_fit}
use Rattle.ss_device.specs.Edits.{new_node, revised_node, with_child}
use Rattle.ss_device_file.specs.declared.lines.ItemLine.{ItemLine}

-- the item of an id
unfoldable pub line_of : List ℕ → List ItemLine → Option ItemLine
line_of y is = find (λ i. bytes_eq y i.item.id) is

-- the ids that have come under an id
unfoldable pub come_under : List ItemLine → List ℕ → List (List ℕ)
come_under is y = map (λ i. i.item.id) (filter (λ i. bytes_eq y i.parent) is)

-- an item with the children that have come
abbrev pub partly : List ItemLine → ItemLine → PlacedItem
partly is i = record { id = i.item.id; kind = i.item.kind; content = i.item.content; parent = Some i.parent; children = come_under is i.item.id; time = i.time }

-- what hasn't come: a root, which is empty, or nothing
abbrev pub not_come : List ℕ → Option PlacedItem
not_come y = if has y roots then Some (empty_node y) else None

abbrev pub as_come : List ItemLine → List ℕ → Option ItemLine → Option PlacedItem
as_come is y None = not_come y
as_come is y (Some i) = Some (partly is i)

unfoldable pub grown_tree : List ItemLine → List ℕ → Option PlacedItem
grown_tree is y = if bytes_eq y places then Some places_node else as_come is y (line_of y is)

-- what an item that comes makes of the node of an id: a root has its content and time, another item is a last child more
abbrev pub come_to : ItemLine → List ℕ → Option PlacedItem → Option PlacedItem
come_to i y o =
    if bytes_eq i.parent places then option_map (λ n. if bytes_eq n.id i.item.id then revised_node i.item.content i.time n else n) o
    else (if bytes_eq y i.item.id then Some (new_node i.time i.parent i.item) else option_map (λ n. if bytes_eq n.id i.parent then with_child i.item.id n else n) o)

-- a root that comes is still an empty folder
pub record MayCome (t : List PlacedItem) (i : ItemLine) : Type 0 where
  pub inner : bytes_eq i.item.id places ≡ false
  pub fit : is_fit i.item ≡ true
  pub root : bytes_eq i.parent places ≡ true → node i.item.id t ≡ Some (empty_node i.item.id)
  pub folder : bytes_eq i.parent places ≡ true → i.item.kind ≡ Folder
