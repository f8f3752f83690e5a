-- What `merge` tells of a merge (the format is this project's).
use Rattle.std.specs.Prelude.{ℕ, List, [], ◌++◌, if◌then◌else◌, codes, decimal}
use Rattle.std.specs.List.{flat_map}
use Rattle.ss_record.specs.Ids.{has, roots}
use Rattle.ss_tree.specs.Trees.{PlacedItem, parent_in}
use Rattle.ss_device.specs.Writing.{end_line, quoted_string}
use Rattle.ss_merge.specs.declared.merging.Origin.{Origin}
use Rattle.ss_merge.specs.declared.merging.Origin.TheVariants.{Local, Remote, Same}

abbrev pub origin_text : Origin → List ℕ
origin_text Local = codes "local"
origin_text Remote = codes "remote"
origin_text Same = codes "same"

-- an item under its parent, and the side of its content
unfoldable pub item_line : List ℕ → List ℕ → Origin → List ℕ
item_line parent id from = codes "[\"item\"," ++ quoted_string parent ++ codes "," ++ quoted_string id ++ codes ",\"" ++ origin_text from ++ codes "\"]\n"

-- a local item that took the id of a remote one
unfoldable pub renamed_line : List ℕ × List ℕ → List ℕ
renamed_line pair = codes "[\"renamed\"," ++ quoted_string pair.0 ++ codes "," ++ quoted_string pair.1 ++ codes "]\n"

-- a remote item that doesn't survive
unfoldable pub gone_line : List ℕ → List ℕ
gone_line id = codes "[\"gone\"," ++ quoted_string id ++ codes "]\n"

-- how many parts an upload would have
unfoldable pub plan_line : ℕ → List ℕ
plan_line count = codes "[\"plan\"," ++ decimal count ++ codes "]\n"

-- the line of an item of the tree; the roots have none
unfoldable pub told_line : List PlacedItem → List ℕ × Origin → List ℕ
told_line t p = if has p.0 roots then [] else item_line (parent_in t p.0) p.0 p.1

-- the items of the merged tree in preorder, the pairs by local id, the items that are gone by id, the plan, and the end
unfoldable pub merge_text : List PlacedItem → List (List ℕ × Origin) → List (List ℕ × List ℕ) → List (List ℕ) → ℕ → List ℕ
merge_text t from renamed gone count =
    flat_map (told_line t) from ++ flat_map renamed_line renamed ++ flat_map gone_line gone ++ plan_line count ++ end_line
