-- The summary of a rehearsal (this project's): what became of the trees of its two devices, and its lines.
use Rattle.std.specs.Prelude.{ℕ, ◌&&◌, ◌==◌, List, [], ◌∷◌, ◌++◌, Bool, true, false, not, if◌then◌else◌, Option, Some}
use Rattle.std.specs.Prelude.{None, length, option_map, option_and_then, unwrap_or, sum_by, bytes_eq, codes, decimal}
use Rattle.std.specs.Cmp.Lexicographic.{pointwise}
use Rattle.std.specs.List.{flat_map}
use Rattle.serde_json.specs.Find.{get_member}
use Rattle.ss_record.specs.Ids.{has, places, roots}
use Rattle.ss_record.specs.Items.{ItemView}
use Rattle.ss_record.specs.Kinds.{same_kind}
use Rattle.ss_record.specs.Marks.{string_of}
use Rattle.ss_record.specs.Payloads.{payload_members}
use Rattle.ss_tree.specs.declared.entries.Entry.{Entry}
use Rattle.ss_tree.specs.Entries.{above, entry, kids, node_of, preorder}
use Rattle.ss_rehearse.specs.declared.summaries.Summary.{Summary}

-- ---- what is counted

-- the nodes of a tree, in preorder
abbrev pub nodes : List Entry → List ℕ
nodes es = preorder es (length es) 0

-- the item of a node
abbrev pub item_at : List Entry → ℕ → Option ItemView
item_at es k = option_map (λ e. e.item) (entry k es)

-- 1 where an item is such, else 0
abbrev pub once_where : (ItemView → Bool) → Option ItemView → ℕ
once_where is item = if unwrap_or (option_map is item) false then 1 else 0

-- how many items of a tree are such
unfoldable pub count : (ItemView → Bool) → List Entry → ℕ
count is es = sum_by (λ k. once_where is (item_at es k)) (nodes es)

-- neither `places` nor a root
unfoldable pub is_own : ItemView → Bool
is_own i = not (bytes_eq i.id places) && not (has i.id roots)

-- the text begins with `R`
abbrev pub begins_with_r : List ℕ → Bool
begins_with_r [] = false
begins_with_r (x ∷ text) = x == 82

-- the title of an item
unfoldable pub title_of : ItemView → Option (List ℕ)
title_of i = option_and_then (λ ms. option_and_then string_of (get_member (codes "title") ms)) (payload_members i.content)

-- the title begins with `R`
unfoldable pub is_renamed : ItemView → Bool
is_renamed i = unwrap_or (option_map begins_with_r (title_of i)) false

-- how many children a root has
unfoldable pub children_of : List ℕ → List Entry → ℕ
children_of root es = unwrap_or (option_map (λ k. length (kids k es)) (node_of root es)) 0

-- ---- equal trees

-- the same item
abbrev pub same_item : Option ItemView → Option ItemView → Bool
same_item (Some i) (Some j) = bytes_eq i.id j.id && (same_kind i.kind j.kind && bytes_eq i.content j.content)
same_item None _ = false
same_item _ None = false

-- the same id, or none
abbrev pub same_id : Option (List ℕ) → Option (List ℕ) → Bool
same_id None None = true
same_id (Some x) (Some y) = bytes_eq x y
same_id None (Some y) = false
same_id (Some x) None = false

-- the id of the item above a node
abbrev pub id_above : List Entry → ℕ → Option (List ℕ)
id_above es k = option_and_then (λ p. option_map (λ i. i.id) (item_at es p)) (above es k)

-- the same item under the same one
unfoldable pub same_place : List Entry → List Entry → ℕ → ℕ → Bool
same_place es fs k j = same_item (item_at es k) (item_at fs j) && same_id (id_above es k) (id_above fs j)

-- The trees are equal but for times: in preorder each item of one is that of the other, under the same one. So the children of each
-- folder are the same, in the same order.
unfoldable pub same_trees : List Entry → List Entry → Bool
same_trees es fs = pointwise (same_place es fs) (nodes es) (nodes fs)

-- ---- the summary

-- what became of the trees of the first device and of the second
unfoldable pub summary_of : List Entry → List Entry → Summary
summary_of first second = record {
  items = count is_own first;
  menu = children_of (codes "menu") first;
  renamed = count is_renamed first;
  equal = same_trees first second;
}

-- a name, and numbers behind it
unfoldable pub line : List ℕ → List ℕ → List ℕ
line name numbers = name ++ flat_map (λ n. codes " " ++ decimal n) numbers ++ codes "\n"

abbrev pub equal_text : Bool → List ℕ
equal_text true = codes "equal yes\n"
equal_text false = codes "equal no\n"

-- the lines: how many items there are; how many POSTs each sync sent; how many children `menu` has; how many titles begin with `R`;
-- and whether both trees are equal
unfoldable pub summary_text : List ℕ → Summary → List ℕ
summary_text posts s =
    line (codes "items") (s.items ∷ []) ++ line (codes "posts") posts ++ line (codes "menu") (s.menu ∷ []) ++ line (codes "renamed") (s.renamed ∷ []) ++ equal_text s.equal
