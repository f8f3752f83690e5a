-- Which items a device knows, and ids that stand by id.
use Rattle.std.proofs.Common.{◌≡◌, ℕ, List, [], ◌∷◌, map, filter_map, Bool, true, false, cond, ◌||◌, refl, sym, ap, ◌∙◌}
use Rattle.std.proofs.Common.{subst, Some, is_some, find, bytes_eq}
use Rattle.std.specs.List.Sorted.{IsStrictlySortedBy}
use Rattle.ss_record.specs.declared.readings.Sheet.{Sheet}
use Rattle.ss_record.specs.Ids.{has, Apart, places, roots}
use Rattle.ss_record.proofs.IdLists.{has-nil, has-cons, Apart-nil, Apart-cons}
use Rattle.ss_tree.specs.declared.entries.Entry.{Entry}
use Rattle.ss_tree.specs.Trees.{PlacedItem, IsSame, node, node_ids, places_node, empty_tree}
use Rattle.ss_tree.specs.Entries.{tree}
use Rattle.ss_build.specs.declared.claims.Claim.{Claim}
use Rattle.ss_build.specs.Rows.{claim_of, rows_of}
use Rattle.ss_build.specs.Built.{built, claims, ids, node_of, tree_of}
use Rattle.ss_build.proofs.OfRows.{has-with_roots}
use Rattle.ss_device.specs.Device.{AreById, Dead, IsDevice, KnowsMirrorItems, row_ids}
use Rattle.ss_record.proofs.Below.{below_out}

-- ---- by id

pub by_id_apart : (xs : List (List ℕ)) → AreById xs → Apart xs
unfolding AreById IsStrictlySortedBy
by_id_apart [] h = Apart-nil
by_id_apart (x ∷ xs) h = Apart-cons x xs (below_out x xs h.0) (by_id_apart xs h.1)

pub by_id-nil : AreById []
unfolding AreById IsStrictlySortedBy
by_id-nil = tt

-- ---- ids of trees

pub has_is_node : (x : List ℕ) (t : List PlacedItem) → has x (node_ids t) ≡ is_some (node x t)
unfolding node_ids node
has_is_node x [] = has-nil x
has_is_node x (n ∷ t) = has-cons x n.id (map (λ m. m.id) t) ∙ go (bytes_eq x n.id) (has_is_node x t)
  where
    go : (b : Bool) → has x (map (λ (m : PlacedItem). m.id) t) ≡ is_some (find (λ (m : PlacedItem). bytes_eq x m.id) t) → (b || has x (map (λ (m : PlacedItem). m.id) t)) ≡ is_some (cond b (Some n) (find (λ (m : PlacedItem). bytes_eq x m.id) t))
    go true h = refl
    go false h = h

pub same_ids : (x : List ℕ) (t u : List PlacedItem) → IsSame t u → has x (node_ids t) ≡ has x (node_ids u)
same_ids x t u s = has_is_node x t ∙ (ap is_some (s x) ∙ sym (has_is_node x u))

nodes_ids : (es fs : List Claim) → node_ids (map (node_of es) fs) ≡ ids fs
unfolding node_ids ids node_of
nodes_ids es [] = refl
nodes_ids es (f ∷ fs) = ap (λ xs. f.item.id ∷ xs) (nodes_ids es fs)

-- the items of a built tree: `places`, the roots, and what was read as an item
pub built_ids : (x : List ℕ) (sheets : List Sheet) → has x (node_ids (built (rows_of sheets))) ≡ (bytes_eq x places || (has x (ids (filter_map claim_of (rows_of sheets))) || has x roots))
unfolding built tree_of claims node_ids places_node
built_ids x sheets =
    let es : List Claim = claims (rows_of sheets) in
    has-cons x places (node_ids (map (node_of es) es)) ∙ ap (λ b. bytes_eq x places || b) (ap (has x) (nodes_ids es es) ∙ has-with_roots (filter_map claim_of (rows_of sheets)) x)

empty_ids : (x : List ℕ) → has x (node_ids empty_tree) ≡ (bytes_eq x places || has x roots)
unfolding empty_tree node_ids roots places_node
empty_ids x = has-cons x places roots

new_known : (es : List Entry) → IsSame (tree es) empty_tree → KnowsMirrorItems [] es []
unfolding ids
new_known es s x h =
    let both : has x (node_ids (tree es)) ≡ true = same_ids x (tree es) empty_tree s ∙ (empty_ids x ∙ (sym (built_ids x [] ∙ ap (λ b. bytes_eq x places || (b || has x roots)) (has-nil x)) ∙ h)) in
    ap (λ b. b || has x []) both

-- ---- devices

pub new_device : (es : List Entry) (dead : Dead) (mirror : List Sheet) (stamp : ℕ) → dead ≡ [] → mirror ≡ [] → IsSame (tree es) empty_tree → IsDevice (record { tree = es; dead = dead; mirror = mirror; stamp = stamp })
new_device es dead mirror stamp d m s =
    subst (λ x. IsDevice (record { tree = es; dead = x; mirror = mirror; stamp = stamp })) (sym d)
    (subst (λ x. IsDevice (record { tree = es; dead = []; mirror = x; stamp = stamp })) (sym m) (record { dead_by_id = by_id-nil; mirror_by_id = by_id-nil; known = new_known es s }))

pub synced_device : (es : List Entry) (dead : Dead) (mirror : List Sheet) (stamp : ℕ) → dead ≡ [] → AreById (row_ids mirror) → KnowsMirrorItems mirror es [] → IsDevice (record { tree = es; dead = dead; mirror = mirror; stamp = stamp })
synced_device es dead mirror stamp d m k = subst (λ x. IsDevice (record { tree = es; dead = x; mirror = mirror; stamp = stamp })) (sym d) (record { dead_by_id = by_id-nil; mirror_by_id = m; known = k })
