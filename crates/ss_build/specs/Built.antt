-- The tree that is built from rows, however damaged they are.
use Rattle.std.specs.Prelude.{◌&&◌, ◌||◌, ◌==◌, nat_lt, ℕ, zero, suc, List, [], ◌∷◌, ◌++◌, Bool, false, not}
use Rattle.std.specs.Prelude.{if◌then◌else◌, Option, Some, None, map, filter, filter_map, find, length, bytes_eq}
use Rattle.std.specs.Prelude.{unwrap_or, option_map, option_and_then}
use Rattle.std.specs.List.{list_all}
use Rattle.ss_record.specs.Ids.{has, places, roots, unfiled, firsts, before, by_id, same_list}
use Rattle.ss_record.specs.Kinds.{is_folder}
use Rattle.ss_record.specs.Items.{empty_folder}
use Rattle.ss_tree.specs.Trees.{PlacedItem, places_node}
use Rattle.ss_build.specs.declared.claims.Claim.{Claim}
use Rattle.ss_build.specs.Rows.{Row, claim_of}

-- ---- items

unfoldable pub ids : List Claim → List (List ℕ)
ids es = map (λ e. e.item.id) es

-- the item of an id
unfoldable pub claim : List ℕ → List Claim → Option Claim
claim x es = find (λ e. bytes_eq x e.item.id) es

-- an empty folder that claims nothing
abbrev pub empty_root : List ℕ → Claim
empty_root r = record { item = empty_folder r; parentid = None; children = []; time = 0 }

-- with each root that is not among them
unfoldable pub with_roots : List Claim → List Claim
with_roots es = es ++ map empty_root (filter (λ r. not (has r (ids es))) roots)

-- the items of the readings, and each root whose reading is absent or no item
unfoldable pub claims : List Row → List Claim
claims rows = with_roots (filter_map claim_of rows)

-- ---- proposed parents

-- the folder f lists x; asked only of items that are no roots
unfoldable pub lists : Claim → List ℕ → Bool
lists f x = is_folder f.item.kind && has x f.children

-- f has the greater time, or the smaller id at the same time
unfoldable pub beats : Claim → Claim → Bool
beats f g = nat_lt g.time f.time || ((f.time == g.time) && before f.item.id g.item.id)

-- the first that none of the list beats
unfoldable pub best : List Claim → Option Claim
best fs = find (λ f. list_all (λ g. not (beats g f)) fs) fs

-- the folder that e names as its parent
unfoldable pub named : List Claim → Claim → Option Claim
named es e = option_and_then (λ p. find (λ f. is_folder f.item.kind && bytes_eq p f.item.id) es) e.parentid

-- the first of these that there is
unfoldable pub or_else : {X : Type 0} → Option X → Option X → Option X
or_else (Some a) b = Some a
or_else None b = b

unfoldable pub kept_if : {X : Type 0} → (X → Bool) → Option X → Option X
kept_if p (Some a) = if p a then Some a else None
kept_if p None = None

-- the proposed parent of an item that is no root: the folder that it names and that lists it, else the best that lists
-- it, else the one that it names, else `unfiled`
unfoldable pub proposal : List Claim → Claim → List ℕ
proposal es e = unwrap_or (option_map (λ f. f.item.id)
    (or_else (kept_if (λ f. lists f e.item.id) (named es e))
    (or_else (best (filter (λ f. lists f e.item.id) es))
    (named es e)))) unfiled

-- one step along proposed parents: a root leads to `places`, and so does an id that is no item
unfoldable pub proposed_parents : List Claim → List ℕ → List ℕ
proposed_parents es x = if has x roots then places else unwrap_or (option_map (proposal es) (claim x es)) places

-- ---- circles

-- the first n ids that are met on the way from x on, x among them
unfoldable pub walk : (List ℕ → List ℕ) → ℕ → List ℕ → List (List ℕ)
walk step zero x = []
walk step (suc n) x = x ∷ walk step n (step x)

-- x comes back to itself within n steps; with as many steps as there are items the bound means nothing
unfoldable pub comes_back : (List ℕ → List ℕ) → ℕ → List ℕ → Bool
comes_back step n x = has x (walk step n (step x))

-- an item that comes back to itself along proposed parents stands under `unfiled`, each other one under its proposed parent
unfoldable pub built_parent : List Claim → List ℕ → List ℕ
built_parent es x = if comes_back (proposed_parents es) (length es) x then unfiled else proposed_parents es x

-- ---- children

-- x is an item, and f its parent
unfoldable pub is_child : List Claim → List ℕ → List ℕ → Bool
is_child es f x = has x (ids es) && bytes_eq (built_parent es x) f

-- those in its list in the order of first appearance, then the rest by id
unfoldable pub built_children : List Claim → Claim → List (List ℕ)
built_children es f =
    let listed = firsts (filter (is_child es f.item.id) f.children) in
    listed ++ by_id (filter (λ x. is_child es f.item.id x && not (has x listed)) (ids es))

-- ---- the tree

unfoldable pub node_of : List Claim → Claim → PlacedItem
node_of es e = record { id = e.item.id; kind = e.item.kind; content = e.item.content; parent = Some (built_parent es e.item.id); children = built_children es e; time = e.time }

unfoldable pub tree_of : List Claim → List PlacedItem
tree_of es = places_node ∷ map (node_of es) es

unfoldable pub built : List Row → List PlacedItem
built rows = tree_of (claims rows)

-- its record names the parent, or it is a root
abbrev pub keeps_parent : List Claim → Claim → Bool
keeps_parent es e = has e.item.id roots || unwrap_or (option_map (bytes_eq (built_parent es e.item.id)) e.parentid) false

-- it stands where its record says, with the children that its record says
unfoldable pub is_kept : List Claim → Claim → Bool
is_kept es e = keeps_parent es e && same_list (built_children es e) e.children

-- the items that were read and whose parent or children are other ones than those that they name
unfoldable pub repaired : List Row → List (List ℕ)
repaired rows = by_id (map (λ e. e.item.id) (filter (λ e. not (is_kept (claims rows) e)) (filter_map claim_of rows)))
