-- Items by their places in the list.
use Rattle.std.specs.Prelude.{◌≡◌, ◌<◌, ◌&&◌, ◌==◌, nat_lt, ℕ, suc, List, [], ◌∷◌, ◌++◌, Bool, true, false, not}
use Rattle.std.specs.Prelude.{if◌then◌else◌, Option, Some, None, map, filter, length, get_or, bytes_eq, unwrap_or}
use Rattle.std.specs.Prelude.{option_map}
use Rattle.std.specs.List.{flat_map}
use Rattle.ss_record.specs.Ids.{Apart, by_id, firsts, has, places, roots, same_list}
use Rattle.ss_record.specs.Kinds.{is_folder}
use Rattle.ss_build.specs.declared.claims.Claim.{Claim}
use Rattle.ss_build.specs.Built.{beats, built_children, built_parent, empty_root, ids, is_child, lists, named}
use Rattle.ss_build.specs.Built.{proposed_parents}

-- where x stands among the ids; their number where it isn't there
abbrev pub place : List ℕ → List (List ℕ) → ℕ
place x [] = 0
place x (y ∷ ys) = if bytes_eq x y then 0 else suc (place x ys)

-- where an item stands; their number where there is none
unfoldable pub seat : List Claim → Option Claim → ℕ
seat es None = length es
seat es (Some f) = place f.item.id (ids es)

-- the item at a place
abbrev pub at : List Claim → ℕ → Claim
at es i = get_or es i (empty_root places)

-- the ids at some places
abbrev pub names : List (List ℕ) → List ℕ → List (List ℕ)
names xs order = map (λ i. get_or xs i places) order

-- the folder that an item names lists it
unfoldable pub kept_at : List Claim → Claim → Bool
kept_at es e = unwrap_or (option_map (λ f. lists f e.item.id) (named es e)) false

-- the better of the folders at two places, of which the first may be none
unfoldable pub better : List Claim → ℕ → ℕ → ℕ
better es old folder = if nat_lt old (length es) && not (beats (at es folder) (at es old)) then old else folder

-- the first of some places that there is, where the end stands for none; of a root none is
abbrev pub chosen_place : Bool → Bool → ℕ → ℕ → ℕ → ℕ → ℕ
chosen_place root claimed_children claimed lister fallback end =
    if root then end else (if claimed_children then claimed else (if nat_lt lister end then lister else (if nat_lt claimed end then claimed else fallback)))

-- the places of the proposed parents, and of the parents; the number of items stands for `places`
unfoldable pub next_of : List Claim → List ℕ
next_of es = map (λ e. place (proposed_parents es e.item.id) (ids es)) es

unfoldable pub parents_of : List Claim → List ℕ
parents_of es = map (λ e. place (built_parent es e.item.id) (ids es)) es

-- items with distinct ids, `places` not among them, all roots among them, each a folder
pub record AreItems (es : List Claim) : Type 0 where
  pub apart : Apart (ids es)
  pub no_places : has places (ids es) ≡ false
  pub roots_in : (r : List ℕ) → has r roots ≡ true → has r (ids es) ≡ true
  pub root_folder : (i : ℕ) → i < length es → has (at es i).item.id roots ≡ true → is_folder (at es i).item.kind ≡ true

-- next has the place of each item's proposed parent, and the number of items for `places`
pub record IsNext (es : List Claim) (next : List ℕ) : Type 0 where
  pub same_length : length next ≡ length es
  pub each : (i : ℕ) → i < length next → proposed_parents es (get_or (ids es) i places) ≡ get_or (ids es) (get_or next i 0) places

-- the children of a folder that it lists, in the order of first appearance
unfoldable pub claimed_children : List Claim → Claim → List (List ℕ)
claimed_children es f = firsts (filter (is_child es f.item.id) f.children)

-- the roots, then what the items list
unfoldable pub front : List Claim → List (List ℕ)
front es = roots ++ flat_map (claimed_children es) es

-- those that are left, by id
unfoldable pub rest : List Claim → List (List ℕ)
rest es = by_id (filter (λ x. not (has x (front es))) (ids es))

-- all items, in an order in which siblings stand as in their parent's children
unfoldable pub in_order : List Claim → List (List ℕ)
in_order es = front es ++ rest es

-- an item has the children that its record names
unfoldable pub as_told : List Claim → Claim → Bool
as_told es e = same_list (built_children es e) e.children

-- what was taken so far: the order holds places below the number of the ids, and each id that stands in it is marked
pub record IsTakenSoFar (xs : List (List ℕ)) (order : List ℕ) (taken : List Bool) : Type 0 where
  pub bounded : (k : ℕ) → k < length order → get_or order k 0 < length xs
  pub marked : taken ≡ map (λ x. has x (names xs order)) xs

-- the place is an item's that stands under a folder and isn't taken yet
abbrev pub is_next : List ℕ → ℕ → List Bool → ℕ → Bool
is_next parents folder taken i = nat_lt i (length parents) && ((get_or parents i 0 == folder) && not (get_or taken i false))

-- the ids at the places that aren't taken
abbrev pub untaken : List (List ℕ) → List Bool → List (List ℕ)
untaken [] taken = []
untaken (x ∷ xs) [] = []
untaken (x ∷ xs) (t ∷ ts) = if t then untaken xs ts else x ∷ untaken xs ts

-- all that an item lists are its children, each once
unfoldable pub lists_as_told : List Claim → Claim → Bool
lists_as_told es e = length (claimed_children es e) == length e.children
