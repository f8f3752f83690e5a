-- What stands of the items of rows, and of the tree that is made of them.
use Rattle.std.proofs.Common.{◌≡◌, ℕ, ◌<◌, ◌≤◌, List, [], ◌∷◌, length, map, get_or, refl, sym, ap, ◌∙◌, subst, arith}
use Rattle.std.proofs.Common.{true, filter_map, codes, option_map}
use Rattle.std.proofs.lemmas.List.{length-append}
use Rattle.ss_record.specs.Ids.{Apart, unfiled}
use Rattle.ss_record.specs.declared.readings.Sheet.{Sheet}
use Rattle.ss_tree.specs.declared.entries.Entry.{Entry}
use Rattle.ss_tree.specs.Entries.{IsTree, entry_ids, is_live, placed, tree}
use Rattle.ss_tree.specs.Trees.{IsSame, IsValidTree, PlacedItem, node_ids}
use Rattle.ss_build.specs.declared.claims.Claim.{Claim}
use Rattle.ss_build.specs.Built.{built, claims, ids, tree_of, with_roots}
use Rattle.ss_build.specs.Places.{AreItems, at, in_order, names, parents_of}
use Rattle.ss_build.specs.Planted.{entries}
use Rattle.ss_build.specs.Rows.{Row, claim_of, rows_of}
use Rattle.ss_build.specs.Stand.{IsSameUntimed, StandFor, without_time}
use Rattle.ss_build.proofs.Items.{AreClaims}
use Rattle.ss_build.proofs.Valid.{tree_of_valid}
use Rattle.ss_build.proofs.Seats.{at_in}
use Rattle.ss_build.proofs.Uppers.{claims_from}
use Rattle.ss_build.proofs.Same.{valid_same}
use Rattle.ss_build.proofs.OfRows.{claims_are, reads_apart}
use Rattle.ss_build.proofs.OfSheets.{sheets_are_rows, sheets_built_back}
use Rattle.ss_build.proofs.Planting.{same_tree, entries_tree, entries_numbered}

items_from : (es : List Claim) → AreClaims es → AreItems es
items_from es a = record { apart = a.apart; no_places = a.no_places; roots_in = a.roots_in; root_folder = λ i l h. a.root_folder (at es i) (at_in es i l) h }

pub read_apart : (sheets : List Sheet) (read : List Claim) → Apart (map (λ s. s.id) sheets) → read ≡ filter_map claim_of (rows_of sheets) → Apart (ids read)
read_apart sheets read a e = subst (λ w. Apart (ids w)) (sym e) (reads_apart (rows_of sheets) (sheets_are_rows sheets a))

pub claims_is : (rows : List Row) (read all : List Claim) → read ≡ filter_map claim_of rows → all ≡ with_roots read → all ≡ claims rows
unfolding claims
claims_is rows read all e f = f ∙ ap with_roots e

pub are_items : (sheets : List Sheet) (es : List Claim) → Apart (map (λ s. s.id) sheets) → es ≡ claims (rows_of sheets) → AreItems es
are_items sheets es a e = subst AreItems (sym e) (items_from (claims (rows_of sheets)) (claims_are (rows_of sheets) (sheets_are_rows sheets a)))

pub with_longer : (read all : List Claim) → all ≡ with_roots read → length read ≤ length all
unfolding with_roots
with_longer read all e = let n = ap length e ∙ length-append read _ in omega arith

pub unfiled_text : codes "unfiled" ≡ unfiled
unfolding unfiled
unfiled_text = refl

placed_ids : (es fs : List Entry) → map (λ n. n.id) (map (placed fs) es) ≡ map (λ e. e.item.id) es
unfolding placed
placed_ids [] fs = refl
placed_ids (e ∷ es) fs = ap (λ w. e.item.id ∷ w) (placed_ids es fs)

tree_apart : (es : List Entry) → Apart (entry_ids es) → Apart (node_ids (tree es))
unfolding entry_ids node_ids tree
tree_apart es a = subst Apart (sym (placed_ids es es)) a

pub same_planted : (es : List Claim) (parents order : List ℕ) (t : List Entry) → AreItems es → parents ≡ parents_of es → names (ids es) order ≡ in_order es → ((k : ℕ) → k < length order → get_or order k 0 < length es)
    → t ≡ entries es parents order → IsSame (tree t) (tree_of es)
same_planted es parents order t a p n b e = subst (λ w. IsSame (tree w) (tree_of es)) (sym e) (same_tree es a parents order p n b)

pub valid_planted : (es : List Claim) (parents order : List ℕ) (t : List Entry) → AreItems es → parents ≡ parents_of es → names (ids es) order ≡ in_order es → ((k : ℕ) → k < length order → get_or order k 0 < length es)
    → t ≡ entries es parents order → IsValidTree (tree t)
valid_planted es parents order t a p n b e =
    subst (λ w. IsValidTree (tree w)) (sym e)
    (valid_same (tree_of es) (tree (entries es parents order)) (tree_of_valid es (claims_from es a)) (tree_apart (entries es parents order) (entries_tree es a parents order p n b).ids) (same_tree es a parents order p n b))

pub tree_planted : (es : List Claim) (parents order : List ℕ) (t : List Entry) → AreItems es → parents ≡ parents_of es → names (ids es) order ≡ in_order es → ((k : ℕ) → k < length order → get_or order k 0 < length es)
    → t ≡ entries es parents order → IsTree t
tree_planted es parents order t a p n b e = subst IsTree (sym e) (entries_tree es a parents order p n b)

pub built_is : (rows : List Row) (es : List Claim) (t : List PlacedItem) → es ≡ claims rows → IsSame t (tree_of es) → IsSame t (built rows)
unfolding built
built_is rows es t e s = subst (λ w. IsSame t (tree_of w)) e s

pub built_back : (sheets : List Sheet) (b : List PlacedItem) → Apart (map (λ s. s.id) sheets) → IsSame b (built (rows_of sheets)) → (t : List PlacedItem) → IsValidTree t → StandFor t (rows_of sheets) → IsSameUntimed b t
built_back sheets b a s t v h x = ap (option_map without_time) (s x) ∙ sheets_built_back t sheets v a h x

pub numbered_planted : (es : List Claim) (parents order : List ℕ) (t : List Entry) → AreItems es → parents ≡ parents_of es → names (ids es) order ≡ in_order es → ((k : ℕ) → k < length order → get_or order k 0 < length es)
    → t ≡ entries es parents order → (k : ℕ) → is_live k t ≡ true → k < length t
numbered_planted es parents order t a p n b e k h = subst (λ w. k < length w) (sym e) (entries_numbered es a parents order p n b k (ap (is_live k) (sym e) ∙ h))
