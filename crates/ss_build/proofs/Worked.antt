-- Worked rows, computed from the definitions.
use Rattle.std.proofs.Common.{◌≡◌, ℕ, List, [], ◌∷◌, map, refl, Some, None, Option, codes}
use Rattle.ss_build.specs.Built.{is_kept, beats, best, built, built_children, built_parent, claim, claims, comes_back}
use Rattle.ss_build.specs.Built.{ids, is_child, kept_if, lists, named, node_of, or_else, proposal, proposed_parents}
use Rattle.ss_build.specs.Built.{repaired, tree_of, walk, with_roots}
use Rattle.ss_build.specs.Rows.{Row, claim_of}
use Rattle.ss_record.specs.Ids.{before, has, places, roots, same_list, unfiled}
use Rattle.ss_record.specs.declared.kinds.Kind.{Kind}
use Rattle.ss_record.specs.declared.kinds.Kind.TheVariants.{Bookmark, Folder}
use Rattle.ss_record.specs.declared.readings.Reading.TheVariants.{Item}
use Rattle.ss_tree.specs.Trees.{places_node}

row_at : List ℕ → ℕ → Kind → List ℕ → List (List ℕ) → Row
row_at id time kind parentid cs = record { id = id; time = time; reading = Item (record { id = id; kind = kind; content = codes "{}" }) (Some parentid) cs }

rows : List Row
rows =
    row_at (codes "menu") 1000 Folder (codes "places") (codes "f1" ∷ codes "b1" ∷ [])
    ∷ row_at (codes "f1") 1200 Folder (codes "menu") (codes "b1" ∷ codes "f1" ∷ [])
    ∷ row_at (codes "b1") 1100 Bookmark (codes "toolbar") []
    ∷ row_at (codes "b2") 1100 Bookmark (codes "gone") []
    ∷ row_at (codes "g1") 1100 Folder (codes "g1") (codes "g1" ∷ [])
    ∷ []

parents : List (Option (List ℕ))
parents = map (λ n. n.parent) (built rows)

parents_are : parents ≡ None ∷ Some (codes "places") ∷ Some (codes "menu") ∷ Some (codes "f1") ∷ Some (codes "unfiled") ∷ Some (codes "unfiled") ∷ Some (codes "places") ∷ Some (codes "places") ∷ Some (codes "places") ∷ []
unfolding parents rows row_at has roots places unfiled before walk same_list claim_of places_node ids claim lists beats best named or_else kept_if proposal proposed_parents comes_back built_parent is_child built_children node_of with_roots claims tree_of built
parents_are = refl

repaired_are : repaired rows ≡ codes "b1" ∷ codes "b2" ∷ codes "f1" ∷ codes "g1" ∷ codes "menu" ∷ []
unfolding rows row_at has roots places unfiled before walk same_list claim_of ids claim lists beats best named or_else kept_if proposal proposed_parents comes_back built_parent is_child built_children with_roots claims is_kept repaired
repaired_are = refl

-- two folders of one time list b1, whose parentid is neither: the one with the smaller id
twins : List Row
twins =
    row_at (codes "f2") 1100 Folder (codes "menu") (codes "b1" ∷ [])
    ∷ row_at (codes "f1") 1100 Folder (codes "menu") (codes "b1" ∷ [])
    ∷ row_at (codes "b1") 1100 Bookmark (codes "x") []
    ∷ []

twin_parent : built_parent (claims twins) (codes "b1") ≡ codes "f1"
unfolding twins row_at has roots places unfiled before walk claim_of ids claim lists beats best named or_else kept_if proposal proposed_parents comes_back built_parent with_roots claims
twin_parent = refl

-- a circle of two, and a third that leads into it: the two go to `unfiled`, the third stays
circle : List Row
circle =
    row_at (codes "a") 1100 Folder (codes "b") []
    ∷ row_at (codes "b") 1100 Folder (codes "a") []
    ∷ row_at (codes "c") 1100 Bookmark (codes "b") []
    ∷ []

circle_parents : map (built_parent (claims circle)) (codes "a" ∷ codes "b" ∷ codes "c" ∷ []) ≡ codes "unfiled" ∷ codes "unfiled" ∷ codes "b" ∷ []
unfolding circle row_at has roots places unfiled before walk claim_of ids claim lists beats best named or_else kept_if proposal proposed_parents comes_back built_parent with_roots claims
circle_parents = refl
