-- A merged tree is valid, and has `places` and the survivors.
use Rattle.std.proofs.Common.{◌≡◌, ◌↔◌, ◌⊎◌, true, ◌||◌, List, [], ◌∷◌, map, filter, bytes_eq, refl, sym, ap, subst}
use Rattle.std.proofs.Common.{◌∙◌, inl, inr}
use Rattle.ss_record.specs.Ids.{has, places}
use Rattle.ss_record.proofs.IdLists.{has-cons}
use Rattle.ss_tree.specs.Trees.{IsValidTree, node_ids, places_node}
use Rattle.ss_build.proofs.Valid.{tree_of_valid}
use Rattle.ss_dupe.specs.Looks.{Id}
use Rattle.ss_dupe.specs.Sides.{Sides}
use Rattle.ss_dupe.proofs.Basics.{or_rest}
use Rattle.ss_merge.specs.Survivors.{survives}
use Rattle.ss_merge.specs.Merged.{entries_merged, merged_node}
use Rattle.ss_merge.specs.Claims.{AreMerging}
use Rattle.ss_merge.proofs.Claimed.{are_claims, es, kept-has, kept-survives, tree-is}
use Rattle.std.proofs.lemmas.Bool.{cases_Bool, or_left, or_right}
use Rattle.ss_text.proofs.Basics.{same_text, bytes_eq-same}

ids-nodes : (s : Sides) (ids xs : List Id) → map (λ n. n.id) (map (merged_node s ids) xs) ≡ xs
unfolding merged_node
ids-nodes s ids [] = refl
ids-nodes s ids (x ∷ xs) = ap (λ l. x ∷ l) (ids-nodes s ids xs)

pub merged_node_ids : (s : Sides) (ids : List Id) → node_ids (entries_merged s ids) ≡ places ∷ filter (survives s) ids
unfolding node_ids entries_merged places_node
merged_node_ids s ids = ap (λ l. places ∷ l) (ids-nodes s ids (filter (survives s) ids))

pub merged_valid : (s : Sides) (ids : List Id) → AreMerging s ids → IsValidTree (entries_merged s ids)
merged_valid s ids m = subst IsValidTree (tree-is s ids m) (tree_of_valid (es s ids m) (are_claims s ids m))

pub merged_ids : (s : Sides) (ids : List Id) → AreMerging s ids → (x : Id) → (has x (node_ids (entries_merged s ids)) ≡ true) ↔ ((x ≡ places) ⊎ (survives s x ≡ true))
merged_ids s ids m x = (there, back)
  where
    split : has x (node_ids (entries_merged s ids)) ≡ (bytes_eq x places || has x (filter (survives s) ids))
    split = ap (has x) (merged_node_ids s ids) ∙ has-cons x places (filter (survives s) ids)

    there : has x (node_ids (entries_merged s ids)) ≡ true → (x ≡ places) ⊎ (survives s x ≡ true)
    there h = elim (cases_Bool (bytes_eq x places)) [ inl e ↦ inl (same_text x places e) | inr e ↦ inr (kept-survives s ids m x (or_rest (bytes_eq x places) _ (sym split ∙ h) e)) ]

    back : (x ≡ places) ⊎ (survives s x ≡ true) → has x (node_ids (entries_merged s ids)) ≡ true
    back (inl e) = split ∙ or_left (bytes_eq x places) _ (bytes_eq-same x places e)
    back (inr h) = split ∙ or_right (bytes_eq x places) _ (kept-has s ids m x h)
