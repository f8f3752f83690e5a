-- What a look at a tree finds: an entry, and a place among those listed.
use Rattle.std.proofs.Common.{◌≡◌, ℕ, List, [], ◌∷◌, map, refl, ap, ◌∙◌, is_some, true, Option, Some, None, ◌⊎◌, inl}
use Rattle.std.proofs.Common.{inr, ◌+◌, ◌<◌, ◌++◌, length, take, get_or, sym, subst}
use Rattle.ss_record.specs.Ids.{has}
use Rattle.ss_tree.specs.declared.entries.Entry.{Entry}
use Rattle.ss_tree.specs.Trees.{node, node_ids}
use Rattle.ss_tree.specs.Entries.{entry_ids, node_of, placed, tree, entry, is_live}
use Rattle.ss_tree.proofs.Ids.{has_node}
use Rattle.std.proofs.lemmas.List.{take_more}
use Rattle.ss_tree.proofs.Valid.{In}

-- the tree has an item of an id where it has a node of it
pub in_tree : (es : List Entry) (x : List ℕ) → has x (node_ids (tree es)) ≡ is_some (node_of x es)
unfolding tree node_ids placed entry_ids
in_tree es x = ap (has x) (same es) ∙ has_node x es
  where
    same : (fs : List Entry) → map (λ n. n.id) (map (placed es) fs) ≡ map (λ e. e.item.id) fs
    same [] = refl
    same (f ∷ fs) = ap (λ ys. f.item.id ∷ ys) (same fs)

pub live_entry : (es : List Entry) (k : ℕ) → is_live k es ≡ true → (e : Entry) × (entry k es ≡ Some e)
live_entry es k live = cases (entry k es) refl live
  where
    cases : (o : Option Entry) → entry k es ≡ o → is_some o ≡ true → (e : Entry) × (entry k es ≡ Some e)
    cases None h l = cc
    cases (Some e) h l = (e, h)

-- what stands in one more
pub in_more : (ks : List ℕ) (i k j : ℕ) → i < length ks → k ≡ get_or ks i k → In j (take (i + 1) ks) → In j (take i ks) ⊎ (j ≡ k)
unfolding In
in_more ks i k j lt is h = elim (split (take i ks) (get_or ks i k) (subst (In j) (take_more ks i k lt) h)) [ inl a ↦ inl a | inr b ↦ inr (b ∙ sym is) ]
  where
    split : (xs : List ℕ) (y : ℕ) → In j (xs ++ y ∷ []) → In j xs ⊎ (j ≡ y)
    split [] y (inl e) = inr e
    split [] y (inr e) = absurd e
    split (x ∷ xs) y (inl e) = inl (inl e)
    split (x ∷ xs) y (inr e) = elim (split xs y e) [ inl a ↦ inl (inr a) | inr b ↦ inr b ]
