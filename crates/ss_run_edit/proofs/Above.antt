-- The id of an item's parent, by the nodes of a tree.
use Rattle.std.proofs.Common.{◌≡◌, ℕ, List, Option, Some, None, option_map, option_and_then, unwrap_or, is_some, refl}
use Rattle.std.proofs.Common.{sym, ap, ◌∙◌}
use Rattle.ss_record.specs.Ids.{places}
use Rattle.ss_record.specs.Items.{ItemView}
use Rattle.ss_tree.specs.declared.entries.Entry.{Entry}
use Rattle.ss_tree.specs.Entries.{IsTree, above, entry, node_of, tree}
use Rattle.ss_tree.specs.Trees.{PlacedItem, node, parent_in}
use Rattle.ss_device.proofs.ByIds.{idof, placed_is}
use Rattle.ss_device.proofs.Refused.{node_there, there}
use Rattle.ss_text.proofs.Basics.{is_none, some_same}

-- by the node of the item
of_node : (es : List Entry) → IsTree es → (x : List ℕ) (k : ℕ) → node_of x es ≡ Some k → parent_in (tree es) x ≡ unwrap_or (option_and_then (idof es) (above es k)) places
unfolding parent_in above
of_node es t x k at =
    let e = there es t x k at in
    ap (λ o. unwrap_or (option_and_then (λ (n : PlacedItem). n.parent) o) places) e.3
    ∙ (ap (λ (n : PlacedItem). unwrap_or n.parent places) (placed_is es t k e.0 e.1)
    ∙ ap (λ o. unwrap_or (option_and_then (idof es) (option_and_then (λ (d : Entry). d.parent) o)) places) (sym e.1))

no_node : (es : List Entry) (x : List ℕ) → node_of x es ≡ None → parent_in (tree es) x ≡ places
unfolding parent_in
no_node es x at = ap (λ o. unwrap_or (option_and_then (λ (n : PlacedItem). n.parent) o) places) (is_none (node x (tree es)) (node_there es x ∙ ap is_some at))

pub none_above : (es : List Entry) → IsTree es → (x : List ℕ) → None ≡ option_and_then (above es) (node_of x es) → parent_in (tree es) x ≡ places
none_above es t x h = go (node_of x es) refl h
  where
    go : (o : Option ℕ) → node_of x es ≡ o → None ≡ option_and_then (above es) o → parent_in (tree es) x ≡ places
    go None at e = no_node es x at
    go (Some k) at e = of_node es t x k at ∙ ap (λ o. unwrap_or (option_and_then (idof es) o) places) (sym e)

pub one_above : (es : List Entry) → IsTree es → (x : List ℕ) (p : ℕ) (i : ItemView) → Some p ≡ option_and_then (above es) (node_of x es) → option_map (λ e. e.item) (entry p es) ≡ Some i → parent_in (tree es) x ≡ i.id
one_above es t x p i h q = go (node_of x es) refl h
  where
    named : (o : Option Entry) → option_map (λ (e : Entry). e.item) o ≡ Some i → option_map (λ (e : Entry). e.item.id) o ≡ Some i.id
    named None e = cc
    named (Some d) e = ap (λ (v : ItemView). Some v.id) (some_same e)

    go : (o : Option ℕ) → node_of x es ≡ o → Some p ≡ option_and_then (above es) o → parent_in (tree es) x ≡ i.id
    go None at e = cc
    go (Some k) at e =
        of_node es t x k at ∙ (ap (λ o. unwrap_or (option_and_then (idof es) o) places) (sym e) ∙ ap (λ o. unwrap_or o places) (named (entry p es) q))
