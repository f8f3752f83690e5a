-- Trees with the same entries are the same tree of ids.
use Rattle.std.proofs.Common.{◌≡◌, ℕ, zero, suc, List, refl, sym, ap, ap₂, ◌∙◌, arith, Option, Some, None, option_map}
use Rattle.std.proofs.Common.{option_and_then}
use Rattle.ss_tree.specs.declared.entries.Entry.{Entry}
use Rattle.ss_tree.specs.Trees.{PlacedItem, node, IsSame, empty_tree}
use Rattle.ss_tree.specs.Entries.{entry, kids, placed, tree, IsTree, new_entries}
use Rattle.ss_tree.proofs.Valid.{entry_in, in_entry, node_found, node_at}
use Rattle.ss_tree.proofs.Kept.{new_tree, new_same}
use Rattle.ss_tree.specs.Built.{AreAtTheirNodes}
use Rattle.ss_tree.proofs.Settled.{same_kid_ids}
use Rattle.std.proofs.lemmas.Option.{none-some}

module _ (es fs : List Entry) (t : IsTree es) (u : IsTree fs) (look : (k : ℕ) → entry k fs ≡ entry k es) (rows : (k : ℕ) → kids k fs ≡ kids k es) where
  same_placed : (e : Entry) → placed fs e ≡ placed es e
  unfolding placed
  same_placed e =
      ap₂ (λ p ks. record { id = e.item.id; kind = e.item.kind; content = e.item.content; parent = p; children = ks; time = e.time }) (parent e.parent) (same_kid_ids es fs t look rows u.nodes u.ids e.node)
    where
      parent : (o : Option ℕ) → option_and_then (λ p. option_map (λ f. f.item.id) (entry p fs)) o ≡ option_and_then (λ p. option_map (λ f. f.item.id) (entry p es)) o
      parent None = refl
      parent (Some p) = ap (option_map (λ f. f.item.id)) (look p)

  at : (x : List ℕ) (m : PlacedItem) → node x (tree es) ≡ Some m → node x (tree fs) ≡ Some m
  at x m q =
      let e = node_found es x m q in
      let i = entry_in e.0.node fs e.0 (look e.0.node ∙ in_entry es e.0 t.nodes e.1) in
      ap (λ y. node y (tree fs)) (sym e.2) ∙ (node_at fs e.0 u.ids i.0 ∙ ap Some (same_placed e.0 ∙ sym e.3))

  from : (x : List ℕ) (m : PlacedItem) → node x (tree fs) ≡ Some m → (n : PlacedItem) × (node x (tree es) ≡ Some n)
  from x m q =
      let e = node_found fs x m q in
      let i = entry_in e.0.node es e.0 (sym (look e.0.node) ∙ in_entry fs e.0 u.nodes e.1) in
      (placed es e.0, ap (λ y. node y (tree es)) (sym e.2) ∙ node_at es e.0 t.ids i.0)

  pub same_items : IsSame (tree fs) (tree es)
  same_items x = go (node x (tree es)) refl (node x (tree fs)) refl
    where
      go : (o : Option PlacedItem) → node x (tree es) ≡ o → (p : Option PlacedItem) → node x (tree fs) ≡ p → node x (tree fs) ≡ node x (tree es)
      go (Some m) q p r = at x m q ∙ sym q
      go None q None r = r ∙ sym q
      go None q (Some m) r = absurd (none-some _ (sym q ∙ (from x m r).1))

pub new_is_same : (fs : List Entry) → IsTree fs → ((k : ℕ) → entry k fs ≡ entry k new_entries) → ((k : ℕ) → kids k fs ≡ kids k new_entries) → IsSame (tree fs) empty_tree
new_is_same fs u look rows x = same_items new_entries fs new_tree u look rows x ∙ ap (node x) new_same

pub new_placed : AreAtTheirNodes new_entries
new_placed zero lt = (refl, tt)
new_placed (suc zero) lt = (refl, omega arith)
new_placed (suc (suc zero)) lt = (refl, omega arith)
new_placed (suc (suc (suc zero))) lt = (refl, omega arith)
new_placed (suc (suc (suc (suc zero)))) lt = (refl, omega arith)
new_placed (suc (suc (suc (suc (suc i))))) lt = absurd (omega arith)
