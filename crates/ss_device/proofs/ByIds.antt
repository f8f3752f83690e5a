-- What changes of entries are to the tree by ids.
use Rattle.std.proofs.Common.{◌≡◌, ℕ, ◌==◌, List, [], map, Bool, true, false, cond, refl, sym, ap, ap₂, ◌∙◌, Option}
use Rattle.std.proofs.Common.{Some, None, option_map, option_and_then, unwrap_or, bytes_eq}
use Rattle.std.proofs.lemmas.Bool.{eqb-true, eqb-false}
use Rattle.ss_record.specs.Items.{ItemView}
use Rattle.ss_record.proofs.IdLists.{bytes_eq-apart}
use Rattle.ss_tree.specs.declared.entries.Entry.{Entry}
use Rattle.ss_tree.specs.Trees.{PlacedItem, node}
use Rattle.ss_tree.specs.Entries.{entry, kids, kid_ids, placed, tree, revised_entry, IsTree}
use Rattle.ss_tree.proofs.Valid.{entry_in, in_entry, one_entry, node_found, node_at}
use Rattle.ss_tree.proofs.Settled.{kid_ids_are}
use Rattle.ss_device.specs.Edits.{revised_node}
use Rattle.ss_text.proofs.Basics.{bytes_eq-same, some_same, none_some}

-- ---- the ids of nodes

abbrev pub idof : List Entry → ℕ → Option (List ℕ)
idof es k = option_map (λ e. e.item.id) (entry k es)

abbrev pub name_at : List Entry → ℕ → List ℕ
name_at es k = unwrap_or (idof es k) []

pub idof_some : (es : List Entry) (k : ℕ) (y : List ℕ) → idof es k ≡ Some y → (e : Entry) × (entry k es ≡ Some e) × (e.item.id ≡ y)
idof_some es k y q = go (entry k es) refl q
  where
    go : (o : Option Entry) → entry k es ≡ o → option_map (λ e. e.item.id) o ≡ Some y → (e : Entry) × (entry k es ≡ Some e) × (e.item.id ≡ y)
    go None h r = cc
    go (Some e) h r = (e, h, some_same r)

-- ---- items in their places

abbrev pub made : ItemView → Option (List ℕ) → List (List ℕ) → ℕ → PlacedItem
made i p cs t = record { id = i.id; kind = i.kind; content = i.content; parent = p; children = cs; time = t }

pub placed_is : (es : List Entry) → IsTree es → (k : ℕ) (e : Entry) → entry k es ≡ Some e → placed es e ≡ made e.item (option_and_then (idof es) e.parent) (map (name_at es) (kids k es)) e.time
unfolding placed
placed_is es t k e q =
    let cs : kid_ids e.node es ≡ map (name_at es) (kids k es) = ap (λ n. kid_ids n es) (entry_in k es e q).1 ∙ kid_ids_are k es t.nodes in
    ap (λ c. made e.item (option_and_then (idof es) e.parent) c e.time) cs

pub at_entry : (es : List Entry) → IsTree es → (k : ℕ) (e : Entry) → entry k es ≡ Some e → node e.item.id (tree es) ≡ Some (placed es e)
at_entry es t k e q = node_at es e t.ids (entry_in k es e q).0

pub no_entry : (es : List Entry) → IsTree es → (x : List ℕ) → ((k : ℕ) (e : Entry) → entry k es ≡ Some e → e.item.id ≡ x → ⊥) → node x (tree es) ≡ None
no_entry es t x none = go (node x (tree es)) refl
  where
    go : (o : Option PlacedItem) → node x (tree es) ≡ o → node x (tree es) ≡ None
    go None h = h
    go (Some m) h = let f = node_found es x m h in absurd (none f.0.node f.0 (in_entry es f.0 t.nodes f.1) f.2)

pub by_entry : (es : List Entry) → IsTree es → (x : List ℕ) (o : Option PlacedItem)
    → ((k : ℕ) (e : Entry) → entry k es ≡ Some e → e.item.id ≡ x → o ≡ Some (placed es e))
    → (((k : ℕ) (e : Entry) → entry k es ≡ Some e → e.item.id ≡ x → ⊥) → o ≡ None) → node x (tree es) ≡ o
by_entry es t x o to from = go (node x (tree es)) refl
  where
    go : (n : Option PlacedItem) → node x (tree es) ≡ n → node x (tree es) ≡ o
    go (Some m) h = let f = node_found es x m h in h ∙ (ap Some f.3 ∙ sym (to f.0.node f.0 (in_entry es f.0 t.nodes f.1) f.2))
    go None h = h ∙ sym (from (λ k e q is. none_some (sym h ∙ (ap (λ z. node z (tree es)) (sym is) ∙ at_entry es t k e q))))

-- two nodes have one id where they are one
pub same_node : (es : List Entry) → IsTree es → (k j : ℕ) (e d : Entry) → entry k es ≡ Some e → entry j es ≡ Some d → bytes_eq e.item.id d.item.id ≡ (k == j)
same_node es t k j e d q r = go (k == j) refl
  where
    go : (b : Bool) → (k == j) ≡ b → bytes_eq e.item.id d.item.id ≡ b
    go true h = let one : e ≡ d = some_same (sym q ∙ (ap (λ n. entry n es) (eqb-true k j h) ∙ r)) in bytes_eq-same e.item.id d.item.id (ap (λ (w : Entry). w.item.id) one)
    go false h = bytes_eq-apart e.item.id d.item.id (λ is.
        let a = entry_in k es e q in
        let b = entry_in j es d r in
        let one : e ≡ d = one_entry es e d t.ids a.0 b.0 is in
        eqb-false k j h (sym a.1 ∙ (ap (λ (w : Entry). w.node) one ∙ b.1)))

-- ---- where ids stay

pub mapped : (es fs : List Entry) → IsTree es → IsTree fs → (change : PlacedItem → PlacedItem) → ((k : ℕ) → idof fs k ≡ idof es k)
    → ((k : ℕ) (e f : Entry) → entry k es ≡ Some e → entry k fs ≡ Some f → placed fs f ≡ change (placed es e)) → (y : List ℕ) → node y (tree fs) ≡ option_map change (node y (tree es))
mapped es fs t u change ids each y = by_entry fs u y (option_map change (node y (tree es))) to from
  where
    to : (k : ℕ) (f : Entry) → entry k fs ≡ Some f → f.item.id ≡ y → option_map change (node y (tree es)) ≡ Some (placed fs f)
    to k f h is =
        let e = idof_some es k y (sym (ids k) ∙ (ap (option_map (λ (w : Entry). w.item.id)) h ∙ ap Some is)) in
        ap (option_map change) (ap (λ z. node z (tree es)) (sym e.2) ∙ at_entry es t k e.0 e.1) ∙ ap Some (sym (each k e.0 f e.1 h))

    from : ((k : ℕ) (f : Entry) → entry k fs ≡ Some f → f.item.id ≡ y → ⊥) → option_map change (node y (tree es)) ≡ None
    from none = ap (option_map change) (no_entry es t y (λ k e q is.
        let f = idof_some fs k y (ids k ∙ (ap (option_map (λ (w : Entry). w.item.id)) q ∙ ap Some is)) in
        none k f.0 f.1 f.2))

-- a parent and children by their ids
parts_same : (es fs : List Entry) → ((k : ℕ) → idof fs k ≡ idof es k) → (p : Option ℕ) (ks : List ℕ)
    → (option_and_then (idof fs) p ≡ option_and_then (idof es) p) × (map (name_at fs) ks ≡ map (name_at es) ks)
parts_same es fs ids p ks = ((λ i. option_and_then (λ k. ids k i) p), (λ i. map (λ k. unwrap_or (ids k i) []) ks))

-- ---- another content and time

module _ (es fs : List Entry) (t : IsTree es) (u : IsTree fs) (k0 : ℕ) (e0 : Entry) (q0 : entry k0 es ≡ Some e0) (content : List ℕ) (time : ℕ)
    (entries : (j : ℕ) → entry j fs ≡ cond (j == k0) (option_map (revised_entry content time) (entry j es)) (entry j es)) (same : (j : ℕ) → kids j fs ≡ kids j es) where
  abbrev set_change : PlacedItem → PlacedItem
  set_change n = cond (bytes_eq n.id e0.item.id) (revised_node content time n) n

  set_ids : (k : ℕ) → idof fs k ≡ idof es k
  set_ids k = ap (option_map (λ e. e.item.id)) (entries k) ∙ go (k == k0) (entry k es)
    where
      go : (b : Bool) (o : Option Entry) → option_map (λ (e : Entry). e.item.id) (cond b (option_map (revised_entry content time) o) o) ≡ option_map (λ (e : Entry). e.item.id) o
      go true None = refl
      go true (Some e) = refl
      go false o = refl

  set_each : (k : ℕ) (e f : Entry) → entry k es ≡ Some e → entry k fs ≡ Some f → placed fs f ≡ set_change (placed es e)
  set_each k e f q r = go (k == k0) refl
    where
      parts : (option_and_then (idof fs) e.parent ≡ option_and_then (idof es) e.parent) × (map (name_at fs) (kids k es) ≡ map (name_at es) (kids k es))
      parts = parts_same es fs set_ids e.parent (kids k es)

      shape : (i : ItemView) (s : ℕ) → f ≡ record { node = e.node; parent = e.parent; item = i; time = s } → placed fs f ≡ made i (option_and_then (idof es) e.parent) (map (name_at es) (kids k es)) s
      shape i s is =
          placed_is fs u k f r
          ∙ (ap (λ (w : Entry). made w.item (option_and_then (idof fs) w.parent) (map (name_at fs) (kids k fs)) w.time) is
          ∙ (ap (λ ks. made i (option_and_then (idof fs) e.parent) (map (name_at fs) ks) s) (same k)
          ∙ ap₂ (λ p cs. made i p cs s) parts.0 parts.1))

      go : (b : Bool) → (k == k0) ≡ b → placed fs f ≡ set_change (placed es e)
      go true h =
          let is : f ≡ revised_entry content time e = some_same (sym r ∙ (entries k ∙ (ap (λ b. cond b (option_map (revised_entry content time) (entry k es)) (entry k es)) h ∙ ap (option_map (revised_entry content time)) q))) in
          shape (record { id = e.item.id; kind = e.item.kind; content = content }) time is
          ∙ (sym (ap (λ b. cond b (revised_node content time (made e.item (option_and_then (idof es) e.parent) (map (name_at es) (kids k es)) e.time)) (made e.item (option_and_then (idof es) e.parent) (map (name_at es) (kids k es)) e.time)) (same_node es t k k0 e e0 q q0 ∙ h))
          ∙ ap set_change (sym (placed_is es t k e q)))
      go false h =
          let is : f ≡ e = some_same (sym r ∙ (entries k ∙ (ap (λ b. cond b (option_map (revised_entry content time) (entry k es)) (entry k es)) h ∙ q))) in
          shape e.item e.time is
          ∙ (sym (ap (λ b. cond b (revised_node content time (made e.item (option_and_then (idof es) e.parent) (map (name_at es) (kids k es)) e.time)) (made e.item (option_and_then (idof es) e.parent) (map (name_at es) (kids k es)) e.time)) (same_node es t k k0 e e0 q q0 ∙ h))
          ∙ ap set_change (sym (placed_is es t k e q)))

  pub set_nodes : (y : List ℕ) → node y (tree fs) ≡ option_map set_change (node y (tree es))
  set_nodes = mapped es fs t u set_change set_ids set_each
