-- The ids of a tree's nodes: each once, and all of them.
use Rattle.std.proofs.Common.{◌≡◌, ◌⊎◌, ℕ, ◌+◌, ◌<◌, ◌≤◌, Bool, true, false, not, cond, ◌&&◌, List, [], ◌∷◌, map}
use Rattle.std.proofs.Common.{filter, bytes_eq, is_some, option_map, unwrap_or, refl, sym, ap, subst, ◌∙◌, inl, inr}
use Rattle.std.proofs.Common.{arith}
use Rattle.ss_list.specs.Chain.{times}
use Rattle.ss_list.proofs.Times.{times-here, at_head, below-head}
use Rattle.ss_record.specs.Ids.{Apart, has}
use Rattle.ss_record.proofs.IdLists.{has-nil, has-cons, has-head, has-tail, has-filter, Apart-nil, Apart-cons}
use Rattle.ss_record.proofs.IdLists.{Apart-filter}
use Rattle.ss_tree.specs.declared.entries.Entry.{Entry}
use Rattle.ss_tree.specs.Trees.{PlacedItem, node, node_ids}
use Rattle.ss_tree.specs.Entries.{is_live, placed, tree, IsTree}
use Rattle.ss_tree.proofs.Valid.{entry_in, in_entry, one_entry, node_found, node_at}
use Rattle.ss_build.proofs.Stand.{node_has, has_node}
use Rattle.ss_dupe.specs.Looks.{Id, is_places}
use Rattle.ss_dupe.specs.Reading.{ids_at}
use Rattle.ss_tree.specs.Entries.{id_at}
use Rattle.ss_dupe.proofs.Basics.{false_from, has-cases}
use Rattle.ss_dupe.proofs.ReadOut.{id_at-entry}
use Rattle.ss_merge.specs.declared.merging.Origin.{Origin}
use Rattle.ss_build.proofs.Hops.{equal_bools}
use Rattle.ss_tree.proofs.Looked.{live_entry}
use Rattle.ss_text.proofs.Basics.{no_way}

in_ids : (es : List Entry) (x : Id) (ks : List ℕ) → has x (ids_at es ks) ≡ true → (k : ℕ) × (0 < times k ks) × (x ≡ id_at es k)
in_ids es x [] h = no_way (has x []) h (has-nil x)
in_ids es x (k ∷ ks) h =
    elim (has-cases x (id_at es k) (ids_at es ks) h) [
      | inl q ↦ (k, omega (arith, times-here k k ks refl), q)
      | inr r ↦ let f = in_ids es x ks r in let there = f.1 in (f.0, omega (arith, below-head f.0 k ks), f.2)
    ]

ids_in : (es : List Entry) (k : ℕ) (ks : List ℕ) → 0 < times k ks → has (id_at es k) (ids_at es ks) ≡ true
ids_in es k [] there = absurd (omega arith)
ids_in es k (j ∷ js) there =
    elim (at_head k j js) [
      | inl same ↦ ap (λ i. has (id_at es i) (ids_at es (j ∷ js))) same.0 ∙ has-head (id_at es j) (ids_at es js)
      | inr other ↦ has-tail (id_at es k) (id_at es j) (ids_at es js) (ids_in es k js (omega arith))
    ]

module _ (es : List Entry) (t : IsTree es) where
  -- one id, one node
  same_node : (j k : ℕ) → is_live j es ≡ true → is_live k es ≡ true → id_at es j ≡ id_at es k → j ≡ k
  same_node j k lj lk same =
      let e = live_entry es j lj in
      let f = live_entry es k lk in
      let a = entry_in j es e.0 e.1 in
      let b = entry_in k es f.0 f.1 in
      sym a.1 ∙ (ap (λ (x : Entry). x.node) (one_entry es e.0 f.0 t.ids a.0 b.0 (sym (id_at-entry es j e.0 e.1) ∙ (same ∙ id_at-entry es k f.0 f.1))) ∙ b.1)

  ids_apart : (ks : List ℕ) → ((k : ℕ) → 0 < times k ks → is_live k es ≡ true) → ((k : ℕ) → times k ks ≤ 1) → Apart (ids_at es ks)
  ids_apart [] live once = Apart-nil
  ids_apart (k ∷ ks) live once =
      Apart-cons (id_at es k) (ids_at es ks) (false_from (has (id_at es k) (ids_at es ks)) again)
      (ids_apart ks (λ j there. live j (omega (arith, there, below-head j k ks))) (λ j. let one = once j in omega (arith, below-head j k ks)))
    where
      again : has (id_at es k) (ids_at es ks) ≡ true → ⊥
      again h =
          let f = in_ids es (id_at es k) ks h in
          let there = f.1 in
          let one = once k in
          let same : k ≡ f.0 = same_node k f.0 (live k (omega (arith, times-here k k ks refl))) (live f.0 (omega (arith, below-head f.0 k ks))) f.2 in
          let here : 0 < times k ks = subst (λ i. 0 < times i ks) (sym same) there in
          omega (arith, times-here k k ks refl)

  module _ (ks : List ℕ) (each : (k : ℕ) → times k ks ≡ cond (is_live k es) 1 0) where
    met_live : (k : ℕ) → 0 < times k ks → is_live k es ≡ true
    met_live k there = cases (is_live k es) refl
      where
        cases : (b : Bool) → is_live k es ≡ b → is_live k es ≡ true
        cases true h = h
        cases false h = let none : times k ks ≡ 0 = each k ∙ ap (λ (c : Bool). cond c 1 0) h in absurd (omega (arith, there))

    met_once : (k : ℕ) → times k ks ≤ 1
    met_once k = cases (is_live k es) (each k)
      where
        cases : (b : Bool) → times k ks ≡ cond b 1 0 → times k ks ≤ 1
        cases true h = omega arith
        cases false h = omega arith

    pub all_apart : Apart (ids_at es ks)
    all_apart = ids_apart ks met_live met_once

    pub all_there : (x : Id) → has x (ids_at es ks) ≡ has x (node_ids (tree es))
    all_there x = equal_bools (has x (ids_at es ks)) (has x (node_ids (tree es))) to from
      where
        to : has x (ids_at es ks) ≡ true → has x (node_ids (tree es)) ≡ true
        to h =
            let f = in_ids es x ks h in
            let e = live_entry es f.0 (met_live f.0 f.1) in
            let is : x ≡ e.0.item.id = f.2 ∙ id_at-entry es f.0 e.0 e.1 in
            node_has (tree es) x (placed es e.0) (ap (λ y. node y (tree es)) is ∙ node_at es e.0 t.ids (entry_in f.0 es e.0 e.1).0)

        from : has x (node_ids (tree es)) ≡ true → has x (ids_at es ks) ≡ true
        from h =
            let n = has_node (tree es) x h in
            let f = node_found es x n.0 n.1 in
            let there = in_entry es f.0 t.nodes f.1 in
            let live : is_live f.0.node es ≡ true = ap is_some there in
            let one : times f.0.node ks ≡ 1 = each f.0.node ∙ ap (λ (c : Bool). cond c 1 0) live in
            ap (λ y. has y (ids_at es ks)) (sym (id_at-entry es f.0.node f.0 there ∙ f.2)) ∙ ids_in es f.0.node ks (omega (arith, one))

    pub told_apart : Apart (filter (λ x. not (is_places x)) (ids_at es ks))
    told_apart = Apart-filter (λ x. not (is_places x)) (ids_at es ks) all_apart

    pub told_there : (x : Id) → has x (filter (λ y. not (is_places y)) (ids_at es ks)) ≡ (has x (node_ids (tree es)) && not (is_places x))
    told_there x = has-filter (λ y. not (is_places y)) x (ids_at es ks) ∙ ap (λ b. b && not (is_places x)) (all_there x)

-- the ids of pairs that are made of ids
pub firsts_of : (g : Id → Origin) (xs : List Id) → map (λ (p : Id × Origin). p.0) (map (λ x. (x, g x)) xs) ≡ xs
firsts_of g [] = refl
firsts_of g (x ∷ xs) = ap (λ ys. x ∷ ys) (firsts_of g xs)
