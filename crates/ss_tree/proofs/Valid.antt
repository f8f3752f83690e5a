-- Entries that are a tree give a valid tree of ids.
use Rattle.std.proofs.Common.{◌≡◌, ◌≢◌, ℕ, zero, suc, ◌==◌, List, [], ◌∷◌, map, Bool, true, false, cond, ◌||◌, ◌⊎◌, inl}
use Rattle.std.proofs.Common.{inr, refl, sym, ap, ◌∙◌, subst, find, bytes_eq, codes, Option, Some, None}
use Rattle.std.proofs.Common.{option_and_then, option_map, unwrap_or}
use Rattle.std.proofs.lemmas.Bool.{false≢true, eqb-true, eqb-false, eq-eqb}
use Rattle.ss_record.specs.declared.kinds.Kind.TheVariants.{Folder}
use Rattle.ss_record.specs.Ids.{has, Apart, places}
use Rattle.ss_record.specs.Kinds.{is_folder}
use Rattle.ss_record.proofs.IdLists.{bytes_eq-apart, has-nil, has-cons, has-head, has-tail, Apart-nil, Apart-cons}
use Rattle.ss_record.proofs.IdLists.{Apart-head, Apart-tail}
use Rattle.ss_tree.specs.declared.entries.Entry.{Entry}
use Rattle.ss_tree.specs.Trees.{PlacedItem, node_ids, node, parent_in, places_node, IsUnder, steps, Reaches}
use Rattle.ss_tree.specs.Trees.{IsValidTree}
use Rattle.ss_tree.specs.Entries.{entry, stands_under, kid_ids, up, placed, tree, entry_ids, NodesApart, IsTree}
use Rattle.ss_tree.specs.Entries.{top_entry}
use Rattle.ss_tree.proofs.Edits.{entry-cons, entry-nil, kid_ids-cons}
use Rattle.ss_tree.proofs.Changes.{up_of}
use Rattle.std.proofs.lemmas.Option.{none-some}
use Rattle.ss_text.proofs.Basics.{same_text, bytes_eq-same, some_same}

pub under_from : (j : ℕ) (e : Entry) → stands_under j e ≡ true → e.parent ≡ Some j
under_from j e h = go e.parent refl h
  where
    go : (o : Option ℕ) → e.parent ≡ o → unwrap_or (option_map (λ p. j == p) o) false ≡ true → e.parent ≡ Some j
    go None q k = absurd (false≢true k)
    go (Some p) q k = q ∙ ap Some (sym (eqb-true j p k))

-- ---- elements

unfoldable pub In : {X : Type 0} → X → List X → Type 0
In x [] = ⊥
In x (y ∷ ys) = (x ≡ y) ⊎ In x ys

pub entry_in : (k : ℕ) (es : List Entry) (e : Entry) → entry k es ≡ Some e → In e es × (e.node ≡ k)
unfolding In
entry_in k [] e q = absurd (none-some _ (sym (entry-nil k) ∙ q))
entry_in k (f ∷ fs) e q = go (k == f.node) refl (sym (entry-cons k f fs) ∙ q) (entry_in k fs e)
  where
    go : (b : Bool) → (k == f.node) ≡ b → cond b (Some f) (entry k fs) ≡ Some e → (entry k fs ≡ Some e → In e fs × (e.node ≡ k)) → ((e ≡ f) ⊎ In e fs) × (e.node ≡ k)
    go true c h ih = let same : f ≡ e = some_same h in (inl (sym same), ap (λ x. x.node) (sym same) ∙ sym (eqb-true k f.node c))
    go false c h ih = let r = ih h in (inr r.0, r.1)

pub in_entry : (es : List Entry) (e : Entry) → NodesApart es → In e es → entry e.node es ≡ Some e
unfolding In NodesApart
in_entry [] e a i = absurd i
in_entry (f ∷ fs) e a (inl q) = entry-cons e.node f fs ∙ (ap (λ b. cond b (Some f) (entry e.node fs)) (eq-eqb e.node f.node (ap (λ x. x.node) q)) ∙ ap Some (sym q))
in_entry (f ∷ fs) e a (inr i) = entry-cons e.node f fs ∙ go (e.node == f.node) refl (in_entry fs e a.1 i)
  where
    go : (b : Bool) → (e.node == f.node) ≡ b → entry e.node fs ≡ Some e → cond b (Some f) (entry e.node fs) ≡ Some e
    go true c h = absurd (none-some _ (sym (ap (λ j. entry j fs) (eqb-true e.node f.node c) ∙ a.0) ∙ h))
    go false c h = h

by_id : List ℕ → List Entry → Option Entry
by_id x es = find (λ e. bytes_eq x e.item.id) es

in_ids : (es : List Entry) (e : Entry) → In e es → has e.item.id (entry_ids es) ≡ true
unfolding In entry_ids
in_ids [] e i = absurd i
in_ids (f ∷ fs) e (inl q) = ap (λ x. has x.item.id (f.item.id ∷ map (λ d. d.item.id) fs)) q ∙ has-head f.item.id (map (λ d. d.item.id) fs)
in_ids (f ∷ fs) e (inr i) = has-tail e.item.id f.item.id (map (λ d. d.item.id) fs) (in_ids fs e i)

in_by_id : (es : List Entry) (e : Entry) → Apart (entry_ids es) → In e es → by_id e.item.id es ≡ Some e
unfolding In entry_ids by_id
in_by_id [] e a i = absurd i
in_by_id (f ∷ fs) e a (inl q) = ap (λ b. cond b (Some f) (by_id e.item.id fs)) (bytes_eq-same e.item.id f.item.id (ap (λ x. x.item.id) q)) ∙ ap Some (sym q)
in_by_id (f ∷ fs) e a (inr i) = ap (λ b. cond b (Some f) (by_id e.item.id fs)) (bytes_eq-apart e.item.id f.item.id ne) ∙ in_by_id fs e (Apart-tail f.item.id (map (λ d. d.item.id) fs) a) i
  where
    ne : e.item.id ≢ f.item.id
    ne q = false≢true (sym (Apart-head f.item.id (map (λ d. d.item.id) fs) a) ∙ (ap (λ x. has x (map (λ d. d.item.id) fs)) (sym q) ∙ in_ids fs e i))

-- two entries of one id are one
pub one_entry : (es : List Entry) (e f : Entry) → Apart (entry_ids es) → In e es → In f es → e.item.id ≡ f.item.id → e ≡ f
one_entry es e f a i j q = some_same (sym (in_by_id es e a i) ∙ (ap (λ x. by_id x es) q ∙ in_by_id es f a j))

-- ---- items by their ids

module _ (es : List Entry) where
  found_in : (fs : List Entry) (x : List ℕ) (m : PlacedItem) → find (λ n. bytes_eq x n.id) (map (placed es) fs) ≡ Some m → (e : Entry) × In e fs × (e.item.id ≡ x) × (m ≡ placed es e)
  unfolding In placed
  found_in [] x m q = cc
  found_in (f ∷ fs) x m q = go (bytes_eq x f.item.id) refl q (found_in fs x m)
    where
      go : (b : Bool) → bytes_eq x f.item.id ≡ b → cond b (Some (placed es f)) (find (λ n. bytes_eq x n.id) (map (placed es) fs)) ≡ Some m
          → (find (λ n. bytes_eq x n.id) (map (placed es) fs) ≡ Some m → (e : Entry) × In e fs × (e.item.id ≡ x) × (m ≡ placed es e)) → (e : Entry) × ((e ≡ f) ⊎ In e fs) × (e.item.id ≡ x) × (m ≡ placed es e)
      go true c h ih = (f, inl refl, sym (same_text x f.item.id c), sym (some_same h))
      go false c h ih = let r = ih h in (r.0, inr r.1, r.2, r.3)

  placed_at : (fs : List Entry) (e : Entry) → Apart (entry_ids fs) → In e fs → find (λ n. bytes_eq e.item.id n.id) (map (placed es) fs) ≡ Some (placed es e)
  unfolding In entry_ids placed
  placed_at [] e a i = absurd i
  placed_at (f ∷ fs) e a (inl q) = ap (λ b. cond b (Some (placed es f)) (find (λ n. bytes_eq e.item.id n.id) (map (placed es) fs))) (bytes_eq-same e.item.id f.item.id (ap (λ x. x.item.id) q)) ∙ ap (λ x. Some (placed es x)) (sym q)
  placed_at (f ∷ fs) e a (inr i) = ap (λ b. cond b (Some (placed es f)) (find (λ n. bytes_eq e.item.id n.id) (map (placed es) fs))) (bytes_eq-apart e.item.id f.item.id ne) ∙ placed_at fs e (Apart-tail f.item.id (map (λ d. d.item.id) fs) a) i
    where
      ne : e.item.id ≢ f.item.id
      ne q = false≢true (sym (Apart-head f.item.id (map (λ d. d.item.id) fs) a) ∙ (ap (λ x. has x (map (λ d. d.item.id) fs)) (sym q) ∙ in_ids fs e i))

pub node_found : (es : List Entry) (x : List ℕ) (m : PlacedItem) → node x (tree es) ≡ Some m → (e : Entry) × In e es × (e.item.id ≡ x) × (m ≡ placed es e)
unfolding node tree
node_found es x m q = found_in es es x m q

pub node_at : (es : List Entry) (e : Entry) → Apart (entry_ids es) → In e es → node e.item.id (tree es) ≡ Some (placed es e)
unfolding node tree
node_at es e a i = placed_at es es e a i

ids_same : (es fs : List Entry) → node_ids (map (placed es) fs) ≡ entry_ids fs
unfolding node_ids entry_ids placed
ids_same es [] = refl
ids_same es (f ∷ fs) = ap (λ r. f.item.id ∷ r) (ids_same es fs)

-- ---- children

under_to : (y : ℕ) (e : Entry) → e.parent ≡ Some y → stands_under y e ≡ true
under_to y e q = ap (λ o. unwrap_or (option_map (λ p. y == p) o) false) q ∙ eq-eqb y y refl

kid_none : (y : ℕ) (x : List ℕ) → has x (kid_ids y []) ≡ false
unfolding kid_ids
kid_none y x = has-nil x

kid_found : (y : ℕ) (fs : List Entry) (x : List ℕ) → has x (kid_ids y fs) ≡ true → (e : Entry) × In e fs × (e.parent ≡ Some y) × (e.item.id ≡ x)
unfolding In
kid_found y [] x h = absurd (false≢true (sym (kid_none y x) ∙ h))
kid_found y (f ∷ fs) x h = go (stands_under y f) refl (sym (ap (has x) (kid_ids-cons y f fs)) ∙ h) (kid_found y fs x)
  where
    here : (b : Bool) → bytes_eq x f.item.id ≡ b → stands_under y f ≡ true → (b || has x (kid_ids y fs)) ≡ true → (has x (kid_ids y fs) ≡ true → (e : Entry) × In e fs × (e.parent ≡ Some y) × (e.item.id ≡ x)) → (e : Entry) × ((e ≡ f) ⊎ In e fs) × (e.parent ≡ Some y) × (e.item.id ≡ x)
    here true c u k ih = (f, inl refl, under_from y f u, sym (same_text x f.item.id c))
    here false c u k ih = let r = ih k in (r.0, inr r.1, r.2, r.3)

    go : (b : Bool) → stands_under y f ≡ b → has x (cond b (f.item.id ∷ kid_ids y fs) (kid_ids y fs)) ≡ true → (has x (kid_ids y fs) ≡ true → (e : Entry) × In e fs × (e.parent ≡ Some y) × (e.item.id ≡ x)) → (e : Entry) × ((e ≡ f) ⊎ In e fs) × (e.parent ≡ Some y) × (e.item.id ≡ x)
    go true u k ih = here (bytes_eq x f.item.id) refl u (sym (has-cons x f.item.id (kid_ids y fs)) ∙ k) ih
    go false u k ih = let r = ih k in (r.0, inr r.1, r.2, r.3)

kid_at : (y : ℕ) (fs : List Entry) (e : Entry) → In e fs → e.parent ≡ Some y → has e.item.id (kid_ids y fs) ≡ true
unfolding In
kid_at y [] e i q = absurd i
kid_at y (f ∷ fs) e (inl s) q =
    ap (has e.item.id) (kid_ids-cons y f fs ∙ ap (λ b. cond b (f.item.id ∷ kid_ids y fs) (kid_ids y fs)) (under_to y f (ap (λ x. x.parent) (sym s) ∙ q)))
    ∙ (ap (λ x. has x.item.id (f.item.id ∷ kid_ids y fs)) s ∙ has-head f.item.id (kid_ids y fs))
kid_at y (f ∷ fs) e (inr i) q = ap (has e.item.id) (kid_ids-cons y f fs) ∙ go (stands_under y f) (kid_at y fs e i q)
  where
    go : (b : Bool) → has e.item.id (kid_ids y fs) ≡ true → has e.item.id (cond b (f.item.id ∷ kid_ids y fs) (kid_ids y fs)) ≡ true
    go true h = has-tail e.item.id f.item.id (kid_ids y fs) h
    go false h = h

kid_among : (y : ℕ) (fs : List Entry) (x : List ℕ) → has x (entry_ids fs) ≡ false → has x (kid_ids y fs) ≡ false
kid_among y fs x h = go (has x (kid_ids y fs)) refl
  where
    go : (b : Bool) → has x (kid_ids y fs) ≡ b → b ≡ false
    go true q = let r = kid_found y fs x q in absurd (false≢true (sym h ∙ (ap (λ w. has w (entry_ids fs)) (sym r.3) ∙ in_ids fs r.0 r.1)))
    go false q = refl

kids_once_nil : (y : ℕ) → Apart (kid_ids y [])
unfolding kid_ids
kids_once_nil y = Apart-nil

kids_once : (y : ℕ) (fs : List Entry) → Apart (entry_ids fs) → Apart (kid_ids y fs)
unfolding entry_ids
kids_once y [] a = kids_once_nil y
kids_once y (f ∷ fs) a = subst Apart (sym (kid_ids-cons y f fs)) (go (stands_under y f) (kids_once y fs (Apart-tail f.item.id (map (λ d. d.item.id) fs) a)))
  where
    go : (b : Bool) → Apart (kid_ids y fs) → Apart (cond b (f.item.id ∷ kid_ids y fs) (kid_ids y fs))
    go true h = Apart-cons f.item.id (kid_ids y fs) (kid_among y fs f.item.id (Apart-head f.item.id (map (λ d. d.item.id) fs) a)) h
    go false h = h

-- ---- validity

with_children : List (List ℕ) → PlacedItem
with_children cs = record { id = places; kind = Folder; content = codes "{}"; parent = None; children = cs; time = 0 }

tree_ids : (es : List Entry) → node_ids (tree es) ≡ entry_ids es
unfolding tree
tree_ids es = ids_same es es

module _ (es : List Entry) (t : IsTree es) where
  top_placed : placed es top_entry ≡ places_node
  unfolding placed places_node with_children
  top_placed = ap with_children t.under_top

  -- an entry that isn't the top has its parent's entry
  parent_entry : (e : Entry) → In e es → e.item.id ≢ places → (p : ℕ) × (e.parent ≡ Some p) × (f : Entry) × (entry p es ≡ Some f) × (is_folder f.item.kind ≡ true)
  parent_entry e i ne = t.folder e.node e (in_entry es e t.nodes i) (λ z. ne (ap (λ x. x.item.id) (some_same (sym (in_entry es e t.nodes i) ∙ (ap (λ k. entry k es) z ∙ t.top)))))

  parent_of : (e f : Entry) (p : ℕ) → e.parent ≡ Some p → entry p es ≡ Some f → (placed es e).parent ≡ Some f.item.id
  unfolding placed
  parent_of e f p q r = ap (λ o. option_and_then (λ k. option_map (λ g. g.item.id) (entry k es)) o) q ∙ ap (option_map (λ g. g.item.id)) r

  parent_from : (e : Entry) (y : List ℕ) → (placed es e).parent ≡ Some y → (p : ℕ) × (e.parent ≡ Some p) × (f : Entry) × (entry p es ≡ Some f) × (f.item.id ≡ y)
  unfolding placed
  parent_from e y q = go e.parent refl q
    where
      at : (p : ℕ) → e.parent ≡ Some p → (o : Option Entry) → entry p es ≡ o → option_map (λ g. g.item.id) o ≡ Some y → (r : ℕ) × (e.parent ≡ Some r) × (f : Entry) × (entry r es ≡ Some f) × (f.item.id ≡ y)
      at p h None w k = cc
      at p h (Some f) w k = (p, h, f, w, some_same k)

      go : (o : Option ℕ) → e.parent ≡ o → option_and_then (λ k. option_map (λ g. g.item.id) (entry k es)) o ≡ Some y → (r : ℕ) × (e.parent ≡ Some r) × (f : Entry) × (entry r es ≡ Some f) × (f.item.id ≡ y)
      go None h k = cc
      go (Some p) h k = at p h (entry p es) refl k

  children_of : (e : Entry) → (placed es e).children ≡ kid_ids e.node es
  unfolding placed
  children_of e = refl

  kind_of : (e : Entry) → (placed es e).kind ≡ e.item.kind
  unfolding placed
  kind_of e = refl

  under : (e : Entry) → In e es → (f : Entry) → e.parent ≡ Some f.node → In f es → IsUnder (tree es) f.item.id e.item.id
  unfolding IsUnder
  under e i f q j = (placed es e, node_at es e t.ids i, parent_of e f f.node q (in_entry es f t.nodes j))

  stands_to : (y : List ℕ) (m : PlacedItem) → node y (tree es) ≡ Some m → (x : List ℕ) → has x m.children ≡ true → IsUnder (tree es) y x
  stands_to y m q x h =
      let f = node_found es y m q in
      let e = kid_found f.0.node es x (ap (has x) (sym (ap (λ n. n.children) f.3 ∙ children_of f.0)) ∙ h) in
      subst (λ w. IsUnder (tree es) w x) f.2 (subst (IsUnder (tree es) f.0.item.id) e.3 (under e.0 e.1 f.0 e.2 f.1))

  stands_from : (y : List ℕ) (m : PlacedItem) → node y (tree es) ≡ Some m → (x : List ℕ) → IsUnder (tree es) y x → has x m.children ≡ true
  unfolding IsUnder
  stands_from y m q x u =
      let f = node_found es y m q in
      let e = node_found es x u.0 u.1 in
      let p = parent_from e.0 y (ap (λ n. n.parent) (sym e.3) ∙ u.2) in
      let g = entry_in p.0 es p.2 p.3 in
      let same : p.2 ≡ f.0 = one_entry es p.2 f.0 t.ids g.0 f.1 (p.4 ∙ sym f.2) in
      let at : e.0.parent ≡ Some f.0.node = p.1 ∙ ap Some (sym g.1 ∙ ap (λ w. w.node) same) in
      ap (has x) (ap (λ n. n.children) f.3 ∙ children_of f.0) ∙ (ap (λ w. has w (kid_ids f.0.node es)) (sym e.2) ∙ kid_at f.0.node es e.0 e.1 at)

  step_up : (e f : Entry) (p : ℕ) → In e es → e.parent ≡ Some p → entry p es ≡ Some f → parent_in (tree es) e.item.id ≡ f.item.id
  unfolding parent_in
  step_up e f p i q r = ap (λ o. unwrap_or (option_and_then (λ n. n.parent) o) places) (node_at es e t.ids i) ∙ ap (λ o. unwrap_or o places) (parent_of e f p q r)

  one_more : (x y : List ℕ) → parent_in (tree es) x ≡ y → Reaches (parent_in (tree es)) places y → Reaches (parent_in (tree es)) places x
  unfolding steps
  one_more x y q r = (suc r.0, ap (steps (parent_in (tree es)) r.0) q ∙ r.1)

  at_top : (e : Entry) → In e es → e.node ≡ 0 → Reaches (parent_in (tree es)) places e.item.id
  unfolding steps
  at_top e i z = (zero, ap (λ x. x.item.id) (some_same (sym (in_entry es e t.nodes i) ∙ (ap (λ k. entry k es) z ∙ t.top))))

  up_to : (n : ℕ) (e : Entry) → In e es → steps (up es) n e.node ≡ 0 → Reaches (parent_in (tree es)) places e.item.id
  unfolding steps
  up_to zero e i q = at_top e i q
  up_to (suc n) e i q = go (e.node == 0) refl (λ f j r. up_to n f j r)
    where
      go : (b : Bool) → (e.node == 0) ≡ b → ((f : Entry) → In f es → steps (up es) n f.node ≡ 0 → Reaches (parent_in (tree es)) places f.item.id) → Reaches (parent_in (tree es)) places e.item.id
      go true c ih = at_top e i (eqb-true e.node 0 c)
      go false c ih =
          let p = t.folder e.node e (in_entry es e t.nodes i) (eqb-false e.node 0 c) in
          let f = entry_in p.0 es p.2 p.3 in
          one_more e.item.id p.2.item.id (step_up e p.2 p.0 i p.1 p.3)
          (ih p.2 f.0 (ap (steps (up es) n) (f.1 ∙ sym (up_of es e.node e p.0 (in_entry es e t.nodes i) p.1)) ∙ q))

  pub valid_tree : IsValidTree (tree es)
  valid_tree = record {
    apart = subst Apart (sym (tree_ids es)) t.ids;
    top_is = let i = entry_in 0 es top_entry t.top in node_at es top_entry t.ids i.0 ∙ ap Some top_placed;
    stands = λ y m q x. (stands_to y m q x, stands_from y m q x);
    once = λ y m q. let f = node_found es y m q in subst Apart (sym (ap (λ n. n.children) f.3 ∙ children_of f.0)) (kids_once f.0.node es t.ids);
    folder = λ x n q ne.
        let e = node_found es x n q in
        let p = parent_entry e.0 e.1 (λ z. ne (sym e.2 ∙ z)) in
        let f = entry_in p.0 es p.2 p.3 in
        (p.2.item.id, ap (λ w. w.parent) e.3 ∙ parent_of e.0 p.2 p.0 p.1 p.3, placed es p.2, node_at es p.2 t.ids f.0, ap is_folder (kind_of p.2) ∙ p.4);
    root_folder = λ r n h q.
        let e = node_found es r n q in
        let d = kid_found 0 es r (ap (has r) t.under_top ∙ h) in
        let same : d.0 ≡ e.0 = one_entry es d.0 e.0 t.ids d.1 e.1 (d.3 ∙ sym e.2) in
        ap (λ w. is_folder w.kind) e.3 ∙ (ap is_folder (kind_of e.0) ∙ (ap (λ w. is_folder w.item.kind) (sym same) ∙ t.root_folder d.0.node d.0 (in_entry es d.0 t.nodes d.1) d.2));
    reaches = λ x n q.
        let e = node_found es x n q in
        let r = t.reaches e.0.node e.0 (in_entry es e.0 t.nodes e.1) in
        subst (Reaches (parent_in (tree es)) places) e.2 (up_to r.0 e.0 e.1 r.1);
  }
