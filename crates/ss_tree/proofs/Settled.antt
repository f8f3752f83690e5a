-- The listing of cells that have the entries of a tree is that tree.
use Rattle.std.proofs.Common.{◌≡◌, ◌≢◌, ℕ, zero, suc, ◌<◌, ◌≤◌, List, [], ◌∷◌, length, map, Bool, true, false, cond}
use Rattle.std.proofs.Common.{refl, sym, ap, ap₂, subst, ◌∙◌, arith, inl, inr, Option, Some, None, option_map}
use Rattle.std.proofs.Common.{option_and_then, unwrap_or, is_some}
use Rattle.std.specs.List.{flat_map}
use Rattle.std.proofs.lemmas.Bool.{cases_lt}
use Rattle.std.proofs.lemmas.List.{length-map}
use Rattle.ss_record.specs.Ids.{Apart, places}
use Rattle.ss_record.specs.Items.{ItemView, empty_folder}
use Rattle.ss_list.specs.Chain.{times}
use Rattle.ss_list.proofs.Times.{at_head}
use Rattle.ss_tree.specs.declared.entries.Entry.{Entry}
use Rattle.ss_tree.specs.Trees.{steps}
use Rattle.ss_tree.specs.Entries.{entry, stands_under, kids, kid_ids, above, up, entry_ids, NodesApart, IsTree}
use Rattle.ss_tree.specs.Entries.{KeepsTree, top_entry}
use Rattle.ss_tree.proofs.Edits.{kids-cons, kid_ids-cons}
use Rattle.ss_tree.proofs.Valid.{In, entry_in, in_entry, one_entry}
use Rattle.ss_tree.specs.declared.cells.Cell.{Cell}
use Rattle.ss_tree.specs.declared.cells.TheConstants.{END}
use Rattle.ss_tree.specs.Cells.{cell_at, next_of, prev_of, seat_at, full_at, row_of, down, order_of, listing, Lies}
use Rattle.ss_tree.specs.Cells.{IsLinkedTree}
use Rattle.ss_list.proofs.Paths.{Path}
use Rattle.ss_tree.proofs.Rows.{row_path, length_within}
use Rattle.ss_tree.proofs.Kin.{kid_entry, entry_kid, kid_once, kid_apart}
use Rattle.ss_tree.proofs.Listed.{absent, nobody, entry_there, entry_absent, nodes_apart, ids_apart, kids_past}
use Rattle.ss_tree.proofs.Listed.{kids_row, row_there, row_found, rows_once}
use Rattle.std.proofs.lemmas.Option.{none-some}
use Rattle.ss_text.proofs.Basics.{some_same}

-- ---- trees with the same entries

id_of : Option Entry → List ℕ
id_of o = unwrap_or (option_map (λ e. e.item.id) o) []

ids_by : (p : ℕ) (es fs : List Entry) → ((f : Entry) → In f fs → entry f.node es ≡ Some f) → kid_ids p fs ≡ map (λ k. id_of (entry k es)) (kids p fs)
unfolding In kid_ids kids id_of
ids_by p es [] own = refl
ids_by p es (f ∷ fs) own = kid_ids-cons p f fs ∙ (go (stands_under p f) (ids_by p es fs (λ g i. own g (inr i))) ∙ ap (map (λ k. unwrap_or (option_map (λ e. e.item.id) (entry k es)) [])) (sym (kids-cons p f fs)))
  where
    go : (b : Bool) → kid_ids p fs ≡ map (λ k. id_of (entry k es)) (kids p fs) → cond b (f.item.id ∷ kid_ids p fs) (kid_ids p fs) ≡ map (λ k. id_of (entry k es)) (cond b (f.node ∷ kids p fs) (kids p fs))
    go true rest = ap₂ (λ x xs. x ∷ xs) (sym (ap (λ o. unwrap_or (option_map (λ e. e.item.id) o) []) (own f (inl refl)))) rest
    go false rest = rest

-- the ids of the nodes under p are those of their entries
pub kid_ids_are : (p : ℕ) (es : List Entry) → NodesApart es → kid_ids p es ≡ map (λ k. unwrap_or (option_map (λ e. e.item.id) (entry k es)) []) (kids p es)
unfolding id_of
kid_ids_are p es apart = ids_by p es es (λ f i. in_entry es f apart i)

map_same : (f g : ℕ → List ℕ) (ks : List ℕ) → ((k : ℕ) → f k ≡ g k) → map f ks ≡ map g ks
map_same f g [] same = refl
map_same f g (k ∷ ks) same = ap₂ (λ x xs. x ∷ xs) (same k) (map_same f g ks same)

module _ (es fs : List Entry) (t : IsTree es) (look : (k : ℕ) → entry k fs ≡ entry k es) (rows : (k : ℕ) → kids k fs ≡ kids k es) (nodes : NodesApart fs) (ids : Apart (entry_ids fs)) where
  pub same_kid_ids : (p : ℕ) → kid_ids p fs ≡ kid_ids p es
  same_kid_ids p =
      ids_by p fs fs (λ f i. in_entry fs f nodes i)
      ∙ (ap (map (λ k. id_of (entry k fs))) (rows p)
      ∙ (map_same (λ k. id_of (entry k fs)) (λ k. id_of (entry k es)) (kids p es) (λ k. ap id_of (look k)) ∙ sym (ids_by p es es (λ f i. in_entry es f t.nodes i))))

  same_up : (j : ℕ) → up fs j ≡ up es j
  unfolding up above
  same_up j = ap (λ o. unwrap_or (option_and_then (λ e. e.parent) o) 0) (look j)

  same_steps : (n j : ℕ) → steps (up fs) n j ≡ steps (up es) n j
  unfolding steps
  same_steps zero j = refl
  same_steps (suc n) j = ap (steps (up fs) n) (same_up j) ∙ same_steps n (up es j)

  pub same_tree : IsTree fs
  same_tree = record {
    nodes = nodes;
    ids = ids;
    top = look 0 ∙ t.top;
    under_top = same_kid_ids 0 ∙ t.under_top;
    root_folder = λ k e q r. t.root_folder k e (sym (look k) ∙ q) r;
    folder = λ k e q ne. let f = t.folder k e (sym (look k) ∙ q) ne in (f.0, f.1, f.2, look f.0 ∙ f.3, f.4);
    reaches = λ k e q. let r = t.reaches k e (sym (look k) ∙ q) in (r.0, same_steps r.0 k ∙ r.1);
  }

-- ---- the listing

full_is : (cells : List Cell) (k : ℕ) (e : Entry) → seat_at cells k ≡ Some e → full_at cells k ≡ e
full_is cells k e q = go (cell_at cells k).item q
  where
    go : (o : Option ItemView) → option_map (λ i. record { node = k; parent = (cell_at cells k).parent; item = i; time = (cell_at cells k).time }) o ≡ Some e → record { node = k; parent = (cell_at cells k).parent; item = unwrap_or o (empty_folder places); time = (cell_at cells k).time } ≡ e
    go None r = absurd (none-some _ r)
    go (Some i) r = some_same r

module _ (cells : List Cell) (es : List Entry) (kept : KeepsTree es (length cells)) (lies : Lies cells es) where
  t : IsTree es
  t = kept.is_tree

  full : (k : ℕ) (e : Entry) → entry k es ≡ Some e → full_at cells k ≡ e
  full k e q = full_is cells k e (sym (lies.seats k) ∙ q)

  -- the top stands under no node
  pub top_nowhere : (p : ℕ) → times 0 (kids p es) ≡ 0
  top_nowhere p = absent 0 (kids p es) (λ there. let r = kid_entry p 0 es t.nodes there in none-some _ (ap (λ e. e.parent) (some_same (sym t.top ∙ r.1)) ∙ r.2))

  -- what stands under a node has a cell
  pub kid_below : (p x : ℕ) → 0 < times x (kids p es) → x < length cells
  kid_below p x there = let r = kid_entry p x es t.nodes there in kept.below x (ap is_some r.1)

  pub end_nowhere : (p : ℕ) → times END (kids p es) ≡ 0
  end_nowhere p = absent END (kids p es) (λ there. let low = kid_below p END there in let room = lies.room in absurd (omega arith))

  -- no node stands under a place without an entry
  pub no_kids : (p : ℕ) → entry p es ≡ None → kids p es ≡ []
  no_kids p none =
      nobody (kids p es) (λ x there.
      let r = kid_entry p x es t.nodes there in
      let not_top : x ≢ 0 = λ is. let gone = top_nowhere p in let here : 0 < times 0 (kids p es) = subst (λ k. 0 < times k (kids p es)) is there in absurd (omega arith) in
      let f = t.folder x r.0 r.1 not_top in
      none-some _ (sym none ∙ (ap (λ k. entry k es) (some_same (sym r.2 ∙ f.1)) ∙ f.3)))

  -- the links lead through the nodes under p
  pub row_is : (p : ℕ) → row_of cells p ≡ kids p es
  row_is p =
      row_path (next_of cells p) (prev_of cells p) END (kids p es) (length cells) (lies.rows p) (end_nowhere p)
      (length_within (length cells) (kids p es) (kid_once p es t.nodes) (kid_below p))

  in_kids : (p x : ℕ) → 0 < times x (row_of cells p) → 0 < times x (kids p es)
  in_kids p x there = subst (λ ks. 0 < times x ks) (row_is p) there

  placed_in : (p x : ℕ) → 0 < times x (row_of cells p) → (full_at cells x).parent ≡ Some p
  placed_in p x there = let r = kid_entry p x es t.nodes (in_kids p x there) in ap (λ e. e.parent) (full x r.0 r.1) ∙ r.2

  rest : List ℕ
  rest = flat_map (row_of cells) (down (length cells))

  rest_once : (x : ℕ) → times x rest ≤ 1
  unfolding rest
  rest_once x =
      rows_once (row_of cells) x (length cells) (λ p. subst (λ ks. times x ks ≤ 1) (sym (row_is p)) (kid_once p es t.nodes x))
      (λ p q a b. kid_apart es t.nodes p q x (in_kids p x a) (in_kids q x b))

  order_once : (x : ℕ) → times x (order_of cells) ≤ 1
  unfolding rest
  order_once x =
      elim (at_head x 0 rest) [
        | inl same ↦
            let gone : times x rest ≡ 0 = absent x rest (λ there.
            let r = row_found (row_of cells) x (length cells) there in
            let none = top_nowhere r.0 in
            let here : 0 < times 0 (kids r.0 es) = subst (λ k. 0 < times k (kids r.0 es)) same.0 (in_kids r.0 x r.2) in
            absurd (omega arith)) in
            omega arith
        | inr other ↦ let one = rest_once x in omega arith
      ]

  -- the order has each node
  in_order : (x : ℕ) (e : Entry) → entry x es ≡ Some e → 0 < times x (order_of cells)
  unfolding rest
  in_order x e q =
      elim (at_head x 0 rest) [
        | inl same ↦ omega arith
        | inr other ↦
            let f = t.folder x e q other.0 in
            let low : f.0 < length cells = kept.below f.0 (ap is_some f.3) in
            let there = row_there (row_of cells) x f.0 (length cells) low (subst (λ ks. 0 < times x ks) (sym (row_is f.0)) (entry_kid f.0 x es e q f.1)) in
            omega arith
      ]

  from_order : (x : ℕ) → 0 < times x (order_of cells) → (e : Entry) × (entry x es ≡ Some e)
  unfolding rest
  from_order x there =
      elim (at_head x 0 rest) [
        | inl same ↦ (top_entry, ap (λ k. entry k es) same.0 ∙ t.top)
        | inr other ↦
            let r = row_found (row_of cells) x (length cells) (omega arith) in
            let e = kid_entry r.0 x es t.nodes (in_kids r.0 x r.2) in
            (e.0, e.1)
      ]

  pub listed_entry : (k : ℕ) → entry k (listing cells) ≡ entry k es
  unfolding listing
  listed_entry k = go (entry k es) refl
    where
      go : (o : Option Entry) → entry k es ≡ o → entry k (map (full_at cells) (order_of cells)) ≡ entry k es
      go None q = entry_absent (full_at cells) (λ i. refl) k (order_of cells) (absent k (order_of cells) (λ there. let e = from_order k there in none-some _ (sym q ∙ e.1))) ∙ sym q
      go (Some e) q = entry_there (full_at cells) (λ i. refl) k (order_of cells) (in_order k e q) ∙ (ap Some (full k e q) ∙ sym q)

  pub listed_kids : (p : ℕ) → kids p (listing cells) ≡ kids p es
  unfolding listing rest
  listed_kids p =
      kids-cons p (full_at cells 0) (map (full_at cells) rest)
      ∙ (ap (λ e. cond (stands_under p e) (0 ∷ kids p (map (full_at cells) rest)) (kids p (map (full_at cells) rest))) (full 0 top_entry t.top)
      ∙ elim (cases_lt p (length cells)) [
        | inl less ↦ kids_row (full_at cells) (λ i. refl) (row_of cells) placed_in p (length cells) less ∙ row_is p
        | inr more ↦ kids_past (full_at cells) (λ i. refl) (row_of cells) placed_in p (length cells) more ∙ sym (no_kids p (dead (entry p es) refl more))
      ])
    where
      dead : (o : Option Entry) → entry p es ≡ o → length cells ≤ p → entry p es ≡ None
      dead None q more = q
      dead (Some e) q more = let low : p < length cells = kept.below p (ap is_some q) in absurd (omega arith)

  -- there are no more entries than cells
  pub listed_long : length (listing cells) ≤ length cells
  unfolding listing
  listed_long =
      let long : length (map (full_at cells) (order_of cells)) ≡ length (order_of cells) = length-map (order_of cells) (full_at cells) in
      let few = length_within (length cells) (order_of cells) order_once (λ x there. let e = from_order x there in kept.below x (ap is_some e.1)) in
      omega arith

  listed_nodes : NodesApart (listing cells)
  unfolding listing
  listed_nodes = nodes_apart (full_at cells) (λ i. refl) (order_of cells) order_once

  listed_ids : Apart (entry_ids (listing cells))
  unfolding listing
  listed_ids =
      ids_apart (full_at cells) (λ i. refl) (order_of cells) order_once (λ i j a b same.
      let e = from_order i a in
      let f = from_order j b in
      let d = entry_in i es e.0 e.1 in
      let g = entry_in j es f.0 f.1 in
      let ids : e.0.item.id ≡ f.0.item.id = ap (λ x. x.item.id) (sym (full i e.0 e.1)) ∙ (same ∙ ap (λ x. x.item.id) (full j f.0 f.1)) in
      sym d.1 ∙ (ap (λ x. x.node) (one_entry es e.0 f.0 t.ids d.0 g.0 ids) ∙ g.1))

  listed_tree : IsTree (listing cells)
  listed_tree = same_tree es (listing cells) t listed_entry listed_kids listed_nodes listed_ids

  -- cells that lie as a tree's entries are a tree
  pub settled : IsLinkedTree cells
  settled = record {
    kept = record { is_tree = listed_tree; below = λ k l. kept.below k (sym (ap is_some (listed_entry k)) ∙ l) };
    lies = record {
      seats = λ k. listed_entry k ∙ lies.seats k;
      rows = λ p. subst (λ ks. Path (next_of cells p) (prev_of cells p) END ks END) (sym (listed_kids p)) (lies.rows p);
      room = lies.room;
    };
  }
