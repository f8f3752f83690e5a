-- What the calls make of cells.
use Rattle.std.proofs.Common.{◌≡◌, ◌≢◌, ℕ, ◌+◌, ◌<◌, ◌≤◌, ◌==◌, List, [], ◌∷◌, ◌++◌, length, true, false, cond, refl}
use Rattle.std.proofs.Common.{sym, ap, subst, ◌∙◌, arith, inl, inr, Option, Some, None, option_map, option_and_then}
use Rattle.std.proofs.Common.{unwrap_or, is_some, length-append, bytes_eq}
use Rattle.std.proofs.lemmas.Bool.{false≢true, cases_lt, eq-eqb, or_parts}
use Rattle.std.proofs.lemmas.Bool.Decides.{eqb_tells}
use Rattle.std.proofs.lemmas.List.{get_or_append_left, get_or_push, get_or_past}
use Rattle.ss_list.specs.Chain.{times}
use Rattle.ss_list.proofs.Times.{times-apart, cut}
use Rattle.ss_list.proofs.Paths.{Path, path_kept}
use Rattle.ss_tree.specs.declared.entries.Entry.{Entry}
use Rattle.ss_tree.specs.Entries.{entry, is_live, stands_under, kids, above, put_before, without_node, under}
use Rattle.ss_tree.specs.Entries.{revised_entry, insert_fault, move_fault, remove_fault, takes_children, is_place}
use Rattle.ss_tree.specs.Entries.{is_node, is_fixed, is_fit_with, node_of, IsTree, KeepsTree}
use Rattle.ss_tree.proofs.Lists.{put_entry, without_entry, revise_entry}
use Rattle.ss_tree.proofs.Edits.{entry_put, entry_without, kids_without}
use Rattle.ss_tree.proofs.Kept.{insert_free, move_free, remove_free, takes_parts, kept_insert, insert_kids, kept_move}
use Rattle.ss_tree.proofs.Kept.{move_kids, moved_entry, kept_remove, kept_set, entry_revise, kids_revise}
use Rattle.ss_tree.specs.declared.cells.Cell.{Cell}
use Rattle.ss_tree.specs.declared.cells.TheConstants.{END}
use Rattle.ss_tree.specs.Cells.{IsPlace, blank, cell_at, next_of, prev_of, seat, seat_at, link_of, Joins, Attaches}
use Rattle.ss_tree.specs.Cells.{Frees, SameLinks, Seats, listing, Lies, IsLinkedTree}
use Rattle.ss_tree.proofs.Kin.{entry_kid, kid_entry, kid_once, kid_apart}
use Rattle.ss_tree.proofs.Listed.{absent}
use Rattle.ss_tree.proofs.Sibs.{times-gone, times-kept, times-without}
use Rattle.ss_tree.proofs.Ids.{node_kept, node_more, node_less}
use Rattle.ss_tree.proofs.Live.{live_above}
use Rattle.std.specs.Option.{IfSome}
use Rattle.ss_tree.proofs.Settled.{end_nowhere, kid_below, settled, listed_entry, listed_kids}
use Rattle.ss_tree.proofs.Strung.{Strung, detached, left_in, right_in}
use Rattle.ss_tree.proofs.Attached.{attached, beside}
use Rattle.std.proofs.lemmas.Option.{none-some}
use Rattle.ss_tree.proofs.Valid.{under_from}

-- the rows of a tree's nodes share no node
pub strung_from : (cells : List Cell) (es : List Entry) → KeepsTree es (length cells) → Lies cells es → Strung cells (λ p. kids p es)
strung_from cells es kept lies = record {
  rows = lies.rows;
  once = λ p. kid_once p es kept.is_tree.nodes;
  apart = kid_apart es kept.is_tree.nodes;
  inner = end_nowhere cells es kept lies;
}

pub strung_same : {cells new : List Cell} {lists : ℕ → List ℕ} → Strung cells lists → ((p k : ℕ) → next_of new p k ≡ next_of cells p k) → ((p k : ℕ) → prev_of new p k ≡ prev_of cells p k) → Strung new lists
strung_same {cells} {new} {lists} strung next prev = record {
  rows = λ p. path_kept (next_of cells p) (prev_of cells p) (next_of new p) (prev_of new p) END (lists p) END (next p END) (λ k t. next p k) (λ k t. prev p k) (prev p END) (strung.rows p);
  once = strung.once;
  apart = strung.apart;
  inner = strung.inner;
}

-- rows stay where only a place that is in none of them has other links
pub strung_off : {cells new : List Cell} {lists : ℕ → List ℕ} → Strung cells lists → (x : ℕ) → x ≢ END → ((p : ℕ) → times x (lists p) ≡ 0) → ((p k : ℕ) → k ≢ x → next_of new p k ≡ next_of cells p k) → ((p k : ℕ) → prev_of new p k ≡ prev_of cells p k) → Strung new lists
strung_off {cells} {new} {lists} strung x inner off next prev = record {
  rows = λ p. path_kept (next_of cells p) (prev_of cells p) (next_of new p) (prev_of new p) END (lists p) END (next p END (λ is. inner (sym is))) (λ k t. next p k (λ is. let none = off p in let there : 0 < times x (lists p) = subst (λ i. 0 < times i (lists p)) is t in omega arith)) (λ k t. prev p k) (prev p END) (strung.rows p);
  once = strung.once;
  apart = strung.apart;
  inner = strung.inner;
}

-- what stands in a row, or at its end, is a place
pub row_place : (cells : List Cell) (lists : ℕ → List ℕ) (p u : ℕ) → ((x : ℕ) → 0 < times x (lists p) → x < length cells) → 0 < times u (END ∷ lists p) → IsPlace cells u
row_place cells lists p u low there inner = low u (omega (arith, times-apart u END (lists p) inner))

-- cells that hold the entries es, which are a tree
pub record Holds (cells : List Cell) (es : List Entry) : Type 0 where
  pub kept : KeepsTree es (length cells)
  pub lies : Lies cells es

pub holds_linked : {cells : List Cell} {es : List Entry} → Holds cells es → IsLinkedTree cells
holds_linked {cells} {es} h = settled cells es h.kept h.lies

pub holds_entry : {cells : List Cell} {es : List Entry} → Holds cells es → (k : ℕ) → entry k (listing cells) ≡ entry k es
holds_entry {cells} {es} h = listed_entry cells es h.kept h.lies

pub holds_kids : {cells : List Cell} {es : List Entry} → Holds cells es → (p : ℕ) → kids p (listing cells) ≡ kids p es
holds_kids {cells} {es} h = listed_kids cells es h.kept h.lies

-- ---- a place among siblings

takes_live : (es : List Entry) (p : ℕ) → takes_children p es ≡ true → is_live p es ≡ true
takes_live es p h = ap is_some (takes_parts p es h).1.1

place_kid : (es : List Entry) (p b : ℕ) → is_place p (Some b) es ≡ true → 0 < times b (kids p es)
unfolding is_place
place_kid es p b h = go (entry b es) refl h
  where
    go : (o : Option Entry) → entry b es ≡ o → unwrap_or (option_map (stands_under p) o) false ≡ true → 0 < times b (kids p es)
    go None q k = absurd (false≢true k)
    go (Some e) q k = entry_kid p b es e q (under_from p e k)

-- the parent of a new or moved node is in the tree
pub insert_parent : (es : List Entry) (p : ℕ) (b : Option ℕ) (x : List ℕ) → insert_fault es p b x ≡ None → is_live p es ≡ true
insert_parent es p b x h = takes_live es p (insert_free es p b x h).0.takes

pub move_parent : (es : List Entry) (k p : ℕ) (b : Option ℕ) → move_fault es k p b ≡ None → is_live p es ≡ true
move_parent es k p b h = takes_live es p (move_free es k p b h).takes

pub remove_loose : (es : List Entry) (k : ℕ) → remove_fault es k ≡ None → is_fixed k es ≡ false
remove_loose es k h = (remove_free es k h).0

pub move_loose : (es : List Entry) (k p : ℕ) (b : Option ℕ) → move_fault es k p b ≡ None → is_fixed k es ≡ false
move_loose es k p b h = (move_free es k p b h).loose

-- each node but the top stands under another
pub has_parent : (es : List Entry) → IsTree es → (k : ℕ) → is_live k es ≡ true → is_fixed k es ≡ false → above es k ≡ None → ⊥
unfolding is_fixed above
has_parent es t k live loose none = go (entry k es) refl live none
  where
    go : (o : Option Entry) → entry k es ≡ o → is_some o ≡ true → option_and_then (λ e. e.parent) o ≡ None → ⊥
    go None q l w = false≢true l
    go (Some e) q l w =
        let f = t.folder k e q (λ is. false≢true (sym (or_parts (k == 0) (unwrap_or (option_map (stands_under 0) (entry k es)) false) loose).0 ∙ eq-eqb k 0 is)) in
        none-some _ (sym w ∙ f.1)

some_number : {a b : ℕ} → Some a ≡ Some b → a ≡ b
some_number h = cc

-- ---- one more cell

module _ (cells : List Cell) (new : Cell) where
  pub read_push : {X : Type 0} (read : Cell → X) → read new ≡ read blank → (k : ℕ) → read (cell_at (cells ++ new ∷ []) k) ≡ read (cell_at cells k)
  read_push read like k =
      elim (cases_lt k (length cells)) [
        | inl less ↦ ap read (get_or_append_left cells (new ∷ []) blank k less)
        | inr more ↦
            elim (eqb_tells k (length cells)) [
              | inl same ↦ ap read (get_or_push cells new blank k (sym same.1)) ∙ (like ∙ ap read (sym (get_or_past cells k blank more)))
              | inr other ↦
                  let apart = other.1 in
                  let over : length (cells ++ new ∷ []) ≤ k = omega (arith, length-append cells (new ∷ [])) in
                  ap read (get_or_past (cells ++ new ∷ []) k blank over ∙ sym (get_or_past cells k blank more))
            ]
      ]

  pub seat_push : (k : ℕ) → seat_at (cells ++ new ∷ []) k ≡ cond (k == length cells) (seat (length cells) new) (seat_at cells k)
  seat_push k =
      elim (eqb_tells k (length cells)) [
        | inl same ↦ ap (seat k) (get_or_push cells new blank k (sym same.1)) ∙ (ap (λ m. seat m new) same.1 ∙ sym (ap (λ c. cond c (seat (length cells) new) (seat_at cells k)) same.0))
        | inr other ↦
            let is : cell_at (cells ++ new ∷ []) k ≡ cell_at cells k = elim (cases_lt k (length cells)) [
              | inl less ↦ get_or_append_left cells (new ∷ []) blank k less
              | inr more ↦
                  let apart = other.1 in
                  let over : length (cells ++ new ∷ []) ≤ k = omega (arith, length-append cells (new ∷ [])) in
                  get_or_past (cells ++ new ∷ []) k blank over ∙ sym (get_or_past cells k blank more)
            ] in
            ap (seat k) is ∙ sym (ap (λ c. cond c (seat (length cells) new) (seat_at cells k)) other.0)
      ]

-- ---- insert

module _ (cells : List Cell) (p : ℕ) (b : Option ℕ) (e : Entry) (linked : IsLinkedTree cells) (free : insert_fault (listing cells) p b e.item.id ≡ None) (under_p : e.parent ≡ Some p) (blank_there : seat_at cells e.node ≡ None) (seated : List Cell) (seats : Seats cells seated e) (room : length cells + 1 < END) where
  gone : entry e.node (listing cells) ≡ None
  gone = linked.lies.seats e.node ∙ blank_there

  place_in : (x : ℕ) → b ≡ Some x → 0 < times x (kids p (listing cells))
  place_in x q = place_kid (listing cells) p x (ap (λ i. is_place p i (listing cells)) (sym q) ∙ (insert_free (listing cells) p b e.item.id free).0.place)

  seated_strung : Strung seated (λ j. kids j (listing cells))
  seated_strung = strung_same (strung_from cells (listing cells) linked.kept linked.lies) seats.next seats.prev

  seat_inner : e.node ≢ END
  seat_inner is = let low = seats.inside in let within = seats.within in omega arith

  absent_at : (j : ℕ) → times e.node (kids j (listing cells)) ≡ 0
  absent_at j = absent e.node (kids j (listing cells)) (λ there. let r = kid_entry j e.node (listing cells) linked.kept.is_tree.nodes there in none-some _ (sym gone ∙ r.1))

  -- the neighbours of the new node are places
  pub insert_places : IsPlace seated (link_of b) × IsPlace seated (prev_of seated p (link_of b))
  insert_places =
      let longer = seats.longer in
      let low : (x : ℕ) → 0 < times x (kids p (listing cells)) → x < length seated = λ x there.
      let l = kid_below cells (listing cells) linked.kept linked.lies p x there in omega arith in
      let sides = beside seated_strung p e.node seat_inner absent_at b place_in in
      (row_place seated (λ j. kids j (listing cells)) p (link_of b) low sides.1, row_place seated (λ j. kids j (listing cells)) p (prev_of seated p (link_of b)) low sides.0)

  -- the node before the new one stands in the row, or is its end
  pub insert_left : 0 < times (prev_of seated p (link_of b)) (END ∷ kids p (listing cells))
  insert_left = (beside seated_strung p e.node seat_inner absent_at b place_in).0

  pub insert_under : p < length seated
  insert_under = let low : p < length cells = linked.kept.below p (insert_parent (listing cells) p b e.item.id free) in let longer = seats.longer in omega arith

  module _ (new : List Cell) (attaches : Attaches seated new p e.node (link_of b)) where
    pub inserted_long : length new ≡ length seated
    inserted_long =
        let a = attaches.after_left.long in
        let c = attaches.before_right.long in
        omega arith

    inserted_strung : Strung new (λ j. cond (j == p) (put_before b e.node (kids j (listing cells))) (kids j (listing cells)))
    inserted_strung = attached seated_strung p e.node seat_inner absent_at b place_in attaches.after_left attaches.before_right

    inserted_seat : (k : ℕ) → entry k (put_entry b e (listing cells)) ≡ seat_at new k
    inserted_seat k =
        entry_put b e (listing cells) k gone
        ∙ (ap (cond (k == e.node) (Some e)) (linked.lies.seats k)
        ∙ (sym (seats.seats k) ∙ (sym (attaches.after_left.seats k) ∙ sym (attaches.before_right.seats k))))

    pub inserted : Holds new (put_entry b e (listing cells))
    inserted = record {
      kept = subst (KeepsTree (put_entry b e (listing cells))) (sym inserted_long) (kept_insert (listing cells) (length cells) (length seated) p b e linked.kept free gone seats.inside seats.longer under_p);
      lies = record {
        seats = inserted_seat;
        rows = λ j. subst (λ ks. Path (next_of new j) (prev_of new j) END ks END) (sym (insert_kids (listing cells) p b e free under_p j)) (inserted_strung.rows j);
        room = let long = inserted_long in let within = seats.within in omega arith;
      };
    }

    pub inserted_entry : (j : ℕ) → entry j (listing new) ≡ cond (j == e.node) (Some e) (entry j (listing cells))
    inserted_entry j = holds_entry inserted j ∙ entry_put b e (listing cells) j gone

    pub inserted_kids : (j : ℕ) → kids j (listing new) ≡ cond (j == p) (put_before b e.node (kids j (listing cells))) (kids j (listing cells))
    inserted_kids j = holds_kids inserted j ∙ insert_kids (listing cells) p b e free under_p j

    pub inserted_ids : (x : List ℕ) → node_of x (listing new) ≡ cond (bytes_eq e.item.id x) (Some e.node) (node_of x (listing cells))
    inserted_ids x = node_more (listing cells) (listing new) linked.kept.is_tree (holds_linked inserted).kept.is_tree x e.node e gone inserted_entry

-- ---- a node that leaves its row

module _ (cells : List Cell) (k p : ℕ) (linked : IsLinkedTree cells) (up : above (listing cells) k ≡ Some p) where
  pub parent_there : 0 < times k (kids p (listing cells))
  unfolding above
  parent_there = go (entry k (listing cells)) refl up
    where
      go : (o : Option Entry) → entry k (listing cells) ≡ o → option_and_then (λ e. e.parent) o ≡ Some p → 0 < times k (kids p (listing cells))
      go None q r = cc
      go (Some e) q r = entry_kid p k (listing cells) e q r

  pub node_low : k < length cells
  node_low = kid_below cells (listing cells) linked.kept linked.lies p k parent_there

  pub node_inner : k ≢ END
  node_inner is = let low = node_low in let room = linked.lies.room in omega arith

  pub parent_low : p < length cells
  parent_low = linked.kept.below p (go (above (listing cells) k) up (live_above (listing cells) k linked.kept.is_tree))
    where
      go : (o : Option ℕ) → o ≡ Some p → IfSome o (λ i. is_live i (listing cells) ≡ true) → is_live p (listing cells) ≡ true
      go None q h = cc
      go (Some i) q h = ap (λ m. is_live m (listing cells)) (some_number (sym q)) ∙ h

  -- the neighbours of the node are places
  pub leave_places : IsPlace cells (prev_of cells p k) × IsPlace cells (next_of cells p k)
  leave_places =
      let strung = strung_from cells (listing cells) linked.kept linked.lies in
      let halved = cut k (kids p (listing cells)) parent_there in
      let low = kid_below cells (listing cells) linked.kept linked.lies p in
      (row_place cells (λ j. kids j (listing cells)) p (prev_of cells p k) low (left_in strung p k halved.0 halved.1 halved.2), row_place cells (λ j. kids j (listing cells)) p (next_of cells p k) low (right_in strung p k halved.0 halved.1 halved.2))

  -- the node before it stands in the row, or is its end
  pub leave_left : 0 < times (prev_of cells p k) (END ∷ kids p (listing cells))
  leave_left =
      let strung = strung_from cells (listing cells) linked.kept linked.lies in
      let halved = cut k (kids p (listing cells)) parent_there in
      left_in strung p k halved.0 halved.1 halved.2

  module _ (middle : List Cell) (joins : Joins cells middle p (prev_of cells p k) (next_of cells p k)) where
    pub left_strung : Strung middle (λ j. without_node k (kids j (listing cells)))
    left_strung = detached (strung_from cells (listing cells) linked.kept linked.lies) middle p k parent_there joins

    -- ---- move

    module _ (q : ℕ) (b : Option ℕ) (turned : List Cell) (d : Entry) (at : entry k (listing cells) ≡ Some d) (free : move_fault (listing cells) k q b ≡ None) (same : SameLinks middle turned) (seats : (j : ℕ) → seat_at turned j ≡ cond (j == k) (option_map (under q) (seat_at middle j)) (seat_at middle j)) where
      turned_strung : Strung turned (λ j. without_node k (kids j (listing cells)))
      turned_strung = strung_same left_strung same.next same.prev

      moved_place : (x : ℕ) → b ≡ Some x → 0 < times x (without_node k (kids q (listing cells)))
      moved_place = (let free_of = move_free (listing cells) k q b free in place b (free_of.place, free_of.other))
        where
          place : (o : Option ℕ) → (is_place q o (listing cells) ≡ true) × (is_node k o ≡ false) → (x : ℕ) → o ≡ Some x → 0 < times x (without_node k (kids q (listing cells)))
          place None h x e = cc
          place (Some y) h x e =
              let is : y ≡ x = some_number e in
              let there : 0 < times y (kids q (listing cells)) = place_kid (listing cells) q y h.0 in
              let apart : y ≢ k = λ r. false≢true (sym h.1 ∙ eq-eqb k y (sym r)) in
              subst (λ i. 0 < times i (without_node k (kids q (listing cells)))) is (omega (arith, times-kept y k (kids q (listing cells)) apart))

      turned_long : length turned ≡ length cells
      turned_long = let l = same.long in let m = joins.long in omega arith

      -- the new neighbours of the node are places
      pub move_places : IsPlace turned (link_of b) × IsPlace turned (prev_of turned q (link_of b))
      move_places =
          let long = turned_long in
          let low : (x : ℕ) → 0 < times x (without_node k (kids q (listing cells))) → x < length turned = λ x there.
          let l = kid_below cells (listing cells) linked.kept linked.lies q x (omega (arith, times-without x k (kids q (listing cells)))) in omega arith in
          let sides = beside turned_strung q k node_inner (λ j. times-gone k (kids j (listing cells))) b moved_place in
          (row_place turned (λ j. without_node k (kids j (listing cells))) q (link_of b) low sides.1, row_place turned (λ j. without_node k (kids j (listing cells))) q (prev_of turned q (link_of b)) low sides.0)

      -- the node before its new place stands in the row, or is its end
      pub move_left : 0 < times (prev_of turned q (link_of b)) (END ∷ without_node k (kids q (listing cells)))
      move_left = (beside turned_strung q k node_inner (λ j. times-gone k (kids j (listing cells))) b moved_place).0

      module _ (new : List Cell) (attaches : Attaches turned new q k (link_of b)) where
        moved_strung : Strung new (λ j. cond (j == q) (put_before b k (without_node k (kids j (listing cells)))) (without_node k (kids j (listing cells))))
        moved_strung = attached turned_strung q k node_inner (λ j. times-gone k (kids j (listing cells))) b moved_place attaches.after_left attaches.before_right

        moved_seat : (j : ℕ) → entry j (put_entry b (under q d) (without_entry k (listing cells))) ≡ seat_at new j
        moved_seat j =
            moved_entry (listing cells) k q b d at j
            ∙ (ap (λ o. cond (j == k) (option_map (under q) o) o) (linked.lies.seats j ∙ sym (joins.seats j))
            ∙ (sym (seats j) ∙ (sym (attaches.after_left.seats j) ∙ sym (attaches.before_right.seats j))))

        moved_long : length new ≡ length cells
        moved_long =
            let a = attaches.after_left.long in
            let c = attaches.before_right.long in
            let l = same.long in
            let m = joins.long in
            omega arith

        pub moved : Holds new (put_entry b (under q d) (without_entry k (listing cells)))
        moved = record {
          kept = subst (KeepsTree (put_entry b (under q d) (without_entry k (listing cells)))) (sym moved_long) (kept_move (listing cells) (length cells) k q b d linked.kept free at);
          lies = record {
            seats = moved_seat;
            rows = λ j. subst (λ ks. Path (next_of new j) (prev_of new j) END ks END) (sym (move_kids (listing cells) k q b d at free j)) (moved_strung.rows j);
            room = let long = moved_long in let room = linked.lies.room in omega arith;
          };
        }

        pub moved_entries : (j : ℕ) → entry j (listing new) ≡ cond (j == k) (option_map (under q) (entry j (listing cells))) (entry j (listing cells))
        moved_entries j = holds_entry moved j ∙ moved_entry (listing cells) k q b d at j

        pub moved_kids : (j : ℕ) → kids j (listing new) ≡ cond (j == q) (put_before b k (without_node k (kids j (listing cells)))) (without_node k (kids j (listing cells)))
        moved_kids j = holds_kids moved j ∙ move_kids (listing cells) k q b d at free j

        pub moved_ids : (x : List ℕ) → node_of x (listing new) ≡ node_of x (listing cells)
        moved_ids x = node_kept (listing cells) (listing new) linked.kept.is_tree (holds_linked moved).kept.is_tree x k (under q) (λ e. refl) moved_entries

    -- ---- remove

    module _ (new : List Cell) (vacant : ℕ) (free : remove_fault (listing cells) k ≡ None) (same : Frees middle new k vacant) (seats : (j : ℕ) → seat_at new j ≡ cond (k == j) None (seat_at middle j)) where
      removed_long : length new ≡ length cells
      removed_long = let l = same.long in let m = joins.long in omega arith

      pub removed : Holds new (without_entry k (listing cells))
      removed = record {
        kept = subst (KeepsTree (without_entry k (listing cells))) (sym removed_long) (kept_remove (listing cells) (length cells) k linked.kept free);
        lies = record {
          seats = λ j. entry_without k (listing cells) j ∙ (ap (cond (k == j) None) (linked.lies.seats j ∙ sym (joins.seats j)) ∙ sym (seats j));
          rows = λ j. let strung = strung_off left_strung k node_inner (λ p. times-gone k (kids p (listing cells))) same.next same.prev in subst (λ ks. Path (next_of new j) (prev_of new j) END ks END) (sym (kids_without j k (listing cells))) (strung.rows j);
          room = let long = removed_long in let room = linked.lies.room in omega arith;
        };
      }

      pub removed_entries : (j : ℕ) → entry j (listing new) ≡ cond (k == j) None (entry j (listing cells))
      removed_entries j = holds_entry removed j ∙ entry_without k (listing cells) j

      pub removed_kids : (j : ℕ) → kids j (listing new) ≡ without_node k (kids j (listing cells))
      removed_kids j = holds_kids removed j ∙ kids_without j k (listing cells)

      pub removed_ids : (d : Entry) → entry k (listing cells) ≡ Some d → (x : List ℕ) → node_of x (listing new) ≡ cond (bytes_eq d.item.id x) None (node_of x (listing cells))
      removed_ids d at x = node_less (listing cells) (listing new) linked.kept.is_tree (holds_linked removed).kept.is_tree x k d at removed_entries

-- ---- another content and time

module _ (cells : List Cell) (k : ℕ) (content : List ℕ) (time : ℕ) (new : List Cell) (linked : IsLinkedTree cells) (inside : (k == 0) ≡ false) (fit : is_fit_with content k (listing cells) ≡ true) (same : SameLinks cells new) (seats : (j : ℕ) → seat_at new j ≡ cond (j == k) (option_map (revised_entry content time) (seat_at cells j)) (seat_at cells j)) where
  pub revised_holds : Holds new (revise_entry k content time (listing cells))
  revised_holds = record {
    kept = subst (KeepsTree (revise_entry k content time (listing cells))) (sym same.long) (kept_set (listing cells) (length cells) k content time linked.kept inside fit);
    lies = record {
      seats = λ j. entry_revise k content time (listing cells) j ∙ (ap (λ o. cond (j == k) (option_map (revised_entry content time) o) o) (linked.lies.seats j) ∙ sym (seats j));
      rows = λ j. let strung = strung_same (strung_from cells (listing cells) linked.kept linked.lies) same.next same.prev in subst (λ ks. Path (next_of new j) (prev_of new j) END ks END) (sym (kids_revise k content time (listing cells) j)) (strung.rows j);
      room = let long = same.long in let room = linked.lies.room in omega arith;
    };
  }

  pub revised_entries : (j : ℕ) → entry j (listing new) ≡ cond (j == k) (option_map (revised_entry content time) (entry j (listing cells))) (entry j (listing cells))
  revised_entries j = holds_entry revised_holds j ∙ entry_revise k content time (listing cells) j

  pub revised_kids : (j : ℕ) → kids j (listing new) ≡ kids j (listing cells)
  revised_kids j = holds_kids revised_holds j ∙ kids_revise k content time (listing cells) j

  pub revised_ids : (x : List ℕ) → node_of x (listing new) ≡ node_of x (listing cells)
  revised_ids x = node_kept (listing cells) (listing new) linked.kept.is_tree (holds_linked revised_holds).kept.is_tree x k (revised_entry content time) (λ e. refl) revised_entries
