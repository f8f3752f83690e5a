-- What the calls make of the places that were left.
use Rattle.std.proofs.Common.{◌≡◌, ◌≢◌, ℕ, ◌+◌, ◌<◌, ◌≤◌, ◌==◌, List, [], ◌∷◌, length, map, Bool, true, false, cond}
use Rattle.std.proofs.Common.{refl, sym, ap, ap₂, subst, ◌∙◌, arith, inl, inr, Option, Some, None, option_map, is_some}
use Rattle.std.proofs.Common.{nat_lt}
use Rattle.std.proofs.lemmas.Bool.{false≢true, cases_lt, eq-eqb, ne_eqb, lt-ltb, ltb-true}
use Rattle.std.proofs.lemmas.Bool.Decides.{eqb_tells}
use Rattle.std.proofs.lemmas.List.{get_or_past}
use Rattle.ss_list.specs.Chain.{times}
use Rattle.ss_list.specs.Links.{Runs}
use Rattle.ss_list.proofs.Times.{times-here, times-apart, at_head}
use Rattle.ss_list.proofs.Paths.{becomes_other, runs_kept}
use Rattle.ss_tree.specs.declared.entries.Entry.{Entry}
use Rattle.ss_tree.specs.declared.cells.Cell.{Cell}
use Rattle.ss_tree.specs.declared.cells.TheConstants.{END}
use Rattle.ss_tree.specs.Entries.{above, entry, insert_fault, kids, move_fault, revised_entry, under, without_node}
use Rattle.ss_tree.specs.Entries.{NodesApart}
use Rattle.ss_tree.specs.Cells.{blank, blank_at, cell_at, next_of, prev_of, link_of, seat_at, Attaches, Frees, Hangs}
use Rattle.ss_tree.specs.Cells.{Joins, SameLinks, Seats, IsLinkedTree, listing}
use Rattle.ss_tree.proofs.Changed.{Holds, insert_left, leave_left, move_left, node_low, parent_there}
use Rattle.ss_tree.proofs.Edits.{entry-cons}
use Rattle.ss_tree.proofs.Kin.{kid_entry}
use Rattle.ss_tree.proofs.Rows.{length_within}
use Rattle.ss_tree.proofs.Sibs.{times-without}
use Rattle.ss_tree.proofs.Ways.{length-nodes}

-- ---- blank cells

pub blank_is : (cells : List Cell) (k : ℕ) → 0 < blank_at cells k → (k < length cells) × (seat_at cells k ≡ None)
blank_is cells k there = go (nat_lt k (length cells)) refl (seat_at cells k) refl there
  where
    go : (b : Bool) → nat_lt k (length cells) ≡ b → (o : Option Entry) → seat_at cells k ≡ o → 0 < cond b (cond (is_some o) 0 1) 0 → (k < length cells) × (seat_at cells k ≡ None)
    go true lt None is t = (ltb-true k (length cells) lt, is)
    go true lt (Some e) is t = absurd (omega arith)
    go false lt o is t = absurd (omega arith)

pub blank_once : (cells : List Cell) (k : ℕ) → k < length cells → seat_at cells k ≡ None → blank_at cells k ≡ 1
blank_once cells k low none = ap₂ (λ b c. cond b (cond c 0 1) 0) (lt-ltb k (length cells) low) (ap is_some none)

no_blank : (cells : List Cell) (k : ℕ) → (k < length cells → seat_at cells k ≡ None → ⊥) → blank_at cells k ≡ 0
no_blank cells k h =
    elim (cases_lt 0 (blank_at cells k)) [
      | inl there ↦ let b = blank_is cells k there in absurd (h b.0 b.1)
      | inr none ↦ omega arith
    ]

full_blank : (cells : List Cell) (k : ℕ) → is_some (seat_at cells k) ≡ true → blank_at cells k ≡ 0
full_blank cells k full = no_blank cells k (λ low none. false≢true (sym (ap is_some none) ∙ full))

blank_same : (cells new : List Cell) (k : ℕ) → length new ≡ length cells → is_some (seat_at new k) ≡ is_some (seat_at cells k) → blank_at new k ≡ blank_at cells k
blank_same cells new k long same = ap₂ (λ n b. cond (nat_lt k n) (cond b 0 1) 0) long same

next_inner : (cells : List Cell) (p k : ℕ) → k ≢ END → next_of cells p k ≡ (cell_at cells k).next
next_inner cells p k inner = ap (λ b. cond b (cell_at cells p).first (cell_at cells k).next) (ne_eqb k END inner)

next_from : (cells new : List Cell) (p k : ℕ) → k ≢ END → next_of new p k ≡ next_of cells p k → (cell_at new k).next ≡ (cell_at cells k).next
next_from cells new p k inner same = sym (next_inner new p k inner) ∙ (same ∙ next_inner cells p k inner)

low_inner : (cells : List Cell) (k : ℕ) → k < length cells → length cells < END → k ≢ END
low_inner cells k low room is = omega arith

-- ---- changes that leave the blank cells

pub hangs_kept : {cells new : List Cell} {v : ℕ} → Hangs cells v → length new ≡ length cells → ((k : ℕ) → is_some (seat_at new k) ≡ is_some (seat_at cells k)) → ((k : ℕ) → k < length cells → seat_at cells k ≡ None → (cell_at new k).next ≡ (cell_at cells k).next) → Hangs new v
hangs_kept {cells} {new} {v} h long same next = record {
  left = h.left;
  runs = runs_kept (λ k. (cell_at cells k).next) (λ k. (cell_at new k).next) v h.left END (λ k there. let b = blank_is cells k (subst (λ n. 0 < n) (h.each k) there) in next k b.0 b.1) h.runs;
  each = λ k. h.each k ∙ sym (blank_same cells new k long (same k));
}

pub hangs_linked : {cells new : List Cell} {v : ℕ} → Hangs cells v → length cells < END → SameLinks cells new → ((k : ℕ) → is_some (seat_at new k) ≡ is_some (seat_at cells k)) → Hangs new v
hangs_linked {cells} {new} {v} h room same seats = hangs_kept h same.long seats (λ k low none. next_from cells new 0 k (low_inner cells k low room) (same.next 0 k))

pub hangs_joined : {cells new : List Cell} {v : ℕ} → Hangs cells v → length cells < END → (p left right : ℕ) → Joins cells new p left right → (left ≢ END → is_some (seat_at cells left) ≡ true) → Hangs new v
hangs_joined {cells} {new} {v} h room p left right joins full =
    hangs_kept h joins.long (λ k. ap is_some (joins.seats k)) (λ k low none.
    let inner = low_inner cells k low room in
    let apart : k ≢ left = λ is. false≢true (sym (ap is_some none) ∙ (ap (λ i. is_some (seat_at cells i)) is ∙ full (λ e. inner (is ∙ e)))) in
    next_from cells new p k inner (becomes_other (next_of cells p) (next_of new p) left right k joins.next apart))

pub hangs_attached : {cells new : List Cell} {v : ℕ} → Hangs cells v → length cells < END → (p k right : ℕ) → Attaches cells new p k right → (prev_of cells p right ≢ END → is_some (seat_at cells (prev_of cells p right)) ≡ true) → is_some (seat_at cells k) ≡ true → Hangs new v
hangs_attached {cells} {new} {v} h room p k right attaches full here =
    let a = attaches.after_left in
    let long = a.long in
    hangs_joined (hangs_joined h room p (prev_of cells p right) k a full) (omega arith) p k right attaches.before_right (λ _. ap is_some (a.seats k) ∙ here)

-- ---- a node that leaves its cell

pub hangs_freed : {cells new : List Cell} {v : ℕ} → Hangs cells v → length cells < END → (k : ℕ) → k < length cells → is_some (seat_at cells k) ≡ true → Frees cells new k v → ((j : ℕ) → seat_at new j ≡ cond (k == j) None (seat_at cells j)) → Hangs new k
hangs_freed {cells} {new} {v} h room k low full frees seats = record {
  left = k ∷ h.left;
  runs = (refl, subst (λ m. Runs (λ j. (cell_at new j).next) m h.left END) (sym frees.leads) (runs_kept (λ j. (cell_at cells j).next) (λ j. (cell_at new j).next) v h.left END still h.runs));
  each = count;
}
  where
    still : (j : ℕ) → 0 < times j h.left → (cell_at new j).next ≡ (cell_at cells j).next
    still j there =
        let b = blank_is cells j (subst (λ n. 0 < n) (h.each j) there) in
        let apart : j ≢ k = λ is. false≢true (sym (ap is_some b.1) ∙ (ap (λ i. is_some (seat_at cells i)) is ∙ full)) in
        next_from cells new 0 j (low_inner cells j b.0 room) (frees.next 0 j apart)

    count : (j : ℕ) → times j (k ∷ h.left) ≡ blank_at new j
    count j =
        elim (at_head j k h.left) [
          | inl here ↦
              let long = frees.long in
              let same = here.0 in
              let none : times j h.left ≡ 0 = h.each j ∙ full_blank cells j (ap (λ i. is_some (seat_at cells i)) here.0 ∙ full) in
              let gone : seat_at new j ≡ None = seats j ∙ ap (λ b. cond b None (seat_at cells j)) (eq-eqb k j (sym here.0)) in
              let one : blank_at new j ≡ 1 = blank_once new j (omega arith) gone in
              omega (arith, here.1, none, one)
          | inr other ↦ other.1 ∙ (h.each j ∙ sym (blank_same cells new j frees.long (ap is_some (seats j ∙ ap (λ b. cond b None (seat_at cells j)) (ne_eqb k j (λ is. other.0 (sym is)))))))
        ]

-- ---- an entry that gets a cell

module _ {cells seated : List Cell} {v : ℕ} (h : Hangs cells v) (room : length cells < END) (e : Entry) (within : e.node ≤ length cells) (none : seat_at cells e.node ≡ None) (again : v < length cells → seat_at cells v ≡ None → e.node ≡ v) (seats : Seats cells seated e) where
  seat_else : (j : ℕ) → j ≢ e.node → seat_at seated j ≡ seat_at cells j
  seat_else j ne = seats.seats j ∙ ap (λ b. cond b (Some e) (seat_at cells j)) (ne_eqb j e.node ne)

  seat_here : (j : ℕ) → j ≡ e.node → is_some (seat_at seated j) ≡ true
  seat_here j is = ap is_some (seats.seats j ∙ ap (λ b. cond b (Some e) (seat_at cells j)) (eq-eqb j e.node is))

  from : (left : List ℕ) → Runs (λ k. (cell_at cells k).next) v left END → ((k : ℕ) → times k left ≡ blank_at cells k) → Hangs seated (cell_at cells e.node).next
  from [] runs each = record {
    left = [];
    runs = ap (λ c. c.next) (get_or_past cells e.node blank past);
    each = λ j. sym (no_blank seated j (unseated j));
  }
    where
      past : length cells ≤ e.node
      past =
          elim (cases_lt e.node (length cells)) [
            | inl low ↦ let one = blank_once cells e.node low none in let counted = each e.node in absurd (omega arith)
            | inr high ↦ high
          ]

      unseated : (j : ℕ) → j < length seated → seat_at seated j ≡ None → ⊥
      unseated j low gone =
          elim (eqb_tells j e.node) [
            | inl same ↦ false≢true (sym (ap is_some gone) ∙ seat_here j same.1)
            | inr other ↦
                let apart = other.1 in
                let most = seats.within in
                let there : j < length cells = omega (arith, past) in
                let one = blank_once cells j there (sym (seat_else j other.1) ∙ gone) in
                let counted = each j in
                omega arith
          ]
  from (u ∷ us) runs each = record {
    left = us;
    runs = subst (λ k. Runs (λ j. (cell_at seated j).next) (cell_at cells k).next us END) (sym at) (runs_kept (λ j. (cell_at cells j).next) (λ j. (cell_at seated j).next) (cell_at cells u).next us END still runs.1);
    each = count;
  }
    where
      first : (u < length cells) × (seat_at cells u ≡ None)
      first = blank_is cells u (let is = each u in omega (arith, times-here u u us refl))

      at : e.node ≡ u
      at = again (subst (λ k. k < length cells) (sym runs.0) first.0) (subst (λ k. seat_at cells k ≡ None) (sym runs.0) first.1) ∙ runs.0

      long : length seated ≡ length cells
      long = seats.again (subst (λ k. k < length cells) (sym at) first.0)

      still : (j : ℕ) → 0 < times j us → (cell_at seated j).next ≡ (cell_at cells j).next
      still j there =
          let is = each j in
          let b = blank_is cells j (elim (at_head j u us) [ inl same ↦ omega (arith, same.1) | inr other ↦ omega (arith, other.1) ]) in
          next_from cells seated 0 j (low_inner cells j b.0 room) (seats.next 0 j)

      count : (j : ℕ) → times j us ≡ blank_at seated j
      count j =
          elim (at_head j u us) [
            | inl here ↦
                let is = each j in
                let low : j < length cells = subst (λ k. k < length cells) (sym here.0) first.0 in
                let one : blank_at cells j ≡ 1 = blank_once cells j low (subst (λ k. seat_at cells k ≡ None) (sym here.0) first.1) in
                let gone : blank_at seated j ≡ 0 = full_blank seated j (seat_here j (here.0 ∙ sym at)) in
                omega (arith, here.1)
            | inr other ↦ sym other.1 ∙ (each j ∙ sym (blank_same cells seated j long (ap is_some (seat_else j (λ is. other.0 (is ∙ at))))))
          ]

  pub hangs_seated : Hangs seated (cell_at cells e.node).next
  hangs_seated = from h.left h.runs h.each

-- ---- the rows are of nodes

pub row_full : (cells : List Cell) → IsLinkedTree cells → (p x : ℕ) → 0 < times x (END ∷ kids p (listing cells)) → x ≢ END → is_some (seat_at cells x) ≡ true
row_full cells linked p x there inner =
    let r = kid_entry p x (listing cells) linked.kept.is_tree.nodes (omega (arith, times-apart x END (kids p (listing cells)) inner)) in
    ap is_some (sym (linked.lies.seats x) ∙ r.1)

pub row_full_without : (cells : List Cell) → IsLinkedTree cells → (k p x : ℕ) → 0 < times x (END ∷ without_node k (kids p (listing cells))) → x ≢ END → is_some (seat_at cells x) ≡ true
row_full_without cells linked k p x there inner =
    row_full cells linked p x (omega (arith, times-apart x END (kids p (listing cells)) inner, times-apart x END (without_node k (kids p (listing cells))) inner, times-without x k (kids p (listing cells)))) inner

-- ---- a new tree

node_live : (k : ℕ) (es : List Entry) → 0 < times k (map (λ e. e.node) es) → is_some (entry k es) ≡ true
node_live k [] there = absurd (omega arith)
node_live k (f ∷ fs) there =
    ap is_some (entry-cons k f fs) ∙ elim (at_head k f.node (map (λ e. e.node) fs)) [
      | inl same ↦ ap (λ b. is_some (cond b (Some f) (entry k fs))) (eq-eqb k f.node same.0)
      | inr other ↦ ap (λ b. is_some (cond b (Some f) (entry k fs))) (ne_eqb k f.node other.0) ∙ node_live k fs (omega (arith, other.1))
    ]

node_gone : (k : ℕ) (es : List Entry) → entry k es ≡ None → times k (map (λ e. e.node) es) ≡ 0
node_gone k es none =
    elim (cases_lt 0 (times k (map (λ e. e.node) es))) [
      | inl there ↦ absurd (false≢true (sym (ap is_some none) ∙ node_live k es there))
      | inr nothing ↦ omega arith
    ]

node_once : (k : ℕ) (es : List Entry) → NodesApart es → times k (map (λ e. e.node) es) ≤ 1
unfolding NodesApart
node_once k [] apart = omega arith
node_once k (f ∷ fs) apart =
    elim (at_head k f.node (map (λ e. e.node) fs)) [
      | inl same ↦ let none = node_gone k fs (ap (λ i. entry i fs) same.0 ∙ apart.0) in omega (arith, same.1)
      | inr other ↦ let once = node_once k fs apart.1 in omega (arith, other.1)
    ]

-- where there are as many cells as entries, no cell is blank
pub hangs_full : (cells : List Cell) (es : List Entry) → Holds cells es → length cells ≡ length es → Hangs cells END
hangs_full cells es holds long = record {
  left = [];
  runs = refl;
  each = λ k. sym (no_blank cells k (λ low none. crowded k low (holds.lies.seats k ∙ none)));
}
  where
    crowded : (k : ℕ) → k < length cells → entry k es ≡ None → ⊥
    crowded k low none =
        let gone = node_gone k es none in
        let nodes = length-nodes es in
        let fewer : length (k ∷ map (λ e. e.node) es) ≤ length cells = length_within (length cells) (k ∷ map (λ e. e.node) es)
        (λ j. let once = node_once j es holds.kept.is_tree.nodes in elim (at_head j k (map (λ e. e.node) es)) [
          | inl same ↦ let counted : times j (map (λ e. e.node) es) ≡ 0 = ap (λ i. times i (map (λ e. e.node) es)) same.0 ∙ gone in omega (arith, same.1)
          | inr other ↦ omega (arith, other.1)
        ])
        (λ j there. elim (at_head j k (map (λ e. e.node) es)) [
          | inl same ↦ let is = same.0 in omega arith
          | inr other ↦ holds.kept.below j (node_live j es (omega (arith, other.1)))
        ]) in
        omega arith

-- ---- the calls

some_kept : (f : Entry → Entry) (b : Bool) (o : Option Entry) → is_some (cond b (option_map f o) o) ≡ is_some o
some_kept f true None = refl
some_kept f true (Some e) = refl
some_kept f false o = refl

module _ (cells : List Cell) (p : ℕ) (b : Option ℕ) (e : Entry) (linked : IsLinkedTree cells) (free : insert_fault (listing cells) p b e.item.id ≡ None) (under_p : e.parent ≡ Some p) (blank_there : seat_at cells e.node ≡ None) (seated : List Cell) (seats : Seats cells seated e) (room : length cells + 1 < END) where
  still_seated : (x : ℕ) → is_some (seat_at cells x) ≡ true → is_some (seat_at seated x) ≡ true
  still_seated x full = ap is_some (seats.seats x) ∙ go (x == e.node)
    where
      go : (c : Bool) → is_some (cond c (Some e) (seat_at cells x)) ≡ true
      go true = refl
      go false = full

  pub inserted_hangs : (new : List Cell) → Attaches seated new p e.node (link_of b) → (v : ℕ) → Hangs cells v → e.node ≤ length cells → (v < length cells → seat_at cells v ≡ None → e.node ≡ v) → Hangs new (cell_at cells e.node).next
  inserted_hangs new attaches v h within again =
      let most = seats.within in
      let left = insert_left cells p b e linked free under_p blank_there seated seats room in
      let own : is_some (seat_at seated e.node) ≡ true = ap is_some (seats.seats e.node ∙ ap (λ c. cond c (Some e) (seat_at cells e.node)) (eq-eqb e.node e.node refl)) in
      hangs_attached (hangs_seated h (omega arith) e within blank_there again seats) (omega arith) p e.node (link_of b) attaches
      (λ inner. still_seated (prev_of seated p (link_of b)) (row_full cells linked p (prev_of seated p (link_of b)) left inner)) own

module _ (cells : List Cell) (k p : ℕ) (linked : IsLinkedTree cells) (up : above (listing cells) k ≡ Some p) (middle : List Cell) (joins : Joins cells middle p (prev_of cells p k) (next_of cells p k)) (v : ℕ) (h : Hangs cells v) where
  here_full : is_some (seat_at cells k) ≡ true
  here_full =
      let r = kid_entry p k (listing cells) linked.kept.is_tree.nodes (parent_there cells k p linked up) in
      ap is_some (sym (linked.lies.seats k) ∙ r.1)

  left_hangs : Hangs middle v
  left_hangs = hangs_joined h linked.lies.room p (prev_of cells p k) (next_of cells p k) joins (row_full cells linked p (prev_of cells p k) (leave_left cells k p linked up))

  middle_room : length middle < END
  middle_room = let long = joins.long in let room = linked.lies.room in omega arith

  pub moved_hangs : (q : ℕ) (b : Option ℕ) (turned : List Cell) (d : Entry) → entry k (listing cells) ≡ Some d → move_fault (listing cells) k q b ≡ None → SameLinks middle turned → ((j : ℕ) → seat_at turned j ≡ cond (j == k) (option_map (under q) (seat_at middle j)) (seat_at middle j)) → (new : List Cell) → Attaches turned new q k (link_of b) → Hangs new v
  moved_hangs q b turned d at free same seats new attaches =
      let turns : (j : ℕ) → is_some (seat_at turned j) ≡ is_some (seat_at middle j) = λ j. ap is_some (seats j) ∙ some_kept (under q) (j == k) (seat_at middle j) in
      let kept : (j : ℕ) → is_some (seat_at cells j) ≡ true → is_some (seat_at turned j) ≡ true = λ j full. turns j ∙ (ap is_some (joins.seats j) ∙ full) in
      let left = move_left cells k p linked up middle joins q b turned d at free same seats in
      let long = same.long in
      let room = middle_room in
      hangs_attached (hangs_linked left_hangs middle_room same turns) (omega arith) q k (link_of b) attaches
      (λ inner. kept (prev_of turned q (link_of b)) (row_full_without cells linked k q (prev_of turned q (link_of b)) left inner)) (kept k here_full)

  pub removed_hangs : (new : List Cell) → Frees middle new k v → ((j : ℕ) → seat_at new j ≡ cond (k == j) None (seat_at middle j)) → Hangs new k
  removed_hangs new frees seats =
      let low = node_low cells k p linked up in
      let long = joins.long in
      hangs_freed left_hangs middle_room k (omega arith) (ap is_some (joins.seats k) ∙ here_full) frees seats

pub revised_hangs : (cells : List Cell) (k : ℕ) (content : List ℕ) (time : ℕ) (new : List Cell) → IsLinkedTree cells → SameLinks cells new → ((j : ℕ) → seat_at new j ≡ cond (j == k) (option_map (revised_entry content time) (seat_at cells j)) (seat_at cells j)) → (v : ℕ) → Hangs cells v → Hangs new v
revised_hangs cells k content time new linked same seats v h =
    hangs_linked h linked.lies.room same (λ j. ap is_some (seats j) ∙ some_kept (revised_entry content time) (j == k) (seat_at cells j))
