-- Rows that are linked both ways, and what a node that is taken out or put in makes of them.
use Rattle.std.proofs.Common.{◌≡◌, ◌≢◌, ℕ, zero, suc, ◌<◌, ◌≤◌, List, [], ◌∷◌, ◌++◌, refl, sym, ap, subst, ◌∙◌, arith}
use Rattle.std.proofs.Common.{inl, inr}
use Rattle.std.proofs.lemmas.Bool.Decides.{eqb_tells}
use Rattle.ss_list.specs.Chain.{times}
use Rattle.ss_list.proofs.Times.{times-here, times-apart, times-append, at_head, below-head, cut}
use Rattle.ss_list.proofs.Paths.{Path, path_split, path_kept, path_without, last_there}
use Rattle.ss_tree.specs.Entries.{without_node}
use Rattle.ss_tree.specs.declared.cells.Cell.{Cell}
use Rattle.ss_tree.specs.declared.cells.TheConstants.{END}
use Rattle.ss_tree.specs.Cells.{next_of, prev_of, Joins}
use Rattle.ss_tree.proofs.Sibs.{without_absent, without_cut, times-without}

-- the rows of all places, which share no node
pub record Strung (cells : List Cell) (lists : ℕ → List ℕ) : Type 0 where
  pub rows : (p : ℕ) → Path (next_of cells p) (prev_of cells p) END (lists p) END
  pub once : (p x : ℕ) → times x (lists p) ≤ 1
  pub apart : (p q x : ℕ) → 0 < times x (lists p) → 0 < times x (lists q) → p ≡ q
  pub inner : (p : ℕ) → times END (lists p) ≡ 0

first_in : (f g : ℕ → ℕ) (u : ℕ) (ps : List ℕ) (w : ℕ) → Path f g u ps w → 0 < times (f u) (w ∷ ps)
first_in f g u [] w path = omega (arith, times-here (f u) w [] path.0)
first_in f g u (x ∷ xs) w path = omega (arith, times-here (f u) x xs path.0, below-head (f u) w (x ∷ xs))

-- a place among the neighbours of a row is no node of another row
module _ {cells : List Cell} {lists : ℕ → List ℕ} (strung : Strung cells lists) where
  pub off_row : (p j u : ℕ) → j ≢ p → 0 < times u (END ∷ lists p) → (k : ℕ) → 0 < times k (END ∷ lists j) → k ≢ END → k ≢ u
  off_row p j u ne there k here inner same =
      let in_j : 0 < times k (lists j) = omega (arith, times-apart k END (lists j) inner) in
      let in_p : 0 < times k (lists p) = let t : 0 < times k (END ∷ lists p) = subst (λ i. 0 < times i (END ∷ lists p)) (sym same) there in omega (arith, times-apart k END (lists p) inner) in
      ne (strung.apart j p k in_j in_p)

  -- a row away from a change of links is as it was
  row_kept : (new : List Cell) (p left right : ℕ) → Joins cells new p left right → (j : ℕ) → j ≢ p → ((k : ℕ) → 0 < times k (END ∷ lists j) → k ≢ END → k ≢ left) → ((k : ℕ) → 0 < times k (END ∷ lists j) → k ≢ END → k ≢ right) → Path (next_of new j) (prev_of new j) END (lists j) END
  row_kept new p left right joins j ne off_left off_right =
      let inside : (k : ℕ) → 0 < times k (lists j) → 0 < times k (END ∷ lists j) = λ k t. omega (arith, below-head k END (lists j)) in
      let end_in : 0 < times END (END ∷ lists j) = omega (arith, times-here END END (lists j) refl) in
      path_kept (next_of cells j) (prev_of cells j) (next_of new j) (prev_of new j) END (lists j) END
      (joins.next_else j END ne (off_left END end_in))
      (λ k t. joins.next_else j k ne (off_left k (inside k t)))
      (λ k t. joins.prev_else j k ne (off_right k (inside k t)))
      (joins.prev_else j END ne (off_right END end_in))
      (strung.rows j)

  -- the neighbours of a node in its row
  module _ (p x : ℕ) (xs ys : List ℕ) (is : lists p ≡ xs ++ x ∷ ys) where
    f : ℕ → ℕ
    f = next_of cells p

    g : ℕ → ℕ
    g = prev_of cells p

    whole : Path (next_of cells p) (prev_of cells p) END (xs ++ x ∷ ys) END
    whole = subst (λ ks. Path (next_of cells p) (prev_of cells p) END ks END) is (strung.rows p)

    pub halves : Path (next_of cells p) (prev_of cells p) END xs x × Path (next_of cells p) (prev_of cells p) x ys END
    halves = path_split (next_of cells p) (prev_of cells p) END xs x ys END whole

    pub single : (k : ℕ) → times k (xs ++ x ∷ ys) ≤ 1
    single k = subst (λ ks. times k ks ≤ 1) is (strung.once p k)

    pub alone : times END (xs ++ x ∷ ys) ≡ 0
    alone = ap (times END) (sym is) ∙ strung.inner p

    left_first : 0 < times (prev_of cells p x) (END ∷ xs)
    left_first = last_there (next_of cells p) (prev_of cells p) END xs x halves.0

    pub left_in : 0 < times (prev_of cells p x) (END ∷ lists p)
    left_in =
        let k = prev_of cells p x in
        subst (λ ks. 0 < times k (END ∷ ks)) (sym is) (elim (at_head k END xs) [
          | inl same ↦ omega (arith, times-here k END (xs ++ x ∷ ys) same.0)
          | inr other ↦ omega (arith, left_first, times-append k xs (x ∷ ys), below-head k END (xs ++ x ∷ ys))
        ])

    pub right_in : 0 < times (next_of cells p x) (END ∷ lists p)
    right_in =
        let k = next_of cells p x in
        let first : 0 < times k (END ∷ ys) = first_in (next_of cells p) (prev_of cells p) x ys END halves.1 in
        subst (λ ks. 0 < times k (END ∷ ks)) (sym is) (elim (at_head k END ys) [
          | inl same ↦ omega (arith, times-here k END (xs ++ x ∷ ys) same.0)
          | inr other ↦ omega (arith, times-append k xs (x ∷ ys), below-head k x ys, below-head k END (xs ++ x ∷ ys))
        ])

  -- the node x leaves its row
  pub detached : (new : List Cell) (p x : ℕ) → 0 < times x (lists p) → Joins cells new p (prev_of cells p x) (next_of cells p x) → Strung new (λ j. without_node x (lists j))
  detached new p x there joins =
      let halved = cut x (lists p) there in
      let xs = halved.0 in
      let ys = halved.1 in
      let is : lists p ≡ xs ++ x ∷ ys = halved.2 in
      let one = single p x xs ys is in
      let one_x = one x in
      let gone_left : times x xs ≡ 0 = omega (arith, times-append x xs (x ∷ ys), times-here x x ys refl) in
      let gone_right : times x ys ≡ 0 = omega (arith, times-append x xs (x ∷ ys), times-here x x ys refl) in
      let own : without_node x (lists p) ≡ xs ++ ys = ap (without_node x) is ∙ without_cut x xs ys gone_left gone_right in
      let here : Path (next_of new p) (prev_of new p) END (without_node x (lists p)) END =
      subst (λ ks. Path (next_of new p) (prev_of new p) END ks END) (sym own)
      (path_without (next_of cells p) (prev_of cells p) (next_of new p) (prev_of new p) END xs x ys one (alone p x xs ys is) joins.next joins.prev (whole p x xs ys is)) in
      let away : (j : ℕ) → j ≢ p → Path (next_of new j) (prev_of new j) END (without_node x (lists j)) END = λ j ne.
      let none : times x (lists j) ≡ 0 = off j ne in
      subst (λ ks. Path (next_of new j) (prev_of new j) END ks END) (sym (without_absent x (lists j) none))
      (row_kept new p (prev_of cells p x) (next_of cells p x) joins j ne (off_row p j (prev_of cells p x) ne (left_in p x xs ys is)) (off_row p j (next_of cells p x) ne (right_in p x xs ys is))) in
      record {
        rows = λ j. elim (eqb_tells j p) [
          | inl same ↦ subst (λ i. Path (next_of new i) (prev_of new i) END (without_node x (lists i)) END) (sym same.1) here
          | inr other ↦ away j other.1
        ];
        once = λ j k. let most = strung.once j k in omega (arith, times-without k x (lists j));
        apart = λ i j k a b. strung.apart i j k (omega (arith, times-without k x (lists i))) (omega (arith, times-without k x (lists j)));
        inner = λ j. let none = strung.inner j in omega (arith, times-without END x (lists j));
      }
    where
      off : (j : ℕ) → j ≢ p → times x (lists j) ≡ 0
      off j ne = zero_of (times x (lists j)) (λ t. ne (strung.apart j p x t there))
        where
          zero_of : (n : ℕ) → (0 < n → ⊥) → n ≡ 0
          zero_of zero h = refl
          zero_of (suc n) h = absurd (h (omega arith))
