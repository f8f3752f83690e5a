-- A node that is put into a row.
use Rattle.std.proofs.Common.{◌≡◌, ◌≢◌, ℕ, ◌<◌, ◌≤◌, ◌==◌, List, [], ◌∷◌, ◌++◌, Bool, true, false, cond, refl, sym, ap}
use Rattle.std.proofs.Common.{subst, ◌∙◌, arith, inl, inr, Option, Some, None}
use Rattle.std.proofs.lemmas.Bool.{eqb-true}
use Rattle.std.proofs.lemmas.Bool.Decides.{eqb_tells}
use Rattle.ss_list.specs.Chain.{times}
use Rattle.ss_list.specs.Links.{Becomes}
use Rattle.ss_list.proofs.Times.{times-here, times-apart, times-append, at_head, below-head, cut}
use Rattle.ss_list.proofs.Paths.{Path, becomes_here, becomes_other, path_split, path_joined, path_kept, path_turned}
use Rattle.ss_list.proofs.Paths.{path_push, last_there}
use Rattle.ss_tree.specs.Entries.{put_before}
use Rattle.ss_tree.specs.declared.cells.Cell.{Cell}
use Rattle.ss_tree.specs.declared.cells.TheConstants.{END}
use Rattle.ss_tree.specs.Cells.{next_of, prev_of, Joins, link_of}
use Rattle.ss_tree.proofs.Sibs.{put_cut, times-put}
use Rattle.ss_tree.proofs.Strung.{Strung, off_row, left_in, single}

-- where x comes between the place before b and b, in two steps, it stands before b
pub path_put : (f g f1 g1 f2 g2 : ℕ → ℕ) (u : ℕ) (xs : List ℕ) (b : ℕ) (ys : List ℕ) (x : ℕ) → ((p : ℕ) → times p (u ∷ (xs ++ b ∷ ys)) ≤ 1) → times x (u ∷ (xs ++ b ∷ ys)) ≡ 0
    → Becomes f f1 (g b) x → Becomes g g1 x (g b) → Becomes f1 f2 x b → Becomes g1 g2 b x → Path f g u (xs ++ b ∷ ys) u → Path f2 g2 u (xs ++ x ∷ b ∷ ys) u
path_put f g f1 g1 f2 g2 u xs b ys x once no_x next1 prev1 next2 prev2 path =
    let split = path_split f g u xs b ys u path in
    let last : 0 < times (g b) (u ∷ xs) = last_there f g u xs b split.0 in
    let apart_of : (k : ℕ) → 0 < times k (b ∷ ys) → (times k (u ∷ xs) ≡ 0) × (k ≢ x) = λ k t.
    let one = once k in
    elim (at_head k u (xs ++ b ∷ ys)) [
      | inl same ↦ absurd (omega (arith, times-append k xs (b ∷ ys)))
      | inr other ↦ (
        omega (arith, times-append k xs (b ∷ ys), times-apart k u xs other.0),
        λ is.
            let none : times k (u ∷ (xs ++ b ∷ ys)) ≡ 0 = ap (λ i. times i (u ∷ (xs ++ b ∷ ys))) is ∙ no_x in
            omega (arith, times-append k xs (b ∷ ys)),
      )
    ] in
    let not_last : (k : ℕ) → 0 < times k (b ∷ ys) → k ≢ g b = λ k t is.
    let here : 0 < times k (u ∷ xs) = subst (λ i. 0 < times i (u ∷ xs)) (sym is) last in
    let none = (apart_of k t).0 in
    omega arith in
    let b_in : 0 < times b (b ∷ ys) = omega (arith, times-here b b ys refl) in
    let y_in : (k : ℕ) → 0 < times k ys → 0 < times k (b ∷ ys) = λ k t. omega (arith, below-head k b ys) in
    let one_b = once b in
    let b_alone : times b ys ≡ 0 = omega (arith, times-append b xs (b ∷ ys), times-here b b ys refl, below-head b u (xs ++ b ∷ ys)) in
    let not_b : (k : ℕ) → 0 < times k ys → k ≢ b = λ k t is. let here : 0 < times b ys = subst (λ i. 0 < times i ys) is t in omega arith in
    let u_here = times-here u u (xs ++ b ∷ ys) refl in
    let one_u = once u in
    let u_not_b : u ≢ b = λ is. let two = times-here b u (xs ++ b ∷ ys) (sym is) in omega (arith, one_b, times-append b xs (b ∷ ys), times-here b b ys refl) in
    let u_not_x : u ≢ x = λ is. let none : times u (u ∷ (xs ++ b ∷ ys)) ≡ 0 = ap (λ i. times i (u ∷ (xs ++ b ∷ ys))) is ∙ no_x in omega arith in
    let x_not_b : x ≢ b = λ is. (apart_of b b_in).1 (sym is) in
    let xs_not_x : (k : ℕ) → 0 < times k xs → k ≢ x = λ k t is.
    let none : times k (u ∷ (xs ++ b ∷ ys)) ≡ 0 = ap (λ i. times i (u ∷ (xs ++ b ∷ ys))) is ∙ no_x in
    omega (arith, times-append k xs (b ∷ ys), below-head k u (xs ++ b ∷ ys)) in
    let xs_not_b : (k : ℕ) → 0 < times k xs → k ≢ b = λ k t is.
    let here : 0 < times b xs = subst (λ i. 0 < times i xs) is t in
    omega (arith, one_b, times-append b xs (b ∷ ys), times-here b b ys refl, below-head b u (xs ++ b ∷ ys)) in
    let x_gone : times x xs ≡ 0 = omega (arith, times-append x xs (b ∷ ys), below-head x u (xs ++ b ∷ ys)) in
    let turned : Path f1 g1 u xs x = path_turned f g f1 g1 u xs b x (λ k. let one = once k in
    elim (at_head k u xs) [
      | inl same ↦ omega (arith, times-here k u (xs ++ b ∷ ys) same.0, times-append k xs (b ∷ ys))
      | inr other ↦ omega (arith, times-apart k u (xs ++ b ∷ ys) other.0, times-append k xs (b ∷ ys))
    ]) x_gone next1 prev1 split.0 in
    let first : Path f2 g2 u xs x = path_kept f1 g1 f2 g2 u xs x (becomes_other f1 f2 x b u next2 u_not_x)
    (λ k t. becomes_other f1 f2 x b k next2 (xs_not_x k t)) (λ k t. becomes_other g1 g2 b x k prev2 (xs_not_b k t)) (becomes_other g1 g2 b x x prev2 x_not_b) turned in
    let second : Path f1 g1 b ys u = path_kept f g f1 g1 b ys u (becomes_other f f1 (g b) x b next1 (not_last b b_in))
    (λ k t. becomes_other f f1 (g b) x k next1 (not_last k (y_in k t))) (λ k t. becomes_other g g1 x (g b) k prev1 (apart_of k (y_in k t)).1) (becomes_other g g1 x (g b) u prev1 u_not_x) split.1 in
    let third : Path f2 g2 b ys u = path_kept f1 g1 f2 g2 b ys u (becomes_other f1 f2 x b b next2 (λ is. x_not_b (sym is)))
    (λ k t. becomes_other f1 f2 x b k next2 (apart_of k (y_in k t)).1) (λ k t. becomes_other g1 g2 b x k prev2 (not_b k t)) (becomes_other g1 g2 b x u prev2 u_not_b) second in
    path_joined f2 g2 u xs x (b ∷ ys) u first (becomes_here f1 f2 x b x next2 refl, becomes_here g1 g2 b x b prev2 refl, third)

module _ {cells : List Cell} {lists : ℕ → List ℕ} (strung : Strung cells lists) (p x : ℕ) (inner : x ≢ END) (nowhere : (j : ℕ) → times x (lists j) ≡ 0) where
  row_single : (k : ℕ) → times k (END ∷ lists p) ≤ 1
  row_single k =
      let one = strung.once p k in
      let none = strung.inner p in
      elim (at_head k END (lists p)) [
        | inl same ↦ let gone : times k (lists p) ≡ 0 = ap (λ i. times i (lists p)) same.0 ∙ none in omega arith
        | inr other ↦ omega arith
      ]

  row_no_x : times x (END ∷ lists p) ≡ 0
  row_no_x = let none = nowhere p in omega (arith, times-apart x END (lists p) inner)

  -- the places beside which x is put stand in the row, or are its end
  pub beside : (before : Option ℕ) → ((b : ℕ) → before ≡ Some b → 0 < times b (lists p)) → (0 < times (prev_of cells p (link_of before)) (END ∷ lists p)) × (0 < times (link_of before) (END ∷ lists p))
  beside None place = (last_there (next_of cells p) (prev_of cells p) END (lists p) END (strung.rows p), omega (arith, times-here END END (lists p) refl))
  beside (Some b) place =
      let halved = cut b (lists p) (place b refl) in
      (left_in strung p b halved.0 halved.1 halved.2, let t = place b refl in omega (arith, below-head b END (lists p)))

  module _ {middle new : List Cell} where
    -- the row of p with x, where `before` is a place in it
    own_row : (before : Option ℕ) → ((b : ℕ) → before ≡ Some b → 0 < times b (lists p)) → Joins cells middle p (prev_of cells p (link_of before)) x → Joins middle new p x (link_of before) → Path (next_of new p) (prev_of new p) END (put_before before x (lists p)) END
    own_row None place one two =
        path_push (next_of cells p) (prev_of cells p) (next_of middle p) (prev_of middle p) (next_of new p) (prev_of new p) END (lists p) x row_single row_no_x one.next one.prev two.next two.prev (strung.rows p)
    own_row (Some b) place one two =
        let halved = cut b (lists p) (place b refl) in
        let xs = halved.0 in
        let ys = halved.1 in
        let is : lists p ≡ xs ++ b ∷ ys = halved.2 in
        let one_b : times b (xs ++ b ∷ ys) ≤ 1 = single strung p b xs ys is b in
        let put : put_before (Some b) x (lists p) ≡ xs ++ x ∷ b ∷ ys = ap (put_before (Some b) x) is ∙ put_cut b x xs ys (omega (arith, times-append b xs (b ∷ ys), times-here b b ys refl)) in
        subst (λ ks. Path (next_of new p) (prev_of new p) END ks END) (sym put)
        (path_put (next_of cells p) (prev_of cells p) (next_of middle p) (prev_of middle p) (next_of new p) (prev_of new p) END xs b ys x
        (λ k. subst (λ ks. times k (END ∷ ks) ≤ 1) is (row_single k)) (subst (λ ks. times x (END ∷ ks) ≡ 0) is row_no_x) one.next one.prev two.next two.prev
        (subst (λ ks. Path (next_of cells p) (prev_of cells p) END ks END) is (strung.rows p)))

    pub attached : (before : Option ℕ) → ((b : ℕ) → before ≡ Some b → 0 < times b (lists p)) → Joins cells middle p (prev_of cells p (link_of before)) x → Joins middle new p x (link_of before) → Strung new (λ j. cond (j == p) (put_before before x (lists j)) (lists j))
    attached before place one two = record {
      rows = λ j. elim (eqb_tells j p) [
        | inl same ↦ subst (λ ks. Path (next_of new j) (prev_of new j) END ks END) (sym (ap (λ c. cond c (put_before before x (lists j)) (lists j)) same.0)) (subst (λ i. Path (next_of new i) (prev_of new i) END (put_before before x (lists i)) END) (sym same.1) (own_row before place one two))
        | inr other ↦ subst (λ ks. Path (next_of new j) (prev_of new j) END ks END) (sym (ap (λ c. cond c (put_before before x (lists j)) (lists j)) other.0)) (away j other.1)
      ];
      once = λ j k. once_in j k (j == p);
      apart = λ i j k a b. apart_in i j k (i == p) (j == p) refl refl a b;
      inner = λ j. inner_in j (j == p);
    }
      where
        away : (j : ℕ) → j ≢ p → Path (next_of new j) (prev_of new j) END (lists j) END
        away j ne =
            let sides = beside before place in
            let end_in : 0 < times END (END ∷ lists j) = omega (arith, times-here END END (lists j) refl) in
            let inside : (k : ℕ) → 0 < times k (lists j) → 0 < times k (END ∷ lists j) = λ k t. omega (arith, below-head k END (lists j)) in
            let not_x : (k : ℕ) → 0 < times k (END ∷ lists j) → k ≢ END → k ≢ x = λ k t ne_end is.
            let none = nowhere j in
            let here : 0 < times x (lists j) = subst (λ i. 0 < times i (lists j)) is (omega (arith, times-apart k END (lists j) ne_end)) in
            omega arith in
            let off_left = off_row strung p j (prev_of cells p (link_of before)) ne sides.0 in
            let off_right = off_row strung p j (link_of before) ne sides.1 in
            let next : (k : ℕ) → 0 < times k (END ∷ lists j) → next_of new j k ≡ next_of cells j k = λ k t. two.next_else j k ne (not_x k t) ∙ one.next_else j k ne (off_left k t) in
            let prev : (k : ℕ) → 0 < times k (END ∷ lists j) → prev_of new j k ≡ prev_of cells j k = λ k t. two.prev_else j k ne (off_right k t) ∙ one.prev_else j k ne (not_x k t) in
            path_kept (next_of cells j) (prev_of cells j) (next_of new j) (prev_of new j) END (lists j) END (next END end_in) (λ k t. next k (inside k t)) (λ k t. prev k (inside k t)) (prev END end_in) (strung.rows j)

        once_in : (j k : ℕ) (c : Bool) → times k (cond c (put_before before x (lists j)) (lists j)) ≤ 1
        once_in j k false = strung.once j k
        once_in j k true =
            let one_k = strung.once j k in
            elim (at_head k x []) [
              | inl same ↦ let gone : times k (lists j) ≡ 0 = ap (λ i. times i (lists j)) same.0 ∙ nowhere j in omega (arith, times-put k before x (lists j))
              | inr other ↦ omega (arith, times-put k before x (lists j))
            ]

        was : (j k : ℕ) (c : Bool) → k ≢ x → 0 < times k (cond c (put_before before x (lists j)) (lists j)) → 0 < times k (lists j)
        was j k false ne t = t
        was j k true ne t = omega (arith, times-put k before x (lists j), times-apart k x [] ne)

        at_p : (j : ℕ) (c : Bool) → (j == p) ≡ c → 0 < times x (cond c (put_before before x (lists j)) (lists j)) → j ≡ p
        at_p j true e t = eqb-true j p e
        at_p j false e t = let none = nowhere j in absurd (omega arith)

        apart_in : (i j k : ℕ) (c d : Bool) → (i == p) ≡ c → (j == p) ≡ d → 0 < times k (cond c (put_before before x (lists i)) (lists i)) → 0 < times k (cond d (put_before before x (lists j)) (lists j)) → i ≡ j
        apart_in i j k c d e h a b =
            elim (eqb_tells k x) [
              | inl same ↦ at_p i c e (subst (λ m. 0 < times m (cond c (put_before before x (lists i)) (lists i))) same.1 a) ∙ sym (at_p j d h (subst (λ m. 0 < times m (cond d (put_before before x (lists j)) (lists j))) same.1 b))
              | inr other ↦ strung.apart i j k (was i k c other.1 a) (was j k d other.1 b)
            ]

        inner_in : (j : ℕ) (c : Bool) → times END (cond c (put_before before x (lists j)) (lists j)) ≡ 0
        inner_in j false = strung.inner j
        inner_in j true = let none = strung.inner j in omega (arith, times-put END before x (lists j), times-apart END x [] (λ is. inner (sym is)))
