-- What one entry more makes of cells that were blank.
use Rattle.std.proofs.Common.{◌≡◌, ◌≢◌, ℕ, ◌<◌, ◌==◌, List, [], ◌∷◌, ◌++◌, length, Bool, true, false, cond, refl, sym}
use Rattle.std.proofs.Common.{ap, subst, ◌∙◌, arith, inl, inr, Option, Some, None, is_some, option_map, unwrap_or}
use Rattle.std.proofs.lemmas.Bool.{false≢true, cases_lt, eqb-true, eq-eqb}
use Rattle.ss_list.specs.Chain.{times}
use Rattle.ss_list.proofs.Times.{times-append, at_head}
use Rattle.ss_list.proofs.Paths.{Path}
use Rattle.ss_tree.specs.declared.entries.Entry.{Entry}
use Rattle.ss_tree.specs.Entries.{entry, is_live, is_place, stands_under, kids, NodesApart, IsTree}
use Rattle.ss_tree.proofs.Edits.{entry_put, entry-nil, entry-cons, kids-nil, kids_put}
use Rattle.ss_tree.proofs.Valid.{In, in_entry}
use Rattle.ss_tree.specs.declared.cells.Cell.{Cell}
use Rattle.ss_tree.specs.declared.cells.TheConstants.{END}
use Rattle.ss_tree.specs.Cells.{IsPlace, blank, cell_at, next_of, prev_of, seat, seat_at, SameLinks}
use Rattle.ss_tree.specs.Built.{HasParent, IsReady, PutsUnder, Places}
use Rattle.ss_tree.proofs.Kin.{kid_in, under_is}
use Rattle.ss_tree.proofs.Listed.{absent}
use Rattle.ss_tree.proofs.Strung.{Strung}
use Rattle.ss_tree.proofs.Attached.{attached, beside}
use Rattle.ss_tree.proofs.Changed.{strung_same, row_place}
use Rattle.ss_tree.proofs.Grown.{Built, strung_lists}
use Rattle.std.proofs.lemmas.Option.{none-some}
use Rattle.ss_text.proofs.Basics.{some_same}

-- where an entry is ready, the last node under its parent has a cell
pub ready_left : (cells middle : List Cell) (e : Entry) (p : ℕ) → IsReady cells e → e.parent ≡ Some p → SameLinks cells middle → IsPlace middle (prev_of middle p END)
ready_left cells middle e p ready q same inner =
    let h : HasParent cells (Some p) = subst (HasParent cells) q ready in
    let is = same.prev p END in
    let low : prev_of cells p END < length cells = h.1 (λ w. inner (is ∙ w)) in
    let long = same.long in
    omega (arith, is, low)

-- blank cells have no entry
pub built_blank : (cells : List Cell) → ((k : ℕ) → cell_at cells k ≡ blank) → Built cells []
built_blank cells all = record {
  seats = λ k. entry-nil k ∙ sym (ap (seat k) (all k));
  strung = record {
    rows = λ p. subst (λ ks. Path (next_of cells p) (prev_of cells p) END ks END) (sym (kids-nil p)) (ap (λ c. c.first) (all p), ap (λ c. c.last) (all p));
    once = λ p x. let none : times x (kids p []) ≡ 0 = ap (times x) (kids-nil p) in omega arith;
    apart = λ p q x h t. let none : times x (kids p []) ≡ 0 = ap (times x) (kids-nil p) in absurd (omega arith);
    inner = λ p. ap (times END) (kids-nil p);
  };
  low = λ p x t. let none : times x (kids p []) ≡ 0 = ap (times x) (kids-nil p) in absurd (omega arith);
}

in_live : (es : List Entry) (e : Entry) → In e es → is_some (entry e.node es) ≡ true
unfolding In
in_live [] e i = absurd i
in_live (f ∷ fs) e (inl q) = ap is_some (entry-cons e.node f fs ∙ ap (λ b. cond b (Some f) (entry e.node fs)) (eq-eqb e.node f.node (ap (λ x. x.node) q)))
in_live (f ∷ fs) e (inr i) = ap is_some (entry-cons e.node f fs) ∙ go (e.node == f.node) (in_live fs e i)
  where
    go : (b : Bool) → is_some (entry e.node fs) ≡ true → is_some (cond b (Some f) (entry e.node fs)) ≡ true
    go true h = refl
    go false h = h

module _ (cells : List Cell) (es : List Entry) (e : Entry) (built : Built cells es) (inside : e.node < length cells) (gone : entry e.node es ≡ None) (room : length cells < END) where
  nowhere : (j : ℕ) → times e.node (kids j es) ≡ 0
  nowhere j = absent e.node (kids j es) (λ t. let r = kid_in j e.node es t in false≢true (sym (ap is_some gone) ∙ (ap (λ i. is_some (entry i es)) (sym r.2) ∙ in_live es r.0 r.1)))

  pub last_under : (p : ℕ) → IsPlace cells (prev_of cells p END)
  last_under p =
      let sides = beside built.strung p e.node (λ is. omega arith) nowhere None (λ b q. cc) in
      row_place cells (λ j. kids j es) p (prev_of cells p END) (built.low p) sides.0

  kids_with : (j : ℕ) → kids j (es ++ e ∷ []) ≡ cond (stands_under j e) (kids j es ++ e.node ∷ []) (kids j es)
  unfolding is_place
  kids_with j = kids_put j None e es (λ _. refl)

  low_with : (n : ℕ) → n ≡ length cells → (p x : ℕ) → 0 < times x (kids p (es ++ e ∷ [])) → x < n
  low_with n is p x t = go (stands_under p e) (subst (λ ks. 0 < times x ks) (kids_with p) t)
    where
      go : (b : Bool) → 0 < times x (cond b (kids p es ++ e.node ∷ []) (kids p es)) → x < n
      go false h = let l = built.low p x h in omega arith
      go true h =
          elim (cases_lt 0 (times x (kids p es))) [
            | inl here ↦ let l = built.low p x here in omega arith
            | inr none ↦
                elim (at_head x e.node []) [
                  | inl same ↦ let same_is = same.0 in omega arith
                  | inr other ↦ absurd (omega (arith, times-append x (kids p es) (e.node ∷ [])))
                ]
          ]

  module _ (new : List Cell) (places : Places cells new e) where
    seat_with : (k : ℕ) → entry k (es ++ e ∷ []) ≡ seat_at places.middle k
    seat_with k = entry_put None e es k gone ∙ (ap (cond (k == e.node) (Some e)) (built.seats k) ∙ sym (places.seats k))

    filled : Strung places.middle (λ p. kids p es)
    filled = strung_same built.strung places.links.next places.links.prev

    under : (o : Option ℕ) → e.parent ≡ o → PutsUnder places.middle new e.node o → Built new (es ++ e ∷ [])
    under None q is = record {
      seats = λ k. seat_with k ∙ ap (λ cs. seat_at cs k) (sym is);
      strung = subst (λ cs. Strung cs (λ p. kids p (es ++ e ∷ []))) (sym is)
          (strung_lists (λ j. kids_with j ∙ ap (λ b. cond b (kids j es ++ e.node ∷ []) (kids j es)) (ap (λ o. unwrap_or (option_map (λ x. j == x) o) false) q)) filled);
      low = low_with (length new) (ap length is ∙ places.links.long);
    }
    under (Some p) q is = record {
      seats = λ k. seat_with k ∙ (sym (is.after_left.seats k) ∙ sym (is.before_right.seats k));
      strung = strung_lists (λ j. kids_with j ∙ ap (λ b. cond b (kids j es ++ e.node ∷ []) (kids j es)) (under_is j p e q))
          (attached filled p e.node (λ i. omega arith) nowhere None (λ b w. cc) is.after_left is.before_right);
      low = low_with (length new) (is.before_right.long ∙ (is.after_left.long ∙ places.links.long));
    }

    pub built_with : Built new (es ++ e ∷ [])
    built_with = under e.parent refl places.under

pub placed_long : (cells new : List Cell) (e : Entry) → Places cells new e → length new ≡ length cells
placed_long cells new e places = go e.parent places.under
  where
    go : (o : Option ℕ) → PutsUnder places.middle new e.node o → length new ≡ length cells
    go None is = ap length is ∙ places.links.long
    go (Some p) is = is.before_right.long ∙ (is.after_left.long ∙ places.links.long)

-- ---- one step over the entries of a tree

in_middle : (done : List Entry) (e : Entry) (rest : List Entry) → In e (done ++ e ∷ rest)
unfolding In
in_middle [] e rest = inl refl
in_middle (f ∷ fs) e rest = inr (in_middle fs e rest)

not_before : (done : List Entry) (e : Entry) (rest : List Entry) → NodesApart (done ++ e ∷ rest) → entry e.node done ≡ None
unfolding NodesApart
not_before [] e rest a = entry-nil e.node
not_before (f ∷ fs) e rest a = entry-cons e.node f fs ∙ go (e.node == f.node) refl (not_before fs e rest a.1)
  where
    go : (b : Bool) → (e.node == f.node) ≡ b → entry e.node fs ≡ None → cond b (Some f) (entry e.node fs) ≡ None
    go true q ih = absurd (none-some _ (sym (ap (λ k. entry k (fs ++ e ∷ rest)) (eqb-true e.node f.node q) ∙ a.0) ∙ in_entry (fs ++ e ∷ rest) e a.1 (in_middle fs e rest)))
    go false q ih = ih

pub record Step (cells : List Cell) (done : List Entry) (e : Entry) : Type 0 where
  pub inside : e.node < length cells
  pub gone : entry e.node done ≡ None
  pub ready : HasParent cells e.parent

pub step_entry : (cells : List Cell) (done : List Entry) (e : Entry) (rest es : List Entry) → Built cells done → length cells ≡ length es → done ++ e ∷ rest ≡ es → IsTree es → ((k : ℕ) → is_live k es ≡ true → k < length es) → length cells < END → Step cells done e
step_entry cells done e rest es built long all t numbered room =
    let apart : NodesApart (done ++ e ∷ rest) = subst NodesApart (sym all) t.nodes in
    let here : entry e.node es ≡ Some e = subst (λ l. entry e.node l ≡ Some e) all (in_entry (done ++ e ∷ rest) e apart (in_middle done e rest)) in
    let low : e.node < length es = numbered e.node (ap is_some here) in
    let inside : e.node < length cells = omega arith in
    let gone = not_before done e rest apart in
    record { inside = inside; gone = gone; ready = go inside gone here e.parent refl }
  where
    go : e.node < length cells → entry e.node done ≡ None → entry e.node es ≡ Some e → (o : Option ℕ) → e.parent ≡ o → HasParent cells o
    go inside gone here None q = tt
    go inside gone here (Some p) q =
        let not_top : e.node ≢ 0 = λ is. none-some _ (ap (λ d. d.parent) (some_same (sym t.top ∙ (ap (λ k. entry k es) (sym is) ∙ here))) ∙ q) in
        let f = t.folder e.node e here not_top in
        let live : is_live p es ≡ true = ap (λ k. is_live k es) (some_same (sym q ∙ f.1)) ∙ ap is_some f.3 in
        let low : p < length es = numbered p live in
        (omega arith, last_under cells done e built inside gone room p)
