-- Edits keep a tree a tree.
use Rattle.std.proofs.Common.{◌≡◌, ◌≢◌, ℕ, zero, suc, ◌==◌, List, Bool, true, false, cond, refl, sym, ap, ◌∙◌, subst}
use Rattle.std.proofs.Common.{Option, Some, None, option_and_then, unwrap_or, is_some}
use Rattle.std.proofs.lemmas.Bool.{false≢true, eqb-true, eqb-false}
use Rattle.ss_record.specs.Ids.{Apart, roots}
use Rattle.ss_record.specs.Kinds.{is_folder}
use Rattle.ss_tree.specs.declared.entries.Entry.{Entry}
use Rattle.ss_tree.specs.Trees.{steps, Reaches}
use Rattle.ss_tree.specs.Entries.{entry, kid_ids, above, up, entry_ids, NodesApart, IsTree, top_entry}
use Rattle.std.proofs.lemmas.Option.{none-some}
use Rattle.ss_text.proofs.Basics.{number_turned, some_same}

pub up_of : (es : List Entry) (j : ℕ) (g : Entry) (p : ℕ) → entry j es ≡ Some g → g.parent ≡ Some p → up es j ≡ p
unfolding up above
up_of es j g p q r = ap (λ o. unwrap_or (option_and_then (λ e. e.parent) o) 0) q ∙ ap (λ o. unwrap_or o 0) r

up_same : (es fs : List Entry) (j : ℕ) → entry j fs ≡ entry j es → up fs j ≡ up es j
unfolding up above
up_same es fs j q = ap (λ o. unwrap_or (option_and_then (λ e. e.parent) o) 0) q

up_none : (es : List Entry) (j : ℕ) → entry j es ≡ None → up es j ≡ 0
unfolding up above
up_none es j q = ap (λ o. unwrap_or (option_and_then (λ e. e.parent) o) 0) q

up_orphan : (es : List Entry) (j : ℕ) (g : Entry) → entry j es ≡ Some g → g.parent ≡ None → up es j ≡ 0
unfolding up above
up_orphan es j g q r = ap (λ o. unwrap_or (option_and_then (λ e. e.parent) o) 0) q ∙ ap (λ o. unwrap_or o 0) r

pub up_top : (es : List Entry) → IsTree es → up es 0 ≡ 0
up_top es t = up_orphan es 0 top_entry t.top refl

pub onward : (step : ℕ → ℕ) (top x : ℕ) → Reaches step top (step x) → Reaches step top x
unfolding steps
onward step top x r = (suc r.0, r.1)

-- the way up from a live node stays among live nodes
pub live_up : (es : List Entry) → IsTree es → (j : ℕ) → is_some (entry j es) ≡ true → is_some (entry (up es j) es) ≡ true
live_up es t j l = go (entry j es) refl l
  where
    go : (o : Option Entry) → entry j es ≡ o → is_some o ≡ true → is_some (entry (up es j) es) ≡ true
    go None q l2 = absurd (false≢true l2)
    go (Some g) q l2 = at (j == 0) refl
      where
        at : (b : Bool) → (j == 0) ≡ b → is_some (entry (up es j) es) ≡ true
        at true z = let zero_is : j ≡ 0 = eqb-true j 0 z in ap (λ i. is_some (entry i es)) (ap (up es) zero_is ∙ up_top es t) ∙ ap is_some t.top
        at false z = let f = t.folder j g q (eqb-false j 0 z) in ap (λ i. is_some (entry i es)) (up_of es j g f.0 q f.1) ∙ ap is_some f.3

pub live_steps : (es : List Entry) → IsTree es → (i j : ℕ) → is_some (entry j es) ≡ true → is_some (entry (steps (up es) i j) es) ≡ true
unfolding steps
live_steps es t zero j l = l
live_steps es t (suc i) j l = live_steps es t i (up es j) (live_up es t j l)

-- ---- one entry is new, or another one, and stands under p
module _ (es fs : List Entry) (t : IsTree es) (k p : ℕ) (e f : Entry)
    (look : (j : ℕ) → entry j fs ≡ cond (j == k) (Some e) (entry j es))
    (nodes : NodesApart fs) (ids : Apart (entry_ids fs)) (under_top : kid_ids 0 fs ≡ roots)
    (inside : (k == 0) ≡ false) (under : e.parent ≡ Some p) (below : (p == 0) ≡ false) (parent : entry p es ≡ Some f) (folder : is_folder f.item.kind ≡ true)
    (kind : (g : Entry) → entry k es ≡ Some g → is_folder e.item.kind ≡ is_folder g.item.kind)
    (away : (i : ℕ) → steps (up es) i p ≢ k) where
  look_other : (j : ℕ) → (j == k) ≡ false → entry j fs ≡ entry j es
  look_other j q = look j ∙ ap (λ b. cond b (Some e) (entry j es)) q

  look_here : (j : ℕ) → (j == k) ≡ true → entry j fs ≡ Some e
  look_here j q = look j ∙ ap (λ b. cond b (Some e) (entry j es)) q

  apart : (i : ℕ) → (steps (up es) i p == k) ≡ false
  apart i = go (steps (up es) i p == k) refl
    where
      go : (b : Bool) → (steps (up es) i p == k) ≡ b → b ≡ false
      go true q = absurd (away i (eqb-true (steps (up es) i p) k q))
      go false q = refl

  near : (p == k) ≡ false
  unfolding steps
  near = apart zero

  -- the way from p is as it was
  away_same : (i n : ℕ) → steps (up fs) n (steps (up es) i p) ≡ steps (up es) n (steps (up es) i p)
  unfolding steps
  away_same i zero = refl
  away_same i (suc n) = ap (steps (up fs) n) (up_same es fs (steps (up es) i p) (look_other (steps (up es) i p) (apart i)) ∙ next i p) ∙ (away_same (suc i) n ∙ ap (steps (up es) n) (sym (next i p)))
    where
      next : (m x : ℕ) → up es (steps (up es) m x) ≡ steps (up es) (suc m) x
      next zero x = refl
      next (suc m) x = next m (up es x)

  from_parent : Reaches (up fs) 0 p
  unfolding steps
  from_parent = let r = t.reaches p f parent in (r.0, away_same zero r.0 ∙ r.1)

  up_here : (j : ℕ) → (j == k) ≡ true → up fs j ≡ p
  up_here j q = up_of fs j e p (look_here j q) under

  ends : (n j : ℕ) → steps (up es) n j ≡ 0 → Reaches (up fs) 0 j
  unfolding steps
  ends zero j q = (zero, q)
  ends (suc n) j q = go (j == k) refl (ends n (up es j) q)
    where
      go : (b : Bool) → (j == k) ≡ b → Reaches (up fs) 0 (up es j) → Reaches (up fs) 0 j
      go true c r = (suc from_parent.0, ap (steps (up fs) from_parent.0) (up_here j c) ∙ from_parent.1)
      go false c r = (suc r.0, ap (steps (up fs) r.0) (up_same es fs j (look_other j c)) ∙ r.1)

  pub changed_tree : IsTree fs
  changed_tree = record {
    nodes = nodes;
    ids = ids;
    top = look_other 0 (number_turned 0 k ∙ inside) ∙ t.top;
    under_top = under_top;
    root_folder = λ j g q r. at_root j g q r (j == k) refl;
    folder = λ j g q ne. at_folder j g q ne (j == k) refl;
    reaches = λ j g q. at_reach j g q (j == k) refl;
  }
    where
      at_root : (j : ℕ) (g : Entry) → entry j fs ≡ Some g → g.parent ≡ Some 0 → (b : Bool) → (j == k) ≡ b → is_folder g.item.kind ≡ true
      at_root j g q r true c = let same : e ≡ g = some_same (sym (look_here j c) ∙ q) in absurd (eqb-false p 0 below (some_same (sym under ∙ (ap (λ x. x.parent) same ∙ r))))
      at_root j g q r false c = t.root_folder j g (sym (look_other j c) ∙ q) r

      found : (q : ℕ) (h : Entry) → entry q es ≡ Some h → is_folder h.item.kind ≡ true → (b : Bool) → (q == k) ≡ b → (m : Entry) × (entry q fs ≡ Some m) × (is_folder m.item.kind ≡ true)
      found q h r d true c = (e, look_here q c, kind h (ap (λ i. entry i es) (sym (eqb-true q k c)) ∙ r) ∙ d)
      found q h r d false c = (h, look_other q c ∙ r, d)

      at_folder : (j : ℕ) (g : Entry) → entry j fs ≡ Some g → j ≢ 0 → (b : Bool) → (j == k) ≡ b → (q : ℕ) × (g.parent ≡ Some q) × (m : Entry) × (entry q fs ≡ Some m) × (is_folder m.item.kind ≡ true)
      at_folder j g q ne true c = let same : e ≡ g = some_same (sym (look_here j c) ∙ q) in (p, ap (λ x. x.parent) (sym same) ∙ under, f, look_other p near ∙ parent, folder)
      at_folder j g q ne false c = let h = t.folder j g (sym (look_other j c) ∙ q) ne in let m = found h.0 h.2 h.3 h.4 (h.0 == k) refl in (h.0, h.1, m.0, m.1, m.2)

      at_reach : (j : ℕ) (g : Entry) → entry j fs ≡ Some g → (b : Bool) → (j == k) ≡ b → Reaches (up fs) 0 j
      at_reach j g q true c = onward (up fs) 0 j (subst (Reaches (up fs) 0) (sym (up_here j c)) from_parent)
      at_reach j g q false c = let r = t.reaches j g (sym (look_other j c) ∙ q) in ends r.0 j r.1

-- ---- a leaf is taken away
module _ (es fs : List Entry) (t : IsTree es) (k : ℕ)
    (look : (j : ℕ) → entry j fs ≡ cond (k == j) None (entry j es))
    (nodes : NodesApart fs) (ids : Apart (entry_ids fs)) (under_top : kid_ids 0 fs ≡ roots)
    (inside : (k == 0) ≡ false)
    (leaf : (j : ℕ) (g : Entry) → entry j es ≡ Some g → g.parent ≡ Some k → ⊥) where
  kept : (j : ℕ) → (k == j) ≡ false → entry j fs ≡ entry j es
  kept j q = look j ∙ ap (λ b. cond b None (entry j es)) q

  still : (j : ℕ) (g : Entry) → entry j fs ≡ Some g → ((k == j) ≡ false) × (entry j es ≡ Some g)
  still j g q = go (k == j) refl
    where
      go : (b : Bool) → (k == j) ≡ b → ((k == j) ≡ false) × (entry j es ≡ Some g)
      go true c = absurd (none-some _ (sym (look j ∙ ap (λ b. cond b None (entry j es)) c) ∙ q))
      go false c = (c, sym (kept j c) ∙ q)

  not_leaf : (j : ℕ) → (k == up es j) ≡ false
  not_leaf j = go (k == up es j) refl
    where
      parent : (g : Entry) (o : Option ℕ) → entry j es ≡ Some g → g.parent ≡ o → k ≡ up es j → ⊥
      parent g None q r e = eqb-false k 0 inside (e ∙ up_orphan es j g q r)
      parent g (Some p) q r e = leaf j g q (r ∙ ap Some (sym (e ∙ up_of es j g p q r)))

      at : (o : Option Entry) → entry j es ≡ o → k ≡ up es j → ⊥
      at None q e = eqb-false k 0 inside (e ∙ up_none es j q)
      at (Some g) q e = parent g g.parent q refl e

      go : (b : Bool) → (k == up es j) ≡ b → b ≡ false
      go true c = absurd (at (entry j es) refl (eqb-true k (up es j) c))
      go false c = refl

  way_kept : (n j : ℕ) → (k == j) ≡ false → steps (up es) n j ≡ 0 → steps (up fs) n j ≡ 0
  unfolding steps
  way_kept zero j q e = e
  way_kept (suc n) j q e = ap (steps (up fs) n) (up_same es fs j (kept j q)) ∙ way_kept n (up es j) (not_leaf j) e

  pub leafless_tree : IsTree fs
  leafless_tree = record {
    nodes = nodes;
    ids = ids;
    top = kept 0 inside ∙ t.top;
    under_top = under_top;
    root_folder = λ j g q r. t.root_folder j g (still j g q).1 r;
    folder = λ j g q ne. let h = t.folder j g (still j g q).1 ne in (h.0, h.1, h.2, kept h.0 (at_parent j g h.0 (still j g q).1 h.1) ∙ h.3, h.4);
    reaches = λ j g q. let s = still j g q in let r = t.reaches j g s.1 in (r.0, way_kept r.0 j s.0 r.1);
  }
    where
      at_parent : (j : ℕ) (g : Entry) (p : ℕ) → entry j es ≡ Some g → g.parent ≡ Some p → (k == p) ≡ false
      at_parent j g p q r = ap (λ i. k == i) (sym (up_of es j g p q r)) ∙ not_leaf j

-- ---- an entry has another content or time
module _ (es fs : List Entry) (t : IsTree es) (k : ℕ) (e d : Entry)
    (look : (j : ℕ) → entry j fs ≡ cond (j == k) (Some e) (entry j es))
    (nodes : NodesApart fs) (ids : Apart (entry_ids fs)) (under_top : kid_ids 0 fs ≡ roots)
    (inside : (k == 0) ≡ false) (before : entry k es ≡ Some d) (parent : e.parent ≡ d.parent) (kind : is_folder e.item.kind ≡ is_folder d.item.kind) where
  seen : (j : ℕ) (g : Entry) → entry j fs ≡ Some g → (h : Entry) × (entry j es ≡ Some h) × (g.parent ≡ h.parent) × (is_folder g.item.kind ≡ is_folder h.item.kind)
  seen j g q = go (j == k) refl
    where
      go : (b : Bool) → (j == k) ≡ b → (h : Entry) × (entry j es ≡ Some h) × (g.parent ≡ h.parent) × (is_folder g.item.kind ≡ is_folder h.item.kind)
      go true c = let same : e ≡ g = some_same (sym (look j ∙ ap (λ b. cond b (Some e) (entry j es)) c) ∙ q) in (d, ap (λ i. entry i es) (eqb-true j k c) ∙ before, ap (λ x. x.parent) (sym same) ∙ parent, ap (λ x. is_folder x.item.kind) (sym same) ∙ kind)
      go false c = (g, sym (look j ∙ ap (λ b. cond b (Some e) (entry j es)) c) ∙ q, refl, refl)

  shown : (j : ℕ) (h : Entry) → entry j es ≡ Some h → is_folder h.item.kind ≡ true → (g : Entry) × (entry j fs ≡ Some g) × (is_folder g.item.kind ≡ true)
  shown j h q f = go (j == k) refl
    where
      go : (b : Bool) → (j == k) ≡ b → (g : Entry) × (entry j fs ≡ Some g) × (is_folder g.item.kind ≡ true)
      go true c = let same : h ≡ d = some_same (sym q ∙ (ap (λ i. entry i es) (eqb-true j k c) ∙ before)) in (e, look j ∙ ap (λ b. cond b (Some e) (entry j es)) c, kind ∙ (ap (λ x. is_folder x.item.kind) (sym same) ∙ f))
      go false c = (h, look j ∙ (ap (λ b. cond b (Some e) (entry j es)) c ∙ q), f)

  ups : (j : ℕ) → up fs j ≡ up es j
  unfolding up above
  ups j = go (j == k) refl
    where
      go : (b : Bool) → (j == k) ≡ b → unwrap_or (option_and_then (λ x. x.parent) (entry j fs)) 0 ≡ unwrap_or (option_and_then (λ x. x.parent) (entry j es)) 0
      go true c =
          ap (λ o. unwrap_or (option_and_then (λ x. x.parent) o) 0) (look j ∙ ap (λ b. cond b (Some e) (entry j es)) c)
          ∙ (ap (λ o. unwrap_or o 0) parent ∙ ap (λ o. unwrap_or (option_and_then (λ x. x.parent) o) 0) (sym (ap (λ i. entry i es) (eqb-true j k c) ∙ before)))
      go false c = ap (λ o. unwrap_or (option_and_then (λ x. x.parent) o) 0) (look j ∙ ap (λ b. cond b (Some e) (entry j es)) c)

  all_steps : (n j : ℕ) → steps (up fs) n j ≡ steps (up es) n j
  unfolding steps
  all_steps zero j = refl
  all_steps (suc n) j = ap (steps (up fs) n) (ups j) ∙ all_steps n (up es j)

  pub revised_tree : IsTree fs
  revised_tree = record {
    nodes = nodes;
    ids = ids;
    top = look 0 ∙ (ap (λ b. cond b (Some e) (entry 0 es)) (number_turned 0 k ∙ inside) ∙ t.top);
    under_top = under_top;
    root_folder = λ j g q r. let s = seen j g q in s.3 ∙ t.root_folder j s.0 s.1 (sym s.2 ∙ r);
    folder = λ j g q ne. let s = seen j g q in let h = t.folder j s.0 s.1 ne in let m = shown h.0 h.2 h.3 h.4 in (h.0, s.2 ∙ h.1, m.0, m.1, m.2);
    reaches = λ j g q. let s = seen j g q in let r = t.reaches j s.0 s.1 in (r.0, all_steps r.0 j ∙ r.1);
  }
