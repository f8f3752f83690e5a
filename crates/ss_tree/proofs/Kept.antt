-- The calls keep a tree.
use Rattle.std.proofs.Common.{◌≡◌, ◌≢◌, ℕ, zero, suc, ◌-◌, ◌<◌, ◌≤◌, ◌==◌, List, [], ◌∷◌, map, Bool, true, false, not}
use Rattle.std.proofs.Common.{cond, ◌||◌, ◌⊎◌, inl, inr, refl, sym, ap, ap₂, ◌∙◌, subst, arith, Option, Some, None}
use Rattle.std.proofs.Common.{option_map, unwrap_or, is_some, codes, lit<}
use Rattle.std.specs.List.{flat_map}
use Rattle.std.proofs.lemmas.Bool.{false≢true, eqb-true, or_parts, and_parts, not-true, eqb-false, eq-eqb}
use Rattle.ss_record.specs.Ids.{has, Apart, places, roots}
use Rattle.ss_record.specs.Kinds.{is_folder}
use Rattle.ss_record.specs.Items.{empty_folder}
use Rattle.ss_tree.specs.declared.entries.Entry.{Entry}
use Rattle.ss_tree.specs.declared.faults.TreeFault.TheVariants.{NotFolder, Twice, BadPlace}
use Rattle.ss_tree.specs.declared.faults.MoveFault.TheVariants.{Root, NotFolder as NoFolder, Under, BadPlace as NoPlace}
use Rattle.ss_tree.specs.declared.faults.RemoveFault.TheVariants.{Root as Fixed, NotEmpty}
use Rattle.ss_tree.specs.Trees.{steps, Reaches, empty_tree, places_node}
use Rattle.ss_tree.specs.Entries.{entry, is_live, stands_under, kids, kid_ids, up, placed, tree, NodesApart, entry_ids}
use Rattle.ss_tree.specs.Entries.{top_entry, IsTree, KeepsTree, under, revised_entry, put_before, without_node}
use Rattle.ss_tree.specs.Entries.{first_of, is_below, takes_children, is_fixed, is_place, insert_fault, is_node}
use Rattle.ss_tree.specs.Entries.{move_fault, remove_fault, new_entries, is_fit_with, preorder}
use Rattle.ss_tree.proofs.Lists.{put_entry, without_entry, revise_entry}
use Rattle.ss_tree.proofs.Edits.{entry-nil, entry-cons, entry_put, entry_without, kids-cons, kids_put, kids_without}
use Rattle.ss_tree.proofs.Edits.{kid_ids-cons, kid_ids_put, kid_ids_without, nodes_put, nodes_without, ids_put}
use Rattle.ss_tree.proofs.Edits.{ids_without, id_is_free}
use Rattle.ss_tree.proofs.Changes.{onward, up_of, live_steps, changed_tree, leafless_tree, revised_tree}
use Rattle.ss_tree.proofs.Ways.{never_met}
use Rattle.ss_tree.proofs.Edits.{live_entry}
use Rattle.ss_tree.proofs.Valid.{In, entry_in}
use Rattle.std.proofs.lemmas.Option.{none-some}
use Rattle.ss_text.proofs.Basics.{own_number, number_turned, some_same}

-- ---- what no fault means

pub record Free (es : List Entry) (p : ℕ) (b : Option ℕ) : Type 0 where
  pub takes : takes_children p es ≡ true
  pub place : is_place p b es ≡ true

pub insert_free : (es : List Entry) (p : ℕ) (b : Option ℕ) (x : List ℕ) → insert_fault es p b x ≡ None → Free es p b × (has x (entry_ids es) ≡ false)
unfolding insert_fault
insert_free es p b x h = go (takes_children p es) (has x (entry_ids es)) (is_place p b es) refl refl refl h
  where
    go : (c d e : Bool) → takes_children p es ≡ c → has x (entry_ids es) ≡ d → is_place p b es ≡ e → cond (not c) (Some NotFolder) (cond d (Some Twice) (cond (not e) (Some BadPlace) None)) ≡ None → Free es p b × (has x (entry_ids es) ≡ false)
    go false d e q r s k = cc
    go true true e q r s k = cc
    go true false false q r s k = cc
    go true false true q r s k = (record { takes = q; place = s }, r)

pub record MoveFree (es : List Entry) (k p : ℕ) (b : Option ℕ) : Type 0 where
  pub loose : is_fixed k es ≡ false
  pub takes : takes_children p es ≡ true
  pub apart : (k == p) ≡ false
  pub above : is_below es k p ≡ false
  pub place : is_place p b es ≡ true
  pub other : is_node k b ≡ false

pub move_free : (es : List Entry) (k p : ℕ) (b : Option ℕ) → move_fault es k p b ≡ None → MoveFree es k p b
unfolding move_fault
move_free es k p b h = go (is_fixed k es) (takes_children p es) (k == p) (is_below es k p) (is_place p b es) (is_node k b) refl refl refl refl refl refl h
  where
    go : (u v w x y z : Bool) → is_fixed k es ≡ u → takes_children p es ≡ v → (k == p) ≡ w → is_below es k p ≡ x → is_place p b es ≡ y → is_node k b ≡ z
        → cond u (Some Root) (cond (not v) (Some NoFolder) (cond (w || x) (Some Under) (cond (not y || z) (Some NoPlace) None))) ≡ None → MoveFree es k p b
    go true v w x y z a1 a2 a3 a4 a5 a6 q = cc
    go false false w x y z a1 a2 a3 a4 a5 a6 q = cc
    go false true true x y z a1 a2 a3 a4 a5 a6 q = cc
    go false true false true y z a1 a2 a3 a4 a5 a6 q = cc
    go false true false false false z a1 a2 a3 a4 a5 a6 q = cc
    go false true false false true true a1 a2 a3 a4 a5 a6 q = cc
    go false true false false true false a1 a2 a3 a4 a5 a6 q = record { loose = a1; takes = a2; apart = a3; above = a4; place = a5; other = a6 }

pub remove_free : (es : List Entry) (k : ℕ) → remove_fault es k ≡ None → (is_fixed k es ≡ false) × (is_some (first_of (kids k es)) ≡ false)
unfolding remove_fault
remove_free es k h = go (is_fixed k es) (is_some (first_of (kids k es))) refl refl h
  where
    go : (u v : Bool) → is_fixed k es ≡ u → is_some (first_of (kids k es)) ≡ v → cond u (Some Fixed) (cond v (Some NotEmpty) None) ≡ None → (is_fixed k es ≡ false) × (is_some (first_of (kids k es)) ≡ false)
    go true v a b q = cc
    go false true a b q = cc
    go false false a b q = (a, b)

loose_parts : (k : ℕ) (es : List Entry) → is_fixed k es ≡ false → ((k == 0) ≡ false) × ((f : Entry) → entry k es ≡ Some f → stands_under 0 f ≡ false)
unfolding is_fixed
loose_parts k es h =
    let p = or_parts (k == 0) (unwrap_or (option_map (stands_under 0) (entry k es)) false) h in
    (p.0, λ f q. sym (ap (λ o. unwrap_or (option_map (stands_under 0) o) false) q) ∙ p.1)

pub takes_parts : (p : ℕ) (es : List Entry) → takes_children p es ≡ true → ((p == 0) ≡ false) × ((f : Entry) × (entry p es ≡ Some f) × (is_folder f.item.kind ≡ true))
unfolding takes_children
takes_parts p es h =
    let a = and_parts (not (p == 0)) (unwrap_or (option_map (λ e. is_folder e.item.kind) (entry p es)) false) h in
    (not-true (p == 0) a.0, go (entry p es) refl a.1)
  where
    go : (o : Option Entry) → entry p es ≡ o → unwrap_or (option_map (λ e. is_folder e.item.kind) o) false ≡ true → (f : Entry) × (entry p es ≡ Some f) × (is_folder f.item.kind ≡ true)
    go None q k = absurd (false≢true k)
    go (Some f) q k = (f, q, k)

dead : (j : ℕ) (es : List Entry) → (is_live j es ≡ true → ⊥) → entry j es ≡ None
dead j es h = go (entry j es) refl
  where
    go : (o : Option Entry) → entry j es ≡ o → entry j es ≡ None
    go None q = q
    go (Some e) q = absurd (h (ap is_some q))

-- ---- insert

pub kept_insert : (es : List Entry) (next m p : ℕ) (b : Option ℕ) (e : Entry) → KeepsTree es next → insert_fault es p b e.item.id ≡ None → entry e.node es ≡ None → e.node < m → next ≤ m → e.parent ≡ Some p → KeepsTree (put_entry b e es) m
kept_insert es next m p b e h free none inside longer under_p = record { is_tree = kept; below = low }
  where
    look : (j : ℕ) → entry j (put_entry b e es) ≡ cond (j == e.node) (Some e) (entry j es)
    look j = entry_put b e es j none

    kept : IsTree (put_entry b e es)
    kept =
        let f = insert_free es p b e.item.id free in
        let t = takes_parts p es f.0.takes in
        let top : is_live 0 es ≡ true = ap is_some h.is_tree.top in
        changed_tree es (put_entry b e es) h.is_tree e.node p e t.1.0 look (nodes_put b e es h.is_tree.nodes none) (ids_put b e es h.is_tree.ids f.1)
        (kid_ids_put 0 b e es (ap (λ o. unwrap_or (option_map (λ q. 0 == q) o) false) under_p ∙ (number_turned 0 p ∙ t.0)) ∙ h.is_tree.under_top)
        (not_top top) under_p t.0 t.1.1 t.1.2 (λ g q. absurd (none-some _ (sym none ∙ q)))
        (λ i q. no_live (ap (λ x. is_some (entry x es)) (sym q) ∙ live_steps es h.is_tree i p (ap is_some t.1.1)))
      where
        not_top : is_live 0 es ≡ true → (e.node == 0) ≡ false
        not_top top = pick (e.node == 0) refl
          where
            pick : (c : Bool) → (e.node == 0) ≡ c → c ≡ false
            pick true q = absurd (false≢true (sym (ap is_some none) ∙ (ap (λ x. is_some (entry x es)) (eqb-true e.node 0 q) ∙ top)))
            pick false q = refl

        no_live : is_some (entry e.node es) ≡ true → ⊥
        no_live l = false≢true (sym (ap is_some none) ∙ l)

    low : (j : ℕ) → is_live j (put_entry b e es) ≡ true → j < m
    low j l = pick (j == e.node) refl (sym (ap is_some (look j)) ∙ l)
      where
        pick : (c : Bool) → (j == e.node) ≡ c → is_some (cond c (Some e) (entry j es)) ≡ true → j < m
        pick true q k = let is : j ≡ e.node = eqb-true j e.node q in omega (arith, inside)
        pick false q k = let lt : j < next = h.below j k in omega (arith, longer)

pub insert_kids : (es : List Entry) (p : ℕ) (b : Option ℕ) (e : Entry) → insert_fault es p b e.item.id ≡ None → e.parent ≡ Some p → (j : ℕ) → kids j (put_entry b e es) ≡ cond (j == p) (put_before b e.node (kids j es)) (kids j es)
insert_kids es p b e free under_p j =
    let f = insert_free es p b e.item.id free in
    let is : stands_under j e ≡ (j == p) = ap (λ o. unwrap_or (option_map (λ q. j == q) o) false) under_p in
    kids_put j b e es (λ u. ap (λ i. is_place i b es) (eqb-true j p (sym is ∙ u)) ∙ f.0.place) ∙ ap (λ c. cond c (put_before b e.node (kids j es)) (kids j es)) is

-- ---- move

pub move_look : (es : List Entry) (k p : ℕ) (b : Option ℕ) (d : Entry) → entry k es ≡ Some d → (j : ℕ) → entry j (put_entry b (under p d) (without_entry k es)) ≡ cond (j == k) (Some (under p d)) (entry j es)
move_look es k p b d q j =
    let at : d.node ≡ k = (entry_in k es d q).1 in
    let none : entry d.node (without_entry k es) ≡ None = entry_without k es d.node ∙ ap (λ c. cond c None (entry d.node es)) (eq-eqb k d.node (sym at)) in
    entry_put b (under p d) (without_entry k es) j none
    ∙ (ap (λ i. cond (j == i) (Some (under p d)) (entry j (without_entry k es))) at
    ∙ (ap (cond (j == k) (Some (under p d))) (entry_without k es j) ∙ go (j == k) (k == j) (number_turned j k)))
  where
    go : (x y : Bool) → x ≡ y → cond x (Some (under p d)) (cond y None (entry j es)) ≡ cond x (Some (under p d)) (entry j es)
    go true y e = refl
    go false true e = absurd (false≢true e)
    go false false e = refl

pub moved_entry : (es : List Entry) (k p : ℕ) (b : Option ℕ) (d : Entry) → entry k es ≡ Some d → (j : ℕ) → entry j (put_entry b (under p d) (without_entry k es)) ≡ cond (j == k) (option_map (under p) (entry j es)) (entry j es)
moved_entry es k p b d q j = move_look es k p b d q j ∙ go (j == k) refl
  where
    go : (c : Bool) → (j == k) ≡ c → cond c (Some (under p d)) (entry j es) ≡ cond c (option_map (under p) (entry j es)) (entry j es)
    go true r = sym (ap (option_map (under p)) (ap (λ i. entry i es) (eqb-true j k r) ∙ q))
    go false r = refl

still_place : (es : List Entry) (k p : ℕ) (b : Option ℕ) → is_place p b es ≡ true → is_node k b ≡ false → is_place p b (without_entry k es) ≡ true
unfolding is_place
still_place es k p None h n = refl
still_place es k p (Some j) h n = ap (λ o. unwrap_or (option_map (stands_under p) o) false) (entry_without k es j ∙ ap (λ c. cond c None (entry j es)) n) ∙ h

pub move_kids : (es : List Entry) (k p : ℕ) (b : Option ℕ) (d : Entry) → entry k es ≡ Some d → move_fault es k p b ≡ None
    → (j : ℕ) → kids j (put_entry b (under p d) (without_entry k es)) ≡ cond (j == p) (put_before b k (without_node k (kids j es))) (without_node k (kids j es))
move_kids es k p b d q free j =
    let f = move_free es k p b free in
    kids_put j b (under p d) (without_entry k es) (λ u. ap (λ i. is_place i b (without_entry k es)) (eqb-true j p u) ∙ still_place es k p b f.place f.other)
    ∙ ap₂ (λ x ks. cond (j == p) (put_before b x ks) ks) ((entry_in k es d q).1) (kids_without j k es)

pub kept_move : (es : List Entry) (next k p : ℕ) (b : Option ℕ) (d : Entry) → KeepsTree es next → move_fault es k p b ≡ None → entry k es ≡ Some d → KeepsTree (put_entry b (under p d) (without_entry k es)) next
kept_move es next k p b d h free q = record { is_tree = kept; below = low }
  where
    at : d.node ≡ k
    at = (entry_in k es d q).1

    none : entry d.node (without_entry k es) ≡ None
    none = entry_without k es d.node ∙ ap (λ c. cond c None (entry d.node es)) (eq-eqb k d.node (sym at))

    kept : IsTree (put_entry b (under p d) (without_entry k es))
    kept =
        let f = move_free es k p b free in
        let t = takes_parts p es f.takes in
        let l = loose_parts k es f.loose in
        changed_tree es (put_entry b (under p d) (without_entry k es)) h.is_tree k p (under p d) t.1.0 (move_look es k p b d q)
        (nodes_put b (under p d) (without_entry k es) (nodes_without k es h.is_tree.nodes) none)
        (ids_put b (under p d) (without_entry k es) (ids_without k es h.is_tree.ids) (id_is_free k es d h.is_tree.nodes h.is_tree.ids q))
        (kid_ids_put 0 b (under p d) (without_entry k es) (number_turned 0 p ∙ t.0) ∙ (kid_ids_without 0 k es h.is_tree.nodes l.1 ∙ h.is_tree.under_top))
        l.0 refl t.0 t.1.1 t.1.2 (λ g r. ap (λ x. is_folder x.item.kind) (some_same (sym q ∙ r)))
        (never_met es h.is_tree k p t.1.0 t.1.1 l.0 f.apart f.above)

    low : (j : ℕ) → is_live j (put_entry b (under p d) (without_entry k es)) ≡ true → j < next
    low j l = pick (j == k) refl (sym (ap is_some (move_look es k p b d q j)) ∙ l)
      where
        pick : (c : Bool) → (j == k) ≡ c → is_some (cond c (Some (under p d)) (entry j es)) ≡ true → j < next
        pick true r m = h.below j (ap (λ i. is_some (entry i es)) (eqb-true j k r) ∙ ap is_some q)
        pick false r m = h.below j m

-- ---- remove

first_there : (k j : ℕ) (es : List Entry) (g : Entry) → entry j es ≡ Some g → g.parent ≡ Some k → is_some (first_of (kids k es)) ≡ true
first_there k j [] g q r = absurd (none-some _ (sym (entry-nil j) ∙ q))
first_there k j (f ∷ fs) g q r = ap (λ ks. is_some (first_of ks)) (kids-cons k f fs) ∙ go (j == f.node) (stands_under k f) refl (sym (entry-cons j f fs) ∙ q) (λ e. first_there k j fs g e r)
  where
    go : (c u : Bool) → stands_under k f ≡ u → cond c (Some f) (entry j fs) ≡ Some g → (entry j fs ≡ Some g → is_some (first_of (kids k fs)) ≡ true) → is_some (first_of (cond u (f.node ∷ kids k fs) (kids k fs))) ≡ true
    go c true w e ih = refl
    go true false w e ih = absurd (false≢true (sym w ∙ (ap (λ x. stands_under k x) (some_same e) ∙ (ap (λ o. unwrap_or (option_map (λ p. k == p) o) false) r ∙ own_number k))))
    go false false w e ih = ih e

pub kept_remove : (es : List Entry) (next k : ℕ) → KeepsTree es next → remove_fault es k ≡ None → KeepsTree (without_entry k es) next
kept_remove es next k h free = record { is_tree = kept; below = low }
  where
    kept : IsTree (without_entry k es)
    kept =
        let f = remove_free es k free in
        let l = loose_parts k es f.0 in
        leafless_tree es (without_entry k es) h.is_tree k (entry_without k es) (nodes_without k es h.is_tree.nodes) (ids_without k es h.is_tree.ids)
        (kid_ids_without 0 k es h.is_tree.nodes l.1 ∙ h.is_tree.under_top) l.0 (λ j g q r. false≢true (sym f.1 ∙ first_there k j es g q r))

    low : (j : ℕ) → is_live j (without_entry k es) ≡ true → j < next
    low j l = pick (k == j) (sym (ap is_some (entry_without k es j)) ∙ l)
      where
        pick : (c : Bool) → is_some (cond c None (entry j es)) ≡ true → j < next
        pick true m = absurd (false≢true m)
        pick false m = h.below j m

-- ---- another content or time

pub entry_revise : (k : ℕ) (content : List ℕ) (time : ℕ) (es : List Entry) (j : ℕ) → entry j (revise_entry k content time es) ≡ cond (j == k) (option_map (revised_entry content time) (entry j es)) (entry j es)
entry_revise k content time [] j = entry-nil j ∙ go (j == k)
  where
    go : (c : Bool) → None ≡ cond c (option_map (revised_entry content time) (entry j [])) (entry j [])
    go true = sym (ap (option_map (revised_entry content time)) (entry-nil j))
    go false = sym (entry-nil j)
entry_revise k content time (f ∷ fs) j = go (k == f.node) refl (entry_revise k content time fs j)
  where
    both : (x y : Bool) → (j == f.node) ≡ x → (j == k) ≡ y → (k == f.node) ≡ true → cond x (Some (revised_entry content time f)) (cond y (option_map (revised_entry content time) (entry j fs)) (entry j fs)) ≡ cond y (option_map (revised_entry content time) (cond x (Some f) (entry j fs))) (cond x (Some f) (entry j fs))
    both true true p q c = refl
    both true false p q c = absurd (eqb-false j k q (eqb-true j f.node p ∙ sym (eqb-true k f.node c)))
    both false y p q c = refl

    none : (x y : Bool) → (j == f.node) ≡ x → (j == k) ≡ y → (k == f.node) ≡ false → cond x (Some f) (cond y (option_map (revised_entry content time) (entry j fs)) (entry j fs)) ≡ cond y (option_map (revised_entry content time) (cond x (Some f) (entry j fs))) (cond x (Some f) (entry j fs))
    none true true p q c = absurd (eqb-false k f.node c (sym (eqb-true j k q) ∙ eqb-true j f.node p))
    none true false p q c = refl
    none false y p q c = refl

    go : (c : Bool) → (k == f.node) ≡ c → entry j (revise_entry k content time fs) ≡ cond (j == k) (option_map (revised_entry content time) (entry j fs)) (entry j fs)
        → entry j (cond c (revised_entry content time f) f ∷ revise_entry k content time fs) ≡ cond (j == k) (option_map (revised_entry content time) (entry j (f ∷ fs))) (entry j (f ∷ fs))
    go true c ih = entry-cons j (revised_entry content time f) (revise_entry k content time fs) ∙ (ap (cond (j == f.node) (Some (revised_entry content time f))) ih ∙ (both (j == f.node) (j == k) refl refl c ∙ ap (λ o. cond (j == k) (option_map (revised_entry content time) o) o) (sym (entry-cons j f fs))))
    go false c ih = entry-cons j f (revise_entry k content time fs) ∙ (ap (cond (j == f.node) (Some f)) ih ∙ (none (j == f.node) (j == k) refl refl c ∙ ap (λ o. cond (j == k) (option_map (revised_entry content time) o) o) (sym (entry-cons j f fs))))

pub kids_revise : (k : ℕ) (content : List ℕ) (time : ℕ) (es : List Entry) (j : ℕ) → kids j (revise_entry k content time es) ≡ kids j es
kids_revise k content time [] j = refl
kids_revise k content time (f ∷ fs) j = go (k == f.node) (kids_revise k content time fs j)
  where
    go : (c : Bool) → kids j (revise_entry k content time fs) ≡ kids j fs → kids j (cond c (revised_entry content time f) f ∷ revise_entry k content time fs) ≡ kids j (f ∷ fs)
    go true ih = kids-cons j (revised_entry content time f) (revise_entry k content time fs) ∙ (ap (λ ks. cond (stands_under j f) (f.node ∷ ks) ks) ih ∙ sym (kids-cons j f fs))
    go false ih = kids-cons j f (revise_entry k content time fs) ∙ (ap (λ ks. cond (stands_under j f) (f.node ∷ ks) ks) ih ∙ sym (kids-cons j f fs))

kid_ids_revise : (k : ℕ) (content : List ℕ) (time : ℕ) (es : List Entry) (j : ℕ) → kid_ids j (revise_entry k content time es) ≡ kid_ids j es
kid_ids_revise k content time [] j = refl
kid_ids_revise k content time (f ∷ fs) j = go (k == f.node) (kid_ids_revise k content time fs j)
  where
    go : (c : Bool) → kid_ids j (revise_entry k content time fs) ≡ kid_ids j fs → kid_ids j (cond c (revised_entry content time f) f ∷ revise_entry k content time fs) ≡ kid_ids j (f ∷ fs)
    go true ih = kid_ids-cons j (revised_entry content time f) (revise_entry k content time fs) ∙ (ap (λ ks. cond (stands_under j f) (f.item.id ∷ ks) ks) ih ∙ sym (kid_ids-cons j f fs))
    go false ih = kid_ids-cons j f (revise_entry k content time fs) ∙ (ap (λ ks. cond (stands_under j f) (f.item.id ∷ ks) ks) ih ∙ sym (kid_ids-cons j f fs))

ids_revise : (k : ℕ) (content : List ℕ) (time : ℕ) (es : List Entry) → entry_ids (revise_entry k content time es) ≡ entry_ids es
unfolding entry_ids
ids_revise k content time [] = refl
ids_revise k content time (f ∷ fs) = go (k == f.node) (ids_revise k content time fs)
  where
    go : (c : Bool) → map (λ e. e.item.id) (revise_entry k content time fs) ≡ map (λ e. e.item.id) fs → map (λ e. e.item.id) (cond c (revised_entry content time f) f ∷ revise_entry k content time fs) ≡ f.item.id ∷ map (λ e. e.item.id) fs
    go true ih = ap (λ r. f.item.id ∷ r) ih
    go false ih = ap (λ r. f.item.id ∷ r) ih

nodes_revise : (k : ℕ) (content : List ℕ) (time : ℕ) (es : List Entry) → NodesApart es → NodesApart (revise_entry k content time es)
unfolding NodesApart
nodes_revise k content time [] a = tt
nodes_revise k content time (f ∷ fs) a = go (k == f.node) (nodes_revise k content time fs a.1)
  where
    none : entry f.node (revise_entry k content time fs) ≡ None
    none = entry_revise k content time fs f.node ∙ pick (f.node == k)
      where
        pick : (c : Bool) → cond c (option_map (revised_entry content time) (entry f.node fs)) (entry f.node fs) ≡ None
        pick true = ap (option_map (revised_entry content time)) a.0
        pick false = a.0

    go : (c : Bool) → NodesApart (revise_entry k content time fs) → NodesApart (cond c (revised_entry content time f) f ∷ revise_entry k content time fs)
    go true ih = (none, ih)
    go false ih = (none, ih)

pub kept_revise : (es : List Entry) (next k : ℕ) (content : List ℕ) (time : ℕ) (d : Entry) → KeepsTree es next → (k == 0) ≡ false → entry k es ≡ Some d → KeepsTree (revise_entry k content time es) next
kept_revise es next k content time d h inside q = record { is_tree = kept; below = low }
  where
    look : (j : ℕ) → entry j (revise_entry k content time es) ≡ cond (j == k) (Some (revised_entry content time d)) (entry j es)
    look j = entry_revise k content time es j ∙ pick (j == k) refl
      where
        pick : (c : Bool) → (j == k) ≡ c → cond c (option_map (revised_entry content time) (entry j es)) (entry j es) ≡ cond c (Some (revised_entry content time d)) (entry j es)
        pick true r = ap (option_map (revised_entry content time)) (ap (λ i. entry i es) (eqb-true j k r) ∙ q)
        pick false r = refl

    kept : IsTree (revise_entry k content time es)
    kept =
        revised_tree es (revise_entry k content time es) h.is_tree k (revised_entry content time d) d look (nodes_revise k content time es h.is_tree.nodes) (subst Apart (sym (ids_revise k content time es)) h.is_tree.ids)
        (kid_ids_revise k content time es 0 ∙ h.is_tree.under_top) inside q refl refl

    low : (j : ℕ) → is_live j (revise_entry k content time es) ≡ true → j < next
    low j l = pick (j == k) refl (sym (ap is_some (look j)) ∙ l)
      where
        pick : (c : Bool) → (j == k) ≡ c → is_some (cond c (Some (revised_entry content time d)) (entry j es)) ≡ true → j < next
        pick true r m = h.below j (ap (λ i. is_some (entry i es)) (eqb-true j k r) ∙ ap is_some q)
        pick false r m = h.below j m

-- ---- a new tree

here : (step : ℕ → ℕ) (x : ℕ) → x ≡ 0 → Reaches step 0 x
unfolding steps
here step x z = (0, z)

record IsNew (k : ℕ) (e : Entry) : Type 0 where
  kind : is_folder e.item.kind ≡ true
  low : k < 5
  place : (k ≡ 0) ⊎ (e.parent ≡ Some 0)

a_root : (n k : ℕ) (r e : Entry) → r.node ≡ n → n < 5 → is_folder r.item.kind ≡ true → r.parent ≡ Some 0 → e ≡ r → e.node ≡ k → IsNew k e
a_root n k r e at low kind p same is = record {
  kind = ap (λ x. is_folder x.item.kind) same ∙ kind;
  low = subst (λ x. x < 5) (sym at ∙ (ap (λ x. x.node) (sym same) ∙ is)) low;
  place = inr (ap (λ x. x.parent) same ∙ p);
}

of_new : (k : ℕ) (e : Entry) → In e new_entries → e.node ≡ k → IsNew k e
unfolding In
of_new k e (inl same) is = record {
  kind = ap (λ x. is_folder x.item.kind) same;
  low = subst (λ x. x < 5) (ap (λ x. x.node) (sym same) ∙ is) (lit< tt);
  place = inl (sym is ∙ ap (λ x. x.node) same);
}
of_new k e (inr (inl same)) is = a_root 1 k (record { node = 1; parent = Some 0; item = empty_folder (codes "menu"); time = 0 }) e refl (lit< tt) refl refl same is
of_new k e (inr (inr (inl same))) is = a_root 2 k (record { node = 2; parent = Some 0; item = empty_folder (codes "toolbar"); time = 0 }) e refl (lit< tt) refl refl same is
of_new k e (inr (inr (inr (inl same)))) is = a_root 3 k (record { node = 3; parent = Some 0; item = empty_folder (codes "unfiled"); time = 0 }) e refl (lit< tt) refl refl same is
of_new k e (inr (inr (inr (inr (inl same))))) is = a_root 4 k (record { node = 4; parent = Some 0; item = empty_folder (codes "mobile"); time = 0 }) e refl (lit< tt) refl refl same is
of_new k e (inr (inr (inr (inr (inr i))))) is = absurd i

new_node : (k : ℕ) (e : Entry) → entry k new_entries ≡ Some e → IsNew k e
new_node k e q = let i = entry_in k new_entries e q in of_new k e i.0 i.1

new_top : entry 0 new_entries ≡ Some top_entry
unfolding entry
new_top = refl

new_roots : kid_ids 0 new_entries ≡ roots
unfolding kid_ids roots
new_roots = refl

new_apart : Apart (entry_ids new_entries)
unfolding entry_ids places Apart has
new_apart = (refl, (refl, (refl, (refl, (refl, tt)))))

new_nodes : NodesApart new_entries
unfolding NodesApart entry
new_nodes = (refl, (refl, (refl, (refl, (refl, tt)))))

pub new_tree : IsTree new_entries
new_tree = record {
  nodes = new_nodes;
  ids = new_apart;
  top = new_top;
  under_top = new_roots;
  root_folder = λ k e q r. (new_node k e q).kind;
  folder = λ k e q ne. at_folder k e ne (new_node k e q).place;
  reaches = λ k e q. way k e q (new_node k e q).place;
}
  where
    at_folder : (k : ℕ) (e : Entry) → k ≢ 0 → (k ≡ 0) ⊎ (e.parent ≡ Some 0) → (p : ℕ) × (e.parent ≡ Some p) × (f : Entry) × (entry p new_entries ≡ Some f) × (is_folder f.item.kind ≡ true)
    at_folder k e ne (inl z) = absurd (ne z)
    at_folder k e ne (inr r) = (0, r, top_entry, new_top, refl)

    way : (k : ℕ) (e : Entry) → entry k new_entries ≡ Some e → (k ≡ 0) ⊎ (e.parent ≡ Some 0) → Reaches (up new_entries) 0 k
    way k e q (inl z) = here (up new_entries) k z
    way k e q (inr r) = onward (up new_entries) 0 k (here (up new_entries) (up new_entries k) (up_of new_entries k e 0 q r))

pub new_numbered : (k : ℕ) → is_live k new_entries ≡ true → k < 5
new_numbered k l = go (entry k new_entries) refl l
  where
    go : (o : Option Entry) → entry k new_entries ≡ o → is_some o ≡ true → k < 5
    go None q m = absurd (false≢true m)
    go (Some e) q m = (new_node k e q).low

pub new_same : tree new_entries ≡ empty_tree
unfolding tree placed kid_ids entry empty_tree places_node places roots
new_same = refl

-- ---- with the premises as the calls have them

pub kept_set : (es : List Entry) (next k : ℕ) (content : List ℕ) (time : ℕ) → KeepsTree es next → (k == 0) ≡ false → is_fit_with content k es ≡ true → KeepsTree (revise_entry k content time es) next
kept_set es next k content time h inside fit = go (entry k es) refl (live_entry k es content fit)
  where
    go : (o : Option Entry) → entry k es ≡ o → is_some o ≡ true → KeepsTree (revise_entry k content time es) next
    go None q l = absurd (false≢true l)
    go (Some d) q l = kept_revise es next k content time d h inside q

pub preorder_more : (es : List Entry) (levels k : ℕ) → levels ≢ 0 → preorder es levels k ≡ k ∷ flat_map (preorder es (levels - 1)) (kids k es)
unfolding preorder
preorder_more es zero k ne = absurd (ne refl)
preorder_more es (suc n) k ne = let one : n ≡ suc n - 1 = omega arith in ap (λ m. k ∷ flat_map (preorder es m) (kids k es)) one
