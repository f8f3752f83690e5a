-- Nodes of an item and of all below it, as they can be removed.
use Rattle.std.proofs.Common.{◌≡◌, ◌≢◌, ◌⊎◌, ℕ, zero, suc, ◌+◌, ◌-◌, ◌<◌, ◌≤◌, ◌==◌, nat_eq, List, [], ◌∷◌, ◌++◌, map}
use Rattle.std.proofs.Common.{filter, length, Bool, true, false, cond, ◌||◌, refl, sym, ap, subst, ◌∙◌, arith, inl, inr}
use Rattle.std.proofs.Common.{Option, Some, None, option_map, option_and_then, unwrap_or, is_some}
use Rattle.std.specs.Cmp.{both_ways, nat_eq_equiv}
use Rattle.std.specs.List.{flat_map, IsDistinct}
use Rattle.std.specs.Set.{is_member}
use Rattle.std.proofs.lemmas.Bool.{false≢true, eqb-true, cases_lt, or_cases, eqb-false, eq-eqb}
use Rattle.std.proofs.lemmas.Map.Made.{length-le_from_is_member}
use Rattle.ss_record.specs.Items.{ItemView}
use Rattle.ss_list.specs.Chain.{times}
use Rattle.ss_list.proofs.Times.{at_head, times-here, times-append}
use Rattle.ss_tree.specs.declared.entries.Entry.{Entry}
use Rattle.ss_tree.specs.Trees.{node, steps}
use Rattle.ss_tree.specs.Entries.{above, ancestor, entry, is_below, is_live, kids, node_of, placed, preorder}
use Rattle.ss_tree.specs.Entries.{stands_under, top_entry, tree, up, IsBelow, IsTree}
use Rattle.ss_tree.specs.Entries as entries
use Rattle.ss_tree.proofs.Changes.{up_of}
use Rattle.ss_tree.proofs.EachMet.{each_met}
use Rattle.ss_tree.proofs.Once.{once_each}
use Rattle.ss_tree.proofs.Valid.{In, under_from}
use Rattle.ss_tree.proofs.Ways.{walk, length-walk, member_walk, all_apart, distinct_walk, live_member, length-nodes}
use Rattle.ss_tree.proofs.Ways.{stays, steps_add, first_zero, below_is, up_some}
use Rattle.ss_tree.proofs.Changes.{live_steps}
use Rattle.ss_device.specs.Edits.{is_fixed, is_within}
use Rattle.ss_device.specs.Removal.{CanGo, among}
use Rattle.ss_device.proofs.Changes.{kid_there, times_in}
use Rattle.ss_device.proofs.Refused.{fixed_is, there, within_node}
use Rattle.ss_text.proofs.Basics.{some_same, none_some}

-- ---- membership

pub in_left : {X : Type 0} (x : X) (xs ys : List X) → In x xs → In x (xs ++ ys)
unfolding In
in_left x [] ys i = absurd i
in_left x (z ∷ xs) ys (inl q) = inl q
in_left x (z ∷ xs) ys (inr i) = inr (in_left x xs ys i)

pub in_right : {X : Type 0} (x : X) (xs ys : List X) → In x ys → In x (xs ++ ys)
unfolding In
in_right x [] ys i = i
in_right x (z ∷ xs) ys i = inr (in_right x xs ys i)

pub in_filter : (p : ℕ → Bool) (x : ℕ) (xs : List ℕ) → In x xs → p x ≡ true → In x (filter p xs)
unfolding In
in_filter p x [] i h = absurd i
in_filter p x (y ∷ ys) (inl q) h = subst (λ b. In x (cond b (y ∷ filter p ys) (filter p ys))) (sym (ap p (sym q) ∙ h)) (inl q)
in_filter p x (y ∷ ys) (inr i) h = go (p y) (in_filter p x ys i h)
  where
    go : (b : Bool) → In x (filter p ys) → In x (cond b (y ∷ filter p ys) (filter p ys))
    go true r = inr r
    go false r = r

pub filter_in : (p : ℕ → Bool) (x : ℕ) (xs : List ℕ) → In x (filter p xs) → In x xs × (p x ≡ true)
unfolding In
filter_in p x [] i = absurd i
filter_in p x (y ∷ ys) i = go (p y) refl i (filter_in p x ys)
  where
    go : (b : Bool) → p y ≡ b → In x (cond b (y ∷ filter p ys) (filter p ys)) → (In x (filter p ys) → In x ys × (p x ≡ true)) → ((x ≡ y) ⊎ In x ys) × (p x ≡ true)
    go true q (inl s) ih = (inl s, ap p s ∙ q)
    go true q (inr r) ih = let h = ih r in (inr h.0, h.1)
    go false q r ih = let h = ih r in (inr h.0, h.1)

pub among_in : (k : ℕ) (ks : List ℕ) → among k ks ≡ true → In k ks
unfolding In
among_in k [] h = absurd (false≢true h)
among_in k (j ∷ js) h = go (k == j) refl h (among_in k js)
  where
    go : (b : Bool) → (k == j) ≡ b → (b || among k js) ≡ true → (among k js ≡ true → In k js) → (k ≡ j) ⊎ In k js
    go true q r ih = inl (eqb-true k j q)
    go false q r ih = inr (ih r)

pub in_among : (k : ℕ) (ks : List ℕ) → In k ks → among k ks ≡ true
unfolding In
in_among k [] i = absurd i
in_among k (j ∷ js) (inl q) = ap (λ b. b || among k js) (eq-eqb k j q)
in_among k (j ∷ js) (inr i) = go (k == j) (in_among k js i)
  where
    go : (b : Bool) → among k js ≡ true → (b || among k js) ≡ true
    go true r = refl
    go false r = r

-- ---- each node comes before its children

abbrev pub Later : List Entry → List ℕ → Type 0
Later es [] = Unit {0}
Later es (k ∷ ks) = ((j : ℕ) → In j (kids k es) → In j ks) × Later es ks

pub later_append : (es : List Entry) (ks js : List ℕ) → Later es ks → Later es js → Later es (ks ++ js)
later_append es [] js h g = g
later_append es (k ∷ ks) js h g = (λ j i. in_left j ks js (h.0 j i), later_append es ks js h.1 g)

in_flat : (f : ℕ → List ℕ) (ks : List ℕ) (c j : ℕ) → In c ks → In j (f c) → In j (flat_map f ks)
unfolding In
in_flat f [] c j i h = absurd i
in_flat f (k ∷ ks) c j (inl q) h = in_left j (f k) (flat_map f ks) (subst (λ z. In j (f z)) q h)
in_flat f (k ∷ ks) c j (inr i) h = in_right j (f k) (flat_map f ks) (in_flat f ks c j i h)

later_flat : (es : List Entry) (f : ℕ → List ℕ) (ks : List ℕ) → ((c : ℕ) → In c ks → Later es (f c)) → Later es (flat_map f ks)
unfolding In
later_flat es f [] h = tt
later_flat es f (k ∷ ks) h = later_append es (f k) (flat_map f ks) (h k (inl refl)) (later_flat es f ks (λ c i. h c (inr i)))

-- so many levels are enough
abbrev pub Full : List Entry → ℕ → ℕ → Type 0
Full es zero k = ⊥
Full es (suc n) k = (j : ℕ) → In j (kids k es) → Full es n j

pub full_head : (es : List Entry) (n k : ℕ) → Full es n k → In k (preorder es n k)
unfolding preorder In
full_head es zero k f = absurd f
full_head es (suc n) k f = inl refl

later_preorder : (es : List Entry) (n k : ℕ) → Full es n k → Later es (preorder es n k)
unfolding preorder
later_preorder es zero k f = absurd f
later_preorder es (suc n) k f =
    (λ j i. in_flat (preorder es n) (kids k es) j j i (full_head es n j (f j i)), later_flat es (preorder es n) (kids k es) (λ c i. later_preorder es n c (f c i)))

module _ (es : List Entry) (t : IsTree es) where
  too_long : (k m : ℕ) (e : Entry) → entry k es ≡ Some e → steps (up es) m k ≡ 0 → ((i : ℕ) → i < m → steps (up es) i k ≢ 0) → m ≡ length es → ⊥
  unfolding IsDistinct
  too_long k m e q ends first full =
      let l : length (0 ∷ walk (up es) m k) ≤ length (map (λ d. d.node) es) =
      length-le_from_is_member nat_eq_equiv (0 ∷ walk (up es) m k) (map (λ d. d.node) es) (all_apart 0 (walk (up es) m k) (fresh (is_member nat_eq (walk (up es) m k) 0) refl), distinct_walk (up es) m k ends first) each in
      let a : length (walk (up es) m k) ≡ m = length-walk (up es) m k in
      let b : length (map (λ d. d.node) es) ≡ length es = length-nodes es in
      omega arith
    where
      fresh : (b : Bool) → is_member nat_eq (walk (up es) m k) 0 ≡ b → b ≡ false
      fresh false w = refl
      fresh true w = let r = member_walk (up es) m k 0 w in absurd (first r.0 r.1 r.2)

      each : (z : ℕ) → is_member nat_eq (0 ∷ walk (up es) m k) z ≡ true → is_member nat_eq (map (λ d. d.node) es) z ≡ true
      each z h = elim (or_cases (nat_eq z 0) (is_member nat_eq (walk (up es) m k) z) h) [
        | inl a ↦ live_member z es (ap (λ n. is_some (entry n es)) (eqb-true z 0 a) ∙ ap is_some t.top)
        | inr b ↦ let w = member_walk (up es) m k z b in live_member z es (ap (λ i. is_some (entry i es)) (sym w.2) ∙ live_steps es t w.0 k (ap is_some q))
      ]

  full_at : (n k m : ℕ) (e : Entry) → entry k es ≡ Some e → steps (up es) m k ≡ 0 → ((i : ℕ) → i < m → steps (up es) i k ≢ 0) → n + m ≡ length es → Full es n k
  unfolding steps
  full_at zero k m e q ends first sum = too_long k m e q ends first (omega arith)
  full_at (suc n) k m e q ends first sum = λ j i.
      let g = kid_there es t k j i in
      let step : up es j ≡ k = up_of es j g.0 k g.1 g.2 in
      full_at n j (suc m) g.0 g.1 (ap (steps (up es) m) step ∙ ends) (far j g.0 g.1 g.2 step) (omega arith)
    where
      far : (j : ℕ) (d : Entry) → entry j es ≡ Some d → d.parent ≡ Some k → up es j ≡ k → (i : ℕ) → i < suc m → steps (up es) i j ≢ 0
      far j d r p step zero lt z =
          let top : d ≡ top_entry = some_same (sym r ∙ (ap (λ n. entry n es) z ∙ t.top)) in
          none_some (ap (λ (w : Entry). w.parent) (sym top) ∙ p)
      far j d r p step (suc i) lt z = first i (omega arith) (ap (steps (up es) i) (sym step) ∙ z)

  pub full_top : Full es (length es) 0
  unfolding steps
  full_top = full_at (length es) 0 0 top_entry t.top refl (λ i lt. absurd (omega arith)) (omega arith)

  pub later_all : Later es (preorder es (length es) 0)
  later_all = later_preorder es (length es) 0 full_top

-- ---- what is left of it by a test

pub later_filter : (es : List Entry) (p : ℕ → Bool) → ((k j : ℕ) → p k ≡ true → In j (kids k es) → p j ≡ true) → (ks : List ℕ) → Later es ks → Later es (filter p ks)
later_filter es p closed [] h = tt
later_filter es p closed (k ∷ ks) h = go (p k) refl (later_filter es p closed ks h.1)
  where
    go : (b : Bool) → p k ≡ b → Later es (filter p ks) → Later es (cond b (k ∷ filter p ks) (filter p ks))
    go true q ih = (λ j i. in_filter p j ks (h.0 j i) (closed k j q i), ih)
    go false q ih = ih

later_split : (es : List Entry) (front : List ℕ) (k : ℕ) (back : List ℕ) → Later es (front ++ k ∷ back) → (j : ℕ) → In j (kids k es) → In j back
later_split es [] k back h j i = h.0 j i
later_split es (f ∷ front) k back h j i = later_split es front k back h.1 j i

times_filter : (p : ℕ → Bool) (k : ℕ) (ks : List ℕ) → times k (filter p ks) ≤ times k ks
times_filter p k [] = omega arith
times_filter p k (j ∷ js) = go (p j) (times_filter p k js)
  where
    go : (b : Bool) → times k (filter p js) ≤ times k js → times k (cond b (j ∷ filter p js) (filter p js)) ≤ times k (j ∷ js)
    go true ih = elim (at_head k j js) [
      | inl a ↦ let two = a.1 in elim (at_head k j (filter p js)) [ inl c ↦ let three = c.1 in omega arith | inr d ↦ let three = d.1 in omega arith ]
      | inr b ↦ let two = b.1 in elim (at_head k j (filter p js)) [ inl c ↦ absurd (b.0 c.0) | inr d ↦ let three = d.1 in omega arith ]
    ]
    go false ih = elim (at_head k j js) [ inl a ↦ let two = a.1 in omega arith | inr b ↦ let two = b.1 in omega arith ]

-- ---- below an item

module _ (es : List Entry) (t : IsTree es) (x : List ℕ) (top : ℕ) (at : node_of x es ≡ Some top) (loose : is_fixed x ≡ false) where
  abbrev inside : ℕ → Bool
  inside k = (top == k) || is_below es top k

  top_loose : entries.is_fixed top es ≡ false
  top_loose = sym (fixed_is es t x top at) ∙ loose

  pub top_inner : (top == 0) ≡ false
  unfolding entries.is_fixed
  top_inner = go (top == 0) top_loose
    where
      go : (b : Bool) → (b || unwrap_or (option_map (stands_under 0) (entry top es)) false) ≡ false → b ≡ false
      go true h = absurd (false≢true (sym h))
      go false h = refl

  pub kid_above : (k j : ℕ) → In j (kids k es) → above es j ≡ Some k
  unfolding above
  kid_above k j i = let g = kid_there es t k j i in ap (option_and_then (λ (e : Entry). e.parent)) g.1 ∙ g.2

  pub closed : (k j : ℕ) → inside k ≡ true → In j (kids k es) → inside j ≡ true
  closed k j h i = go (top == k) refl h
    where
      yes : IsBelow es top j → inside j ≡ true
      yes b = pick (top == j) ((below_is es t top j).1 b)
        where
          pick : (c : Bool) → is_below es top j ≡ true → (c || is_below es top j) ≡ true
          pick true r = refl
          pick false r = r

      go : (b : Bool) → (top == k) ≡ b → (b || is_below es top k) ≡ true → inside j ≡ true
      go true q r = yes (0, kid_above k j i ∙ ap Some (sym (eqb-true top k q)))
      go false q r = let b = (below_is es t top k).0 r in yes (suc b.0, ap (option_and_then (ancestor es b.0)) (kid_above k j i) ∙ b.1)

  no_above_top : above es 0 ≡ None
  unfolding above
  no_above_top = ap (option_and_then (λ e. e.parent)) t.top

  top_alone : (n : ℕ) (k : ℕ) → ancestor es n 0 ≡ Some k → ⊥
  top_alone zero k h = none_some (sym no_above_top ∙ h)
  top_alone (suc n) k h = none_some (sym (ap (option_and_then (ancestor es n)) no_above_top) ∙ h)

  inside_loose : (k : ℕ) → inside k ≡ true → entries.is_fixed k es ≡ false
  unfolding entries.is_fixed above
  inside_loose k h = elim (or_cases (top == k) (is_below es top k) h) [
    | inl a ↦ ap (λ n. entries.is_fixed n es) (sym (eqb-true top k a)) ∙ top_loose
    | inr b ↦ go (entries.is_fixed k es) refl ((below_is es t top k).0 b)
  ]
    where
      not_under : (n : ℕ) → ancestor es n k ≡ Some top → above es k ≡ Some 0 → ⊥
      not_under zero q r = false≢true (sym top_inner ∙ eq-eqb top 0 (some_same (sym q ∙ r)))
      not_under (suc n) q r = top_alone n top (sym (ap (option_and_then (ancestor es n)) r) ∙ q)

      under_root : (o : Option Entry) → entry k es ≡ o → unwrap_or (option_map (stands_under 0) o) false ≡ true → above es k ≡ Some 0
      under_root None q r = absurd (false≢true r)
      under_root (Some e) q r = ap (option_and_then (λ (d : Entry). d.parent)) q ∙ under_from 0 e r

      go : (b : Bool) → entries.is_fixed k es ≡ b → IsBelow es top k → b ≡ false
      go false q r = refl
      go true q r = absurd (elim (or_cases (k == 0) (unwrap_or (option_map (stands_under 0) (entry k es)) false) q) [
        | inl a ↦ top_alone r.0 top (ap (ancestor es r.0) (sym (eqb-true k 0 a)) ∙ r.1)
        | inr b ↦ not_under r.0 r.1 (under_root (entry k es) refl b)
      ])

  order : List ℕ
  order = preorder es (length es) 0

  live_in : (k : ℕ) → In k order → is_live k es ≡ true
  unfolding order
  live_in k i = go (is_live k es) refl
    where
      go : (b : Bool) → is_live k es ≡ b → b ≡ true
      go true q = refl
      go false q =
          let none : times k (preorder es (length es) 0) ≡ 0 = once_each es t k ∙ ap (λ b. cond b 1 0) q in
          let some : 0 < times k (preorder es (length es) 0) = times_in k (preorder es (length es) 0) i in
          absurd (omega arith)

  pub can_go : (nodes : List ℕ) → nodes ≡ filter inside (preorder es (length es) 0) → CanGo es x nodes
  unfolding order
  can_go nodes is = record {
    kept = t;
    once = λ front k back q. alone front k back q;
    later = λ front k back q j i. in_among j back (later_split es front k back (subst (Later es) (sym is ∙ q) (later_filter es inside closed (preorder es (length es) 0) (later_all es t))) j (among_in j (kids k es) i));
    loose = λ k h. inside_loose k (filter_in inside k (preorder es (length es) 0) (subst (In k) is (among_in k nodes h))).1;
    live = λ k h. live_in k (filter_in inside k (preorder es (length es) 0) (subst (In k) is (among_in k nodes h))).0;
    all = λ k e q. both_ways (among k nodes) (is_within (tree es) x e.item.id)
        (λ h. within_node es t x top at top_inner k e q ∙ (filter_in inside k (preorder es (length es) 0) (subst (In k) is (among_in k nodes h))).1)
        (λ h. in_among k nodes (subst (In k) (sym is) (in_filter inside k (preorder es (length es) 0) (each_met es (preorder es (length es) 0) (once_each es t) k (ap is_some q)) (sym (within_node es t x top at top_inner k e q) ∙ h))));
  }
    where
      alone : (front : List ℕ) (k : ℕ) (back : List ℕ) → nodes ≡ front ++ k ∷ back → among k back ≡ false
      alone front k back q = go (among k back) refl
        where
          go : (b : Bool) → among k back ≡ b → b ≡ false
          go false r = refl
          go true r =
              let some : 0 < times k back = times_in k back (among_in k back r) in
              let split : times k (front ++ k ∷ back) ≡ times k front + times k (k ∷ back) = times-append k front (k ∷ back) in
              let head : times k (k ∷ back) ≡ times k back + 1 = times-here k k back refl in
              let whole : times k (filter inside (preorder es (length es) 0)) ≡ times k (front ++ k ∷ back) = ap (times k) (sym is ∙ q) in
              let few : times k (filter inside (preorder es (length es) 0)) ≤ times k (preorder es (length es) 0) = times_filter inside k (preorder es (length es) 0) in
              let most : times k (preorder es (length es) 0) ≤ 1 = elim_live (is_live k es) (once_each es t k) in
              absurd (omega arith)
            where
              elim_live : (b : Bool) → times k (preorder es (length es) 0) ≡ cond b 1 0 → times k (preorder es (length es) 0) ≤ 1
              elim_live true h = omega arith
              elim_live false h = omega arith

-- ---- no node is below itself

ancestor_steps : (es : List Entry) (n k top : ℕ) → ancestor es n k ≡ Some top → steps (up es) (suc n) k ≡ top
unfolding steps
ancestor_steps es zero k top h = up_some es k top h
ancestor_steps es (suc n) k top h = go (above es k) refl h (λ p r. ancestor_steps es n p top r)
  where
    go : (o : Option ℕ) → above es k ≡ o → option_and_then (ancestor es n) o ≡ Some top → ((p : ℕ) → ancestor es n p ≡ Some top → steps (up es) (suc n) p ≡ top) → steps (up es) (suc n) (up es k) ≡ top
    go None q r ih = absurd (none_some r)
    go (Some p) q r ih = ap (steps (up es) (suc n)) (up_some es k p q) ∙ ih p r

pub no_cycle : (es : List Entry) → IsTree es → (k : ℕ) (e : Entry) → entry k es ≡ Some e → (k == 0) ≡ false → (c : ℕ) → steps (up es) (suc c) k ≡ k → ⊥
no_cycle es t k e q inner c loop =
    let r = t.reaches k e q in
    let f = first_zero (up es) r.0 k r.1 in
    elim (cases_lt f.0 (suc c)) [
      | inl a ↦
          let split : f.0 + (suc c - f.0) ≡ suc c = omega arith in
          eqb-false k 0 inner (sym loop ∙ (ap (λ m. steps (up es) m k) (sym split) ∙ (steps_add (up es) f.0 (suc c - f.0) k ∙ (ap (steps (up es) (suc c - f.0)) f.1 ∙ stays es t (suc c - f.0)))))
      | inr b ↦
          let split : suc c + (f.0 - suc c) ≡ f.0 = omega arith in
          f.2 (f.0 - suc c) (omega arith) (ap (steps (up es) (f.0 - suc c)) (sym loop) ∙ (sym (steps_add (up es) (suc c) (f.0 - suc c) k) ∙ (ap (λ m. steps (up es) m k) split ∙ f.1)))
    ]

-- the folder of an item isn't within it
pub folder_outside : (es : List Entry) → IsTree es → (x : List ℕ) (k : ℕ) → node_of x es ≡ Some k → (k == 0) ≡ false → (p : ℕ) (f : Entry) → above es k ≡ Some p → entry p es ≡ Some f → is_within (tree es) x f.item.id ≡ false
folder_outside es t x k at inner p f up_is q = within_node es t x k at inner p f q ∙ go ((k == p) || is_below es k p) refl
  where
    e : (d : Entry) × (entry k es ≡ Some d) × (d.item.id ≡ x) × (node x (tree es) ≡ Some (placed es d))
    e = there es t x k at

    go : (b : Bool) → ((k == p) || is_below es k p) ≡ b → b ≡ false
    go false h = refl
    go true h = absurd (elim (or_cases (k == p) (is_below es k p) h) [
      | inl a ↦ no_cycle es t k e.0 e.1 inner 0 (ancestor_steps es 0 k k (up_is ∙ ap Some (sym (eqb-true k p a))))
      | inr b ↦ let below = (below_is es t k p).0 b in no_cycle es t k e.0 e.1 inner (suc below.0) (ancestor_steps es (suc below.0) k k (ap (option_and_then (ancestor es below.0)) up_is ∙ below.1))
    ])

-- the same of the folder's item
pub folder_out : (es : List Entry) → IsTree es → (x : List ℕ) (k : ℕ) → node_of x es ≡ Some k → (k == 0) ≡ false → (p : ℕ) → above es k ≡ Some p → (i : ItemView) → option_map (λ e. e.item) (entry p es) ≡ Some i → is_within (tree es) x i.id ≡ false
folder_out es t x k at inner p up_is i q = go (entry p es) refl q
  where
    go : (o : Option Entry) → entry p es ≡ o → option_map (λ (e : Entry). e.item) o ≡ Some i → is_within (tree es) x i.id ≡ false
    go None h r = absurd (none_some r)
    go (Some f) h r = ap (λ (v : ItemView). is_within (tree es) x v.id) (sym (some_same r)) ∙ folder_outside es t x k at inner p f up_is h
