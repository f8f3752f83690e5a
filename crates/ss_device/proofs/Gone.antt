-- What is left of a tree when an item has gone with all below it.
use Rattle.std.proofs.Common.{◌≡◌, ◌⊎◌, ℕ, zero, suc, ◌+◌, ◌<◌, ◌==◌, List, [], ◌∷◌, ◌++◌, map, filter, not, length}
use Rattle.std.proofs.Common.{get_or, take, Bool, true, false, cond, ◌||◌, refl, sym, ap, ap₂, ◌∙◌, inl, inr, arith}
use Rattle.std.proofs.Common.{Option, Some, None, option_map, option_and_then, unwrap_or, is_some, bytes_eq}
use Rattle.std.specs.Cmp.{both_ways}
use Rattle.std.proofs.lemmas.Bool.{false≢true, eq-eqb}
use Rattle.std.proofs.lemmas.List.{take_more}
use Rattle.ss_record.specs.Ids.{has, places}
use Rattle.ss_record.specs.Items.{ItemView}
use Rattle.ss_record.proofs.IdLists.{has-nil, has-cons}
use Rattle.ss_tree.specs.declared.entries.Entry.{Entry}
use Rattle.ss_tree.specs.declared.faults.RemoveFault.TheVariants.{Root as Fixed, NotEmpty}
use Rattle.ss_tree.specs.Trees.{PlacedItem, node, parent_in}
use Rattle.ss_tree.specs.Entries.{above, ancestor, entry, first_of, is_below, is_fixed as is_fixed_node, is_live, kids}
use Rattle.ss_tree.specs.Entries.{node_of, placed, remove_fault, stands_under, tree, without_node, IsTree}
use Rattle.ss_tree.proofs.EachMet.{in_times}
use Rattle.ss_tree.proofs.Kin.{entry_kid}
use Rattle.ss_tree.proofs.Valid.{In, node_found, in_entry}
use Rattle.ss_tree.proofs.Ways.{below_is}
use Rattle.ss_device.specs.Edits.{is_fixed, is_met, is_within, left_node, without_id}
use Rattle.ss_device.specs.Removal.{CanGo, among}
use Rattle.ss_device.proofs.ByIds.{idof, name_at, made, placed_is, at_entry, no_entry, by_entry}
use Rattle.ss_device.proofs.Changes.{above_there, kid_there, names_same, names_without, names-append}
use Rattle.ss_device.proofs.Going.{among_in, closed, filter_in, in_among, kid_above, top_inner}
use Rattle.ss_device.proofs.Refused.{there, top_misses, within_node}
use Rattle.ss_tree.proofs.Looked.{live_entry}
use Rattle.ss_text.proofs.Basics.{same_text, bytes_eq-same, number_turned, some_same, none_some}

-- ---- lists

pub get_in : (ks : List ℕ) (i k : ℕ) → i < length ks → k ≡ get_or ks i k → In k ks
unfolding In
get_in [] i k lt q = absurd (omega arith)
get_in (j ∷ js) zero k lt q = inl q
get_in (j ∷ js) (suc i) k lt q = inr (get_in js i k (omega arith) q)

pub name_of_item : (es : List Entry) (k : ℕ) (i : ItemView) → option_map (λ e. e.item) (entry k es) ≡ Some i → name_at es k ≡ i.id
name_of_item es k i h = go (entry k es) h
  where
    go : (o : Option Entry) → option_map (λ (e : Entry). e.item) o ≡ Some i → unwrap_or (option_map (λ (e : Entry). e.item.id) o) [] ≡ i.id
    go None r = absurd (none_some r)
    go (Some e) r = ap (λ (v : ItemView). v.id) (some_same r)

pub names_more : (es : List Entry) (ks : List ℕ) (i k : ℕ) (x : List ℕ) (old new : List (List ℕ)) → i < length ks → k ≡ get_or ks i k → name_at es k ≡ x → old ≡ map (name_at es) (take i ks) → new ≡ old ++ x ∷ [] → new ≡ map (name_at es) (take (i + 1) ks)
names_more es ks i k x old new lt is name was put =
    put ∙ (ap₂ (λ a b. a ++ b ∷ []) was (sym name) ∙ (sym (names-append (name_at es) (take i ks) (k ∷ [])) ∙ ap (map (name_at es)) (ap (λ j. take i ks ++ j ∷ []) is ∙ sym (take_more ks i k lt))))

has_names : (f : ℕ → List ℕ) (ks : List ℕ) (y : List ℕ) → has y (map f ks) ≡ true → (k : ℕ) × In k ks × (f k ≡ y)
unfolding In
has_names f [] y h = absurd (false≢true (sym (has-nil y) ∙ h))
has_names f (k ∷ ks) y h = go (bytes_eq y (f k)) refl (sym (has-cons y (f k) (map f ks)) ∙ h) (has_names f ks y)
  where
    go : (b : Bool) → bytes_eq y (f k) ≡ b → (b || has y (map f ks)) ≡ true → (has y (map f ks) ≡ true → (j : ℕ) × In j ks × (f j ≡ y)) → (j : ℕ) × ((j ≡ k) ⊎ In j ks) × (f j ≡ y)
    go true q r ih = (k, inl refl, sym (same_text y (f k) q))
    go false q r ih = let g = ih r in (g.0, inr g.1, g.2)

names_has : (f : ℕ → List ℕ) (ks : List ℕ) (k : ℕ) → In k ks → has (f k) (map f ks) ≡ true
unfolding In
names_has f [] k i = absurd i
names_has f (j ∷ js) k (inl q) = has-cons (f k) (f j) (map f js) ∙ ap (λ b. b || has (f k) (map f js)) (bytes_eq-same (f k) (f j) (ap f q))
names_has f (j ∷ js) k (inr i) = has-cons (f k) (f j) (map f js) ∙ go (bytes_eq (f k) (f j)) (names_has f js k i)
  where
    go : (b : Bool) → has (f k) (map f js) ≡ true → (b || has (f k) (map f js)) ≡ true
    go true r = refl
    go false r = r

filter_same : (p q : ℕ → Bool) (ks : List ℕ) → ((k : ℕ) → In k ks → p k ≡ q k) → filter p ks ≡ filter q ks
unfolding In
filter_same p q [] h = refl
filter_same p q (k ∷ ks) h = ap₂ (λ b r. cond b (k ∷ r) r) (h k (inl refl)) (filter_same p q ks (λ j i. h j (inr i)))

filter_none : (p : ℕ → Bool) (ks : List ℕ) → ((k : ℕ) → In k ks → p k ≡ false) → filter p ks ≡ []
unfolding In
filter_none p [] h = refl
filter_none p (k ∷ ks) h = ap (λ b. cond b (k ∷ filter p ks) (filter p ks)) (h k (inl refl)) ∙ filter_none p ks (λ j i. h j (inr i))

filter_twice : (k : ℕ) (gone ks : List ℕ) → without_node k (filter (λ j. not (among j gone)) ks) ≡ filter (λ j. not (among j (k ∷ gone))) ks
filter_twice k gone [] = refl
filter_twice k gone (j ∷ js) =
    let rest : List ℕ = filter (λ i. not (among i gone)) js in
    first (among j gone) rest
    ∙ (ap (λ b. cond (not (among j gone)) (cond (not b) (j ∷ without_node k rest) (without_node k rest)) (without_node k rest)) (number_turned k j)
    ∙ (second (among j gone) (j == k) (without_node k rest) ∙ ap (λ xs. cond (not ((j == k) || among j gone)) (j ∷ xs) xs) (filter_twice k gone js)))
  where
    first : (a : Bool) (xs : List ℕ) → without_node k (cond (not a) (j ∷ xs) xs) ≡ cond (not a) (cond (not (k == j)) (j ∷ without_node k xs) (without_node k xs)) (without_node k xs)
    first true xs = refl
    first false xs = refl

    second : (a b : Bool) (xs : List ℕ) → cond (not a) (cond (not b) (j ∷ xs) xs) xs ≡ cond (not (b || a)) (j ∷ xs) xs
    second true true xs = refl
    second true false xs = refl
    second false true xs = refl
    second false false xs = refl

-- ---- an item with all below it

module _ (es : List Entry) (t : IsTree es) (x : List ℕ) (top : ℕ) (at : node_of x es ≡ Some top) (loose : is_fixed x ≡ false) where
  inner : (top == 0) ≡ false
  inner = top_inner es t x top at loose

  absent_outside : (n : ℕ) (y : List ℕ) → node y (tree es) ≡ None → bytes_eq y x ≡ false → is_met (tree es) n x y ≡ false
  unfolding parent_in
  absent_outside zero y h ne = ne
  absent_outside (suc n) y h ne =
      ap₂ (λ a b. a || b) ne (ap (is_met (tree es) n x) (ap (λ o. unwrap_or (option_and_then (λ (m : PlacedItem). m.parent) o) places) h) ∙ top_misses es t x top at inner n)

  not_absent : (y : List ℕ) → node y (tree es) ≡ None → is_within (tree es) x y ≡ true → ⊥
  unfolding is_within
  not_absent y h w = go (bytes_eq y x) refl
    where
      go : (b : Bool) → bytes_eq y x ≡ b → ⊥
      go true q = none_some (sym h ∙ (ap (λ z. node z (tree es)) (same_text y x q) ∙ (there es t x top at).3))
      go false q = false≢true (sym (absent_outside _ y h q) ∙ w)

  pub went : (nodes : List ℕ) → CanGo es x nodes → (y : List ℕ) → has y (map (name_at es) nodes) ≡ is_within (tree es) x y
  went nodes can y = both_ways (has y (map (name_at es) nodes)) (is_within (tree es) x y) to from
    where
      to : has y (map (name_at es) nodes) ≡ true → is_within (tree es) x y ≡ true
      to h =
          let r = has_names (name_at es) nodes y h in
          let k = r.0 in
          let inside : among k nodes ≡ true = in_among k nodes r.1 in
          let e = live_entry es k (can.live k inside) in
          let id : e.0.item.id ≡ y = sym (ap (λ o. unwrap_or (option_map (λ (d : Entry). d.item.id) o) []) e.1) ∙ r.2 in
          ap (is_within (tree es) x) (sym id) ∙ (sym (can.all k e.0 e.1) ∙ inside)

      from : is_within (tree es) x y ≡ true → has y (map (name_at es) nodes) ≡ true
      from h = go (node y (tree es)) refl
        where
          go : (o : Option PlacedItem) → node y (tree es) ≡ o → has y (map (name_at es) nodes) ≡ true
          go None q = absurd (not_absent y q h)
          go (Some m) q =
              let f = node_found es y m q in
              let e : entry f.0.node es ≡ Some f.0 = in_entry es f.0 t.nodes f.1 in
              let inside : among f.0.node nodes ≡ true = can.all f.0.node f.0 e ∙ (ap (is_within (tree es) x) f.2 ∙ h) in
              let name : name_at es f.0.node ≡ y = ap (λ o. unwrap_or (option_map (λ (d : Entry). d.item.id) o) []) e ∙ f.2 in
              ap (λ z. has z (map (name_at es) nodes)) (sym name) ∙ names_has (name_at es) nodes f.0.node (among_in f.0.node nodes inside)

  -- of the children of an item that isn't within, only the top is
  kid_within : (k j : ℕ) → In j (kids k es) → ((top == k) || is_below es top k) ≡ false → ((top == j) || is_below es top j) ≡ (top == j)
  kid_within k j i out = go (is_below es top j) refl
    where
      up_is : above es j ≡ Some k
      up_is = kid_above es t x top at loose k j i

      k_is : (n : ℕ) → ancestor es n j ≡ Some top → ((top == k) || is_below es top k) ≡ true
      k_is zero q = ap (λ b. b || is_below es top k) (eq-eqb top k (some_same (sym q ∙ up_is)))
      k_is (suc n) q = pick (top == k) ((below_is es t top k).1 (n, sym (ap (option_and_then (ancestor es n)) up_is) ∙ q))
        where
          pick : (b : Bool) → is_below es top k ≡ true → (b || is_below es top k) ≡ true
          pick true h = refl
          pick false h = h

      go : (b : Bool) → is_below es top j ≡ b → ((top == j) || is_below es top j) ≡ (top == j)
      go false q = ap (λ b. (top == j) || b) q ∙ pick (top == j)
        where
          pick : (b : Bool) → (b || false) ≡ b
          pick true = refl
          pick false = refl
      go true q = let b = (below_is es t top j).0 q in absurd (false≢true (sym out ∙ k_is b.0 b.1))

  module _ (fs : List Entry) (u : IsTree fs) (nodes : List ℕ) (can : CanGo es x nodes)
      (entries : (j : ℕ) → entry j fs ≡ cond (among j nodes) None (entry j es)) (rows : (j : ℕ) → kids j fs ≡ filter (λ k. not (among k nodes)) (kids j es)) where
    stays_there : (k : ℕ) (f : Entry) → entry k fs ≡ Some f → (among k nodes ≡ false) × (entry k es ≡ Some f)
    stays_there k f r = go (among k nodes) refl (sym (entries k) ∙ r)
      where
        go : (b : Bool) → among k nodes ≡ b → cond b None (entry k es) ≡ Some f → (among k nodes ≡ false) × (entry k es ≡ Some f)
        go true h q = absurd (none_some q)
        go false h q = (h, q)

    tells : (k : ℕ) (e : Entry) → entry k es ≡ Some e → among k nodes ≡ ((top == k) || is_below es top k)
    tells k e q = can.all k e q ∙ within_node es t x top at inner k e q

    each_left : (k : ℕ) (f : Entry) → entry k fs ≡ Some f → placed fs f ≡ left_node x (placed es f)
    each_left k f r =
        placed_is fs u k f r ∙ (ap₂ (λ p cs. made f.item p cs f.time) (parent f.parent refl) children ∙ ap (left_node x) (sym (placed_is es t k f here.1)))
      where
        here : (among k nodes ≡ false) × (entry k es ≡ Some f)
        here = stays_there k f r

        out : ((top == k) || is_below es top k) ≡ false
        out = sym (tells k f here.1) ∙ here.0

        kept_id : (p : ℕ) → among p nodes ≡ false → idof fs p ≡ idof es p
        kept_id p h = ap (option_map (λ (w : Entry). w.item.id)) (entries p ∙ ap (λ b. cond b None (entry p es)) h)

        parent : (o : Option ℕ) → f.parent ≡ o → option_and_then (idof fs) f.parent ≡ option_and_then (idof es) f.parent
        parent None h = ap (option_and_then (idof fs)) h ∙ sym (ap (option_and_then (idof es)) h)
        parent (Some p) h =
            let g = above_there es t k p f here.1 h in
            ap (option_and_then (idof fs)) h ∙ (kept_id p (apart (among p nodes) refl) ∙ sym (ap (option_and_then (idof es)) h))
          where
            apart : (b : Bool) → among p nodes ≡ b → among p nodes ≡ false
            apart false w = w
            apart true w = absurd (false≢true (sym here.0 ∙ closed_down))
              where
                closed_down : among k nodes ≡ true
                closed_down =
                    let g = above_there es t k p f here.1 h in
                    let in_p : ((top == p) || is_below es top p) ≡ true = sym (tells p g.0 g.1) ∙ w in
                    tells k f here.1 ∙ closed es t x top at loose p k in_p (in_times k (kids p es) (entry_kid p k es f here.1 h))

        kid_test : (j : ℕ) → In j (kids k es) → not (among j nodes) ≡ not (top == j)
        kid_test j i = let g = kid_there es t k j i in ap not (tells j g.0 g.1 ∙ kid_within k j i out)

        children : map (name_at fs) (kids k fs) ≡ without_id x (map (name_at es) (kids k es))
        children =
            ap (map (name_at fs)) (rows k)
            ∙ (names_same (name_at fs) (name_at es) (filter (λ j. not (among j nodes)) (kids k es)) (λ j i. ap (λ o. unwrap_or o []) (kept_id j (not_true (among j nodes) (filter_in (λ m. not (among m nodes)) j (kids k es) i).1)))
            ∙ (ap (map (name_at es)) (filter_same (λ j. not (among j nodes)) (λ j. not (top == j)) (kids k es) kid_test)
            ∙ (let e = there es t x top at in names_without es t top e.0 e.1 (kids k es) (λ j i. let g = kid_there es t k j i in (g.0, g.1)) ∙ ap (λ z. without_id z (map (name_at es) (kids k es))) e.2)))
          where
            not_true : (b : Bool) → not b ≡ true → b ≡ false
            not_true true h = sym h
            not_true false h = refl

    pub all_gone : (y : List ℕ) → node y (tree fs) ≡ cond (is_within (tree es) x y) None (option_map (left_node x) (node y (tree es)))
    all_gone y = by_entry fs u y (cond (is_within (tree es) x y) None (option_map (left_node x) (node y (tree es)))) to from
      where
        to : (k : ℕ) (f : Entry) → entry k fs ≡ Some f → f.item.id ≡ y → cond (is_within (tree es) x y) None (option_map (left_node x) (node y (tree es))) ≡ Some (placed fs f)
        to k f r is =
            let here = stays_there k f r in
            let out : is_within (tree es) x y ≡ false = ap (is_within (tree es) x) (sym is) ∙ (sym (can.all k f here.1) ∙ here.0) in
            ap (λ b. cond b None (option_map (left_node x) (node y (tree es)))) out
            ∙ (ap (option_map (left_node x)) (ap (λ z. node z (tree es)) (sym is) ∙ at_entry es t k f here.1) ∙ ap Some (sym (each_left k f r)))

        from : ((k : ℕ) (f : Entry) → entry k fs ≡ Some f → f.item.id ≡ y → ⊥) → cond (is_within (tree es) x y) None (option_map (left_node x) (node y (tree es))) ≡ None
        from none = go (is_within (tree es) x y) refl
          where
            go : (b : Bool) → is_within (tree es) x y ≡ b → cond b None (option_map (left_node x) (node y (tree es))) ≡ None
            go true h = refl
            go false h = ap (option_map (left_node x)) (no_entry es t y (λ k e q is.
                let out : among k nodes ≡ false = can.all k e q ∙ (ap (is_within (tree es) x) is ∙ h) in
                none k e (entries k ∙ (ap (λ b. cond b None (entry k es)) out ∙ q)) is))

-- ---- one node after the other

-- what is left when some have gone
pub record Left (es cur : List Entry) (gone : List ℕ) : Type 0 where
  pub entries : (j : ℕ) → entry j cur ≡ cond (among j gone) None (entry j es)
  pub rows : (j : ℕ) → kids j cur ≡ filter (λ k. not (among k gone)) (kids j es)

all_kept : (ks : List ℕ) → ks ≡ filter (λ k. not (among k [])) ks
all_kept [] = refl
all_kept (k ∷ ks) = ap (λ xs. k ∷ xs) (all_kept ks)

pub left_first : (es : List Entry) → Left es es []
left_first es = record { entries = λ j. refl; rows = λ j. all_kept (kids j es) }

module _ (es : List Entry) (x : List ℕ) (nodes : List ℕ) (can : CanGo es x nodes) (front : List ℕ) (k : ℕ) (gone : List ℕ) (split : nodes ≡ front ++ k ∷ gone) (cur : List Entry) (left : Left es cur gone) where
  in_front : (xs ys : List ℕ) → among k (xs ++ k ∷ ys) ≡ true
  in_front [] ys = ap (λ b. b || among k ys) (eq-eqb k k refl)
  in_front (z ∷ xs) ys = go (k == z) (in_front xs ys)
    where
      go : (b : Bool) → among k (xs ++ k ∷ ys) ≡ true → (b || among k (xs ++ k ∷ ys)) ≡ true
      go true h = refl
      go false h = h

  here_in : among k nodes ≡ true
  here_in = ap (among k) split ∙ in_front front gone

  same_entry : entry k cur ≡ entry k es
  same_entry = left.entries k ∙ ap (λ b. cond b None (entry k es)) (can.once front k gone split)

  pub next_live : is_live k cur ≡ true
  next_live = ap is_some same_entry ∙ can.live k here_in

  pub next_free : remove_fault cur k ≡ None
  unfolding remove_fault is_fixed_node
  next_free =
      let free : is_fixed_node k cur ≡ false = ap (λ o. (k == 0) || unwrap_or (option_map (stands_under 0) o) false) same_entry ∙ can.loose k here_in in
      let none : kids k cur ≡ [] = left.rows k ∙ filter_none (λ j. not (among j gone)) (kids k es) (λ j i. ap not (can.later front k gone split j (in_among j (kids k es) i))) in
      ap₂ (λ a b. cond a (Some Fixed) (cond (is_some (first_of b)) (Some NotEmpty) None)) free none

  pub left_next : (new : List Entry) → ((j : ℕ) → entry j new ≡ cond (k == j) None (entry j cur)) → ((j : ℕ) → kids j new ≡ without_node k (kids j cur)) → Left es new (k ∷ gone)
  left_next new entries rows = record {
    entries = λ j. entries j ∙ (ap₂ (λ a o. cond a None o) (number_turned k j) (left.entries j) ∙ merged (j == k) (among j gone) (entry j es));
    rows = λ j. rows j ∙ (ap (without_node k) (left.rows j) ∙ filter_twice k gone (kids j es));
  }
    where
      merged : (a b : Bool) (o : Option Entry) → cond a None (cond b None o) ≡ cond (a || b) None o
      merged true b o = refl
      merged false b o = refl
