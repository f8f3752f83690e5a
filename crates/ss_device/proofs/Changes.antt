-- Items that come, go and move, as the tree by ids sees them.
use Rattle.std.proofs.Common.{◌≡◌, ℕ, ◌==◌, ◌<◌, List, [], ◌∷◌, ◌++◌, map, not, Bool, true, false, cond, refl, sym, ap}
use Rattle.std.proofs.Common.{ap₂, ◌∙◌, subst, inl, inr, arith, Option, Some, None, option_map, option_and_then}
use Rattle.std.proofs.Common.{unwrap_or, bytes_eq}
use Rattle.std.proofs.lemmas.Bool.{false≢true, eqb-true, eqb-false, eq-eqb}
use Rattle.ss_list.specs.Chain.{times}
use Rattle.ss_list.proofs.Times.{at_head}
use Rattle.ss_record.specs.Items.{ItemView}
use Rattle.ss_tree.specs.declared.entries.Entry.{Entry}
use Rattle.ss_tree.specs.Trees.{PlacedItem, node}
use Rattle.ss_tree.specs.Entries.{entry, kids, placed, tree, under, put_before, without_node, top_entry, IsTree}
use Rattle.ss_tree.proofs.Valid.{In}
use Rattle.ss_tree.proofs.Kin.{kid_entry, entry_kid}
use Rattle.ss_tree.proofs.Listed.{nobody}
use Rattle.ss_device.specs.Edits.{left_node, moved_only, new_node, with_child, without_id}
use Rattle.ss_device.proofs.ByIds.{idof, name_at, idof_some, made, placed_is, at_entry, no_entry, by_entry, same_node}
use Rattle.ss_device.proofs.ByIds.{mapped}
use Rattle.ss_text.proofs.Basics.{same_text, bytes_eq-same, number_turned, some_same, none_some}

pub times_in : (k : ℕ) (ks : List ℕ) → In k ks → 0 < times k ks
unfolding In
times_in k [] i = absurd i
times_in k (j ∷ js) (inl is) = elim (at_head k j js) [ inl a ↦ let two = a.1 in omega arith | inr b ↦ absurd (b.0 is) ]
times_in k (j ∷ js) (inr i) = let ih = times_in k js i in elim (at_head k j js) [ inl a ↦ let two = a.1 in omega arith | inr b ↦ let two = b.1 in omega arith ]

-- a child is in the tree
pub kid_there : (es : List Entry) → IsTree es → (p k : ℕ) → In k (kids p es) → (e : Entry) × (entry k es ≡ Some e) × (e.parent ≡ Some p)
kid_there es t p k i = kid_entry p k es t.nodes (times_in k (kids p es) i)

-- an item that isn't the top has a parent in the tree
pub above_there : (es : List Entry) → IsTree es → (k p : ℕ) (e : Entry) → entry k es ≡ Some e → e.parent ≡ Some p → (f : Entry) × (entry p es ≡ Some f)
above_there es t k p e q par = go (k == 0) refl
  where
    go : (b : Bool) → (k == 0) ≡ b → (f : Entry) × (entry p es ≡ Some f)
    go true h =
        let top : e ≡ top_entry = some_same (sym q ∙ (ap (λ n. entry n es) (eqb-true k 0 h) ∙ t.top)) in
        absurd (none_some (ap (λ (w : Entry). w.parent) (sym top) ∙ par))
    go false h =
        let r = t.folder k e q (eqb-false k 0 h) in
        let same : r.0 ≡ p = some_same (sym r.1 ∙ par) in
        (r.2, ap (λ n. entry n es) (sym same) ∙ r.3)

-- under a node that isn't there is nothing
pub none_under : (es : List Entry) → IsTree es → (m : ℕ) → entry m es ≡ None → kids m es ≡ []
none_under es t m none = nobody (kids m es) (λ k there.
    let e = kid_entry m k es t.nodes there in
    let f = above_there es t k m e.0 e.1 e.2 in
    none_some (sym none ∙ f.1))

pub names_same : (f g : ℕ → List ℕ) (ks : List ℕ) → ((k : ℕ) → In k ks → f k ≡ g k) → map f ks ≡ map g ks
unfolding In
names_same f g [] h = refl
names_same f g (k ∷ ks) h = ap₂ (λ x xs. x ∷ xs) (h k (inl refl)) (names_same f g ks (λ j i. h j (inr i)))

pub names-append : (f : ℕ → List ℕ) (ks js : List ℕ) → map f (ks ++ js) ≡ map f ks ++ map f js
names-append f [] js = refl
names-append f (k ∷ ks) js = ap (λ xs. f k ∷ xs) (names-append f ks js)

module _ (es : List Entry) (t : IsTree es) (k0 : ℕ) (e0 : Entry) (q0 : entry k0 es ≡ Some e0) where
  name_is : (k : ℕ) (e : Entry) → entry k es ≡ Some e → name_at es k ≡ e.item.id
  name_is k e q = ap (λ o. unwrap_or (option_map (λ (w : Entry). w.item.id) o) []) q

  pub name_test : (k : ℕ) (e : Entry) → entry k es ≡ Some e → bytes_eq e0.item.id (name_at es k) ≡ (k0 == k)
  name_test k e q = ap (bytes_eq e0.item.id) (name_is k e q) ∙ same_node es t k0 k e0 e q0 q

  pub names_without : (ks : List ℕ) → ((k : ℕ) → In k ks → (e : Entry) × (entry k es ≡ Some e)) → map (name_at es) (without_node k0 ks) ≡ without_id e0.item.id (map (name_at es) ks)
  unfolding In
  names_without [] h = refl
  names_without (k ∷ ks) h = go (k0 == k) (bytes_eq e0.item.id (name_at es k)) (let e = h k (inl refl) in name_test k e.0 e.1) (names_without ks (λ j i. h j (inr i)))
    where
      go : (a b : Bool) → b ≡ a → map (name_at es) (without_node k0 ks) ≡ without_id e0.item.id (map (name_at es) ks)
          → map (name_at es) (cond (not a) (k ∷ without_node k0 ks) (without_node k0 ks)) ≡ cond (not b) (name_at es k ∷ without_id e0.item.id (map (name_at es) ks)) (without_id e0.item.id (map (name_at es) ks))
      go true true q ih = ih
      go true false q ih = absurd (false≢true q)
      go false true q ih = absurd (false≢true (sym q))
      go false false q ih = ap (λ xs. name_at es k ∷ xs) ih

-- ---- an item moves to the end of a folder

module _ (es fs : List Entry) (t : IsTree es) (u : IsTree fs) (k0 : ℕ) (e0 : Entry) (q0 : entry k0 es ≡ Some e0) (p : ℕ) (d : Entry) (qd : entry p es ≡ Some d)
    (entries : (j : ℕ) → entry j fs ≡ cond (j == k0) (option_map (under p) (entry j es)) (entry j es))
    (rows : (j : ℕ) → kids j fs ≡ cond (j == p) (put_before None k0 (without_node k0 (kids j es))) (without_node k0 (kids j es))) where
  abbrev move_change : PlacedItem → PlacedItem
  move_change n = moved_only e0.item.id d.item.id n

  move_ids : (k : ℕ) → idof fs k ≡ idof es k
  move_ids k = ap (option_map (λ e. e.item.id)) (entries k) ∙ go (k == k0) (entry k es)
    where
      go : (b : Bool) (o : Option Entry) → option_map (λ (e : Entry). e.item.id) (cond b (option_map (under p) o) o) ≡ option_map (λ (e : Entry). e.item.id) o
      go true None = refl
      go true (Some e) = refl
      go false o = refl

  move_each : (k : ℕ) (e f : Entry) → entry k es ≡ Some e → entry k fs ≡ Some f → placed fs f ≡ move_change (placed es e)
  move_each k e f q r =
      placed_is fs u k f r
      ∙ (ap₂ (λ x xs. made f.item x xs f.time) parent children
      ∙ (ap (λ (w : ItemView × ℕ). made w.0 (cond (k == k0) (Some d.item.id) (option_and_then (idof es) e.parent)) (cond (k == p) (without_id e0.item.id cs ++ e0.item.id ∷ []) (without_id e0.item.id cs)) w.1) item_time
      ∙ (ap₂ (λ a b. made e.item (cond a (Some d.item.id) (option_and_then (idof es) e.parent)) (cond b (without_id e0.item.id cs ++ e0.item.id ∷ []) (without_id e0.item.id cs)) e.time) (sym (same_node es t k k0 e e0 q q0)) (sym (same_node es t k p e d q qd))
      ∙ ap move_change (sym (placed_is es t k e q)))))
    where
      cs : List (List ℕ)
      cs = map (name_at es) (kids k es)

      f_is : Some f ≡ cond (k == k0) (Some (under p e)) (Some e)
      f_is = sym r ∙ (entries k ∙ ap (λ o. cond (k == k0) (option_map (under p) o) o) q)

      both : Entry → ItemView × ℕ
      both w = (w.item, w.time)

      item_time : both f ≡ both e
      item_time = go (k == k0) f_is
        where
          go : (b : Bool) → Some f ≡ cond b (Some (under p e)) (Some e) → both f ≡ both e
          go true h = ap both (some_same h)
          go false h = ap both (some_same h)

      parent : option_and_then (idof fs) f.parent ≡ cond (k == k0) (Some d.item.id) (option_and_then (idof es) e.parent)
      parent = (λ i. option_and_then (λ j. move_ids j i) f.parent) ∙ go (k == k0) f_is
        where
          go : (b : Bool) → Some f ≡ cond b (Some (under p e)) (Some e) → option_and_then (idof es) f.parent ≡ cond b (Some d.item.id) (option_and_then (idof es) e.parent)
          go true h = ap (λ (w : Entry). option_and_then (idof es) w.parent) (some_same h) ∙ ap (option_map (λ (w : Entry). w.item.id)) qd
          go false h = ap (λ (w : Entry). option_and_then (idof es) w.parent) (some_same h)

      left : map (name_at es) (without_node k0 (kids k es)) ≡ without_id e0.item.id cs
      left = names_without es t k0 e0 q0 (kids k es) (λ j i. let g = kid_there es t k j i in (g.0, g.1))

      children : map (name_at fs) (kids k fs) ≡ cond (k == p) (without_id e0.item.id cs ++ e0.item.id ∷ []) (without_id e0.item.id cs)
      children = (λ i. map (λ j. unwrap_or (move_ids j i) []) (kids k fs)) ∙ (ap (map (name_at es)) (rows k) ∙ go (k == p))
        where
          go : (b : Bool) → map (name_at es) (cond b (put_before None k0 (without_node k0 (kids k es))) (without_node k0 (kids k es))) ≡ cond b (without_id e0.item.id cs ++ e0.item.id ∷ []) (without_id e0.item.id cs)
          go true = names-append (name_at es) (without_node k0 (kids k es)) (k0 ∷ []) ∙ ap₂ (λ xs x. xs ++ x ∷ []) left (name_is es t k0 e0 q0 k0 e0 q0)
          go false = left

  pub move_nodes : (y : List ℕ) → node y (tree fs) ≡ option_map move_change (node y (tree es))
  move_nodes = mapped es fs t u move_change move_ids move_each

-- ---- an item goes

module _ (es fs : List Entry) (t : IsTree es) (u : IsTree fs) (k0 : ℕ) (e0 : Entry) (q0 : entry k0 es ≡ Some e0) (childless : kids k0 es ≡ [])
    (entries : (j : ℕ) → entry j fs ≡ cond (k0 == j) None (entry j es)) (rows : (j : ℕ) → kids j fs ≡ without_node k0 (kids j es)) where
  abbrev left_one : PlacedItem → PlacedItem
  left_one n = left_node e0.item.id n

  gone_kept : (k : ℕ) (f : Entry) → entry k fs ≡ Some f → ((k0 == k) ≡ false) × (entry k es ≡ Some f)
  gone_kept k f r = go (k0 == k) refl (sym (entries k) ∙ r)
    where
      go : (b : Bool) → (k0 == k) ≡ b → cond b None (entry k es) ≡ Some f → ((k0 == k) ≡ false) × (entry k es ≡ Some f)
      go true h q = absurd (none_some q)
      go false h q = (h, q)

  gone_id : (k : ℕ) (e : Entry) → entry k es ≡ Some e → (k0 == k) ≡ false → idof fs k ≡ idof es k
  gone_id k e q ne = ap (option_map (λ (w : Entry). w.item.id)) (entries k ∙ ap (λ b. cond b None (entry k es)) ne)

  stays : (j : ℕ) (ks : List ℕ) → ((m : ℕ) → In m ks → (e : Entry) × (entry m es ≡ Some e)) → In j (without_node k0 ks) → (e : Entry) × (entry j es ≡ Some e) × ((k0 == j) ≡ false)
  unfolding In
  stays j [] h i = absurd i
  stays j (m ∷ ms) h i = go (k0 == m) refl i (λ x. stays j ms (λ n y. h n (inr y)) x)
    where
      go : (b : Bool) → (k0 == m) ≡ b → In j (cond (not b) (m ∷ without_node k0 ms) (without_node k0 ms)) → (In j (without_node k0 ms) → (e : Entry) × (entry j es ≡ Some e) × ((k0 == j) ≡ false)) → (e : Entry) × (entry j es ≡ Some e) × ((k0 == j) ≡ false)
      go true w i rest = rest i
      go false w (inl is) rest = let g = h m (inl refl) in (g.0, ap (λ n. entry n es) is ∙ g.1, ap (λ n. k0 == n) is ∙ w)
      go false w (inr i) rest = rest i

  gone_each : (k : ℕ) (f : Entry) → entry k fs ≡ Some f → placed fs f ≡ left_one (placed es f)
  unfolding In
  gone_each k f r =
      placed_is fs u k f r ∙ (ap₂ (λ x xs. made f.item x xs f.time) (parent f.parent refl) children ∙ ap left_one (sym (placed_is es t k f here.1)))
    where
      here : ((k0 == k) ≡ false) × (entry k es ≡ Some f)
      here = gone_kept k f r

      parent : (o : Option ℕ) → f.parent ≡ o → option_and_then (idof fs) f.parent ≡ option_and_then (idof es) f.parent
      parent None h = ap (option_and_then (idof fs)) h ∙ sym (ap (option_and_then (idof es)) h)
      parent (Some p) h =
          let g = above_there es t k p f here.1 h in
          let ne : (k0 == p) ≡ false = apart (k0 == p) refl in
          ap (option_and_then (idof fs)) h ∙ (gone_id p g.0 g.1 ne ∙ sym (ap (option_and_then (idof es)) h))
        where
          apart : (b : Bool) → (k0 == p) ≡ b → (k0 == p) ≡ false
          apart false w = w
          apart true w =
              let under_it : 0 < times k (kids k0 es) = entry_kid k0 k es f here.1 (h ∙ ap Some (sym (eqb-true k0 p w))) in
              let none : 0 < times k [] = subst (λ ks. 0 < times k ks) childless under_it in
              absurd (omega arith)

      children : map (name_at fs) (kids k fs) ≡ without_id e0.item.id (map (name_at es) (kids k es))
      children =
          ap (map (name_at fs)) (rows k)
          ∙ (names_same (name_at fs) (name_at es) (without_node k0 (kids k es)) (λ j i. let g = stays j (kids k es) (λ m im. let h = kid_there es t k m im in (h.0, h.1)) i in ap (λ o. unwrap_or o []) (gone_id j g.0 g.1 g.2))
          ∙ names_without es t k0 e0 q0 (kids k es) (λ j i. let g = kid_there es t k j i in (g.0, g.1)))

  pub gone_nodes : (y : List ℕ) → node y (tree fs) ≡ cond (bytes_eq y e0.item.id) None (option_map left_one (node y (tree es)))
  gone_nodes y = by_entry fs u y (cond (bytes_eq y e0.item.id) None (option_map left_one (node y (tree es)))) to from
    where
      to : (k : ℕ) (f : Entry) → entry k fs ≡ Some f → f.item.id ≡ y → cond (bytes_eq y e0.item.id) None (option_map left_one (node y (tree es))) ≡ Some (placed fs f)
      to k f r is =
          let here = gone_kept k f r in
          let other : bytes_eq y e0.item.id ≡ false = ap (λ z. bytes_eq z e0.item.id) (sym is) ∙ (same_node es t k k0 f e0 here.1 q0 ∙ (number_turned k k0 ∙ here.0)) in
          ap (λ b. cond b None (option_map left_one (node y (tree es)))) other
          ∙ (ap (option_map left_one) (ap (λ z. node z (tree es)) (sym is) ∙ at_entry es t k f here.1) ∙ ap Some (sym (gone_each k f r)))

      from : ((k : ℕ) (f : Entry) → entry k fs ≡ Some f → f.item.id ≡ y → ⊥) → cond (bytes_eq y e0.item.id) None (option_map left_one (node y (tree es))) ≡ None
      from none = go (bytes_eq y e0.item.id) refl
        where
          go : (b : Bool) → bytes_eq y e0.item.id ≡ b → cond b None (option_map left_one (node y (tree es))) ≡ None
          go true h = refl
          go false h = ap (option_map left_one) (no_entry es t y (λ k e q is.
              let ne : (k0 == k) ≡ false = number_turned k0 k ∙ (sym (same_node es t k k0 e e0 q q0) ∙ (ap (λ z. bytes_eq z e0.item.id) is ∙ h)) in
              none k e (entries k ∙ (ap (λ b. cond b None (entry k es)) ne ∙ q)) is))

-- ---- an item comes

module _ (es fs : List Entry) (t : IsTree es) (u : IsTree fs) (m : ℕ) (i : ItemView) (time : ℕ) (p : ℕ) (d : Entry) (qd : entry p es ≡ Some d) (fresh : entry m es ≡ None)
    (new_id : (k : ℕ) (e : Entry) → entry k es ≡ Some e → bytes_eq e.item.id i.id ≡ false)
    (entries : (j : ℕ) → entry j fs ≡ cond (j == m) (Some (record { node = m; parent = Some p; item = i; time = time })) (entry j es))
    (rows : (j : ℕ) → kids j fs ≡ cond (j == p) (put_before None m (kids j es)) (kids j es)) where
  abbrev grown_node : PlacedItem → PlacedItem
  grown_node n = cond (bytes_eq n.id d.item.id) (with_child i.id n) n

  there_other : (k : ℕ) (e : Entry) → entry k es ≡ Some e → (k == m) ≡ false
  there_other k e q = go (k == m) refl
    where
      go : (b : Bool) → (k == m) ≡ b → (k == m) ≡ false
      go false h = h
      go true h = absurd (none_some (sym fresh ∙ (ap (λ n. entry n es) (sym (eqb-true k m h)) ∙ q)))

  old_entry : (k : ℕ) (e : Entry) → entry k es ≡ Some e → entry k fs ≡ Some e
  old_entry k e q = entries k ∙ (ap (λ b. cond b (Some (record { node = m; parent = Some p; item = i; time = time })) (entry k es)) (there_other k e q) ∙ q)

  old_id : (k : ℕ) (e : Entry) → entry k es ≡ Some e → idof fs k ≡ idof es k
  old_id k e q = ap (option_map (λ (w : Entry). w.item.id)) (old_entry k e q ∙ sym q)

  new_name : name_at fs m ≡ i.id
  new_name = ap (λ o. unwrap_or (option_map (λ (w : Entry). w.item.id) o) []) (entries m ∙ ap (λ b. cond b (Some (record { node = m; parent = Some p; item = i; time = time })) (entry m es)) (eq-eqb m m refl))

  grown_names : (ks : List ℕ) → ((k : ℕ) → In k ks → (e : Entry) × (entry k es ≡ Some e)) → map (name_at fs) ks ≡ map (name_at es) ks
  grown_names ks h = names_same (name_at fs) (name_at es) ks (λ k j. let e = h k j in ap (λ o. unwrap_or o []) (old_id k e.0 e.1))

  grown_each : (k : ℕ) (e : Entry) → entry k es ≡ Some e → placed fs e ≡ grown_node (placed es e)
  grown_each k e q =
      placed_is fs u k e (old_entry k e q)
      ∙ (ap₂ (λ x xs. made e.item x xs e.time) (parent e.parent refl) children
      ∙ (pick (k == p)
      ∙ (ap (λ b. cond b (made e.item par (cs ++ i.id ∷ []) e.time) (made e.item par cs e.time)) (sym (same_node es t k p e d q qd))
      ∙ ap grown_node (sym (placed_is es t k e q)))))
    where
      cs : List (List ℕ)
      cs = map (name_at es) (kids k es)

      par : Option (List ℕ)
      par = option_and_then (idof es) e.parent

      pick : (b : Bool) → made e.item par (cond b (cs ++ i.id ∷ []) cs) e.time ≡ cond b (made e.item par (cs ++ i.id ∷ []) e.time) (made e.item par cs e.time)
      pick true = refl
      pick false = refl

      parent : (o : Option ℕ) → e.parent ≡ o → option_and_then (idof fs) e.parent ≡ par
      parent None h = ap (option_and_then (idof fs)) h ∙ sym (ap (option_and_then (idof es)) h)
      parent (Some r) h = let g = above_there es t k r e q h in ap (option_and_then (idof fs)) h ∙ (old_id r g.0 g.1 ∙ sym (ap (option_and_then (idof es)) h))

      same : map (name_at fs) (kids k es) ≡ cs
      same = grown_names (kids k es) (λ j x. let g = kid_there es t k j x in (g.0, g.1))

      children : map (name_at fs) (kids k fs) ≡ cond (k == p) (cs ++ i.id ∷ []) cs
      children = ap (map (name_at fs)) (rows k) ∙ go (k == p)
        where
          go : (b : Bool) → map (name_at fs) (cond b (put_before None m (kids k es)) (kids k es)) ≡ cond b (cs ++ i.id ∷ []) cs
          go true = names-append (name_at fs) (kids k es) (m ∷ []) ∙ ap₂ (λ xs x. xs ++ x ∷ []) same new_name
          go false = same

  new_each : (f : Entry) → entry m fs ≡ Some f → placed fs f ≡ new_node time d.item.id i
  new_each f r =
      let is : f ≡ record { node = m; parent = Some p; item = i; time = time } = some_same (sym r ∙ (entries m ∙ ap (λ b. cond b (Some (record { node = m; parent = Some p; item = i; time = time })) (entry m es)) (eq-eqb m m refl))) in
      let parent : idof fs p ≡ Some d.item.id = old_id p d qd ∙ ap (option_map (λ (w : Entry). w.item.id)) qd in
      let row : kids m fs ≡ [] = rows m ∙ (ap (λ b. cond b (put_before None m (kids m es)) (kids m es)) (number_turned m p ∙ there_other p d qd) ∙ none_under es t m fresh) in
      placed_is fs u m f r
      ∙ (ap (λ (w : Entry). made w.item (option_and_then (idof fs) w.parent) (map (name_at fs) (kids m fs)) w.time) is
      ∙ ap₂ (λ x ks. made i x (map (name_at fs) ks) time) parent row)

  pub grown_nodes : (y : List ℕ) → node y (tree fs) ≡ cond (bytes_eq y i.id) (Some (new_node time d.item.id i)) (option_map grown_node (node y (tree es)))
  grown_nodes y = by_entry fs u y (cond (bytes_eq y i.id) (Some (new_node time d.item.id i)) (option_map grown_node (node y (tree es)))) to from
    where
      to : (k : ℕ) (f : Entry) → entry k fs ≡ Some f → f.item.id ≡ y → cond (bytes_eq y i.id) (Some (new_node time d.item.id i)) (option_map grown_node (node y (tree es))) ≡ Some (placed fs f)
      to k f r is = go (k == m) refl (sym r ∙ entries k)
        where
          go : (b : Bool) → (k == m) ≡ b → Some f ≡ cond b (Some (record { node = m; parent = Some p; item = i; time = time })) (entry k es) → cond (bytes_eq y i.id) (Some (new_node time d.item.id i)) (option_map grown_node (node y (tree es))) ≡ Some (placed fs f)
          go true h q =
              let same : bytes_eq y i.id ≡ true = bytes_eq-same y i.id (sym is ∙ ap (λ (w : Entry). w.item.id) (some_same q)) in
              ap (λ b. cond b (Some (new_node time d.item.id i)) (option_map grown_node (node y (tree es)))) same
              ∙ ap Some (sym (new_each f (ap (λ n. entry n fs) (sym (eqb-true k m h)) ∙ r)))
          go false h q =
              let other : bytes_eq y i.id ≡ false = ap (λ z. bytes_eq z i.id) (sym is) ∙ new_id k f (sym q) in
              ap (λ b. cond b (Some (new_node time d.item.id i)) (option_map grown_node (node y (tree es)))) other
              ∙ (ap (option_map grown_node) (ap (λ z. node z (tree es)) (sym is) ∙ at_entry es t k f (sym q)) ∙ ap Some (sym (grown_each k f (sym q))))

      from : ((k : ℕ) (f : Entry) → entry k fs ≡ Some f → f.item.id ≡ y → ⊥) → cond (bytes_eq y i.id) (Some (new_node time d.item.id i)) (option_map grown_node (node y (tree es))) ≡ None
      from none = go (bytes_eq y i.id) refl
        where
          go : (b : Bool) → bytes_eq y i.id ≡ b → cond b (Some (new_node time d.item.id i)) (option_map grown_node (node y (tree es))) ≡ None
          go true h =
              let f = idof_some fs m i.id (ap (option_map (λ (w : Entry). w.item.id)) (entries m ∙ ap (λ b. cond b (Some (record { node = m; parent = Some p; item = i; time = time })) (entry m es)) (eq-eqb m m refl))) in
              absurd (none m f.0 f.1 (f.2 ∙ sym (same_text y i.id h)))
          go false h = ap (option_map grown_node) (no_entry es t y (λ k e q is. none k e (old_entry k e q) is))
