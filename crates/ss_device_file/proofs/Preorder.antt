-- The items of a tree in preorder have their places.
use Rattle.std.proofs.Common.{◌≡◌, ◌≢◌, ℕ, zero, suc, ◌+◌, ◌-◌, ◌<◌, ◌≤◌, ◌&&◌, ◌||◌, not, Bool, true, false, cond}
use Rattle.std.proofs.Common.{List, [], ◌∷◌, ◌++◌, length, map, bytes_eq, append_assoc, append-nil, refl, sym, ap, ap₂}
use Rattle.std.proofs.Common.{subst, ◌∙◌, arith, inl, inr, Some, option_map, option_and_then, unwrap_or}
use Rattle.std.specs.List.{flat_map}
use Rattle.std.proofs.lemmas.Bool.{false≢true, eqb-true}
use Rattle.std.proofs.lemmas.List.{map-append}
use Rattle.ss_record.specs.Ids.{has, places, roots}
use Rattle.ss_record.proofs.IdLists.{bytes_eq-refl}
use Rattle.ss_list.specs.Chain.{times}
use Rattle.ss_list.proofs.Times.{times-here, times-append, below-head}
use Rattle.ss_tree.specs.declared.entries.Entry.{Entry}
use Rattle.ss_tree.specs.Trees.{PlacedItem}
use Rattle.ss_tree.specs.Entries.{IsTree, entry, is_live, kids, placed, preorder, top_entry}
use Rattle.ss_tree.proofs.EachMet.{each_met}
use Rattle.ss_tree.proofs.Kept.{preorder_more}
use Rattle.ss_tree.proofs.Once.{once_each}
use Rattle.ss_tree.proofs.Settled.{kid_ids_are}
use Rattle.ss_tree.proofs.Valid.{In}
use Rattle.ss_device.proofs.ByIds.{idof, name_at, placed_is, same_node}
use Rattle.ss_device.proofs.Changes.{kid_there, times_in}
use Rattle.ss_device.proofs.Going.{Full, full_top}
use Rattle.ss_device_file.specs.declared.lines.ItemLine.{ItemLine}
use Rattle.ss_device_file.specs.Places.{ArePlaced, IsWhole, PlacedAfter, Seat, has_place, is_next, item_ids, root_seats}
use Rattle.ss_device_file.specs.Places.{seats_behind, seats_left}
use Rattle.ss_device_file.proofs.Walked.{left_more}
use Rattle.ss_tree.proofs.Looked.{live_entry}
use Rattle.ss_text.proofs.Basics.{bytes_eq-same}

-- ---- the line of a node's item

abbrev pub line_of_entry : List Entry → Entry → ItemLine
line_of_entry es e = record { time = e.time; item = e.item; parent = unwrap_or (placed es e).parent []; children = (placed es e).children }

abbrev pub node_item : List Entry → ℕ → ItemLine
node_item es k = line_of_entry es (unwrap_or (entry k es) top_entry)

abbrev pub node_items : List Entry → List ℕ → List ItemLine
node_items es ks = map (node_item es) ks

-- an item under a parent, with children
abbrev pub line_under : Entry → List ℕ → List (List ℕ) → ItemLine
line_under e x cs = record { time = e.time; item = e.item; parent = x; children = cs }

pub name_is : (es : List Entry) (k : ℕ) (e : Entry) → entry k es ≡ Some e → name_at es k ≡ e.item.id
name_is es k e q = ap (λ o. unwrap_or (option_map (λ (d : Entry). d.item.id) o) []) q

pub node_item_is : (es : List Entry) → IsTree es → (k p : ℕ) (e f : Entry) → entry k es ≡ Some e → e.parent ≡ Some p → entry p es ≡ Some f → node_item es k ≡ line_under e f.item.id (map (name_at es) (kids k es))
node_item_is es t k p e f q up above =
    let parent : option_and_then (idof es) e.parent ≡ Some f.item.id = ap (option_and_then (idof es)) up ∙ ap (option_map (λ (d : Entry). d.item.id)) above in
    ap (λ o. line_of_entry es (unwrap_or o top_entry)) q
    ∙ (ap (λ (n : PlacedItem). line_under e (unwrap_or n.parent []) n.children) (placed_is es t k e q)
    ∙ ap (λ o. line_under e (unwrap_or o []) (map (name_at es) (kids k es))) parent)

pub node_id_is : (es : List Entry) (k : ℕ) (e : Entry) → entry k es ≡ Some e → (node_item es k).item.id ≡ e.item.id
node_id_is es k e q = ap (λ o. (unwrap_or o top_entry).item.id) q

-- ---- each item is the next one

abbrev pub Goes : List Seat → List ItemLine → List Seat → Type 0
Goes seats [] left = seats ≡ left
Goes seats (i ∷ is) left = (is_next seats i ≡ true) × Goes (seats_behind seats i) is left

goes_join : (seats : List Seat) (is js : List ItemLine) (mid left : List Seat) → Goes seats is mid → Goes mid js left → Goes seats (is ++ js) left
goes_join seats [] js mid left g h = subst (λ s. Goes s js left) (sym g) h
goes_join seats (i ∷ is) js mid left g h = (g.0, goes_join (seats_behind seats i) is js mid left g.1 h)

-- the seats of nodes under a parent
abbrev pub seats_of : List Entry → List ℕ → List ℕ → List Seat
seats_of es x ks = map (λ k. (name_at es k, x)) ks

seats_named : (es : List Entry) (x : List ℕ) (ks : List ℕ) → map (λ y. (y, x)) (map (name_at es) ks) ≡ seats_of es x ks
seats_named es x [] = refl
seats_named es x (k ∷ ks) = ap (λ ss. (name_at es k, x) ∷ ss) (seats_named es x ks)

siblings_walk : (es : List Entry) (n : ℕ) (x : List ℕ) (ks : List ℕ) → ((k : ℕ) → In k ks → (seats : List Seat) → Goes ((name_at es k, x) ∷ seats) (node_items es (preorder es n k)) seats)
    → (seats : List Seat) → Goes (seats_of es x ks ++ seats) (node_items es (flat_map (preorder es n) ks)) seats
unfolding In
siblings_walk es n x [] each seats = refl
siblings_walk es n x (k ∷ ks) each seats =
    subst (λ is. Goes ((name_at es k, x) ∷ (seats_of es x ks ++ seats)) is seats) (sym (map-append (node_item es) (preorder es n k) (flat_map (preorder es n) ks)))
    (goes_join ((name_at es k, x) ∷ (seats_of es x ks ++ seats)) (node_items es (preorder es n k)) (node_items es (flat_map (preorder es n) ks)) (seats_of es x ks ++ seats) seats
    (each k (inl refl) (seats_of es x ks ++ seats)) (siblings_walk es n x ks (λ j m. each j (inr m)) seats))

node_walk : (es : List Entry) → IsTree es → (n p k : ℕ) (f : Entry) → entry p es ≡ Some f → In k (kids p es) → Full es n k → (seats : List Seat)
    → Goes ((name_at es k, f.item.id) ∷ seats) (node_items es (preorder es n k)) seats
unfolding preorder
node_walk es t zero p k f q i full seats = absurd full
node_walk es t (suc n) p k f q i full seats =
    let e = kid_there es t p k i in
    let is : node_item es k ≡ line_under e.0 f.item.id (map (name_at es) (kids k es)) = node_item_is es t k p e.0 f e.1 e.2 q in
    let name : name_at es k ≡ e.0.item.id = name_is es k e.0 e.1 in
    let next : is_next ((name_at es k, f.item.id) ∷ seats) (node_item es k) ≡ true =
    ap (is_next ((name_at es k, f.item.id) ∷ seats)) is ∙ ap₂ (λ a b. a && b) (bytes_eq-same (name_at es k) e.0.item.id name) (bytes_eq-refl f.item.id) in
    let behind : seats_behind ((name_at es k, f.item.id) ∷ seats) (node_item es k) ≡ seats_of es e.0.item.id (kids k es) ++ seats =
    ap (seats_behind ((name_at es k, f.item.id) ∷ seats)) is ∙ ap (λ ss. ss ++ seats) (seats_named es e.0.item.id (kids k es)) in (
      next,
      subst (λ ss. Goes ss (node_items es (flat_map (preorder es n) (kids k es))) seats) (sym behind)
          (siblings_walk es n e.0.item.id (kids k es) (λ j m. node_walk es t n k j e.0 e.1 m (full j m)) seats),
    )

-- ---- the nodes below the top

abbrev pub inner : List Entry → List ℕ
inner es = flat_map (preorder es (length es - 1)) (kids 0 es)

module _ (es : List Entry) (t : IsTree es) where
  some_levels : length es ≢ 0
  some_levels e = subst (λ n. Full es n 0) e (full_top es t)

  pub order_is : preorder es (length es) 0 ≡ 0 ∷ inner es
  order_is = preorder_more es (length es) 0 some_levels

  full_kids : (k : ℕ) → In k (kids 0 es) → Full es (length es - 1) k
  full_kids k i = full_more (length es) some_levels (full_top es t)
    where
      full_more : (n : ℕ) → n ≢ 0 → Full es n 0 → Full es (n - 1) k
      full_more zero ne f = absurd f
      full_more (suc n) ne f = let one : n ≡ suc n - 1 = omega arith in subst (λ m. Full es m k) one (f k i)

  pub goes_all : Goes root_seats (node_items es (inner es)) []
  unfolding places
  goes_all =
      let named : roots ≡ map (name_at es) (kids 0 es) = sym t.under_top ∙ kid_ids_are 0 es t.nodes in
      let start : root_seats ≡ seats_of es top_entry.item.id (kids 0 es) ++ [] =
      ap (λ rs. map (λ r. (r, places)) rs) named ∙ (seats_named es places (kids 0 es) ∙ sym (append-nil (seats_of es places (kids 0 es)))) in
      subst (λ ss. Goes ss (node_items es (inner es)) []) (sym start)
      (siblings_walk es (length es - 1) top_entry.item.id (kids 0 es) (λ k i. node_walk es t (length es - 1) 0 k top_entry t.top i (full_kids k i)) [])

  once : (k : ℕ) → times k (0 ∷ inner es) ≡ cond (is_live k es) 1 0
  once k = ap (times k) (sym order_is) ∙ once_each es t k

  at_most : (k : ℕ) → times k (0 ∷ inner es) ≤ 1
  at_most k = go (is_live k es) (once k)
    where
      go : (b : Bool) → times k (0 ∷ inner es) ≡ cond b 1 0 → times k (0 ∷ inner es) ≤ 1
      go true e = omega arith
      go false e = omega arith

  pub inner_live : (k : ℕ) → In k (inner es) → is_live k es ≡ true
  inner_live k i = go (is_live k es) (once k)
    where
      go : (b : Bool) → times k (0 ∷ inner es) ≡ cond b 1 0 → b ≡ true
      go true e = refl
      go false e = let some : 0 < times k (inner es) = times_in k (inner es) i in let more : times k (inner es) ≤ times k (0 ∷ inner es) = below-head k 0 (inner es) in absurd (omega arith)

  pub inner_below : (k : ℕ) → In k (inner es) → k ≢ 0
  inner_below k i e =
      let some : 0 < times k (inner es) = times_in k (inner es) i in
      let two : times k (0 ∷ inner es) ≡ times k (inner es) + 1 = times-here k 0 (inner es) e in
      let most = at_most k in
      omega arith

  pub inner_all : (k : ℕ) → k ≢ 0 → is_live k es ≡ true → In k (inner es)
  unfolding In
  inner_all k ne live = go (each_met es (0 ∷ inner es) once k live)
    where
      go : In k (0 ∷ inner es) → In k (inner es)
      go (inl e) = absurd (ne e)
      go (inr i) = i

  -- no node stands twice
  inner_once : (front : List ℕ) (k : ℕ) (back : List ℕ) → front ++ k ∷ back ≡ inner es → In k front → ⊥
  inner_once front k back e i =
      let a : times k (front ++ k ∷ back) ≡ times k front + times k (k ∷ back) = times-append k front (k ∷ back) in
      let b : times k (k ∷ back) ≡ times k back + 1 = times-here k k back refl in
      let c : 0 < times k front = times_in k front i in
      let d : times k (front ++ k ∷ back) ≡ times k (inner es) = ap (times k) e in
      let more : times k (inner es) ≤ times k (0 ∷ inner es) = below-head k 0 (inner es) in
      let most = at_most k in
      omega arith

  -- two nodes below the top have one id where they are one
  pub one_node : (k j : ℕ) → In k (inner es) → In j (inner es) → bytes_eq (node_item es k).item.id (node_item es j).item.id ≡ true → k ≡ j
  one_node k j a b e =
      let d = live_entry es k (inner_live k a) in
      let f = live_entry es j (inner_live j b) in
      eqb-true k j (sym (same_node es t k j d.0 f.0 d.1 f.1) ∙ (ap₂ bytes_eq (sym (node_id_is es k d.0 d.1)) (sym (node_id_is es j f.0 f.1)) ∙ e))

  has_node : (x : List ℕ) (ks : List ℕ) → has x (item_ids (node_items es ks)) ≡ true → (k : ℕ) × In k ks × (bytes_eq x (node_item es k).item.id ≡ true)
  unfolding has item_ids In
  has_node x [] h = absurd (false≢true h)
  has_node x (k ∷ ks) h = go (bytes_eq x (node_item es k).item.id) refl h (has_node x ks)
    where
      go : (b : Bool) → bytes_eq x (node_item es k).item.id ≡ b → (b || has x (item_ids (node_items es ks))) ≡ true
          → (has x (item_ids (node_items es ks)) ≡ true → (j : ℕ) × In j ks × (bytes_eq x (node_item es j).item.id ≡ true))
          → (j : ℕ) × In j (k ∷ ks) × (bytes_eq x (node_item es j).item.id ≡ true)
      go true q r ih = (k, inl refl, q)
      go false q r ih = let j = ih r in (j.0, inr j.1, j.2)

  in_front : (front : List ℕ) (k : ℕ) (back : List ℕ) → In k (front ++ k ∷ back)
  unfolding In
  in_front [] k back = inl refl
  in_front (f ∷ front) k back = inr (in_front front k back)

  in_more : (k : ℕ) (front back : List ℕ) → In k front → In k (front ++ back)
  unfolding In
  in_more k [] back i = absurd i
  in_more k (f ∷ front) back (inl e) = inl e
  in_more k (f ∷ front) back (inr i) = inr (in_more k front back i)

  fresh : (front : List ℕ) (k : ℕ) (back : List ℕ) → front ++ k ∷ back ≡ inner es → has (node_item es k).item.id (item_ids (node_items es front)) ≡ false
  fresh front k back e = go (has (node_item es k).item.id (item_ids (node_items es front))) refl
    where
      go : (b : Bool) → has (node_item es k).item.id (item_ids (node_items es front)) ≡ b → b ≡ false
      go false h = refl
      go true h =
          let j = has_node (node_item es k).item.id front h in
          let same : k ≡ j.0 = one_node k j.0 (subst (In k) e (in_front front k back)) (subst (In j.0) e (in_more j.0 front (k ∷ back) j.1)) j.2 in
          absurd (inner_once front k back e (subst (λ m. In m front) (sym same) j.1))

  placed_on : (front back : List ℕ) → front ++ back ≡ inner es → Goes (seats_left (node_items es front)) (node_items es back) []
      → PlacedAfter (node_items es front) (node_items es back) × (seats_left (node_items es (front ++ back)) ≡ [])
  unfolding has_place
  placed_on front [] e g = (tt, ap (λ ks. seats_left (node_items es ks)) (append-nil front) ∙ g)
  placed_on front (k ∷ back) e g =
      let more : node_items es (front ++ k ∷ []) ≡ node_items es front ++ node_item es k ∷ [] = map-append (node_item es) front (k ∷ []) in
      let r = placed_on (front ++ k ∷ []) back (append_assoc front (k ∷ []) back ∙ e)
      (subst (λ ss. Goes ss (node_items es back) []) (sym (ap seats_left more ∙ left_more (node_items es front) (node_item es k))) g.1) in (
        (ap₂ (λ a b. a && not b) g.0 (fresh front k back e), subst (λ f. PlacedAfter f (node_items es back)) more r.0),
        ap (λ ks. seats_left (node_items es ks)) (sym (append_assoc front (k ∷ []) back)) ∙ r.1,
      )

  -- all items have their places, and none is to come
  pub all_placed : IsWhole (node_items es (inner es))
  unfolding ArePlaced seats_left
  all_placed = let r = placed_on [] (inner es) refl goes_all in record { placed = r.0; left = r.1 }
