-- The items of a tree in preorder are those of the tree, each in form.
use Rattle.std.proofs.Common.{◌≡◌, ◌≢◌, ℕ, ◌==◌, Bool, true, false, cond, List, [], ◌∷◌, map, find, bytes_eq, refl, sym}
use Rattle.std.proofs.Common.{ap, ap₂, subst, ◌∙◌, ◌&&◌, inl, inr, Option, Some, None, option_map, option_and_then}
use Rattle.std.proofs.Common.{unwrap_or, is_some}
use Rattle.std.specs.List.{list_all}
use Rattle.std.specs.Str.{IsUtf8}
use Rattle.std.proofs.lemmas.Bool.{false≢true, eqb-true, eqb-false}
use Rattle.ss_text.specs.Names.{is_id}
use Rattle.ss_record.specs.Ids.{places}
use Rattle.ss_record.specs.Kinds.{is_folder}
use Rattle.ss_record.specs.Records.{record_of}
use Rattle.ss_record.proofs.IdLists.{bytes_eq-apart}
use Rattle.ss_tree.specs.declared.entries.Entry.{Entry}
use Rattle.ss_tree.specs.Trees.{IsSame, PlacedItem, node, places_node}
use Rattle.ss_tree.specs.Entries.{IsTree, entry, is_live, kids, placed, top_entry, tree}
use Rattle.ss_tree.proofs.Valid.{In, valid_tree}
use Rattle.ss_device.specs.Forms.{AreItems}
use Rattle.ss_device.specs.Writing.{record_at}
use Rattle.ss_device.proofs.ByIds.{at_entry, by_entry, idof, name_at, placed_is, same_node}
use Rattle.ss_device.proofs.Changes.{kid_there}
use Rattle.ss_device_file.specs.declared.lines.ItemLine.{ItemLine}
use Rattle.ss_device_file.specs.Lines.{IsItemLine, record_in}
use Rattle.ss_device_file.specs.Places.{placed_of, tree_of}
use Rattle.ss_device_file.proofs.Preorder.{inner, inner_all, inner_below, inner_live, line_under, name_is, node_id_is}
use Rattle.ss_device_file.proofs.Preorder.{node_item, node_item_is, node_items, one_node}
use Rattle.ss_tree.proofs.Looked.{live_entry}
use Rattle.ss_text.proofs.Basics.{bytes_eq-sym, bytes_eq-same, some_same, none_some}

places_id : is_id places ≡ true
unfolding places
places_id = refl

-- ---- an item below the top, and its folder

pub record IsThere (es : List Entry) (k : ℕ) : Type 0 where
  pub item : Entry
  pub at : entry k es ≡ Some item
  pub up : ℕ
  pub up_is : item.parent ≡ Some up
  pub folder : Entry
  pub above : entry up es ≡ Some folder

pub there : (es : List Entry) → IsTree es → (k : ℕ) → k ≢ 0 → is_live k es ≡ true → IsThere es k
there es t k ne live =
    let e = live_entry es k live in
    let f = t.folder k e.0 e.1 ne in
    record { item = e.0; at = e.1; up = f.0; up_is = f.1; folder = f.2; above = f.3 }

abbrev pub made_line : (es : List Entry) (k : ℕ) → IsThere es k → ItemLine
made_line es k h = line_under h.item h.folder.item.id (map (name_at es) (kids k es))

pub line_is : (es : List Entry) → IsTree es → (k : ℕ) (h : IsThere es k) → node_item es k ≡ made_line es k h
line_is es t k h = node_item_is es t k h.up h.item h.folder h.at h.up_is h.above

pub placed_same : (es : List Entry) → IsTree es → (k : ℕ) (h : IsThere es k) → placed_of (node_item es k) ≡ placed es h.item
placed_same es t k h =
    let parent : option_and_then (idof es) h.item.parent ≡ Some h.folder.item.id = ap (option_and_then (idof es)) h.up_is ∙ ap (option_map (λ (d : Entry). d.item.id)) h.above in
    ap placed_of (line_is es t k h)
    ∙ sym (placed_is es t k h.item h.at
    ∙ ap (λ o. record { id = h.item.item.id; kind = h.item.item.kind; content = h.item.item.content; parent = o; children = map (name_at es) (kids k es); time = h.item.time }) parent)

pub record_same : (es : List Entry) → IsTree es → (k : ℕ) (h : IsThere es k) → record_in (node_item es k) ≡ record_at es h.item
unfolding record_in record_at
record_same es t k h =
    let parent : option_and_then (idof es) h.item.parent ≡ Some h.folder.item.id = ap (option_and_then (idof es)) h.up_is ∙ ap (option_map (λ (d : Entry). d.item.id)) h.above in
    ap record_in (line_is es t k h)
    ∙ sym (ap (λ (n : PlacedItem). record_of h.item.item (unwrap_or n.parent []) n.children) (placed_is es t k h.item h.at)
    ∙ ap (λ o. record_of h.item.item (unwrap_or o []) (map (name_at es) (kids k es))) parent)

-- ---- the same items

abbrev found : List Entry → List ℕ → List ℕ → Option PlacedItem
found es x ks = find (λ (n : PlacedItem). bytes_eq x n.id) (map placed_of (node_items es ks))

find_first : (es : List Entry) (x : List ℕ) (ks : List ℕ) (k : ℕ) → In k ks → bytes_eq x (node_item es k).item.id ≡ true
    → ((j : ℕ) → In j ks → bytes_eq x (node_item es j).item.id ≡ true → j ≡ k) → found es x ks ≡ Some (placed_of (node_item es k))
unfolding In
find_first es x [] k i h one = absurd i
find_first es x (j ∷ js) k i h one = go (bytes_eq x (node_item es j).item.id) refl i (λ m. find_first es x js k m h (λ n a b. one n (inr a) b))
  where
    go : (b : Bool) → bytes_eq x (node_item es j).item.id ≡ b → In k (j ∷ js) → (In k js → found es x js ≡ Some (placed_of (node_item es k))) → cond b (Some (placed_of (node_item es j))) (found es x js) ≡ Some (placed_of (node_item es k))
    go true q m ih = ap (λ n. Some (placed_of (node_item es n))) (one j (inl refl) q)
    go false q (inl e) ih = absurd (false≢true (sym q ∙ (ap (λ n. bytes_eq x (node_item es n).item.id) (sym e) ∙ h)))
    go false q (inr m) ih = ih m

find_no : (es : List Entry) (x : List ℕ) (ks : List ℕ) → ((j : ℕ) → In j ks → bytes_eq x (node_item es j).item.id ≡ false) → found es x ks ≡ None
unfolding In
find_no es x [] none = refl
find_no es x (j ∷ js) none = ap (λ b. cond b (Some (placed_of (node_item es j))) (found es x js)) (none j (inl refl)) ∙ find_no es x js (λ n a. none n (inr a))

module _ (es : List Entry) (t : IsTree es) where
  top_placed : placed es top_entry ≡ places_node
  unfolding places
  top_placed = some_same (sym (at_entry es t 0 top_entry t.top) ∙ (valid_tree es t).top_is)

  top_apart : (k : ℕ) (e : Entry) → entry k es ≡ Some e → k ≢ 0 → bytes_eq e.item.id places ≡ false
  top_apart k e q ne = same_node es t k 0 e top_entry q t.top ∙ apart (k == 0) refl
    where
      apart : (b : Bool) → (k == 0) ≡ b → b ≡ false
      apart true h = absurd (ne (eqb-true k 0 h))
      apart false h = refl

  pub same_items : IsSame (tree es) (tree_of (node_items es (inner es)))
  unfolding node tree_of places_node
  same_items x = by_entry es t x (node x (tree_of (node_items es (inner es)))) to from
    where
      told : (b : Bool) → bytes_eq x places ≡ b → node x (tree_of (node_items es (inner es))) ≡ cond b (Some places_node) (found es x (inner es))
      told b q = ap (λ c. cond c (Some places_node) (found es x (inner es))) q

      to : (k : ℕ) (e : Entry) → entry k es ≡ Some e → e.item.id ≡ x → node x (tree_of (node_items es (inner es))) ≡ Some (placed es e)
      to k e q is = go (k == 0) refl
        where
          go : (b : Bool) → (k == 0) ≡ b → node x (tree_of (node_items es (inner es))) ≡ Some (placed es e)
          go true h =
              let top : e ≡ top_entry = some_same (sym q ∙ (ap (λ n. entry n es) (eqb-true k 0 h) ∙ t.top)) in
              let id : x ≡ places = sym is ∙ ap (λ (d : Entry). d.item.id) top in
              told true (bytes_eq-same x places id) ∙ ap Some (sym (ap (placed es) top ∙ top_placed))
          go false h =
              let ne = eqb-false k 0 h in
              let live : is_live k es ≡ true = ap is_some q in
              let m = there es t k ne live in
              let one : m.item ≡ e = some_same (sym m.at ∙ q) in
              let id : x ≡ (node_item es k).item.id = sym is ∙ sym (node_id_is es k e q) in
              let i = inner_all es t k ne live in
              told false (ap (λ y. bytes_eq y places) (sym is) ∙ top_apart k e q ne)
              ∙ (find_first es x (inner es) k i (bytes_eq-same x (node_item es k).item.id id) (λ j a b. one_node es t j k a i (bytes_eq-sym (node_item es j).item.id (node_item es k).item.id ∙ (ap (λ y. bytes_eq y (node_item es j).item.id) (sym id) ∙ b)))
              ∙ (ap Some (placed_same es t k m) ∙ ap (λ (d : Entry). Some (placed es d)) one))

      from : ((k : ℕ) (e : Entry) → entry k es ≡ Some e → e.item.id ≡ x → ⊥) → node x (tree_of (node_items es (inner es))) ≡ None
      from none =
          told false (bytes_eq-apart x places (λ is. none 0 top_entry t.top (sym is)))
          ∙ find_no es x (inner es) (λ j a. let e = live_entry es j (inner_live es t j a) in bytes_eq-apart x (node_item es j).item.id (λ is. none j e.0 e.1 (sym (node_id_is es j e.0 e.1) ∙ sym is)))

  -- ---- the items in form

  module _ (formed : AreItems es) where
    kid_ids_formed : (k : ℕ) (ks : List ℕ) → ((j : ℕ) → In j ks → In j (kids k es)) → list_all is_id (map (name_at es) ks) ≡ true
    unfolding In
    kid_ids_formed k [] sub = refl
    kid_ids_formed k (j ∷ js) sub =
        let e = kid_there es t k j (sub j (inl refl)) in
        ap₂ (λ a b. a && b) (ap is_id (name_is es j e.0 e.1) ∙ (formed j e.0 (kid_below k j e.0 e.1 e.2) e.1).id) (kid_ids_formed k js (λ i m. sub i (inr m)))
      where
        kid_below : (p i : ℕ) (d : Entry) → entry i es ≡ Some d → d.parent ≡ Some p → i ≢ 0
        kid_below p i d q up e =
            let top : d ≡ top_entry = some_same (sym q ∙ (ap (λ n. entry n es) e ∙ t.top)) in
            none_some (ap (λ (w : Entry). w.parent) (sym top) ∙ up)

    folder_formed : (p : ℕ) (f : Entry) → entry p es ≡ Some f → is_id f.item.id ≡ true
    folder_formed p f q = go (p == 0) refl
      where
        go : (b : Bool) → (p == 0) ≡ b → is_id f.item.id ≡ true
        go true h = let top : f ≡ top_entry = some_same (sym q ∙ (ap (λ n. entry n es) (eqb-true p 0 h) ∙ t.top)) in ap (λ (d : Entry). is_id d.item.id) top ∙ places_id
        go false h = (formed p f (eqb-false p 0 h) q).id

    leaf_alone : (k : ℕ) (e : Entry) → entry k es ≡ Some e → is_folder e.item.kind ≡ false → kids k es ≡ []
    unfolding In
    leaf_alone k e q leaf = go (kids k es) refl
      where
        go : (ks : List ℕ) → kids k es ≡ ks → ks ≡ []
        go [] h = refl
        go (j ∷ js) h =
            let d = kid_there es t k j (subst (In j) (sym h) (inl refl)) in
            let f = t.folder j d.0 d.1 (λ z. let top : d.0 ≡ top_entry = some_same (sym d.1 ∙ (ap (λ n. entry n es) z ∙ t.top)) in none_some (ap (λ (w : Entry). w.parent) (sym top) ∙ d.2)) in
            let up : f.0 ≡ k = some_same (sym f.1 ∙ d.2) in
            let one : f.2 ≡ e = some_same (sym f.3 ∙ (ap (λ n. entry n es) up ∙ q)) in
            absurd (false≢true (sym leaf ∙ (ap (λ (w : Entry). is_folder w.item.kind) (sym one) ∙ f.4)))

    pub item_formed : (k : ℕ) → In k (inner es) → IsItemLine (node_item es k)
    item_formed k i =
        let ne = inner_below es t k i in
        let h = there es t k ne (inner_live es t k i) in
        let form = formed k h.item ne h.at in
        subst IsItemLine (sym (line_is es t k h)) (record {
          time = form.time;
          id = form.id;
          fit = form.fit;
          inner = top_apart k h.item h.at ne;
          parent = folder_formed h.up h.folder h.above;
          children = kid_ids_formed k (kids k es) (λ j m. m);
          leaf = λ leaf. ap (map (name_at es)) (leaf_alone k h.item h.at leaf);
        })

    pub record_formed : (k : ℕ) → In k (inner es) → IsUtf8 (record_in (node_item es k))
    record_formed k i =
        let ne = inner_below es t k i in
        let h = there es t k ne (inner_live es t k i) in
        subst IsUtf8 (sym (record_same es t k h)) (formed k h.item ne h.at).record_utf8
