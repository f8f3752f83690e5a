-- The entries of the items in order are a tree: the built one.
use Rattle.std.proofs.Common.{◌≡◌, ◌≢◌, ℕ, zero, suc, ◌+◌, ◌<◌, ◌≤◌, ◌==◌, ◌⊎◌, inl, inr, List, [], ◌∷◌, length, map}
use Rattle.std.proofs.Common.{get_or, Bool, true, false, cond, ◌||◌, nat_eq, refl, sym, ap, ap₂, ◌∙◌, subst, arith}
use Rattle.std.proofs.Common.{eq-eqb, lt-ltb, filter, find, bytes_eq, Option, Some, None, is_some, option_map}
use Rattle.std.proofs.Common.{option_and_then, unwrap_or}
use Rattle.std.specs.List.{list_any}
use Rattle.std.proofs.lemmas.Bool.{cases_eq, ne_eqb, eqb-true, false≢true, le-ltb}
use Rattle.std.proofs.lemmas.List.{get_or-map, length-map}
use Rattle.std.proofs.lemmas.Map.Steps.{le-length_from_below}
use Rattle.ss_record.specs.Ids.{Apart, has, places, roots}
use Rattle.ss_record.specs.Kinds.{is_folder}
use Rattle.ss_record.proofs.IdLists.{bytes_eq-apart, has-nil, has-cons, has-head, has-tail, Apart-cons, Apart-head}
use Rattle.ss_record.proofs.IdLists.{Apart-tail}
use Rattle.ss_tree.specs.declared.entries.Entry.{Entry}
use Rattle.ss_tree.specs.Entries.{IsTree, NodesApart, above, entry, entry_ids, is_live, kid_ids, placed, stands_under}
use Rattle.ss_tree.specs.Entries.{top_entry, tree, up}
use Rattle.ss_tree.specs.Trees.{IsSame, PlacedItem, Reaches, node, parent_in, places_node, steps}
use Rattle.ss_build.specs.declared.claims.Claim.{Claim}
use Rattle.ss_build.specs.Built.{built_children, built_parent, claim, empty_root, ids, node_of, tree_of}
use Rattle.ss_build.specs.Places.{AreItems, at, in_order, names, parents_of, place}
use Rattle.ss_build.specs.Planted.{entries, node_at, planted_entry}
use Rattle.ss_build.proofs.Items.{In, In_has, claim_found, has_claim, claim_none}
use Rattle.ss_build.proofs.Valid.{length-ids, node_tree, node_places, parent_cases, parent_in_claim, up_ends}
use Rattle.ss_build.proofs.Seats.{place_lt, place_at, place_none, at_place, has_at, place_same, id_at, at_in}
use Rattle.ss_build.proofs.Chosen.{at_own, place_own, place_in}
use Rattle.ss_build.proofs.Uppers.{claims_from}
use Rattle.ss_build.proofs.Ordered.{filter_alike, under_item, under_places, has-in_order, Apart-in_order}
use Rattle.ss_text.proofs.Basics.{same_text, bytes_eq-same}

-- ---- entries by their nodes

entry_planted : (es : List Claim) (parents order : List ℕ) (i : ℕ) → list_any (nat_eq i) order ≡ true → entry (i + 1) (map (planted_entry es parents) order) ≡ Some (planted_entry es parents i)
unfolding entry
entry_planted es parents [] i h = absurd (false≢true h)
entry_planted es parents (j ∷ js) i h = go (cases_eq i j) (entry_planted es parents js i)
  where
    go : (i ≡ j) ⊎ (i ≢ j) → (list_any (nat_eq i) js ≡ true → find (λ e. i + 1 == e.node) (map (planted_entry es parents) js) ≡ Some (planted_entry es parents i)) → find (λ e. i + 1 == e.node) (planted_entry es parents j ∷ map (planted_entry es parents) js) ≡ Some (planted_entry es parents i)
    go (inl q) ih = ap (λ b. cond b (Some (planted_entry es parents j)) (find (λ e. i + 1 == e.node) (map (planted_entry es parents) js))) (eq-eqb (i + 1) (j + 1) (ap (λ k. k + 1) q)) ∙ ap (λ k. Some (planted_entry es parents k)) (sym q)
    go (inr ne) ih =
        ap (λ b. cond b (Some (planted_entry es parents j)) (find (λ e. i + 1 == e.node) (map (planted_entry es parents) js))) (ne_eqb (i + 1) (j + 1) (λ q. ne (omega arith)))
        ∙ ih (ap (λ b. b || list_any (nat_eq i) js) (sym (ne_eqb i j ne)) ∙ h)

entry_from : (es : List Claim) (parents order : List ℕ) (k : ℕ) (e : Entry) → entry k (map (planted_entry es parents) order) ≡ Some e → (i : ℕ) × (k ≡ i + 1) × (list_any (nat_eq i) order ≡ true) × (e ≡ planted_entry es parents i)
unfolding entry
entry_from es parents [] k e h = cc
entry_from es parents (j ∷ js) k e h = go (k == j + 1) refl h (entry_from es parents js k e)
  where
    go : (b : Bool) → (k == j + 1) ≡ b → cond b (Some (planted_entry es parents j)) (find (λ e. k == e.node) (map (planted_entry es parents) js)) ≡ Some e
        → (find (λ e. k == e.node) (map (planted_entry es parents) js) ≡ Some e → (i : ℕ) × (k ≡ i + 1) × (list_any (nat_eq i) js ≡ true) × (e ≡ planted_entry es parents i))
        → (i : ℕ) × (k ≡ i + 1) × (list_any (nat_eq i) (j ∷ js) ≡ true) × (e ≡ planted_entry es parents i)
    go true q s ih = (j, eqb-true k (j + 1) q, ap (λ b. b || list_any (nat_eq j) js) (eq-eqb j j refl), some_is s)
      where
        some_is : Some (planted_entry es parents j) ≡ Some e → e ≡ planted_entry es parents j
        some_is s = cc
    go false q s ih = let r = ih s in (r.0, r.1, later (nat_eq r.0 j) r.2, r.3)
      where
        later : {c : Bool} (b : Bool) → c ≡ true → (b || c) ≡ true
        later true e = refl
        later false e = e

no_zero : (es : List Claim) (parents order : List ℕ) → entry 0 (map (planted_entry es parents) order) ≡ None
unfolding entry
no_zero es parents [] = refl
no_zero es parents (j ∷ js) = ap (λ b. cond b (Some (planted_entry es parents j)) (find (λ e. 0 == e.node) (map (planted_entry es parents) js))) (ne_eqb 0 (j + 1) (λ q. absurd (omega arith))) ∙ no_zero es parents js

entry_top : (es : List Claim) (parents order : List ℕ) → entry 0 (entries es parents order) ≡ Some top_entry
unfolding entry
entry_top es parents order = refl

entry_below : (es : List Claim) (parents order : List ℕ) (i : ℕ) → entry (i + 1) (entries es parents order) ≡ entry (i + 1) (map (planted_entry es parents) order)
unfolding entry
entry_below es parents order i = ap (λ b. cond b (Some top_entry) (find (λ e. i + 1 == e.node) (map (planted_entry es parents) order))) (ne_eqb (i + 1) 0 (λ q. absurd (omega arith)))

-- ---- with the parents and the order of building

module _ (es : List Claim) (a : AreItems es) (parents order : List ℕ) (up_is : parents ≡ parents_of es) (names_are : names (ids es) order ≡ in_order es)
    (bounded : (k : ℕ) → k < length order → get_or order k 0 < length es) where
  len : length (ids es) ≡ length es
  len = length-ids es

  id_of : ℕ → List ℕ
  id_of i = get_or (ids es) i places

  -- an id's node
  number : List ℕ → ℕ
  number y = node_at (length es) (place y (ids es))

  parent_at : (i : ℕ) → i < length es → get_or parents i 0 ≡ place (built_parent es (at es i).item.id) (ids es)
  unfolding parents_of
  parent_at i l = ap (λ w. get_or w i 0) up_is ∙ get_or-map (λ e. place (built_parent es e.item.id) (ids es)) es i (empty_root places) 0 l

  -- each item has its place in the order
  named_in : (xs : List ℕ) (x : List ℕ) → ((k : ℕ) → k < length xs → get_or xs k 0 < length es) → has x (names (ids es) xs) ≡ true → list_any (nat_eq (place x (ids es))) xs ≡ true
  named_in [] x b h = absurd (false≢true (sym (has-nil x) ∙ h))
  named_in (j ∷ js) x b h = go (bytes_eq x (get_or (ids es) j places)) refl (sym (has-cons x (get_or (ids es) j places) (names (ids es) js)) ∙ h) (named_in js x (λ k l. b (suc k) (omega arith)))
    where
      go : (c : Bool) → bytes_eq x (get_or (ids es) j places) ≡ c → (c || has x (names (ids es) js)) ≡ true → (has x (names (ids es) js) ≡ true → list_any (nat_eq (place x (ids es))) js ≡ true) → (nat_eq (place x (ids es)) j || list_any (nat_eq (place x (ids es))) js) ≡ true
      go true q e ih =
          let l : j < length es = b 0 (omega arith) in
          let s : length (ids es) ≡ length es = len in
          ap (λ c. c || list_any (nat_eq (place x (ids es))) js) (eq-eqb (place x (ids es)) j (ap (λ w. place w (ids es)) (same_text x (get_or (ids es) j places) q) ∙ place_at (ids es) j places a.apart (omega arith)))
      go false q e ih = later (nat_eq (place x (ids es)) j) (ih e)
        where
          later : {c : Bool} (b : Bool) → c ≡ true → (b || c) ≡ true
          later true e = refl
          later false e = e

  in_order_of : (i : ℕ) → i < length es → list_any (nat_eq i) order ≡ true
  in_order_of i l =
      let s : length (ids es) ≡ length es = len in
      let p : place (get_or (ids es) i places) (ids es) ≡ i = place_at (ids es) i places a.apart (omega arith) in
      ap (λ k. list_any (nat_eq k) order) (sym p)
      ∙ named_in order (get_or (ids es) i places) bounded (ap (has (get_or (ids es) i places)) names_are ∙ (has-in_order es (get_or (ids es) i places) a ∙ has_at (ids es) i places (omega arith)))

  listed_below : (xs : List ℕ) (i : ℕ) → ((k : ℕ) → k < length xs → get_or xs k 0 < length es) → list_any (nat_eq i) xs ≡ true → i < length es
  listed_below [] i b h = absurd (false≢true h)
  listed_below (j ∷ js) i b h = go (cases_eq i j) (listed_below js i (λ k l. b (suc k) (omega arith)))
    where
      go : (i ≡ j) ⊎ (i ≢ j) → (list_any (nat_eq i) js ≡ true → i < length es) → i < length es
      go (inl q) ih = let l : j < length es = b 0 (omega arith) in omega arith
      go (inr ne) ih = ih (ap (λ c. c || list_any (nat_eq i) js) (sym (ne_eqb i j ne)) ∙ h)

  entry_item : (i : ℕ) → i < length es → entry (i + 1) (entries es parents order) ≡ Some (planted_entry es parents i)
  entry_item i l = entry_below es parents order i ∙ entry_planted es parents order i (in_order_of i l)

  -- what an entry is
  entry_is : (k : ℕ) (e : Entry) → entry k (entries es parents order) ≡ Some e → ((k ≡ 0) × (e ≡ top_entry)) ⊎ ((i : ℕ) × (k ≡ i + 1) × (i < length es) × (e ≡ planted_entry es parents i))
  entry_is zero e h = inl (refl, some_is (sym (entry_top es parents order) ∙ h))
    where
      some_is : Some top_entry ≡ Some e → e ≡ top_entry
      some_is s = cc
  entry_is (suc k) e h =
      let p : suc k ≡ k + 1 = omega arith in
      let r = entry_from es parents order (k + 1) e (sym (entry_below es parents order k) ∙ (ap (λ w. entry w (entries es parents order)) (sym p) ∙ h)) in
      inr (r.0, p ∙ r.1, listed_below order r.0 bounded r.2, r.3)

  -- ---- who stands under whom

  below : ℕ → List ℕ → Bool
  below k x = k == node_at (length es) (place (built_parent es x) (ids es))

  kids_from : (xs : List ℕ) (k : ℕ) → ((j : ℕ) → j < length xs → get_or xs j 0 < length es)
      → map (λ e. e.item.id) (filter (stands_under k) (map (planted_entry es parents) xs)) ≡ filter (below k) (names (ids es) xs)
  unfolding below
  kids_from [] k b = refl
  kids_from (i ∷ xs) k b = go (kids_from xs k (λ j l. b (suc j) (omega arith)))
    where
      l : i < length es
      l = b 0 (omega arith)

      test : (k == node_at (length es) (get_or parents i 0)) ≡ (k == node_at (length es) (place (built_parent es (get_or (ids es) i places)) (ids es)))
      test = ap (λ p. k == node_at (length es) p) (parent_at i l ∙ ap (λ w. place (built_parent es w) (ids es)) (sym (id_at es i)))

      go : map (λ e. e.item.id) (filter (stands_under k) (map (planted_entry es parents) xs)) ≡ filter (λ x. k == node_at (length es) (place (built_parent es x) (ids es))) (names (ids es) xs)
          → map (λ e. e.item.id) (cond (k == node_at (length es) (get_or parents i 0)) (planted_entry es parents i ∷ filter (stands_under k) (map (planted_entry es parents) xs)) (filter (stands_under k) (map (planted_entry es parents) xs)))
          ≡ cond (k == node_at (length es) (place (built_parent es (get_or (ids es) i places)) (ids es))) (get_or (ids es) i places ∷ filter (λ x. k == node_at (length es) (place (built_parent es x) (ids es))) (names (ids es) xs)) (filter (λ x. k == node_at (length es) (place (built_parent es x) (ids es))) (names (ids es) xs))
      go ih = step (k == node_at (length es) (get_or parents i 0)) test
        where
          step : (b : Bool) → b ≡ (k == node_at (length es) (place (built_parent es (get_or (ids es) i places)) (ids es)))
              → map (λ e. e.item.id) (cond b (planted_entry es parents i ∷ filter (stands_under k) (map (planted_entry es parents) xs)) (filter (stands_under k) (map (planted_entry es parents) xs)))
              ≡ cond (k == node_at (length es) (place (built_parent es (get_or (ids es) i places)) (ids es))) (get_or (ids es) i places ∷ filter (λ x. k == node_at (length es) (place (built_parent es x) (ids es))) (names (ids es) xs)) (filter (λ x. k == node_at (length es) (place (built_parent es x) (ids es))) (names (ids es) xs))
          step true q = ap₂ (λ x w. x ∷ w) (sym (id_at es i)) ih ∙ ap (λ b. cond b (get_or (ids es) i places ∷ filter (λ x. k == node_at (length es) (place (built_parent es x) (ids es))) (names (ids es) xs)) (filter (λ x. k == node_at (length es) (place (built_parent es x) (ids es))) (names (ids es) xs))) q
          step false q = ih ∙ ap (λ b. cond b (get_or (ids es) i places ∷ filter (λ x. k == node_at (length es) (place (built_parent es x) (ids es))) (names (ids es) xs)) (filter (λ x. k == node_at (length es) (place (built_parent es x) (ids es))) (names (ids es) xs))) q

  kids_are : (k : ℕ) → kid_ids k (entries es parents order) ≡ filter (below k) (in_order es)
  unfolding kid_ids
  kids_are k = kids_from order k bounded ∙ ap (filter (below k)) names_are

  -- the parent of an item is an item, or `places`
  known : (x : List ℕ) → has x (ids es) ≡ true → (has (built_parent es x) (ids es) ≡ true) ⊎ (built_parent es x ≡ places)
  known x h = go (parent_cases es (claims_from es a) x h)
    where
      go : ((has x roots ≡ true) × (built_parent es x ≡ places)) ⊎ ((f : Claim) × In f es × (is_folder f.item.kind ≡ true) × (built_parent es x ≡ f.item.id)) → (has (built_parent es x) (ids es) ≡ true) ⊎ (built_parent es x ≡ places)
      go (inl r) = inr r.1
      go (inr f) = inl (ap (λ w. has w (ids es)) f.3 ∙ In_has es f.0 f.1)

  number_item : (y : List ℕ) → has y (ids es) ≡ true → node_at (length es) (place y (ids es)) ≡ place y (ids es) + 1
  number_item y h =
      let l : place y (ids es) < length (ids es) = place_lt y (ids es) h in
      let s : length (ids es) ≡ length es = len in
      ap (λ b. cond b (place y (ids es) + 1) 0) (lt-ltb (place y (ids es)) (length es) (omega arith))

  number_places : (y : List ℕ) → y ≡ places → node_at (length es) (place y (ids es)) ≡ 0
  number_places y q =
      let p : place y (ids es) ≡ length (ids es) = ap (λ w. place w (ids es)) q ∙ place_none places (ids es) a.no_places in
      let s : length (ids es) ≡ length es = len in
      ap (λ b. cond b (place y (ids es) + 1) 0) (le-ltb (place y (ids es)) (length es) (omega arith))

  below_top : (x : List ℕ) → has x (ids es) ≡ true → (0 == node_at (length es) (place (built_parent es x) (ids es))) ≡ bytes_eq (built_parent es x) places
  below_top x h = go (known x h)
    where
      go : (has (built_parent es x) (ids es) ≡ true) ⊎ (built_parent es x ≡ places) → (0 == node_at (length es) (place (built_parent es x) (ids es))) ≡ bytes_eq (built_parent es x) places
      go (inl k) =
          ap (λ n. 0 == n) (number_item (built_parent es x) k)
          ∙ (ne_eqb 0 (place (built_parent es x) (ids es) + 1) (λ q. absurd (omega arith)) ∙ sym (bytes_eq-apart (built_parent es x) places (λ q. false≢true (sym a.no_places ∙ (ap (λ w. has w (ids es)) (sym q) ∙ k)))))
      go (inr q) = ap (λ n. 0 == n) (number_places (built_parent es x) q) ∙ sym (bytes_eq-same (built_parent es x) places q)

  below_item : (i : ℕ) → i < length es → (x : List ℕ) → has x (ids es) ≡ true → (i + 1 == node_at (length es) (place (built_parent es x) (ids es))) ≡ bytes_eq (built_parent es x) (at es i).item.id
  below_item i l x h = go (known x h)
    where
      go : (has (built_parent es x) (ids es) ≡ true) ⊎ (built_parent es x ≡ places) → (i + 1 == node_at (length es) (place (built_parent es x) (ids es))) ≡ bytes_eq (built_parent es x) (at es i).item.id
      go (inl k) = ap (λ n. i + 1 == n) (number_item (built_parent es x) k) ∙ pick (cases_eq i (place (built_parent es x) (ids es)))
        where
          own : place (at es i).item.id (ids es) ≡ i
          own = place_own es i a.apart l

          pick : (i ≡ place (built_parent es x) (ids es)) ⊎ (i ≢ place (built_parent es x) (ids es)) → (i + 1 == place (built_parent es x) (ids es) + 1) ≡ bytes_eq (built_parent es x) (at es i).item.id
          pick (inl q) = eq-eqb (i + 1) (place (built_parent es x) (ids es) + 1) (ap (λ n. n + 1) q) ∙ sym (bytes_eq-same (built_parent es x) (at es i).item.id (place_same (built_parent es x) (at es i).item.id (ids es) (In_has es (at es i) (at_in es i l)) (sym q ∙ sym own)))
          pick (inr ne) = ne_eqb (i + 1) (place (built_parent es x) (ids es) + 1) (λ q. ne (omega arith)) ∙ sym (bytes_eq-apart (built_parent es x) (at es i).item.id (λ q. ne (sym own ∙ sym (ap (λ w. place w (ids es)) q))))
      go (inr q) =
          ap (λ n. i + 1 == n) (number_places (built_parent es x) q)
          ∙ (ne_eqb (i + 1) 0 (λ q. absurd (omega arith)) ∙ sym (bytes_eq-apart (built_parent es x) (at es i).item.id (λ r. false≢true (sym a.no_places ∙ (ap (λ w. has w (ids es)) (sym q ∙ r) ∙ In_has es (at es i) (at_in es i l))))))

  kids_top : kid_ids 0 (entries es parents order) ≡ roots
  unfolding below
  kids_top = kids_are 0 ∙ (filter_alike (λ x. 0 == node_at (length es) (place (built_parent es x) (ids es))) (λ x. bytes_eq (built_parent es x) places) (in_order es) (λ x h. below_top x (sym (has-in_order es x a) ∙ h)) ∙ under_places es a)

  kids_item : (i : ℕ) → i < length es → kid_ids (i + 1) (entries es parents order) ≡ built_children es (at es i)
  unfolding below
  kids_item i l = kids_are (i + 1) ∙ (filter_alike (λ x. i + 1 == node_at (length es) (place (built_parent es x) (ids es))) (λ x. bytes_eq (built_parent es x) (at es i).item.id) (in_order es) (λ x h. below_item i l x (sym (has-in_order es x a) ∙ h)) ∙ under_item es (at es i) a (at_in es i l))

  -- ---- the entries as items in their places

  parent_entry : (x : List ℕ) → has x (ids es) ≡ true → option_map (λ f. f.item.id) (entry (node_at (length es) (place (built_parent es x) (ids es))) (entries es parents order)) ≡ Some (built_parent es x)
  parent_entry x h = go (known x h)
    where
      go : (has (built_parent es x) (ids es) ≡ true) ⊎ (built_parent es x ≡ places) → option_map (λ f. f.item.id) (entry (node_at (length es) (place (built_parent es x) (ids es))) (entries es parents order)) ≡ Some (built_parent es x)
      go (inl k) =
          let l : place (built_parent es x) (ids es) < length (ids es) = place_lt (built_parent es x) (ids es) k in
          let s : length (ids es) ≡ length es = len in
          ap (λ n. option_map (λ f. f.item.id) (entry n (entries es parents order))) (number_item (built_parent es x) k)
          ∙ (ap (option_map (λ f. f.item.id)) (entry_item (place (built_parent es x) (ids es)) (omega arith))
          ∙ ap Some (sym (id_at es (place (built_parent es x) (ids es))) ∙ at_place (built_parent es x) (ids es) places k))
      go (inr q) =
          ap (λ n. option_map (λ f. f.item.id) (entry n (entries es parents order))) (number_places (built_parent es x) q)
          ∙ (ap (option_map (λ f. f.item.id)) (entry_top es parents order) ∙ ap Some (sym q))

  own_id : (i : ℕ) → i < length es → has (at es i).item.id (ids es) ≡ true
  own_id i l = In_has es (at es i) (at_in es i l)

  placed_item : (i : ℕ) → i < length es → placed (entries es parents order) (planted_entry es parents i) ≡ node_of es (at es i)
  unfolding placed node_of
  placed_item i l =
      ap₂ (λ p c. record { id = (at es i).item.id; kind = (at es i).item.kind; content = (at es i).item.content; parent = p; children = c; time = (at es i).time })
      (ap (λ p. option_map (λ f. f.item.id) (entry (node_at (length es) p) (entries es parents order))) (parent_at i l) ∙ parent_entry (at es i).item.id (own_id i l)) (kids_item i l)

  placed_top : placed (entries es parents order) top_entry ≡ places_node
  unfolding placed places_node
  placed_top = ap (λ c. record { id = top_entry.item.id; kind = top_entry.item.kind; content = top_entry.item.content; parent = None; children = c; time = 0 }) kids_top

  find_placed : (xs : List ℕ) (x : List ℕ) → ((k : ℕ) → k < length xs → get_or xs k 0 < length es)
      → find (λ n. bytes_eq x n.id) (map (placed (entries es parents order)) (map (planted_entry es parents) xs)) ≡ cond (has x (names (ids es) xs)) (Some (node_of es (at es (place x (ids es))))) None
  unfolding placed
  find_placed [] x b = ap (λ c. cond c (Some (node_of es (at es (place x (ids es))))) None) (sym (has-nil x))
  find_placed (i ∷ xs) x b =
      go (bytes_eq x (at es i).item.id) refl (find_placed xs x (λ k l. b (suc k) (omega arith)))
      ∙ ap (λ c. cond c (Some (node_of es (at es (place x (ids es))))) None) (sym (has-cons x (get_or (ids es) i places) (names (ids es) xs) ∙ ap (λ w. bytes_eq x w || has x (names (ids es) xs)) (id_at es i)))
    where
      l : i < length es
      l = b 0 (omega arith)

      go : (c : Bool) → bytes_eq x (at es i).item.id ≡ c
          → find (λ n. bytes_eq x n.id) (map (placed (entries es parents order)) (map (planted_entry es parents) xs)) ≡ cond (has x (names (ids es) xs)) (Some (node_of es (at es (place x (ids es))))) None
          → cond (bytes_eq x (at es i).item.id) (Some (placed (entries es parents order) (planted_entry es parents i))) (find (λ n. bytes_eq x n.id) (map (placed (entries es parents order)) (map (planted_entry es parents) xs)))
          ≡ cond (bytes_eq x (at es i).item.id || has x (names (ids es) xs)) (Some (node_of es (at es (place x (ids es))))) None
      go true q ih =
          ap (λ c. cond c (Some (placed (entries es parents order) (planted_entry es parents i))) (find (λ n. bytes_eq x n.id) (map (placed (entries es parents order)) (map (planted_entry es parents) xs)))) q
          ∙ (ap Some (placed_item i l)
          ∙ (ap (λ k. Some (node_of es (at es k))) (sym (ap (λ w. place w (ids es)) (same_text x (at es i).item.id q) ∙ place_own es i a.apart l))
          ∙ ap (λ c. cond (c || has x (names (ids es) xs)) (Some (node_of es (at es (place x (ids es))))) None) (sym q)))
      go false q ih =
          ap (λ c. cond c (Some (placed (entries es parents order) (planted_entry es parents i))) (find (λ n. bytes_eq x n.id) (map (placed (entries es parents order)) (map (planted_entry es parents) xs)))) q
          ∙ (ih ∙ ap (λ c. cond (c || has x (names (ids es) xs)) (Some (node_of es (at es (place x (ids es))))) None) (sym q))

  pub same_tree : IsSame (tree (entries es parents order)) (tree_of es)
  unfolding tree node places_node
  same_tree x = go (bytes_eq x places) refl
    where
      rest : List PlacedItem
      rest = map (placed (entries es parents order)) (map (planted_entry es parents) order)

      at_item : (b : Bool) → has x (ids es) ≡ b → cond b (Some (node_of es (at es (place x (ids es))))) None ≡ option_map (node_of es) (claim x es)
      at_item true h =
          let e = has_claim es x h in
          let f = claim_found es x e.0 e.1 in
          sym (ap (option_map (node_of es)) e.1 ∙ ap (λ w. Some (node_of es w)) (sym (ap (λ w. at es (place w (ids es))) (sym f.1) ∙ at_own es e.0 a.apart f.0)))
      at_item false h = sym (ap (option_map (node_of es)) (claim_none es x h))

      go : (b : Bool) → bytes_eq x places ≡ b
          → find (λ n. bytes_eq x n.id) (placed (entries es parents order) top_entry ∷ map (placed (entries es parents order)) (map (planted_entry es parents) order)) ≡ find (λ n. bytes_eq x n.id) (tree_of es)
      go true q =
          ap (λ n. find (λ m. bytes_eq x m.id) (n ∷ map (placed (entries es parents order)) (map (planted_entry es parents) order))) placed_top
          ∙ (ap (λ b. cond b (Some places_node) (find (λ m. bytes_eq x m.id) (map (placed (entries es parents order)) (map (planted_entry es parents) order)))) q
          ∙ sym (ap (λ w. find (λ m. bytes_eq w m.id) (tree_of es)) (same_text x places q) ∙ node_places es))
      go false q =
          ap (λ n. find (λ m. bytes_eq x m.id) (n ∷ map (placed (entries es parents order)) (map (planted_entry es parents) order))) placed_top
          ∙ (ap (λ b. cond b (Some places_node) (find (λ m. bytes_eq x m.id) (map (placed (entries es parents order)) (map (planted_entry es parents) order)))) q
          ∙ (find_placed order x bounded
          ∙ (ap (λ b. cond b (Some (node_of es (at es (place x (ids es))))) None) (ap (has x) names_are ∙ has-in_order es x a)
          ∙ (at_item (has x (ids es)) refl ∙ sym (node_tree es x (λ p. false≢true (sym q ∙ bytes_eq-same x places p)))))))

  -- ---- the entries are a tree

  names_in : (xs : List ℕ) (i : ℕ) → list_any (nat_eq i) xs ≡ true → has (get_or (ids es) i places) (names (ids es) xs) ≡ true
  names_in [] i h = absurd (false≢true h)
  names_in (j ∷ js) i h = go (cases_eq i j) (names_in js i)
    where
      go : (i ≡ j) ⊎ (i ≢ j) → (list_any (nat_eq i) js ≡ true → has (get_or (ids es) i places) (names (ids es) js) ≡ true) → has (get_or (ids es) i places) (get_or (ids es) j places ∷ names (ids es) js) ≡ true
      go (inl q) ih = ap (λ k. has (get_or (ids es) k places) (get_or (ids es) j places ∷ names (ids es) js)) q ∙ has-head (get_or (ids es) j places) (names (ids es) js)
      go (inr ne) ih = has-tail (get_or (ids es) i places) (get_or (ids es) j places) (names (ids es) js) (ih (ap (λ b. b || list_any (nat_eq i) js) (sym (ne_eqb i j ne)) ∙ h))

  nodes_from : (xs : List ℕ) → Apart (names (ids es) xs) → NodesApart (map (planted_entry es parents) xs)
  unfolding NodesApart
  nodes_from [] p = tt
  nodes_from (i ∷ xs) p = (alone (entry (i + 1) (map (planted_entry es parents) xs)) refl, nodes_from xs (Apart-tail (get_or (ids es) i places) (names (ids es) xs) p))
    where
      alone : (o : Option Entry) → entry (i + 1) (map (planted_entry es parents) xs) ≡ o → o ≡ None
      alone None q = refl
      alone (Some e) q =
          let r = entry_from es parents xs (i + 1) e q in
          let same : r.0 ≡ i = omega arith in
          absurd (false≢true (sym (Apart-head (get_or (ids es) i places) (names (ids es) xs) p) ∙ (ap (λ k. has (get_or (ids es) k places) (names (ids es) xs)) (sym same) ∙ names_in xs r.0 r.2)))

  ids_from : (xs : List ℕ) → map (λ e. e.item.id) (map (planted_entry es parents) xs) ≡ names (ids es) xs
  ids_from [] = refl
  ids_from (i ∷ xs) = ap₂ (λ x w. x ∷ w) (sym (id_at es i)) (ids_from xs)

  nodes_apart : NodesApart (entries es parents order)
  unfolding NodesApart
  nodes_apart = (no_zero es parents order, nodes_from order (subst Apart (sym names_are) (Apart-in_order es a)))

  ids_apart : Apart (entry_ids (entries es parents order))
  unfolding entry_ids
  ids_apart =
      subst (λ w. Apart (places ∷ w)) (sym (ids_from order ∙ names_are))
      (Apart-cons places (in_order es) (has-in_order es places a ∙ a.no_places) (Apart-in_order es a))

  -- whose node is 0 is no item
  zero_node : (x : List ℕ) → has x (ids es) ≡ true → node_at (length es) (place (built_parent es x) (ids es)) ≡ 0 → built_parent es x ≡ places
  zero_node x h q = go (known x h)
    where
      go : (has (built_parent es x) (ids es) ≡ true) ⊎ (built_parent es x ≡ places) → built_parent es x ≡ places
      go (inl k) = let n : node_at (length es) (place (built_parent es x) (ids es)) ≡ place (built_parent es x) (ids es) + 1 = number_item (built_parent es x) k in absurd (omega arith)
      go (inr p) = p

  root_of : (x : List ℕ) → has x (ids es) ≡ true → built_parent es x ≡ places → has x roots ≡ true
  root_of x h p = go (parent_cases es (claims_from es a) x h)
    where
      go : ((has x roots ≡ true) × (built_parent es x ≡ places)) ⊎ ((f : Claim) × In f es × (is_folder f.item.kind ≡ true) × (built_parent es x ≡ f.item.id)) → has x roots ≡ true
      go (inl r) = r.0
      go (inr f) = absurd (false≢true (sym a.no_places ∙ (ap (λ w. has w (ids es)) (sym p ∙ f.3) ∙ In_has es f.0 f.1)))

  root_folders : (k : ℕ) (e : Entry) → entry k (entries es parents order) ≡ Some e → e.parent ≡ Some 0 → is_folder e.item.kind ≡ true
  root_folders k e h q = go (entry_is k e h)
    where
      go : ((k ≡ 0) × (e ≡ top_entry)) ⊎ ((i : ℕ) × (k ≡ i + 1) × (i < length es) × (e ≡ planted_entry es parents i)) → is_folder e.item.kind ≡ true
      go (inl t) = ap (λ w. is_folder w.item.kind) t.1
      go (inr t) =
          ap (λ w. is_folder w.item.kind) t.3
          ∙ a.root_folder t.0 t.2 (root_of (at es t.0).item.id (own_id t.0 t.2) (zero_node (at es t.0).item.id (own_id t.0 t.2) (ap (node_at (length es)) (sym (parent_at t.0 t.2)) ∙ some_zero (sym (ap (λ w. w.parent) t.3) ∙ q))))
        where
          some_zero : Some (node_at (length es) (get_or parents t.0 0)) ≡ Some 0 → node_at (length es) (get_or parents t.0 0) ≡ 0
          some_zero e = cc

  folders : (k : ℕ) (e : Entry) → entry k (entries es parents order) ≡ Some e → k ≢ 0 → (p : ℕ) × (e.parent ≡ Some p) × (f : Entry) × (entry p (entries es parents order) ≡ Some f) × (is_folder f.item.kind ≡ true)
  folders k e h ne = go (entry_is k e h)
    where
      go : ((k ≡ 0) × (e ≡ top_entry)) ⊎ ((i : ℕ) × (k ≡ i + 1) × (i < length es) × (e ≡ planted_entry es parents i)) → (p : ℕ) × (e.parent ≡ Some p) × (f : Entry) × (entry p (entries es parents order) ≡ Some f) × (is_folder f.item.kind ≡ true)
      go (inl t) = absurd (ne t.0)
      go (inr t) = pick (parent_cases es (claims_from es a) (at es t.0).item.id (own_id t.0 t.2))
        where
          above_is : e.parent ≡ Some (node_at (length es) (place (built_parent es (at es t.0).item.id) (ids es)))
          above_is = ap (λ w. w.parent) t.3 ∙ ap (λ p. Some (node_at (length es) p)) (parent_at t.0 t.2)

          pick : ((has (at es t.0).item.id roots ≡ true) × (built_parent es (at es t.0).item.id ≡ places)) ⊎ ((f : Claim) × In f es × (is_folder f.item.kind ≡ true) × (built_parent es (at es t.0).item.id ≡ f.item.id))
              → (p : ℕ) × (e.parent ≡ Some p) × (f : Entry) × (entry p (entries es parents order) ≡ Some f) × (is_folder f.item.kind ≡ true)
          pick (inl r) = (0, above_is ∙ ap Some (number_places (built_parent es (at es t.0).item.id) r.1), top_entry, entry_top es parents order, refl)
          pick (inr f) = (
            place f.0.item.id (ids es) + 1,
            above_is ∙ ap Some (ap (λ w. node_at (length es) (place w (ids es))) f.3 ∙ number_item f.0.item.id (In_has es f.0 f.1)),
            planted_entry es parents (place f.0.item.id (ids es)),
            entry_item (place f.0.item.id (ids es)) (place_in es f.0 f.1),
            ap (λ w. is_folder w.item.kind) (at_own es f.0 a.apart f.1) ∙ f.2,
          )

  -- ---- the way up

  up_top : up (entries es parents order) 0 ≡ 0
  unfolding up above
  up_top = ap (λ o. unwrap_or (option_and_then (λ e. e.parent) o) 0) (entry_top es parents order)

  up_item : (y : List ℕ) → has y (ids es) ≡ true → up (entries es parents order) (node_at (length es) (place y (ids es))) ≡ node_at (length es) (place (built_parent es y) (ids es))
  unfolding up above
  up_item y h =
      let l : place y (ids es) < length (ids es) = place_lt y (ids es) h in
      let s : length (ids es) ≡ length es = len in
      let m : place y (ids es) < length es = omega arith in
      ap (λ n. unwrap_or (option_and_then (λ e. e.parent) (entry n (entries es parents order))) 0) (number_item y h)
      ∙ (ap (λ o. unwrap_or (option_and_then (λ e. e.parent) o) 0) (entry_item (place y (ids es)) m)
      ∙ ap (node_at (length es)) (parent_at (place y (ids es)) m ∙ ap (λ w. place (built_parent es w) (ids es)) (sym (id_at es (place y (ids es))) ∙ at_place y (ids es) places h)))

  tree_up : (y : List ℕ) → has y (ids es) ≡ true → parent_in (tree_of es) y ≡ built_parent es y
  tree_up y h = let e = has_claim es y h in parent_in_claim es y e.0 (claims_from es a) e.1

  tree_top : parent_in (tree_of es) places ≡ places
  unfolding parent_in places_node
  tree_top = ap (λ o. unwrap_or (option_and_then (λ n. n.parent) o) places) (node_places es)

  ways : (m : ℕ) (y : List ℕ) → (has y (ids es) ≡ true) ⊎ (y ≡ places) → steps (parent_in (tree_of es)) m y ≡ places → steps (up (entries es parents order)) m (node_at (length es) (place y (ids es))) ≡ 0
  unfolding steps
  ways zero y k q = number_places y q
  ways (suc m) y (inl h) q =
      ap (steps (up (entries es parents order)) m) (up_item y h)
      ∙ ways m (built_parent es y) (known y h) (ap (steps (parent_in (tree_of es)) m) (sym (tree_up y h)) ∙ q)
  ways (suc m) y (inr p) q =
      ap (steps (up (entries es parents order)) m) (ap (up (entries es parents order)) (number_places y p) ∙ (up_top ∙ sym (number_places places refl)))
      ∙ ways m places (inr refl) (ap (steps (parent_in (tree_of es)) m) (sym (ap (parent_in (tree_of es)) p ∙ tree_top)) ∙ q)

  reach : (k : ℕ) (e : Entry) → entry k (entries es parents order) ≡ Some e → Reaches (up (entries es parents order)) 0 k
  unfolding steps
  reach k e h = go (entry_is k e h)
    where
      go : ((k ≡ 0) × (e ≡ top_entry)) ⊎ ((i : ℕ) × (k ≡ i + 1) × (i < length es) × (e ≡ planted_entry es parents i)) → Reaches (up (entries es parents order)) 0 k
      go (inl t) = (zero, t.0)
      go (inr t) =
          let w = up_ends es (claims_from es a) (at es t.0).item.id (own_id t.0 t.2) in
          let n : node_at (length es) (place (at es t.0).item.id (ids es)) ≡ k = number_item (at es t.0).item.id (own_id t.0 t.2) ∙ (ap (λ p. p + 1) (place_own es t.0 a.apart t.2) ∙ sym t.1) in
          (w.0, ap (steps (up (entries es parents order)) w.0) (sym n) ∙ ways w.0 (at es t.0).item.id (inl (own_id t.0 t.2)) w.1)

  pub entries_tree : IsTree (entries es parents order)
  entries_tree = record {
    nodes = nodes_apart;
    ids = ids_apart;
    top = entry_top es parents order;
    under_top = kids_top;
    root_folder = root_folders;
    folder = folders;
    reaches = reach;
  }

  pub entries_numbered : (k : ℕ) → is_live k (entries es parents order) ≡ true → k < length (entries es parents order)
  entries_numbered k h = go (entry k (entries es parents order)) refl h
    where
      go : (o : Option Entry) → entry k (entries es parents order) ≡ o → is_some o ≡ true → k < length (entries es parents order)
      go None q e = absurd (false≢true e)
      go (Some e) q s = pick (entry_is k e q)
        where
          pick : ((k ≡ 0) × (e ≡ top_entry)) ⊎ ((i : ℕ) × (k ≡ i + 1) × (i < length es) × (e ≡ planted_entry es parents i)) → k < length (entries es parents order)
          pick (inl t) = let z : k ≡ 0 = t.0 in omega arith
          pick (inr t) =
              let z : k ≡ t.0 + 1 = t.1 in
              let l : t.0 < length es = t.2 in
              let n : length es ≤ length order = le-length_from_below order (length es) (λ i m. in_order_of i m) in
              let m : length (map (planted_entry es parents) order) ≡ length order = length-map order (planted_entry es parents) in
              omega arith
