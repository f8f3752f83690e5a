-- The claims of the merged items are built to the merged tree.
use Rattle.std.proofs.Common.{◌≡◌, ◌⊎◌, ℕ, zero, suc, Bool, true, false, cond, not, ◌&&◌, ◌||◌, List, [], ◌∷◌, ◌++◌}
use Rattle.std.proofs.Common.{length, map, filter, find, bytes_eq, Option, Some, None, option_map, option_and_then}
use Rattle.std.proofs.Common.{unwrap_or, refl, sym, ap, ap₂, subst, ◌∙◌, inl, inr}
use Rattle.ss_record.specs.Ids.{Apart, by_id, firsts, has, places, roots, unfiled}
use Rattle.ss_record.specs.Kinds.{is_folder}
use Rattle.ss_record.proofs.IdLists.{bytes_eq-refl, has-nil, has-cons, has-filter, Apart-filter}
use Rattle.ss_tree.specs.Trees.{places_node, steps}
use Rattle.ss_build.specs.declared.claims.Claim.{Claim}
use Rattle.ss_build.specs.Built.{best, built_children, built_parent, claim, comes_back, ids as claim_ids}
use Rattle.ss_build.specs.Built.{is_child as is_built_child, kept_if, lists, named, node_of, or_else, proposal}
use Rattle.ss_build.specs.Built.{proposed_parents, tree_of}
use Rattle.ss_build.specs.Places.{AreItems, at}
use Rattle.ss_build.proofs.Items.{In, find_in, In-filter, AreClaims, places_no_root}
use Rattle.ss_build.proofs.Seats.{at_in}
use Rattle.ss_build.proofs.Valid.{proposed_root, proposed_claim, proposed_none, parent_root}
use Rattle.ss_build.proofs.Stand.{circle_top, named_is, walk_steps}
use Rattle.ss_dupe.specs.Looks.{Id, is_places, is_root}
use Rattle.ss_dupe.specs.Walks.{meets, passes}
use Rattle.ss_dupe.specs.Sides.{Sides}
use Rattle.ss_dupe.proofs.Basics.{or_rest, false_from, some_from_passes}
use Rattle.ss_dupe.proofs.Shapes.{places_is, has-roots, roots-has, apart_places}
use Rattle.ss_merge.specs.Survivors.{content_of, survives}
use Rattle.ss_merge.specs.Parents.{final}
use Rattle.ss_merge.specs.Merged.{children, is_child, merged_children, entries_merged, merged_node}
use Rattle.ss_merge.specs.Claims.{AreMerging, claim_at}
use Rattle.ss_merge.proofs.Sided.{root_survives, folder_survives, folder_kind, survivor_places, survivor_has}
use Rattle.ss_merge.proofs.Sided.{root_folder, comes_to_root, has_final, final-folder}
use Rattle.std.proofs.lemmas.Bool.{cases_Bool}
use Rattle.ss_text.proofs.Basics.{both_left, both_right, bytes_eq-sym, same_text, no_way}

-- ---- lists

filter_twice : (p : Id → Bool) (xs : List Id) → filter p (filter p xs) ≡ filter p xs
filter_twice p [] = refl
filter_twice p (x ∷ xs) = go (p x) refl (filter_twice p xs)
  where
    go : (b : Bool) → p x ≡ b → filter p (filter p xs) ≡ filter p xs → filter p (cond b (x ∷ filter p xs) (filter p xs)) ≡ cond b (x ∷ filter p xs) (filter p xs)
    go true e more = ap (λ b. cond b (x ∷ filter p (filter p xs)) (filter p (filter p xs))) e ∙ ap (λ l. x ∷ l) more
    go false e more = more

-- what a stronger test leaves of what a weaker one has left
filter_within : (p q : Id → Bool) (xs : List Id) → ((x : Id) → q x ≡ true → p x ≡ true) → filter q (filter p xs) ≡ filter q xs
filter_within p q [] h = refl
filter_within p q (x ∷ xs) h = go (p x) refl (q x) refl (filter_within p q xs h)
  where
    go : (b : Bool) → p x ≡ b → (c : Bool) → q x ≡ c → filter q (filter p xs) ≡ filter q xs → filter q (cond b (x ∷ filter p xs) (filter p xs)) ≡ cond c (x ∷ filter q xs) (filter q xs)
    go true e c f more = ap (λ b. cond b (x ∷ filter q (filter p xs)) (filter q (filter p xs))) f ∙ ap (λ l. cond c (x ∷ l) l) more
    go false e true f more = no_way (p x) (h x f) e
    go false e false f more = more

map_same : {A : Type 0} (f : Claim → A) (g : Id → Claim) (h : Id → A) (xs : List Id) → ((x : Id) → has x xs ≡ true → f (g x) ≡ h x) → map f (map g xs) ≡ map h xs
map_same f g h [] is = refl
map_same f g h (x ∷ xs) is =
    ap₂ (λ a l. a ∷ l) (is x (has-cons x x xs ∙ ap (λ b. b || has x xs) (bytes_eq-refl x)))
    (map_same f g h xs (λ y k. is y (has-cons y x xs ∙ ap (λ b. bytes_eq y x || b) k ∙ or_true (bytes_eq y x))))
  where
    or_true : (b : Bool) → (b || true) ≡ true
    or_true true = refl
    or_true false = refl

-- ---- claims

proposal_parts : (es : List Claim) (e f : Claim) (p : Id) → named es e ≡ Some f → f.item.id ≡ p → ((g : Claim) → In g es → lists g e.item.id ≡ true → g.item.id ≡ p) → proposal es e ≡ p
unfolding proposal or_else kept_if best
proposal_parts es e f p q i all =
    subst (λ o. unwrap_or (option_map (λ g. g.item.id) (or_else (kept_if (λ g. lists g e.item.id) o) (or_else (best (filter (λ g. lists g e.item.id) es)) o))) unfiled ≡ p) (sym q)
    (go (lists f e.item.id) (best (filter (λ g. lists g e.item.id) es)) refl)
  where
    go : (b : Bool) (o : Option Claim) → best (filter (λ g. lists g e.item.id) es) ≡ o → unwrap_or (option_map (λ (g : Claim). g.item.id) (or_else (cond b (Some f) None) (or_else o (Some f)))) unfiled ≡ p
    go true o h = i
    go false None h = i
    go false (Some g) h = let k = In-filter (λ g. lists g e.item.id) es g (find_in _ (filter (λ g. lists g e.item.id) es) g h).0 in all g k.0 k.1

module _ (s : Sides) (n : ℕ) where
  claim_id : (x : Id) → (claim_at s n x).item.id ≡ x
  unfolding claim_at
  claim_id x = refl

  claim_kind : (x : Id) → (claim_at s n x).item.kind ≡ (content_of s x).kind
  unfolding claim_at
  claim_kind x = refl

  claim_children : (x : Id) → (claim_at s n x).children ≡ filter (is_child s n x) (merged_children s x)
  unfolding claim_at
  claim_children x = refl

  claim_parent : (x : Id) → is_root x ≡ false → (claim_at s n x).parentid ≡ final s n x
  unfolding claim_at
  claim_parent x miss = ap (λ b. cond b None (final s n x)) miss

  ids-claims : (xs : List Id) → claim_ids (map (claim_at s n) xs) ≡ xs
  unfolding claim_ids
  ids-claims [] = refl
  ids-claims (x ∷ xs) = ap₂ (λ a l. a ∷ l) (claim_id x) (ids-claims xs)

  found-claim : (x : Id) (xs : List Id) → has x xs ≡ true → claim x (map (claim_at s n) xs) ≡ Some (claim_at s n x)
  unfolding claim
  found-claim x [] h = no_way (has x []) h (has-nil x)
  found-claim x (y ∷ ys) h = go (bytes_eq x y) refl (sym (has-cons x y ys) ∙ h) (found-claim x ys)
    where
      go : (b : Bool) → bytes_eq x y ≡ b → (bytes_eq x y || has x ys) ≡ true → (has x ys ≡ true → find (λ e. bytes_eq x e.item.id) (map (claim_at s n) ys) ≡ Some (claim_at s n x))
          → find (λ e. bytes_eq x e.item.id) (map (claim_at s n) (y ∷ ys)) ≡ Some (claim_at s n x)
      go b e k more =
          ap (λ z. cond (bytes_eq x z) (Some (claim_at s n y)) (find (λ e. bytes_eq x e.item.id) (map (claim_at s n) ys))) (claim_id y)
          ∙ ap (λ b. cond b (Some (claim_at s n y)) (find (λ e. bytes_eq x e.item.id) (map (claim_at s n) ys))) e
          ∙ hit b e (or_other b e k)
        where
          or_other : (b : Bool) → bytes_eq x y ≡ b → (bytes_eq x y || has x ys) ≡ true → b ≡ false → has x ys ≡ true
          or_other b e k miss = or_rest (bytes_eq x y) (has x ys) k (e ∙ miss)

          hit : (b : Bool) → bytes_eq x y ≡ b → (b ≡ false → has x ys ≡ true) → cond b (Some (claim_at s n y)) (find (λ e. bytes_eq x e.item.id) (map (claim_at s n) ys)) ≡ Some (claim_at s n x)
          hit true e rest = ap (λ z. Some (claim_at s n z)) (sym (same_text x y e))
          hit false e rest = more (rest refl)

  in-claims : (e : Claim) (xs : List Id) → In e (map (claim_at s n) xs) → (x : Id) × (has x xs ≡ true) × (e ≡ claim_at s n x)
  unfolding In
  in-claims e [] i = absurd i
  in-claims e (y ∷ ys) (inl q) = (y, has-cons y y ys ∙ ap (λ b. b || has y ys) (bytes_eq-refl y), q)
  in-claims e (y ∷ ys) (inr i) = let f = in-claims e ys i in (f.0, has-cons f.0 y ys ∙ or_true (bytes_eq f.0 y) (has f.0 ys) f.1, f.2)
    where
      or_true : (a b : Bool) → b ≡ true → (a || b) ≡ true
      or_true true b h = refl
      or_true false b h = h

  child-final : (p x : Id) → is_child s n p x ≡ true → final s n x ≡ Some p
  unfolding is_child
  child-final p x h =
      let f = some_from_passes (bytes_eq p) (final s n x) (both_right (survives s x && not (is_root x)) _ h) in
      f.1 ∙ ap Some (sym (same_text p f.0 f.2))

  child-survives : (p x : Id) → is_child s n p x ≡ true → survives s x ≡ true
  unfolding is_child
  child-survives p x h = both_left (survives s x) _ (both_left (survives s x && not (is_root x)) _ h)

  lists-final : (y x : Id) → lists (claim_at s n y) x ≡ true → final s n x ≡ Some y
  unfolding lists
  lists-final y x h =
      let k : has x (claim_at s n y).children ≡ true = both_right (is_folder (claim_at s n y).item.kind) _ h in
      child-final y x (both_right (has x (merged_children s y)) _ (sym (has-filter (is_child s n y) x (merged_children s y)) ∙ ap (has x) (sym (claim_children y)) ∙ k))

module _ (s : Sides) (ids : List Id) (m : AreMerging s ids) where
  abbrev pub n : ℕ
  n = length ids

  abbrev pub kept : List Id
  kept = filter (survives s) ids

  abbrev pub es : List Claim
  es = map (claim_at s n) kept

  pub kept-has : (x : Id) → survives s x ≡ true → has x kept ≡ true
  kept-has x h = has-filter (survives s) x ids ∙ ap₂ (λ a b. a && b) (survivor_has s ids m x h) h

  pub kept-survives : (x : Id) → has x kept ≡ true → survives s x ≡ true
  kept-survives x h = both_right (has x ids) _ (sym (has-filter (survives s) x ids) ∙ h)

  in_es : (x : Id) → survives s x ≡ true → has x (claim_ids es) ≡ true
  in_es x h = ap (has x) (ids-claims s n kept) ∙ kept-has x h

  from_es : (x : Id) → has x (claim_ids es) ≡ true → survives s x ≡ true
  from_es x h = kept-survives x (sym (ap (has x) (ids-claims s n kept)) ∙ h)

  not_in_es : (x : Id) → survives s x ≡ false → has x (claim_ids es) ≡ false
  not_in_es x h = false_from (has x (claim_ids es)) (λ k. no_way (survives s x) (from_es x k) h)

  places_gone : survives s places ≡ false
  places_gone = false_from (survives s places) (λ h. no_way (is_places places) places_is (survivor_places s places h))

  claim-of : (x : Id) → survives s x ≡ true → claim x es ≡ Some (claim_at s n x)
  claim-of x h = found-claim s n x kept (kept-has x h)

  pub are_claims : AreClaims es
  are_claims = record {
    apart = subst Apart (sym (ids-claims s n kept)) (Apart-filter (survives s) ids m.apart);
    no_places = not_in_es places places_gone;
    roots_in = λ r h. in_es r (root_survives s r (has-roots r h));
    root_folder = λ e i h.
        let f = in-claims s n e kept i in
        let id : e.item.id ≡ f.0 = ap (λ (c : Claim). c.item.id) f.2 ∙ claim_id s n f.0 in
        ap (λ (c : Claim). is_folder c.item.kind) f.2 ∙ ap is_folder (claim_kind s n f.0) ∙ root_folder s ids m f.0 (has-roots f.0 (ap (λ z. has z roots) (sym id) ∙ h));
  }

  pub are_items : AreItems es
  are_items = record { apart = are_claims.apart; no_places = are_claims.no_places; roots_in = are_claims.roots_in; root_folder = λ i l h. are_claims.root_folder (at es i) (at_in es i l) h }

  no_root : (x : Id) → is_root x ≡ false → has x roots ≡ false
  unfolding is_root
  no_root x h = h

  -- ---- proposed parents are final ones

  named-of : (x p : Id) → is_root x ≡ false → final s n x ≡ Some p → named es (claim_at s n x) ≡ Some (claim_at s n p)
  unfolding named
  named-of x p miss e =
      let folder = final-folder s n x p e in
      ap (option_and_then (λ z. find (λ (g : Claim). is_folder g.item.kind && bytes_eq z g.item.id) es)) (claim_parent s n x miss ∙ e)
      ∙ named_is es p (claim_at s n p) (claim-of p (folder_survives s p folder)) (ap is_folder (claim_kind s n p) ∙ folder_kind s p folder)

  proposed-of : (x p : Id) → survives s x ≡ true → is_root x ≡ false → final s n x ≡ Some p → proposed_parents es x ≡ p
  proposed-of x p h miss e =
      proposed_claim es x (claim_at s n x) (no_root x miss) (claim-of x h)
      ∙ proposal_parts es (claim_at s n x) (claim_at s n p) p (named-of x p miss e) (claim_id s n p) only
    where
      only : (g : Claim) → In g es → lists g (claim_at s n x).item.id ≡ true → g.item.id ≡ p
      only g i l =
          let f = in-claims s n g kept i in
          let own : final s n x ≡ Some f.0 = lists-final s n f.0 x (ap (λ c. lists c x) (sym f.2) ∙ ap (lists g) (sym (claim_id s n x)) ∙ l) in
          let same : f.0 ≡ p = cc in
          ap (λ (c : Claim). c.item.id) f.2 ∙ claim_id s n f.0 ∙ same

  -- ---- and no item comes back to itself

  top_up : proposed_parents es places ≡ places
  top_up = proposed_none es places places_no_root are_claims.no_places

  up : (k : ℕ) (x : Id) → survives s x ≡ true → meets (final s n) is_root k x ≡ true → (j : ℕ) × (steps (proposed_parents es) j x ≡ places)
  unfolding steps
  up zero x h r = (1, proposed_root es x (roots-has x r))
  up (suc k) x h r = cases (cases_Bool (is_root x)) (λ p. up k p)
    where
      cases : (is_root x ≡ true) ⊎ (is_root x ≡ false) → ((p : Id) → survives s p ≡ true → meets (final s n) is_root k p ≡ true → (j : ℕ) × (steps (proposed_parents es) j p ≡ places)) → (j : ℕ) × (steps (proposed_parents es) j x ≡ places)
      cases (inl root) more = (1, proposed_root es x (roots-has x root))
      cases (inr miss) more =
          let next = some_from_passes (meets (final s n) is_root k) (final s n x) (or_rest (is_root x) _ r miss) in
          let rest = more next.0 (folder_survives s next.0 (final-folder s n x next.0 next.1)) next.2 in
          (suc rest.0, ap (steps (proposed_parents es) rest.0) (proposed-of x next.0 h miss next.1) ∙ rest.1)

  never_back : (x : Id) → survives s x ≡ true → comes_back (proposed_parents es) (length es) x ≡ false
  unfolding comes_back
  never_back x h = false_from (comes_back (proposed_parents es) (length es) x) (λ k.
      let back = walk_steps (proposed_parents es) (length es) (proposed_parents es x) x k in
      let r = comes_to_root s ids m x h in
      let top = up r.0 x h r.1 in
      no_way (is_places x) (ap is_places (circle_top (proposed_parents es) places top_up back.0 top.0 x back.1 top.1) ∙ places_is) (survivor_places s x h))

  parent-of : (x p : Id) → survives s x ≡ true → is_root x ≡ false → final s n x ≡ Some p → built_parent es x ≡ p
  unfolding built_parent
  parent-of x p h miss e = ap (λ b. cond b unfiled (proposed_parents es x)) (never_back x h) ∙ proposed-of x p h miss e

  root-parent : (x : Id) → is_root x ≡ true → built_parent es x ≡ places
  root-parent x r = parent_root es x are_claims (roots-has x r)

  -- ---- children

  child-is : (p : Id) → is_places p ≡ false → (x : Id) → is_built_child es p x ≡ is_child s n p x
  unfolding is_built_child is_child
  child-is p out x = elim (cases_Bool (survives s x)) [
    | inr gone ↦ ap (λ b. b && bytes_eq (built_parent es x) p) (not_in_es x gone) ∙ sym (ap (λ b. (b && not (is_root x)) && passes (bytes_eq p) (final s n x)) gone)
    | inl h ↦ ap (λ b. b && bytes_eq (built_parent es x) p) (in_es x h) ∙ under h (cases_Bool (is_root x)) ∙ sym (ap (λ b. (b && not (is_root x)) && passes (bytes_eq p) (final s n x)) h)
  ]
    where
      under : survives s x ≡ true → (is_root x ≡ true) ⊎ (is_root x ≡ false) → bytes_eq (built_parent es x) p ≡ (not (is_root x) && passes (bytes_eq p) (final s n x))
      under h (inl r) =
          ap (λ z. bytes_eq z p) (root-parent x r) ∙ bytes_eq-sym places p ∙ apart_places p out ∙ sym (ap (λ b. not b && passes (bytes_eq p) (final s n x)) r)
      under h (inr miss) =
          let f = has_final s ids m x h miss in
          ap (λ z. bytes_eq z p) (parent-of x f.0 h miss f.1) ∙ bytes_eq-sym f.0 p ∙ sym (ap (λ b. not b && passes (bytes_eq p) (final s n x)) miss ∙ ap (passes (bytes_eq p)) f.1)

  abbrev front : Id → List Id
  front p = firsts (filter (is_child s n p) (merged_children s p))

  rest-is : (p : Id) → filter (λ x. is_child s n p x && not (has x (front p))) kept ≡ filter (λ x. is_child s n p x && not (has x (front p))) ids
  rest-is p = filter_within (survives s) (λ x. is_child s n p x && not (has x (front p))) ids (λ x k. child-survives s n p x (both_left (is_child s n p x) _ k))

  listed-is : (p : Id) → is_places p ≡ false → firsts (filter (is_built_child es (claim_at s n p).item.id) (claim_at s n p).children) ≡ front p
  listed-is p out =
      ap₂ (λ z l. firsts (filter (is_built_child es z) l)) (claim_id s n p) (claim_children s n p)
      ∙ ap (λ q. firsts (filter q (filter (is_child s n p) (merged_children s p)))) (λ i x. child-is p out x i)
      ∙ ap firsts (filter_twice (is_child s n p) (merged_children s p))

  children-of : (p : Id) → is_places p ≡ false → built_children es (claim_at s n p) ≡ children s ids p
  unfolding built_children children
  children-of p out =
      ap₂ (λ l q. l ++ by_id (filter (λ x. q x && not (has x l)) (claim_ids es))) (listed-is p out) (ap (is_built_child es) (claim_id s n p) ∙ (λ i x. child-is p out x i))
      ∙ ap (λ l. front p ++ by_id (filter (λ x. is_child s n p x && not (has x (front p))) l)) (ids-claims s n kept)
      ∙ ap (λ l. front p ++ by_id l) (rest-is p)

  -- ---- the tree

  up-of : (x : Id) → survives s x ≡ true → Some (built_parent es x) ≡ cond (is_root x) (Some places) (final s n x)
  up-of x h = elim (cases_Bool (is_root x)) [
    | inl r ↦ ap Some (root-parent x r) ∙ sym (ap (λ b. cond b (Some places) (final s n x)) r)
    | inr miss ↦ let f = has_final s ids m x h miss in ap Some (parent-of x f.0 h miss f.1) ∙ sym (ap (λ b. cond b (Some places) (final s n x)) miss ∙ f.1)
  ]

  node-is : (x : Id) → survives s x ≡ true → node_of es (claim_at s n x) ≡ merged_node s ids x
  unfolding node_of merged_node claim_at
  node-is x h =
      let p = up-of x h in
      let c : built_children es (claim_at s n x) ≡ children s ids x = children-of x (survivor_places s x h) in
      λ i. record { id = x; kind = (content_of s x).kind; content = (content_of s x).content; parent = p i; children = c i; time = 0 }

  pub tree-is : tree_of es ≡ entries_merged s ids
  unfolding tree_of entries_merged
  tree-is = ap (λ l. places_node ∷ l) (map_same (node_of es) (claim_at s n) (merged_node s ids) kept (λ x h. node-is x (kept-survives x h)))
