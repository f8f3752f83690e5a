-- One tree on all sides of a merge is what merging makes of them.
use Rattle.std.proofs.Common.{◌≡◌, ◌⊎◌, inl, inr, ◌<◌, ℕ, zero, suc, Bool, true, false, not, ◌&&◌, ◌||◌, cond, List, []}
use Rattle.std.proofs.Common.{◌∷◌, ◌++◌, length, map, filter, find, bytes_eq, Option, Some, None, is_some, option_map}
use Rattle.std.proofs.Common.{unwrap_or, refl, sym, ap, ap₂, subst, ◌∙◌, arith}
use Rattle.std.specs.List.Sorted.{IsStrictlySortedBy}
use Rattle.std.proofs.lemmas.Option.{none-some}
use Rattle.std.proofs.lemmas.Bool.{cases_Bool, and_from}
use Rattle.std.proofs.lemmas.List.Elements.{filter-append}
use Rattle.ss_text.proofs.Basics.{both_left, both_right, no_way, same_text, some_same}
use Rattle.ss_record.specs.declared.kinds.Kind.TheVariants.{Folder}
use Rattle.ss_record.specs.Ids.{Apart, by_id, firsts, has, places}
use Rattle.ss_record.specs.Kinds.{is_folder}
use Rattle.ss_record.proofs.IdLists.{bytes_eq-refl, has-nil, has-cons, has-head, has-tail, has-append}
use Rattle.ss_record.proofs.IdLists.{has-firsts, has-by_id, Apart-head, Apart-tail, Apart-firsts, Apart-by_id}
use Rattle.ss_tree.specs.declared.entries.Entry.{Entry}
use Rattle.ss_tree.specs.Entries.{IsTree, tree}
use Rattle.ss_tree.proofs.Valid.{valid_tree}
use Rattle.ss_tree.specs.Trees.{PlacedItem, IsSame, IsValidTree, node, node_ids, places_node}
use Rattle.ss_record.specs.declared.readings.Sheet.{Sheet}
use Rattle.ss_build.specs.Built.{built}
use Rattle.ss_build.specs.Rows.{dead, rows_of}
use Rattle.ss_build.specs.Stand.{without_time}
use Rattle.ss_dupe.specs.declared.sides.Side.{Side}
use Rattle.ss_dupe.specs.declared.sides.Side.TheVariants.{Local, Remote}
use Rattle.ss_dupe.specs.Looks.{Id, Look, look, is_in, at, blank, parent_of, children_of, is_places, is_root}
use Rattle.ss_dupe.specs.Sides.{Sides, sides, tree_of, other, is_new}
use Rattle.ss_dupe.specs.Pairs.{ArePairs, IsPair, Under_same, Under_pair}
use Rattle.ss_dupe.specs.Renaming.{renamed_id, renamed_item, tree_renamed}
use Rattle.ss_dupe.specs.Shapes.{HasShape}
use Rattle.ss_dupe.specs.Walks.{passes}
use Rattle.ss_dupe.proofs.Basics.{false_from, some_from_passes}
use Rattle.ss_dupe.proofs.Shapes.{shape, look-in, places_is, is_places-is, top_parent}
use Rattle.ss_dupe.proofs.OneEach.{parent-lists}
use Rattle.ss_dupe.proofs.Renamed.{node_ids-has}
use Rattle.ss_merge.specs.Nearest.{goal_or, nearest}
use Rattle.ss_merge.specs.Survivors.{content_of, is_merged_folder, same_children, same_content, same_parent, side_of}
use Rattle.ss_merge.specs.Survivors.{survives}
use Rattle.ss_merge.specs.Parents.{chosen, fallback, final, is_rooted, nearest_folder}
use Rattle.ss_merge.specs.Merged.{children, is_child, merged_children, merged_node, entries_merged}
use Rattle.ss_merge.specs.Claims.{AreMerging}
use Rattle.ss_merge.proofs.Holding.{has_some}
use Rattle.ss_merge.proofs.Sided.{survivor_has, survivor_in, survivor_places}
use Rattle.ss_merge.proofs.Claimed.{kept-has, kept-survives}
use Rattle.ss_sync.specs.Joined.{IsJoinedTree, counting, merged_of}
use Rattle.ss_sync.specs.Equal.{IsMergeOf, IsUntimed}

-- ---- lists of ids

filter_all : (p : Id → Bool) (xs : List Id) → ((x : Id) → has x xs ≡ true → p x ≡ true) → filter p xs ≡ xs
filter_all p [] h = refl
filter_all p (x ∷ xs) h = ap (λ b. cond b (x ∷ filter p xs) (filter p xs)) (h x (has-head x xs)) ∙ ap (λ l. x ∷ l) (filter_all p xs (λ y k. h y (has-tail y x xs k)))

filter_none : (p : Id → Bool) (xs : List Id) → ((x : Id) → has x xs ≡ true → p x ≡ false) → filter p xs ≡ []
filter_none p [] h = refl
filter_none p (x ∷ xs) h = ap (λ b. cond b (x ∷ filter p xs) (filter p xs)) (h x (has-head x xs)) ∙ filter_none p xs (λ y k. h y (has-tail y x xs k))

firsts_apart : (xs : List Id) → Apart xs → firsts xs ≡ xs
firsts_apart [] a = refl
firsts_apart (x ∷ xs) a =
    ap (λ ys. x ∷ filter (λ y. not (bytes_eq y x)) ys) (firsts_apart xs (Apart-tail x xs a))
    ∙ ap (λ ys. x ∷ ys) (filter_all (λ y. not (bytes_eq y x)) xs (λ y k. ap not (false_from (bytes_eq y x) (λ e. no_way (has x xs) (ap (λ z. has z xs) (sym (same_text y x e)) ∙ k) (Apart-head x xs a)))))

-- what a filter leaves of what another one has left
filter_both : (p q r : Id → Bool) (xs : List Id) → ((x : Id) → r x ≡ (p x && q x)) → filter q (filter p xs) ≡ filter r xs
filter_both p q r [] is = refl
filter_both p q r (x ∷ xs) is = go (p x) refl (q x) refl (filter_both p q r xs is)
  where
    go : (b : Bool) → p x ≡ b → (c : Bool) → q x ≡ c → filter q (filter p xs) ≡ filter r xs → filter q (cond b (x ∷ filter p xs) (filter p xs)) ≡ cond (r x) (x ∷ filter r xs) (filter r xs)
    go true e c f more = ap (λ b. cond b (x ∷ filter q (filter p xs)) (filter q (filter p xs))) f ∙ ap (λ l. cond c (x ∷ l) l) more ∙ ap (λ b. cond b (x ∷ filter r xs) (filter r xs)) (sym (is x ∙ ap₂ (λ a b. a && b) e f))
    go false e c f more = more ∙ ap (λ b. cond b (x ∷ filter r xs) (filter r xs)) (sym (is x ∙ ap (λ a. a && q x) e))

firsts-append : (xs ys : List Id) → firsts (xs ++ ys) ≡ firsts xs ++ filter (λ y. not (has y xs)) (firsts ys)
firsts-append [] ys = sym (filter_all (λ y. not (has y [])) (firsts ys) (λ y k. ap not (has-nil y)))
firsts-append (x ∷ xs) ys =
    ap (λ l. x ∷ filter (λ y. not (bytes_eq y x)) l) (firsts-append xs ys)
    ∙ ap (λ l. x ∷ l) (filter-append (λ y. not (bytes_eq y x)) (firsts xs) (filter (λ y. not (has y xs)) (firsts ys))
    ∙ ap (λ l. filter (λ y. not (bytes_eq y x)) (firsts xs) ++ l) (filter_both (λ y. not (has y xs)) (λ y. not (bytes_eq y x)) (λ y. not (has y (x ∷ xs))) (firsts ys) neither))
  where
    bools : (a b : Bool) → not (a || b) ≡ (not b && not a)
    bools true true = refl
    bools true false = refl
    bools false true = refl
    bools false false = refl

    neither : (y : Id) → not (has y (x ∷ xs)) ≡ (not (has y xs) && not (bytes_eq y x))
    neither y = ap not (has-cons y x xs) ∙ bools (bytes_eq y x) (has y xs)

-- a list and itself once more
firsts_twice : (xs : List Id) → Apart xs → firsts (xs ++ xs) ≡ xs
firsts_twice xs a =
    firsts-append xs xs
    ∙ ap₂ (λ u v. u ++ v) (firsts_apart xs a) (filter_none (λ y. not (has y xs)) (firsts xs) (λ y k. ap not (sym (has-firsts y xs) ∙ k)))
    ∙ nil xs
  where
    nil : (zs : List Id) → zs ++ [] ≡ zs
    nil [] = refl
    nil (z ∷ zs) = ap (λ l. z ∷ l) (nil zs)

-- ---- look-ups

none-from : (t : Look) (z : Id) → is_in t z ≡ false → t z ≡ None
unfolding is_in
none-from t z h = go (t z) refl h
  where
    go : (o : Option PlacedItem) → t z ≡ o → is_some o ≡ false → t z ≡ None
    go None e k = e
    go (Some n) e k = no_way true refl k

is_some-map : (o : Option PlacedItem) → is_some (option_map without_time o) ≡ is_some o
is_some-map None = refl
is_some-map (Some n) = refl

own_id : (t : List PlacedItem) (z : Id) (n : PlacedItem) → node z t ≡ Some n → z ≡ n.id
unfolding node
own_id [] z n q = absurd (none-some n q)
own_id (m ∷ t) z n q = by (bytes_eq z m.id) refl q (own_id t z n)
  where
    by : (b : Bool) → bytes_eq z m.id ≡ b → cond b (Some m) (find (λ k. bytes_eq z k.id) t) ≡ Some n → (find (λ k. bytes_eq z k.id) t ≡ Some n → z ≡ n.id) → z ≡ n.id
    by true c k ih = same_text z m.id c ∙ ap (λ (p : PlacedItem). p.id) (some_same k)
    by false c k ih = ih k

-- ---- no item is named anew

map_self : (xs : List Id) → map (λ x. x) xs ≡ xs
map_self [] = refl
map_self (x ∷ xs) = ap (λ l. x ∷ l) (map_self xs)

some_self : (o : Option Id) → option_map (λ x. x) o ≡ o
some_self None = refl
some_self (Some x) = refl

item_self : (n : PlacedItem) → renamed_item (λ x. x) n ≡ n
item_self n =
    let p = some_self n.parent in
    let c = map_self n.children in
    λ i. record { id = n.id; kind = n.kind; content = n.content; parent = p i; children = c i; time = n.time }

pub renamed_none : (t : List PlacedItem) → tree_renamed (renamed_id []) t ≡ t
unfolding tree_renamed
renamed_none [] = refl
renamed_none (n ∷ t) = ap₂ (λ m u. m ∷ u) (item_self n) (renamed_none t)

-- ---- three trees that are one, the local one with all times 0

module _ (l r : List PlacedItem) (x y : List Id) (vl : IsValidTree l) (vr : IsValidTree r) (same : IsUntimed l r) where
  abbrev s : Sides
  s = sides r l r x y

  abbrev ids : List Id
  ids = by_id (firsts (node_ids l ++ node_ids r))

  in_same : (z : Id) → is_in (look l) z ≡ is_in (look r) z
  unfolding is_in
  in_same z = ap is_some (same z) ∙ is_some-map (node z r)

  -- no item is new, so there are no pairs
  none_new : (z : Id) → is_new s Local z ≡ true → ⊥
  unfolding is_new
  none_new z h =
      let rest = both_right (is_in (look l) z) _ h in
      let out = both_left (not (is_in (look r) z)) _ rest in
      let inside : is_in (look r) z ≡ true = sym (in_same z) ∙ both_left (is_in (look l) z) _ h in
      no_way (not (is_in (look r) z)) out (ap not inside)

  no_pair : (a b : Id) → IsPair s a b → ⊥
  no_pair a b (Under_same p k) = none_new a k.local_new
  no_pair a b (Under_pair p q above k) = none_new a k.local_new

  pub no_pairs : ArePairs s []
  unfolding IsStrictlySortedBy
  no_pairs = record {
    in_order = tt;
    each = λ a b e. absurd (none-some b e);
    all = λ a b k. absurd (no_pair a b k);
  }

  -- each side has the same at an id, but for times
  same_at : (o p : Option PlacedItem) → o ≡ option_map without_time p → (without_time (unwrap_or o blank) ≡ unwrap_or o blank) × (without_time (unwrap_or p blank) ≡ unwrap_or o blank)
  same_at o p e = subst (λ o. (without_time (unwrap_or o blank) ≡ unwrap_or o blank) × (without_time (unwrap_or p blank) ≡ unwrap_or o blank)) (sym e) (go p)
    where
      go : (p : Option PlacedItem) → (without_time (unwrap_or (option_map without_time p) blank) ≡ unwrap_or (option_map without_time p) blank) × (without_time (unwrap_or p blank) ≡ unwrap_or (option_map without_time p) blank)
      go None = (refl, refl)
      go (Some n) = (refl, refl)

  on_side : (side : Side) (z : Id) → without_time (at (tree_of s side) z) ≡ at (look l) z
  unfolding at
  on_side Local z = (same_at (node z l) (node z r) (same z)).0
  on_side Remote z = (same_at (node z l) (node z r) (same z)).1

  parents_are : (side : Side) (z : Id) → parent_of (tree_of s side) z ≡ parent_of (look l) z
  parents_are side z = ap (λ (n : PlacedItem). n.parent) (on_side side z)

  children_are : (side : Side) (z : Id) → children_of (tree_of s side) z ≡ children_of (look l) z
  children_are side z = ap (λ (n : PlacedItem). n.children) (on_side side z)

  shaped_l : HasShape (look l)
  shaped_l = shape l vl

  merging : AreMerging s ids
  merging = record {
    shaped = record { local = shaped_l; remote = shape r vr };
    apart = Apart-by_id (firsts (node_ids l ++ node_ids r)) (Apart-firsts (node_ids l ++ node_ids r));
    all = λ z.
        has-by_id z (firsts (node_ids l ++ node_ids r)) ∙ has-firsts z (node_ids l ++ node_ids r) ∙ has-append z (node_ids l) (node_ids r)
        ∙ ap₂ (λ a b. a || b) (sym (node_ids-has l z)) (sym (node_ids-has r z));
  }

  -- ---- survivors are the items but `places`

  both_kept : (root top a b c d : Bool) → top ≡ false → a ≡ true → b ≡ true → (root || (not top && cond a (cond b true c) (cond b d false))) ≡ true
  both_kept true top a b c d e f g = refl
  both_kept false true a b c d e f g = no_way true refl e
  both_kept false false true true c d e f g = refl
  both_kept false false true false c d e f g = no_way true refl (sym g)
  both_kept false false false b c d e f g = no_way true refl (sym f)

  kept : (z : Id) → is_in (look l) z ≡ true → is_places z ≡ false → survives s z ≡ true
  unfolding survives
  kept z inside out = both_kept (is_root z) (is_places z) (is_in (look l) z) (is_in (look r) z) _ _ out inside (sym (in_same z) ∙ inside)

  there : (z : Id) → survives s z ≡ true → is_in (look l) z ≡ true
  there z h = elim (survivor_in s merging.shaped z h) [ inl a ↦ a | inr b ↦ in_same z ∙ b ]

  -- ---- each has the parent that it had

  kind_is : (z : Id) → (content_of s z).kind ≡ (at (look l) z).kind
  unfolding content_of
  kind_is z = ap (λ (n : PlacedItem). n.kind) (on_side (side_of s same_content z) z)

  content_is : (z : Id) → (content_of s z).content ≡ (at (look l) z).content
  unfolding content_of
  content_is z = ap (λ (n : PlacedItem). n.content) (on_side (side_of s same_content z) z)

  stays_folder : (p : Id) → is_in (look l) p ≡ true → is_places p ≡ false → (at (look l) p).kind ≡ Folder → is_merged_folder s p ≡ true
  unfolding is_merged_folder
  stays_folder p inside out folder = and_from (survives s p) _ (kept p inside out) (ap is_folder (kind_is p ∙ folder))

  next_goal : (step : Id → Option Id) (goal : Id → Bool) (n : ℕ) (z p : Id) → 0 < n → step z ≡ Some p → goal p ≡ true → nearest step goal n z ≡ Some p
  next_goal step goal zero z p some e g = absurd (omega arith)
  next_goal step goal (suc n) z p some e g = ap (goal_or goal (nearest step goal n)) e ∙ ap (λ b. cond b (Some p) (nearest step goal n p)) g

  nearest_is : (side : Side) (z p : Id) → 0 < length ids → parent_of (look l) z ≡ Some p → is_merged_folder s p ≡ true → nearest_folder s (length ids) side z ≡ Some p
  unfolding nearest_folder
  nearest_is side z p some e g = next_goal (parent_of (tree_of s side)) (is_merged_folder s) (length ids) z p some (parents_are side z ∙ e) g

  either_way : (b : Bool) (p : Id) (u v : Option Id) → u ≡ Some p → v ≡ Some p → cond b u v ≡ Some p
  either_way true p u v e f = e
  either_way false p u v e f = f

  final_is : (z p : Id) → 0 < length ids → parent_of (look l) z ≡ Some p → is_merged_folder s p ≡ true → final s (length ids) z ≡ Some p
  unfolding final chosen fallback
  final_is z p some e g = either_way (is_rooted s (length ids) z) p _ _ (nearest_is (side_of s same_parent z) z p some e g) (nearest_is (cond (is_in (look r) z) Remote Local) z p some e g)

  some_ids : (z : Id) → survives s z ≡ true → 0 < length ids
  some_ids z h = has_some z ids (survivor_has s ids merging z h)

  -- an item under a folder but `places`
  record IsUp (z p : Id) : Type 0 where
    pub up : parent_of (look l) z ≡ Some p
    pub folder : is_merged_folder s p ≡ true

  has_up : (z : Id) → is_in (look l) z ≡ true → is_places z ≡ false → is_root z ≡ false → (p : Id) × IsUp z p
  has_up z inside out miss =
      let f = shaped_l.parents z inside out miss in
      (f.0, record { up = f.1; folder = stays_folder f.0 f.2 f.4 f.3 })

  final_of : (z : Id) → survives s z ≡ true → is_root z ≡ false → final s (length ids) z ≡ parent_of (look l) z
  final_of z h miss =
      let f = has_up z (there z h) (survivor_places s z h) miss in
      final_is z f.0 (some_ids z h) f.1.up f.1.folder ∙ sym f.1.up

  parent_is : (z : Id) → survives s z ≡ true → cond (is_root z) (Some places) (final s (length ids) z) ≡ parent_of (look l) z
  parent_is z h = elim (cases_Bool (is_root z)) [
    | inl root ↦ ap (λ b. cond b (Some places) (final s (length ids) z)) root ∙ sym (shaped_l.roots_in z root).2
    | inr miss ↦ ap (λ b. cond b (Some places) (final s (length ids) z)) miss ∙ final_of z h miss
  ]

  -- ---- and the children that it had

  is_kid : (z c : Id) → is_places z ≡ false → has c (children_of (look l) z) ≡ true → is_child s (length ids) z c ≡ true
  unfolding is_child
  is_kid z c out h =
      let k = shaped_l.listed c z h in
      let no_top : is_places c ≡ false = false_from (is_places c) (λ e. none-some z (sym (top_parent (look l) shaped_l) ∙ ap (parent_of (look l)) (sym (is_places-is c e)) ∙ k.1)) in
      let no_root : is_root c ≡ false = false_from (is_root c) (λ e. no_way (is_places z) (ap is_places (some_same (sym k.1 ∙ (shaped_l.roots_in c e).2)) ∙ places_is) out) in
      let live = kept c k.0 no_top in
      and_from (survives s c && not (is_root c)) _ (and_from (survives s c) _ live (ap not no_root)) (ap (passes (bytes_eq z)) (final_of c live no_root ∙ k.1) ∙ bytes_eq-refl z)

  from_kid : (z c : Id) → is_child s (length ids) z c ≡ true → has c (children_of (look l) z) ≡ true
  unfolding is_child
  from_kid z c h =
      let front = both_left (survives s c && not (is_root c)) _ h in
      let live = both_left (survives s c) _ front in
      let miss : is_root c ≡ false = not_so (is_root c) (both_right (survives s c) _ front) in
      let f = some_from_passes (bytes_eq z) (final s (length ids) c) (both_right (survives s c && not (is_root c)) _ h) in
      parent-lists (look l) shaped_l c z (sym (final_of c live miss) ∙ f.1 ∙ ap Some (sym (same_text z f.0 f.2)))
    where
      not_so : (b : Bool) → not b ≡ true → b ≡ false
      not_so true e = sym e
      not_so false e = refl

  kids_apart : (z : Id) → is_in (look l) z ≡ true → Apart (children_of (look l) z)
  kids_apart z inside = vl.once z (at (look l) z) (look-in (look l) z inside)

  front_is : (z : Id) → is_in (look l) z ≡ true → is_places z ≡ false → firsts (filter (is_child s (length ids) z) (merged_children s z)) ≡ children_of (look l) z
  unfolding merged_children
  front_is z inside out =
      let cs = children_of (look l) z in
      let side = side_of s same_children z in
      ap (λ l. firsts (filter (is_child s (length ids) z) l)) (ap₂ (λ a b. a ++ b) (children_are side z) (children_are (other side) z))
      ∙ ap firsts (filter-append (is_child s (length ids) z) cs cs ∙ ap (λ l. l ++ l) (filter_all (is_child s (length ids) z) cs (λ c h. is_kid z c out h)))
      ∙ firsts_twice cs (kids_apart z inside)

  kids_are : (z : Id) → is_in (look l) z ≡ true → is_places z ≡ false → children s ids z ≡ children_of (look l) z
  unfolding children
  kids_are z inside out =
      ap (λ f. f ++ by_id (filter (λ c. is_child s (length ids) z c && not (has c f)) ids)) (front_is z inside out)
      ∙ ap (λ rest. children_of (look l) z ++ by_id rest) (filter_none (λ c. is_child s (length ids) z c && not (has c (children_of (look l) z))) ids (λ c k. no_more c))
      ∙ nil (children_of (look l) z)
    where
      no_more : (c : Id) → (is_child s (length ids) z c && not (has c (children_of (look l) z))) ≡ false
      no_more c = false_from (is_child s (length ids) z c && not (has c (children_of (look l) z))) (λ e.
          no_way (not (has c (children_of (look l) z))) (both_right (is_child s (length ids) z c) _ e) (ap not (from_kid z c (both_left (is_child s (length ids) z c) _ e))))

      nil : (zs : List Id) → zs ++ [] ≡ zs
      nil [] = refl
      nil (w ∷ zs) = ap (λ t. w ∷ t) (nil zs)

  -- ---- the tree

  node_is : (z : Id) → survives s z ≡ true → merged_node s ids z ≡ at (look l) z
  unfolding merged_node
  node_is z h =
      let inside = there z h in
      let out = survivor_places s z h in
      let own : z ≡ (at (look l) z).id = own_id l z (at (look l) z) (look-in (look l) z inside) in
      let kind = kind_is z in
      let content = content_is z in
      let parent = parent_is z h in
      let kids = kids_are z inside out in
      let time : 0 ≡ (at (look l) z).time = ap (λ (n : PlacedItem). n.time) (on_side Local z) in
      λ i. record { id = own i; kind = kind i; content = content i; parent = parent i; children = kids i; time = time i }

  found_node : (zs : List Id) (z : Id) → has z zs ≡ true → node z (map (merged_node s ids) zs) ≡ Some (merged_node s ids z)
  unfolding node merged_node
  found_node [] z h = no_way (has z []) h (has-nil z)
  found_node (w ∷ zs) z h = by (bytes_eq z w) refl (sym (has-cons z w zs) ∙ h) (found_node zs z)
    where
      by : (b : Bool) → bytes_eq z w ≡ b → (b || has z zs) ≡ true → (has z zs ≡ true → find (λ n. bytes_eq z n.id) (map (merged_node s ids) zs) ≡ Some (merged_node s ids z))
          → cond b (Some (merged_node s ids w)) (find (λ n. bytes_eq z n.id) (map (merged_node s ids) zs)) ≡ Some (merged_node s ids z)
      by true e k ih = ap (λ v. Some (merged_node s ids v)) (sym (same_text z w e))
      by false e k ih = ih k

  no_node : (zs : List Id) (z : Id) → has z zs ≡ false → node z (map (merged_node s ids) zs) ≡ None
  unfolding node merged_node
  no_node [] z h = refl
  no_node (w ∷ zs) z h = by (bytes_eq z w) (sym (has-cons z w zs) ∙ h) (no_node zs z)
    where
      by : (b : Bool) → (b || has z zs) ≡ false → (has z zs ≡ false → find (λ n. bytes_eq z n.id) (map (merged_node s ids) zs) ≡ None)
          → cond b (Some (merged_node s ids w)) (find (λ n. bytes_eq z n.id) (map (merged_node s ids) zs)) ≡ None
      by true k ih = no_way true refl k
      by false k ih = ih k

  below_top : (z : Id) → node z (entries_merged s ids) ≡ cond (bytes_eq z places) (Some places_node) (node z (map (merged_node s ids) (filter (survives s) ids)))
  unfolding node entries_merged places_node
  below_top z = refl

  not_top : (z : Id) → bytes_eq z places ≡ false → is_places z ≡ false
  unfolding is_places
  not_top z e = e

  abbrev below : Id → Option PlacedItem
  below z = node z (map (merged_node s ids) (filter (survives s) ids))

  each : (z : Id) → node z l ≡ node z (entries_merged s ids)
  each z = elim (cases_Bool (bytes_eq z places)) [
    | inl top ↦ ap (λ v. node v l) (same_text z places top) ∙ vl.top_is ∙ sym (below_top z ∙ ap (λ b. cond b (Some places_node) (below z)) top)
    | inr out ↦ others out (cases_Bool (survives s z)) ∙ sym (below_top z ∙ ap (λ b. cond b (Some places_node) (below z)) out)
  ]
    where
      others : bytes_eq z places ≡ false → (survives s z ≡ true) ⊎ (survives s z ≡ false) → node z l ≡ below z
      others out (inl h) = look-in (look l) z (there z h) ∙ ap Some (sym (node_is z h)) ∙ sym (found_node (filter (survives s) ids) z (kept-has s ids merging z h))
      others out (inr gone) =
          none-from (look l) z (false_from (is_in (look l) z) (λ e. no_way (survives s z) (kept z e (not_top z out)) gone))
          ∙ sym (no_node (filter (survives s) ids) z (false_from (has z (filter (survives s) ids)) (λ k. no_way (survives s z) (kept-survives s ids merging z k) gone)))

  pub equal_merged : IsSame l (merged_of [] r l r x y)
  equal_merged z = each z ∙ ap (λ t. node z (entries_merged (sides r t r x y) (by_id (firsts (node_ids t ++ node_ids r))))) (sym (renamed_none l))

-- so a tree is what merging makes of it, where it is the mirror and the other side too
pub left_alone : (local : List Entry) (r : List PlacedItem) (x y : List Id) → IsTree local → IsValidTree r → IsUntimed (tree local) r → IsMergeOf r (tree local) r x y local
left_alone local r x y t vr same = record {
  pairs = [];
  are_pairs = no_pairs (tree local) r x y (valid_tree local t) vr same;
  joined_is = equal_merged (tree local) r x y (valid_tree local t) vr same;
  valid = valid_tree local t;
  is_tree = t;
}

-- ---- what a join is

pub joined_by : (mirror rows : List Sheet) (local before remote joined : List Entry) (lost gone : List Id) → IsSame (tree before) (built (rows_of (counting mirror rows))) → IsSame (tree remote) (built (rows_of rows)) → gone ≡ dead (rows_of rows)
    → IsMergeOf (tree before) (tree local) (tree remote) lost gone joined → IsJoinedTree mirror local lost rows joined
joined_by mirror rows local before remote joined lost gone b r is m = record {
  before = before;
  remote = remote;
  pairs = m.pairs;
  before_is = b;
  remote_is = r;
  are_pairs = subst (λ d. ArePairs (sides (tree before) (tree local) (tree remote) lost d) m.pairs) is m.are_pairs;
  joined_is = subst (λ d. IsSame (tree joined) (merged_of m.pairs (tree before) (tree local) (tree remote) lost d)) is m.joined_is;
  valid = m.valid;
  is_tree = m.is_tree;
}
