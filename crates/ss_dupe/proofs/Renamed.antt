-- A valid tree with other ids is valid, where no two of its ids get one name and `places` and the roots keep theirs.
use Rattle.std.proofs.Common.{◌≡◌, ◌⊎◌, ℕ, zero, suc, ◌+◌, true, false, cond, List, [], ◌∷◌, map, find, count_by}
use Rattle.std.proofs.Common.{Option, Some, None, unwrap_or, option_map, ◌||◌, refl, sym, ap, subst, ◌∙◌, inl, inr}
use Rattle.std.proofs.Common.{is_some, codes, bytes_eq}
use Rattle.std.specs.Map.{lookup}
use Rattle.ss_record.specs.declared.kinds.Kind.TheVariants.{Folder}
use Rattle.ss_record.specs.Ids.{has, Apart, places, roots}
use Rattle.ss_tree.specs.Trees.{PlacedItem, node, node_ids, places_node, IsValidTree}
use Rattle.ss_dupe.specs.declared.sides.Side.TheVariants.{Local, Remote}
use Rattle.ss_dupe.specs.Looks.{Id, Look, look, is_in, at, parent_of, children_of, is_places, is_root}
use Rattle.ss_dupe.specs.Walks.{meets, Meets}
use Rattle.ss_dupe.specs.Sides.{Sides, sides}
use Rattle.ss_dupe.specs.Pairs.{ArePairs}
use Rattle.ss_dupe.specs.Renaming.{renamed_id, renamed_item, tree_renamed}
use Rattle.ss_dupe.proofs.Basics.{same-is, same-true, same-apart, has-cases, has-nil, has-head, has-tail, or_rest}
use Rattle.ss_dupe.proofs.Basics.{some_from_passes, false_from}
use Rattle.ss_dupe.proofs.Walks.{meets_stepped}
use Rattle.ss_dupe.specs.Shapes.{HasShape}
use Rattle.ss_dupe.proofs.Shapes.{shape, valid-from_shape, at-of, in-of, look-in, with_parent-in, places_is}
use Rattle.ss_dupe.proofs.Shapes.{is_places-is, has-roots}
use Rattle.ss_dupe.proofs.OneEach.{count_test-cons, parent-lists, children-inside, one_local, pair_local_new}
use Rattle.ss_dupe.proofs.OneEach.{pair_remote_new, new-not_other}
use Rattle.std.proofs.lemmas.Bool.{cases_Bool, or_left}
use Rattle.ss_text.proofs.Basics.{no_way, map_some}

pub node_ids-has : (t : List PlacedItem) (x : Id) → is_in (look t) x ≡ has x (node_ids t)
unfolding is_in node node_ids has
node_ids-has [] x = refl
node_ids-has (n ∷ ns) x = cases (cases_Bool (bytes_eq x n.id)) (node_ids-has ns x)
  where
    cases : (bytes_eq x n.id ≡ true) ⊎ (bytes_eq x n.id ≡ false) → is_some (find (λ m. bytes_eq x m.id) ns) ≡ has x (map (λ n. n.id) ns) → is_some (find (λ m. bytes_eq x m.id) (n ∷ ns)) ≡ has x (map (λ n. n.id) (n ∷ ns))
    cases (inl h) more = ap (λ b. is_some (cond b (Some n) (find (λ m. bytes_eq x m.id) ns))) h ∙ sym (has-head x n.id (map (λ n. n.id) ns) (same-true x n.id h))
    cases (inr h) more = ap (λ b. is_some (cond b (Some n) (find (λ m. bytes_eq x m.id) ns))) h ∙ more ∙ sym (ap (λ b. b || has x (map (λ n. n.id) ns)) h)

module _ (name : Id → Id) where
  find-renamed : (x : Id) (ns : List PlacedItem) → ((y : Id) → has y (node_ids ns) ≡ true → name x ≡ name y → x ≡ y) →
      find (λ m. bytes_eq (name x) m.id) (map (renamed_item name) ns) ≡ option_map (renamed_item name) (find (λ m. bytes_eq x m.id) ns)
  unfolding node_ids
  find-renamed x [] one = refl
  find-renamed x (n ∷ ns) one = cases (cases_Bool (bytes_eq x n.id)) (find-renamed x ns (λ y k. one y (has-tail y n.id _ k)))
    where
      rest : Option PlacedItem
      rest = find (λ m. bytes_eq (name x) m.id) (map (renamed_item name) ns)

      cases : (bytes_eq x n.id ≡ true) ⊎ (bytes_eq x n.id ≡ false) → rest ≡ option_map (renamed_item name) (find (λ m. bytes_eq x m.id) ns) →
          find (λ m. bytes_eq (name x) m.id) (map (renamed_item name) (n ∷ ns)) ≡ option_map (renamed_item name) (find (λ m. bytes_eq x m.id) (n ∷ ns))
      cases (inl h) more =
          ap (λ b. cond b (Some (renamed_item name n)) rest) (same-is _ _ (ap name (same-true x n.id h)))
          ∙ sym (ap (λ b. option_map (renamed_item name) (cond b (Some n) (find (λ m. bytes_eq x m.id) ns))) h)
      cases (inr h) more =
          ap (λ b. cond b (Some (renamed_item name n)) rest) (same-apart (name x) (name n.id) (λ q. no_way (bytes_eq x n.id) (same-is x n.id (one n.id (has-head n.id n.id _ refl) q)) h))
          ∙ more
          ∙ sym (ap (λ b. option_map (renamed_item name) (cond b (Some n) (find (λ m. bytes_eq x m.id) ns))) h)

  count-renamed : (x : Id) (xs : List Id) → ((y : Id) → has y xs ≡ true → name x ≡ name y → x ≡ y) → count_by (bytes_eq (name x)) (map name xs) ≡ count_by (bytes_eq x) xs
  count-renamed x [] one = refl
  count-renamed x (y ∷ ys) one = cases (cases_Bool (bytes_eq x y)) (count-renamed x ys (λ z k. one z (has-tail z y ys k)))
    where
      cases : (bytes_eq x y ≡ true) ⊎ (bytes_eq x y ≡ false) → count_by (bytes_eq (name x)) (map name ys) ≡ count_by (bytes_eq x) ys → count_by (bytes_eq (name x)) (map name (y ∷ ys)) ≡ count_by (bytes_eq x) (y ∷ ys)
      cases (inl h) more =
          count_test-cons true (bytes_eq (name x)) (name y) (map name ys) (same-is _ _ (ap name (same-true x y h))) ∙ ap (λ n. 1 + n) more ∙ sym (count_test-cons true (bytes_eq x) y ys h)
      cases (inr h) more =
          count_test-cons false (bytes_eq (name x)) (name y) (map name ys) (same-apart _ _ (λ q. no_way (bytes_eq x y) (same-is x y (one y (has-head y y ys refl) q)) h)) ∙ ap (λ n. 0 + n) more ∙ sym (count_test-cons false (bytes_eq x) y ys h)

  has-renamed : (q : Id) (xs : List Id) → has q (map name xs) ≡ true → (x : Id) × (has x xs ≡ true) × (q ≡ name x)
  has-renamed q [] h = no_way (has q []) h (has-nil q)
  has-renamed q (y ∷ ys) h = cases (has-cases q (name y) (map name ys) h) (has-renamed q ys)
    where
      cases : (q ≡ name y) ⊎ (has q (map name ys) ≡ true) → (has q (map name ys) ≡ true → (x : Id) × (has x ys ≡ true) × (q ≡ name x)) → (x : Id) × (has x (y ∷ ys) ≡ true) × (q ≡ name x)
      cases (inl e) more = (y, has-head y y ys refl, e)
      cases (inr k) more = let f = more k in (f.0, has-tail f.0 y ys f.1, f.2)

  pub ids-renamed : (t : List PlacedItem) → node_ids (tree_renamed name t) ≡ map name (node_ids t)
  unfolding node_ids tree_renamed
  ids-renamed [] = refl
  ids-renamed (n ∷ ns) = ap (λ l. name n.id ∷ l) (ids-renamed ns)

  apart-renamed : (xs : List Id) → Apart xs → ((x y : Id) → has x xs ≡ true → has y xs ≡ true → name x ≡ name y → x ≡ y) → Apart (map name xs)
  unfolding Apart
  apart-renamed [] a one = tt
  apart-renamed (x ∷ xs) a one = (
    false_from (has (name x) (map name xs)) (λ h.
        let f = has-renamed (name x) xs h in
        no_way (has x xs) (subst (λ z. has z xs ≡ true) (sym (one x f.0 (has-head x x xs refl) (has-tail f.0 x xs f.1) f.2)) f.1) a.0),
    apart-renamed xs a.1 (λ y z k m. one y z (has-tail y x xs k) (has-tail z x xs m)),
  )

module _ (t : List PlacedItem) (name : Id → Id) (one : (x y : Id) → is_in (look t) x ≡ true → is_in (look t) y ≡ true → name x ≡ name y → x ≡ y) where
  abbrev old : Look
  old = look t

  abbrev new : Look
  new = look (tree_renamed name t)

  pub look-renamed : (x : Id) → is_in old x ≡ true → new (name x) ≡ option_map (renamed_item name) (old x)
  unfolding node tree_renamed
  look-renamed x h = find-renamed name x t (λ y k. one x y h (node_ids-has t y ∙ k))

  -- each id of the renamed tree is the name of one of the tree
  pub from-renamed : (q : Id) → is_in new q ≡ true → (x : Id) × (is_in old x ≡ true) × (q ≡ name x)
  from-renamed q h =
      let f = has-renamed name q (node_ids t) (subst (λ l. has q l ≡ true) (ids-renamed name t) (sym (node_ids-has (tree_renamed name t) q) ∙ h)) in
      (f.0, node_ids-has t f.0 ∙ f.1, f.2)

module _ (t : List PlacedItem) (valid : IsValidTree t) (name : Id → Id) (one : (x y : Id) → is_in (look t) x ≡ true → is_in (look t) y ≡ true → name x ≡ name y → x ≡ y)
    (places_stays : name places ≡ places) (roots_stay : (x : Id) → is_root x ≡ true → name x ≡ x) where
  abbrev g : Look
  g = look t

  abbrev r : Look
  r = look (tree_renamed name t)

  v : HasShape g
  v = shape t valid

  top_in : is_in g places ≡ true
  top_in = in-of g places _ v.top

  get-renamed : (x : Id) → is_in g x ≡ true → r (name x) ≡ Some (renamed_item name (at g x))
  get-renamed x h = look-renamed t name one x h ∙ ap (option_map (renamed_item name)) (look-in g x h)

  at-renamed : (x : Id) → is_in g x ≡ true → at r (name x) ≡ renamed_item name (at g x)
  at-renamed x h = at-of r (name x) _ (get-renamed x h)

  in-renamed : (x : Id) → is_in g x ≡ true → is_in r (name x) ≡ true
  in-renamed x h = in-of r (name x) _ (get-renamed x h)

  from : (q : Id) → is_in r q ≡ true → (x : Id) × (is_in g x ≡ true) × (q ≡ name x)
  from q h = from-renamed t name one q h

  parent-renamed : (x p : Id) → is_in g x ≡ true → parent_of g x ≡ Some p → parent_of r (name x) ≡ Some (name p)
  parent-renamed x p h e = ap (λ (y : PlacedItem). y.parent) (at-renamed x h) ∙ ap (option_map name) e

  children-renamed : (x : Id) → is_in g x ≡ true → children_of r (name x) ≡ map name (children_of g x)
  children-renamed x h = ap (λ (y : PlacedItem). y.children) (at-renamed x h)

  map-roots : (xs : List Id) → ((x : Id) → has x xs ≡ true → name x ≡ x) → map name xs ≡ xs
  map-roots [] stay = refl
  map-roots (x ∷ xs) stay =
      let first : name x ≡ x = stay x (has-head x x xs refl) in
      let rest : map name xs ≡ xs = map-roots xs (λ y k. stay y (has-tail y x xs k)) in
      cc

  roots_are : map name roots ≡ roots
  roots_are = map-roots roots (λ x k. roots_stay x (has-roots x k))

  not_top : (x : Id) → is_in g x ≡ true → is_places x ≡ false → is_places (name x) ≡ false
  not_top x h out = false_from (is_places (name x)) (λ e. no_way (is_places x) (ap is_places (one x places h top_in (is_places-is (name x) e ∙ sym places_stays)) ∙ places_is) out)

  from_top : (x : Id) → is_places (name x) ≡ false → is_places x ≡ false
  from_top x out = false_from (is_places x) (λ e. no_way (is_places (name x)) (ap (λ z. is_places (name z)) (is_places-is x e) ∙ ap is_places places_stays ∙ places_is) out)

  from_root : (x : Id) → is_root (name x) ≡ false → is_root x ≡ false
  from_root x miss = false_from (is_root x) (λ e. no_way (is_root (name x)) (ap is_root (roots_stay x e) ∙ e) miss)

  parents_in : (q : Id) → is_in r q ≡ true → is_places q ≡ false → is_root q ≡ false →
      (p : Id) × (parent_of r q ≡ Some p) × (is_in r p ≡ true) × ((at r p).kind ≡ Folder) × (is_places p ≡ false)
  parents_in q h out miss =
      let f = from q h in
      let x = f.0 in
      let above = v.parents x f.1 (from_top x (ap is_places (sym f.2) ∙ out)) (from_root x (ap is_root (sym f.2) ∙ miss)) in
      (name above.0, ap (parent_of r) f.2 ∙ parent-renamed x above.0 f.1 above.1, in-renamed above.0 above.2, ap (λ (y : PlacedItem). y.kind) (at-renamed above.0 above.2) ∙ above.3, not_top above.0 above.2 above.4)

  once_in : (q p : Id) → parent_of r q ≡ Some p → count_by (bytes_eq q) (children_of r p) ≡ 1
  once_in q p e =
      let f = from q (with_parent-in r q p e) in
      let x = f.0 in
      let own = map_some name (parent_of g x) p (sym (ap (λ (y : PlacedItem). y.parent) (at-renamed x f.1)) ∙ ap (parent_of r) (sym f.2) ∙ e) in
      let above = children-inside g x own.0 (parent-lists g v x own.0 own.1) in
      ap (λ z. count_by (bytes_eq z) (children_of r p)) f.2
      ∙ ap (λ z. count_by (bytes_eq (name x)) (children_of r z)) (sym own.2)
      ∙ ap (count_by (bytes_eq (name x))) (children-renamed own.0 above)
      ∙ count-renamed name x (children_of g own.0) (λ y k. one x y f.1 (v.listed y own.0 k).0)
      ∙ v.once x own.0 own.1

  listed_in : (q p : Id) → has q (children_of r p) ≡ true → (is_in r q ≡ true) × (parent_of r q ≡ Some p)
  listed_in q p h =
      let f = from p (children-inside r q p h) in
      let k = has-renamed name q (children_of g f.0) (subst (λ l. has q l ≡ true) (ap (children_of r) f.2 ∙ children-renamed f.0 f.1) h) in
      let l = v.listed k.0 f.0 k.1 in
      (ap (is_in r) k.2 ∙ in-renamed k.0 l.0, ap (parent_of r) k.2 ∙ parent-renamed k.0 f.0 l.0 l.1 ∙ ap Some (sym f.2))

  below_in : (n : ℕ) (x : Id) → is_in g x ≡ true → meets (parent_of g) is_places n x ≡ true → meets (parent_of r) is_places n (name x) ≡ true
  below_in zero x h k = ap (λ z. is_places (name z)) (is_places-is x k) ∙ ap is_places places_stays ∙ places_is
  below_in (suc n) x h k = cases (cases_Bool (is_places x)) (below_in n)
    where
      cases : (is_places x ≡ true) ⊎ (is_places x ≡ false) → ((y : Id) → is_in g y ≡ true → meets (parent_of g) is_places n y ≡ true → meets (parent_of r) is_places n (name y) ≡ true) → meets (parent_of r) is_places (suc n) (name x) ≡ true
      cases (inl top) more = or_left (is_places (name x)) _ (ap (λ z. is_places (name z)) (is_places-is x top) ∙ ap is_places places_stays ∙ places_is)
      cases (inr out) more =
          let next = some_from_passes (meets (parent_of g) is_places n) (parent_of g x) (or_rest (is_places x) _ k out) in
          meets_stepped (parent_of r) is_places n (name x) (name next.0) (parent-renamed x next.0 h next.1) (more next.0 (children-inside g x next.0 (parent-lists g v x next.0 next.1)) next.2)

  top_is : r places ≡ Some places_node
  unfolding places_node
  top_is =
      ap r (sym places_stays) ∙ get-renamed places top_in ∙ ap (λ n. Some (renamed_item name n)) (at-of g places _ v.top)
      ∙ ap (λ x. Some (record { id = x; kind = Folder; content = codes "{}"; parent = None; children = map name roots; time = 0 })) places_stays
      ∙ ap (λ l. Some (record { id = places; kind = Folder; content = codes "{}"; parent = None; children = l; time = 0 })) roots_are

  renamed_shape : HasShape r
  renamed_shape = record {
    top = top_is;
    roots_in = λ x e. root_fact x e;
    parents = parents_in;
    once = once_in;
    listed = listed_in;
    below = λ q h. below_fact q h;
  }
    where
      root_fact : (x : Id) → is_root x ≡ true → (is_in r x ≡ true) × ((at r x).kind ≡ Folder) × (parent_of r x ≡ Some places)
      root_fact x e =
          let own = v.roots_in x e in
          let stay = sym (roots_stay x e) in
          (ap (is_in r) stay ∙ in-renamed x own.0, ap (λ z. (at r z).kind) stay ∙ ap (λ (y : PlacedItem). y.kind) (at-renamed x own.0) ∙ own.1, ap (parent_of r) stay ∙ parent-renamed x places own.0 own.2 ∙ ap Some places_stays)

      below_fact : (q : Id) → is_in r q ≡ true → Meets (parent_of r) is_places q
      below_fact q h =
          let f = from q h in
          let b = v.below f.0 f.1 in
          (b.0, ap (meets (parent_of r) is_places b.0) f.2 ∙ below_in b.0 f.0 f.1 b.1)

  pub renamed_is_valid : IsValidTree (tree_renamed name t)
  renamed_is_valid =
      valid-from_shape (tree_renamed name t)
      (subst Apart (sym (ids-renamed name t)) (apart-renamed name (node_ids t) valid.apart (λ x y h k. one x y (node_ids-has t x ∙ h) (node_ids-has t y ∙ k))))
      renamed_shape

-- ---- the renaming of the local items that are in a pair

module _ (s : Sides) (vl : HasShape s.local) (vr : HasShape s.remote) (pairs : List (Id × Id)) (a : ArePairs s pairs) where
  of_pair : (x r : Id) → lookup (bytes_eq x) pairs ≡ Some r → renamed_id pairs x ≡ r
  of_pair x r e = ap (λ o. unwrap_or o x) e

  of_none : (x : Id) → lookup (bytes_eq x) pairs ≡ None → renamed_id pairs x ≡ x
  of_none x e = ap (λ o. unwrap_or o x) e

  pub remote_stays : (x : Id) → is_in s.remote x ≡ true → renamed_id pairs x ≡ x
  remote_stays x h = cases (lookup (bytes_eq x) pairs) refl
    where
      cases : (o : Option Id) → lookup (bytes_eq x) pairs ≡ o → renamed_id pairs x ≡ x
      cases None e = of_none x e
      cases (Some r) e = no_way (is_in s.remote x) h (new-not_other s vl vr Local x (pair_local_new s vl vr (a.each x r e)))

  pub names_apart : (x y : Id) → is_in s.local x ≡ true → is_in s.local y ≡ true → renamed_id pairs x ≡ renamed_id pairs y → x ≡ y
  names_apart x y hx hy e = cases (lookup (bytes_eq x) pairs) refl (lookup (bytes_eq y) pairs) refl
    where
      -- a remote id of a pair is no local id
      clash : (z w r : Id) → is_in s.local w ≡ true → lookup (bytes_eq z) pairs ≡ Some r → r ≡ w → ⊥
      clash z w r h f q = no_way (is_in s.local w) h (subst (λ u. is_in s.local u ≡ false) q (new-not_other s vl vr Remote r (pair_remote_new s vl vr (a.each z r f))))

      cases : (o : Option Id) → lookup (bytes_eq x) pairs ≡ o → (p : Option Id) → lookup (bytes_eq y) pairs ≡ p → x ≡ y
      cases None f None g = sym (of_none x f) ∙ e ∙ of_none y g
      cases (Some r) f None g = absurd (clash x y r hy f (sym (of_pair x r f) ∙ e ∙ of_none y g))
      cases None f (Some q) g = absurd (clash y x q hx g (sym (of_pair y q g) ∙ sym e ∙ of_none x f))
      cases (Some r) f (Some q) g = one_local s vl vr (a.each x r f) (sym (of_pair x r f) ∙ e ∙ of_pair y q g) (a.each y q g)

pub paired_is_valid : (m l r : List PlacedItem) (x y : List Id) (pairs : List (Id × Id)) → IsValidTree l → IsValidTree r → ArePairs (sides m l r x y) pairs → IsValidTree (tree_renamed (renamed_id pairs) l)
paired_is_valid m l r x y pairs vl vr a =
    let s = sides m l r x y in
    let hl = shape l vl in
    let hr = shape r vr in
    renamed_is_valid l vl (renamed_id pairs) (names_apart s hl hr pairs a) (remote_stays s hl hr pairs a places (in-of s.remote places _ hr.top)) (λ z k. remote_stays s hl hr pairs a z (hr.roots_in z k).0)
