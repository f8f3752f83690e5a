-- What a valid tree gives, by look-ups alone, and back.
use Rattle.std.proofs.Common.{◌≡◌, ◌≢◌, ◌↔◌, ◌⊎◌, ℕ, zero, suc, true, false, List, [], ◌∷◌, length, count_by, Option}
use Rattle.std.proofs.Common.{Some, None, is_some, bytes_eq, unwrap_or, option_and_then, refl, sym, ap, subst, ◌∙◌, inl}
use Rattle.std.proofs.Common.{inr, arith, ◌+◌}
use Rattle.ss_record.specs.declared.kinds.Kind.TheVariants.{Folder}
use Rattle.ss_record.specs.Kinds.{is_folder}
use Rattle.ss_record.specs.Ids.{has, Apart, places, roots}
use Rattle.ss_tree.specs.Trees.{PlacedItem, node, node_ids, parent_in, places_node, IsUnder, steps, IsValidTree}
use Rattle.ss_dupe.specs.Looks.{Id, Look, look, blank, is_in, at, parent_of, children_of, is_places, is_root}
use Rattle.ss_dupe.specs.Walks.{meets}
use Rattle.ss_dupe.specs.Shapes.{HasShape}
use Rattle.ss_dupe.proofs.Basics.{same-tells, or_rest, some_from_passes, same-true, same-is, same-self, false_from}
use Rattle.ss_dupe.proofs.Basics.{has-head, has-tail, has-cases, has-nil}
use Rattle.ss_dupe.proofs.Walks.{meets_stepped}
use Rattle.ss_dupe.proofs.Bounds.{meets_within}
use Rattle.ss_dupe.proofs.Lists.{count-cons}
use Rattle.std.proofs.lemmas.Bool.{cases_Bool, or_left}
use Rattle.ss_record.proofs.Fit.{folder_kind}
use Rattle.ss_text.proofs.Basics.{no_way, is_one}

-- what stands once in a list is in it
pub count-none : (x : Id) (xs : List Id) → has x xs ≡ false → count_by (bytes_eq x) xs ≡ 0
count-none x [] h = refl
count-none x (y ∷ ys) h = cases (cases_Bool (bytes_eq x y)) (cases_Bool (has x ys)) (count-none x ys)
  where
    cases : (bytes_eq x y ≡ true) ⊎ (bytes_eq x y ≡ false) → (has x ys ≡ true) ⊎ (has x ys ≡ false) → (has x ys ≡ false → count_by (bytes_eq x) ys ≡ 0) → count_by (bytes_eq x) (y ∷ ys) ≡ 0
    cases (inl e) _ more = no_way (has x (y ∷ ys)) (has-head x y ys (same-true x y e)) h
    cases (inr e) (inl k) more = no_way (has x (y ∷ ys)) (has-tail x y ys k) h
    cases (inr e) (inr k) more = count-cons false x y ys e ∙ ap (λ n. 0 + n) (more k)

-- ---- look-ups

pub at-of : (t : Look) (x : Id) (n : PlacedItem) → t x ≡ Some n → at t x ≡ n
unfolding at
at-of t x n h = ap (λ o. unwrap_or o blank) h

pub at-of_none : (t : Look) (x : Id) → t x ≡ None → at t x ≡ blank
unfolding at
at-of_none t x h = ap (λ o. unwrap_or o blank) h

pub in-of : (t : Look) (x : Id) (n : PlacedItem) → t x ≡ Some n → is_in t x ≡ true
unfolding is_in
in-of t x n h = ap is_some h

pub in-of_none : (t : Look) (x : Id) → t x ≡ None → is_in t x ≡ false
unfolding is_in
in-of_none t x h = ap is_some h

pub of-in : (t : Look) (x : Id) → is_in t x ≡ true → (n : PlacedItem) × (t x ≡ Some n)
unfolding is_in
of-in t x h = is_one (t x) h

pub look-in : (t : Look) (x : Id) → is_in t x ≡ true → t x ≡ Some (at t x)
look-in t x h = let n = of-in t x h in n.1 ∙ ap Some (sym (at-of t x n.0 n.1))

pub with_parent-in : (t : Look) (x p : Id) → parent_of t x ≡ Some p → is_in t x ≡ true
with_parent-in t x p e = cases (t x) refl
  where
    cases : (o : Option PlacedItem) → t x ≡ o → is_in t x ≡ true
    cases None h = let none : parent_of t x ≡ None = ap (λ (n : PlacedItem). n.parent) (at-of_none t x h) in cc
    cases (Some n) h = in-of t x n h

pub places_is : is_places places ≡ true
unfolding is_places
places_is = same-self places

pub is_places-is : (x : Id) → is_places x ≡ true → x ≡ places
unfolding is_places
is_places-is x e = same-true x places e

pub apart_places : (x : Id) → is_places x ≡ false → bytes_eq x places ≡ false
unfolding is_places
apart_places x e = e

places_no_root : is_root places ≡ false
unfolding is_root has roots places
places_no_root = refl

pub root-not_places : (x : Id) → is_root x ≡ true → is_places x ≡ false
root-not_places x r = false_from (is_places x) (λ e. no_way (is_root places) (ap is_root (sym (is_places-is x e)) ∙ r) places_no_root)

pub has-roots : (x : Id) → has x roots ≡ true → is_root x ≡ true
unfolding is_root
has-roots x h = h

pub roots-has : (x : Id) → is_root x ≡ true → has x roots ≡ true
unfolding is_root
roots-has x h = h

-- ---- lists in which no id stands twice

pub count-apart : (x : Id) (xs : List Id) → Apart xs → has x xs ≡ true → count_by (bytes_eq x) xs ≡ 1
unfolding Apart
count-apart x [] a h = no_way (has x []) h (has-nil x)
count-apart x (y ∷ ys) a h = cases (cases_Bool (bytes_eq x y)) (has-cases x y ys h) (count-apart x ys a.1)
  where
    cases : (bytes_eq x y ≡ true) ⊎ (bytes_eq x y ≡ false) → (x ≡ y) ⊎ (has x ys ≡ true) → (has x ys ≡ true → count_by (bytes_eq x) ys ≡ 1) → count_by (bytes_eq x) (y ∷ ys) ≡ 1
    cases (inl e) k more =
        let none = count-none x ys (subst (λ z. has z ys ≡ false) (sym (same-true x y e)) a.0) in
        let first = count-cons true x y ys e in
        omega arith
    cases (inr e) (inl q) more = no_way (bytes_eq x y) (same-is x y q) e
    cases (inr e) (inr k) more = let first = count-cons false x y ys e in let rest = more k in omega arith

-- an id that isn't in the list has no count, so what stands at most once everywhere is apart
pub apart-from_counts : (xs : List Id) → ((x : Id) → has x xs ≡ true → count_by (bytes_eq x) xs ≡ 1) → Apart xs
unfolding Apart
apart-from_counts [] h = tt
apart-from_counts (y ∷ ys) h = (alone, apart-from_counts ys rest)
  where
    alone : has y ys ≡ false
    alone = false_from (has y ys) (λ k.
        let whole = h y (has-head y y ys refl) in
        let first = count-cons true y y ys (same-self y) in
        let some = counted y ys k in
        absurd (omega arith))
      where
        counted : (x : Id) (xs : List Id) → has x xs ≡ true → (n : ℕ) × (count_by (bytes_eq x) xs ≡ suc n)
        counted x [] k = no_way (has x []) k (has-nil x)
        counted x (z ∷ zs) k = elim (cases_Bool (bytes_eq x z)) [
          | inl e ↦ (count_by (bytes_eq x) zs, (let first = count-cons true x z zs e in omega arith))
          | inr e ↦ elim (has-cases x z zs k) [
            | inl q ↦ no_way (bytes_eq x z) (same-is x z q) e
            | inr m ↦ let more = counted x zs m in (more.0, (let first = count-cons false x z zs e in let eq = more.1 in omega arith))
          ]
        ]

    rest : (x : Id) → has x ys ≡ true → count_by (bytes_eq x) ys ≡ 1
    rest x k = elim (cases_Bool (bytes_eq x y)) [
      | inl e ↦ no_way (has y ys) (subst (λ z. has z ys ≡ true) (same-true x y e) k) alone
      | inr e ↦ let first = count-cons false x y ys e in let whole = h x (has-tail x y ys k) in omega arith
    ]

-- ---- a valid tree has the shape

module _ (t : List PlacedItem) (v : IsValidTree t) where
  abbrev g : Look
  g = look t

  top_in : is_in g places ≡ true
  top_in = in-of g places _ v.top_is

  above_top : parent_of g places ≡ None
  unfolding places_node
  above_top = ap (λ (n : PlacedItem). n.parent) (at-of g places _ v.top_is)

  top_children : children_of g places ≡ roots
  unfolding places_node
  top_children = ap (λ (n : PlacedItem). n.children) (at-of g places _ v.top_is)

  under-of : (x y : Id) → IsUnder t y x → (is_in g x ≡ true) × (parent_of g x ≡ Some y)
  unfolding IsUnder
  under-of x y u = (in-of g x u.0 u.1, ap (λ (n : PlacedItem). n.parent) (at-of g x u.0 u.1) ∙ u.2)

  of-under : (x y : Id) → parent_of g x ≡ Some y → IsUnder t y x
  unfolding IsUnder
  of-under x y e =
      let n = of-in g x (with_parent-in g x y e) in
      (n.0, n.1, sym (ap (λ (m : PlacedItem). m.parent) (at-of g x n.0 n.1)) ∙ e)

  root_fact : (x : Id) → is_root x ≡ true → (is_in g x ≡ true) × ((at g x).kind ≡ Folder) × (parent_of g x ≡ Some places)
  unfolding places_node
  root_fact x r =
      let u = under-of x places ((v.stands places places_node v.top_is x).0 (roots-has x r)) in
      let n = of-in g x u.0 in
      (u.0, ap (λ (m : PlacedItem). m.kind) (at-of g x n.0 n.1) ∙ folder_kind n.0.kind (v.root_folder x n.0 (roots-has x r) n.1), u.1)

  -- each item but `places` has its parent in the tree
  above : (x : Id) → is_in g x ≡ true → is_places x ≡ false → (p : Id) × (parent_of g x ≡ Some p) × (m : PlacedItem) × (g p ≡ Some m) × (m.kind ≡ Folder)
  above x h out =
      let n = of-in g x h in
      let f = v.folder x n.0 n.1 (λ e. no_way (is_places x) (ap is_places e ∙ places_is) out) in
      (f.0, ap (λ (m : PlacedItem). m.parent) (at-of g x n.0 n.1) ∙ f.1, f.2, f.3, folder_kind f.2.kind f.4)

  parent_fact : (x : Id) → is_in g x ≡ true → is_places x ≡ false → is_root x ≡ false →
      (p : Id) × (parent_of g x ≡ Some p) × (is_in g p ≡ true) × ((at g p).kind ≡ Folder) × (is_places p ≡ false)
  unfolding places_node
  parent_fact x h out miss =
      let f = above x h out in (
        f.0,
        f.1,
        in-of g f.0 f.2 f.3,
        ap (λ (m : PlacedItem). m.kind) (at-of g f.0 f.2 f.3) ∙ f.4,
        false_from (is_places f.0) (λ e.
            no_way (is_root x) (has-roots x ((v.stands places places_node v.top_is x).1 (of-under x places (f.1 ∙ ap Some (is_places-is f.0 e))))) miss),
      )

  not_top : (x p : Id) → parent_of g x ≡ Some p → is_places x ≡ false
  not_top x p e = false_from (is_places x) (λ h. let none : parent_of g x ≡ None = ap (parent_of g) (is_places-is x h) ∙ above_top in cc)

  once_fact : (x p : Id) → parent_of g x ≡ Some p → count_by (bytes_eq x) (children_of g p) ≡ 1
  once_fact x p e =
      let f = above x (with_parent-in g x p e) (not_top x p e) in
      let same : f.0 ≡ p = cc (f.1, e) in
      let m : g p ≡ Some f.2 = ap g (sym same) ∙ f.3 in
      ap (λ (n : PlacedItem). count_by (bytes_eq x) n.children) (at-of g p f.2 m) ∙ count-apart x f.2.children (v.once p f.2 m) ((v.stands p f.2 m x).1 (of-under x p e))

  listed_fact : (x p : Id) → has x (children_of g p) ≡ true → (is_in g x ≡ true) × (parent_of g x ≡ Some p)
  listed_fact x p h = cases (g p) refl
    where
      cases : (o : Option PlacedItem) → g p ≡ o → (is_in g x ≡ true) × (parent_of g x ≡ Some p)
      cases None e = no_way (has x []) (subst (λ l. has x l ≡ true) (ap (λ (n : PlacedItem). n.children) (at-of_none g p e)) h) (has-nil x)
      cases (Some m) e = under-of x p ((v.stands p m e x).0 (subst (λ l. has x l ≡ true) (ap (λ (n : PlacedItem). n.children) (at-of g p m e)) h))

  step-is : (x p : Id) → parent_of g x ≡ Some p → parent_in t x ≡ p
  unfolding parent_in IsUnder
  step-is x p e =
      let u = of-under x p e in
      ap (λ o. unwrap_or (option_and_then (λ n. n.parent) o) places) u.1 ∙ ap (λ o. unwrap_or o places) u.2

  walked : (k : ℕ) (x : Id) → is_in g x ≡ true → steps (parent_in t) k x ≡ places → meets (parent_of g) is_places k x ≡ true
  unfolding steps
  walked zero x h e = ap is_places e ∙ places_is
  walked (suc k) x h e = elim (cases_Bool (is_places x)) [
    | inl top ↦ or_left (is_places x) _ top
    | inr out ↦
        let f = above x h out in
        meets_stepped (parent_of g) is_places k x f.0 f.1 (walked k f.0 (in-of g f.0 f.2 f.3) (ap (steps (parent_in t) k) (sym (step-is x f.0 f.1)) ∙ e))
  ]

  pub shape : HasShape (look t)
  shape = record {
    top = v.top_is;
    roots_in = root_fact;
    parents = parent_fact;
    once = once_fact;
    listed = listed_fact;
    below = λ x h. let n = of-in g x h in let r = v.reaches x n.0 n.1 in (r.0, walked r.0 x h r.1);
  }

-- ---- what has the shape is a valid tree

module _ (t : List PlacedItem) (apart : Apart (node_ids t)) (s : HasShape (look t)) where
  abbrev h : Look
  h = look t

  at-is : (x : Id) (n : PlacedItem) → node x t ≡ Some n → at h x ≡ n
  at-is x n e = at-of h x n e

  step_up : (x p : Id) → parent_of h x ≡ Some p → parent_in t x ≡ p
  unfolding parent_in
  step_up x p e =
      let n = of-in h x (with_parent-in h x p e) in
      ap (λ o. unwrap_or (option_and_then (λ n. n.parent) o) places) n.1 ∙ ap (λ o. unwrap_or o places) (sym (ap (λ (m : PlacedItem). m.parent) (at-of h x n.0 n.1)) ∙ e)

  top_stays : (k : ℕ) → steps (parent_in t) k places ≡ places
  unfolding steps parent_in places_node
  top_stays zero = refl
  top_stays (suc k) = ap (steps (parent_in t) k) top_up ∙ top_stays k
    where
      top_up : parent_in t places ≡ places
      top_up = ap (λ o. unwrap_or (option_and_then (λ n. n.parent) o) places) s.top

  climbs : (k : ℕ) (x : Id) → meets (parent_of h) is_places k x ≡ true → steps (parent_in t) k x ≡ places
  unfolding steps
  climbs zero x m = is_places-is x m
  climbs (suc k) x m = elim (cases_Bool (is_places x)) [
    | inl top ↦ ap (λ z. steps (parent_in t) k (parent_in t z)) (is_places-is x top) ∙ top_stays (suc k)
    | inr out ↦
        let next = some_from_passes (meets (parent_of h) is_places k) (parent_of h x) (or_rest (is_places x) _ m out) in
        ap (steps (parent_in t) k) (step_up x next.0 next.1) ∙ climbs k next.0 next.2
  ]

  stands_fact : (y : Id) (m : PlacedItem) → node y t ≡ Some m → (x : Id) → (has x m.children ≡ true) ↔ IsUnder t y x
  unfolding IsUnder
  stands_fact y m e x = (there, back)
    where
      there : has x m.children ≡ true → (n : PlacedItem) × (node x t ≡ Some n) × (n.parent ≡ Some y)
      there k =
          let l = s.listed x y (subst (λ (n : PlacedItem). has x n.children ≡ true) (sym (at-is y m e)) k) in
          let n = of-in h x l.0 in
          (n.0, n.1, sym (ap (λ (o : PlacedItem). o.parent) (at-of h x n.0 n.1)) ∙ l.1)

      back : (n : PlacedItem) × (node x t ≡ Some n) × (n.parent ≡ Some y) → has x m.children ≡ true
      back u =
          let p : parent_of h x ≡ Some y = ap (λ (o : PlacedItem). o.parent) (at-of h x u.0 u.1) ∙ u.2 in
          counted x m.children (ap (λ (n : PlacedItem). count_by (bytes_eq x) n.children) (sym (at-is y m e)) ∙ s.once x y p)
        where
          counted : (x : Id) (xs : List Id) → count_by (bytes_eq x) xs ≡ 1 → has x xs ≡ true
          counted x xs e = elim (cases_Bool (has x xs)) [ inl k ↦ k | inr k ↦ let none = count-none x xs k in absurd (omega arith) ]

  folder_fact : (x : Id) (n : PlacedItem) → node x t ≡ Some n → x ≢ places → (y : Id) × (n.parent ≡ Some y) × (m : PlacedItem) × (node y t ≡ Some m) × (is_folder m.kind ≡ true)
  unfolding places_node
  folder_fact x n e out = elim (cases_Bool (is_root x)) [
    | inl r ↦
        let f = s.roots_in x r in
        (places, sym (ap (λ (o : PlacedItem). o.parent) (at-is x n e)) ∙ f.2, places_node, s.top, top_folder)
    | inr miss ↦
        let f = s.parents x (in-of h x n e) (false_from (is_places x) (λ q. out (is_places-is x q))) miss in
        let m = of-in h f.0 f.2 in
        (f.0, sym (ap (λ (o : PlacedItem). o.parent) (at-is x n e)) ∙ f.1, m.0, m.1, ap is_folder (sym (ap (λ (o : PlacedItem). o.kind) (at-of h f.0 m.0 m.1)) ∙ f.3))
  ]
    where
      top_folder : is_folder places_node.kind ≡ true
      top_folder = refl

  pub valid-from_shape : IsValidTree t
  valid-from_shape = record {
    apart = apart;
    top_is = s.top;
    stands = stands_fact;
    once = λ y m e. apart-from_counts m.children (λ x k. ap (λ (n : PlacedItem). count_by (bytes_eq x) n.children) (sym (at-is y m e)) ∙ s.once x y (s.listed x y (subst (λ (n : PlacedItem). has x n.children ≡ true) (sym (at-is y m e)) k)).1);
    folder = folder_fact;
    root_folder = λ r n k e. ap is_folder (sym (ap (λ (o : PlacedItem). o.kind) (at-is r n e)) ∙ (s.roots_in r (has-roots r k)).1);
    reaches = λ x n e. let m = s.below x (in-of h x n e) in (m.0, climbs m.0 x m.1);
  }

-- ---- items, and the bound of a walk to a root

-- in the tree, and not `places`
pub record IsItem (t : Look) (x : Id) : Type 0 where
  pub inside : is_in t x ≡ true
  pub not_places : is_places x ≡ false

module _ (t : Look) (v : HasShape t) where
  pub top_parent : parent_of t places ≡ None
  unfolding places_node
  top_parent = ap (λ (n : PlacedItem). n.parent) (at-of t places _ v.top)

  pub item_up : (x p : Id) → IsItem t x → is_root x ≡ false → parent_of t x ≡ Some p → IsItem t p
  item_up x p it miss e =
      let above = v.parents x it.inside it.not_places miss in
      let is : above.0 ≡ p = cc (above.1, e) in
      record { inside = subst (λ q. is_in t q ≡ true) is above.2; not_places = subst (λ q. is_places q ≡ false) is above.4 }

  below_root : (n : ℕ) (x : Id) → IsItem t x → meets (parent_of t) is_places n x ≡ true → meets (parent_of t) is_root n x ≡ true
  below_root zero x it h = no_way (is_places x) h it.not_places
  below_root (suc n) x it h = cases (cases_Bool (is_root x)) (λ p. below_root n p)
    where
      cases : (is_root x ≡ true) ⊎ (is_root x ≡ false) → ((p : Id) → IsItem t p → meets (parent_of t) is_places n p ≡ true → meets (parent_of t) is_root n p ≡ true) → meets (parent_of t) is_root (suc n) x ≡ true
      cases (inl e) more = or_left (is_root x) _ e
      cases (inr e) more =
          let next = some_from_passes (meets (parent_of t) is_places n) (parent_of t x) (or_rest (is_places x) _ h it.not_places) in
          meets_stepped (parent_of t) is_root n x next.0 next.1 (more next.0 (item_up x next.0 it e next.1) next.2)

  -- the walk of parents comes to a root in as many steps as the list is long that has all ids of the tree
  pub rooted_within : (ids : List Id) → ((x : Id) → is_in t x ≡ true → has x ids ≡ true) → (x : Id) → IsItem t x → meets (parent_of t) is_root (length ids) x ≡ true
  unfolding has
  rooted_within ids all x it =
      let b = v.below x it.inside in
      meets_within bytes_eq same-tells (parent_of t) is_root ids closed b.0 x (all x it.inside) (below_root b.0 x it b.1)
    where
      closed : (y z : Id) → has y ids ≡ true → is_root y ≡ false → parent_of t y ≡ Some z → has z ids ≡ true
      closed y z k miss e = cases (cases_Bool (is_places y))
        where
          cases : (is_places y ≡ true) ⊎ (is_places y ≡ false) → has z ids ≡ true
          cases (inl top) =
              let none : parent_of t y ≡ None = subst (λ q. parent_of t q ≡ None) (sym (is_places-is y top)) top_parent in
              cc
          cases (inr below) =
              let it : IsItem t y = record { inside = with_parent-in t y z e; not_places = below } in
              all z (item_up y z it miss e).inside
