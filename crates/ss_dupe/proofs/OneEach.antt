-- No id stands in two duplicate pairs.
use Rattle.std.proofs.Common.{◌≡◌, ◌⊎◌, ℕ, ◌+◌, Bool, true, false, cond, not, List, [], ◌∷◌, count_by, take, Option}
use Rattle.std.proofs.Common.{Some, None, bytes_eq, refl, sym, ap, subst, ◌∙◌, inl, inr, arith, one-add}
use Rattle.std.specs.List.{before_first, prefix_len}
use Rattle.std.proofs.lemmas.List.Sums.{sum_by-cons}
use Rattle.ss_record.specs.Ids.{has}
use Rattle.ss_tree.specs.Trees.{PlacedItem}
use Rattle.ss_dupe.specs.declared.sides.Side.{Side}
use Rattle.ss_dupe.specs.declared.sides.Side.TheVariants.{Local, Remote}
use Rattle.ss_dupe.specs.Looks.{Id, Look, is_in, parent_of, children_of}
use Rattle.ss_dupe.specs.Sides.{Sides, other, tree_of, is_new}
use Rattle.ss_dupe.specs.Pairs.{key_on, new_like, rank, AreAlike, IsPair, Under_same, Under_pair}
use Rattle.ss_dupe.proofs.Basics.{same-self, same-is, same-true, has-cases, has-nil}
use Rattle.ss_dupe.specs.Shapes.{HasShape}
use Rattle.ss_dupe.proofs.Shapes.{at-of_none, in-of, count-none}
use Rattle.std.proofs.lemmas.Bool.{cases_Bool, and_from, not-true}
use Rattle.ss_text.proofs.Basics.{both_left, both_right, no_way}

pub before-hit : (x z : Id) (zs : List Id) → bytes_eq x z ≡ true → before_first (bytes_eq x) (z ∷ zs) ≡ []
before-hit x z zs e = ap (λ b. take (cond (not b) (1 + prefix_len (λ y. not (bytes_eq x y)) zs) 0) (z ∷ zs)) e

pub before-miss : (x z : Id) (zs : List Id) → bytes_eq x z ≡ false → before_first (bytes_eq x) (z ∷ zs) ≡ z ∷ before_first (bytes_eq x) zs
before-miss x z zs e = ap (λ b. take (cond (not b) (1 + prefix_len (λ y. not (bytes_eq x y)) zs) 0) (z ∷ zs)) e ∙ ap (λ n. take n (z ∷ zs)) (one-add (prefix_len (λ y. not (bytes_eq x y)) zs))

pub count_test-cons : (b : Bool) (p : Id → Bool) (y : Id) (ys : List Id) → p y ≡ b → count_by p (y ∷ ys) ≡ cond b 1 0 + count_by p ys
count_test-cons b p y ys e = sum_by-cons (λ z. cond (p z) 1 0) y ys ∙ ap (λ c. cond c 1 0 + count_by p ys) e

-- of elements that pass, as many stand before one as before another only where they are the same
rank_tells : (p : Id → Bool) (x y : Id) (xs : List Id) → has x xs ≡ true → has y xs ≡ true → p x ≡ true → p y ≡ true →
    count_by p (before_first (bytes_eq x) xs) ≡ count_by p (before_first (bytes_eq y) xs) → x ≡ y
rank_tells p x y [] h k px py e = no_way (has x []) h (has-nil x)
rank_tells p x y (z ∷ zs) h k px py e = cases (cases_Bool (bytes_eq x z)) (cases_Bool (bytes_eq y z)) (λ h k f. rank_tells p x y zs h k px py f)
  where
    ranks : (v : Id) → bytes_eq v z ≡ false → count_by p (before_first (bytes_eq v) (z ∷ zs)) ≡ cond (p z) 1 0 + count_by p (before_first (bytes_eq v) zs)
    ranks v miss = ap (count_by p) (before-miss v z zs miss) ∙ count_test-cons _ p z (before_first (bytes_eq v) zs) refl

    further : (v : Id) → bytes_eq v z ≡ false → has v (z ∷ zs) ≡ true → has v zs ≡ true
    further v miss m = elim (has-cases v z zs m) [ inl q ↦ no_way (bytes_eq v z) (same-is v z q) miss | inr r ↦ r ]

    first : (v w : Id) → p v ≡ true → bytes_eq v z ≡ true → bytes_eq w z ≡ false → count_by p (before_first (bytes_eq v) (z ∷ zs)) ≡ count_by p (before_first (bytes_eq w) (z ∷ zs)) → ⊥
    first v w pv hit miss f =
        let none : count_by p (before_first (bytes_eq v) (z ∷ zs)) ≡ 0 = ap (count_by p) (before-hit v z zs hit) in
        let some : count_by p (before_first (bytes_eq w) (z ∷ zs)) ≡ 1 + count_by p (before_first (bytes_eq w) zs) = ranks w miss ∙ ap (λ b. cond b 1 0 + count_by p (before_first (bytes_eq w) zs)) (ap p (sym (same-true v z hit)) ∙ pv) in
        omega arith

    cases : (bytes_eq x z ≡ true) ⊎ (bytes_eq x z ≡ false) → (bytes_eq y z ≡ true) ⊎ (bytes_eq y z ≡ false) →
        (has x zs ≡ true → has y zs ≡ true → count_by p (before_first (bytes_eq x) zs) ≡ count_by p (before_first (bytes_eq y) zs) → x ≡ y) → x ≡ y
    cases (inl a) (inl b) more = same-true x z a ∙ sym (same-true y z b)
    cases (inl a) (inr b) more = absurd (first x y px a b e)
    cases (inr a) (inl b) more = absurd (first y x py b a (sym e))
    cases (inr a) (inr b) more =
        let ex = ranks x a in
        let ey = ranks y b in
        more (further x a h) (further y b k) (omega arith)

pub has_from_once : (x : Id) (xs : List Id) → count_by (bytes_eq x) xs ≡ 1 → has x xs ≡ true
has_from_once x xs e = elim (cases_Bool (has x xs)) [
  | inl h ↦ h
  | inr h ↦ let none = count-none x xs h in absurd (omega arith)
]

pub parent-lists : (t : Look) (v : HasShape t) (x p : Id) → parent_of t x ≡ Some p → has x (children_of t p) ≡ true
parent-lists t v x p e = has_from_once x (children_of t p) (v.once x p e)

pub children-inside : (t : Look) (x p : Id) → has x (children_of t p) ≡ true → is_in t p ≡ true
children-inside t x p h = cases (t p) refl
  where
    cases : (o : Option PlacedItem) → t p ≡ o → is_in t p ≡ true
    cases None e = no_way (has x []) (subst (λ l. has x l ≡ true) (ap (λ (n : PlacedItem). n.children) (at-of_none t p e)) h) (has-nil x)
    cases (Some n) e = in-of t p n e

module _ (s : Sides) (vl : HasShape s.local) (vr : HasShape s.remote) where
  valid_side : (side : Side) → HasShape (tree_of s side)
  valid_side Local = vl
  valid_side Remote = vr

  -- siblings that are new, with the bytes_eq key and rank
  siblings : (side : Side) (x y p : Id) → is_new s side x ≡ true → is_new s side y ≡ true → parent_of (tree_of s side) x ≡ Some p → parent_of (tree_of s side) y ≡ Some p →
      key_on s side x ≡ key_on s side y → rank s side p x ≡ rank s side p y → x ≡ y
  unfolding rank
  siblings side x y p nx ny ex ey k r =
      let t = tree_of s side in
      let of : List ℕ = key_on s side x in
      let ranks : count_by (new_like s side of) (before_first (bytes_eq x) (children_of t p)) ≡ count_by (new_like s side of) (before_first (bytes_eq y) (children_of t p)) =
      r ∙ ap (λ c. count_by (new_like s side c) (before_first (bytes_eq y) (children_of t p))) (sym k) in
      rank_tells (new_like s side of) x y (children_of t p)
      (parent-lists t (valid_side side) x p ex) (parent-lists t (valid_side side) y p ey)
      (and_from (is_new s side x) _ nx (same-self of)) (and_from (is_new s side y) _ ny (same-is _ _ (sym k))) ranks

  pub one_remote_of : (l r p q l' r' p' q' : Id) → AreAlike s l r p q → AreAlike s l' r' p' q' → l ≡ l' → p ≡ p' → q ≡ q' → r ≡ r'
  one_remote_of l r p q l' r' p' q' a b el ep eq =
      siblings Remote r r' q a.remote_new b.remote_new a.remote_parent (b.remote_parent ∙ ap Some (sym eq))
      (sym a.key_is ∙ ap (λ x. key_on s Local x) el ∙ b.key_is)
      (sym a.rank_is ∙ ap (λ x. rank s Local p x) el ∙ ap (λ x. rank s Local x l') ep ∙ b.rank_is ∙ ap (λ x. rank s Remote x r') (sym eq))

  one_local_of : (l r p q l' r' p' q' : Id) → AreAlike s l r p q → AreAlike s l' r' p' q' → r ≡ r' → p ≡ p' → q ≡ q' → l ≡ l'
  one_local_of l r p q l' r' p' q' a b er ep eq =
      siblings Local l l' p a.local_new b.local_new a.local_parent (b.local_parent ∙ ap Some (sym ep))
      (a.key_is ∙ ap (λ x. key_on s Remote x) er ∙ sym b.key_is)
      (a.rank_is ∙ ap (λ x. rank s Remote q x) er ∙ ap (λ x. rank s Remote x r') eq ∙ sym b.rank_is ∙ ap (λ x. rank s Local x l') (sym ep))

  pub pair_local_new : {l r : Id} → IsPair s l r → is_new s Local l ≡ true
  pair_local_new (Under_same p a) = a.local_new
  pair_local_new (Under_pair p q h a) = a.local_new

  pub pair_remote_new : {l r : Id} → IsPair s l r → is_new s Remote r ≡ true
  pair_remote_new (Under_same p a) = a.remote_new
  pair_remote_new (Under_pair p q h a) = a.remote_new

  pub new-in : (side : Side) (x : Id) → is_new s side x ≡ true → is_in (tree_of s side) x ≡ true
  unfolding is_new
  new-in side x h = both_left (is_in (tree_of s side) x) _ h

  pub new-not_other : (side : Side) (x : Id) → is_new s side x ≡ true → is_in (tree_of s (other side)) x ≡ false
  unfolding is_new
  new-not_other side x h = not-true (is_in (tree_of s (other side)) x) (both_left (not (is_in (tree_of s (other side)) x)) _ (both_right (not (is_in s.mirror x)) _ (both_right (is_in (tree_of s side) x) _ h)))

  -- a parent of a remote item is remote, so it is no local item of a pair; and the other way round
  no_pair_local : {p q : Id} (x y : Id) → IsPair s p q → y ≡ p → parent_of s.remote x ≡ Some y → ⊥
  no_pair_local {p} x y h e f =
      no_way (is_in s.remote p) (subst (λ z. is_in s.remote z ≡ true) e (children-inside s.remote x y (parent-lists s.remote vr x y f))) (new-not_other Local p (pair_local_new h))

  no_pair_remote : {p q : Id} (x y : Id) → IsPair s p q → y ≡ q → parent_of s.local x ≡ Some y → ⊥
  no_pair_remote {q = q} x y h e f =
      no_way (is_in s.local q) (subst (λ z. is_in s.local z ≡ true) e (children-inside s.local x y (parent-lists s.local vl x y f))) (new-not_other Remote q (pair_remote_new h))

  pub one_remote : {l r : Id} → IsPair s l r → {l' r' : Id} → l ≡ l' → IsPair s l' r' → r ≡ r'
  one_remote {l} {r} (Under_same p a) {l'} {r'} e (Under_same p' b) =
      let ep : p ≡ p' = cc (a.local_parent, b.local_parent) in
      one_remote_of l r p p l' r' p' p' a b e ep ep
  one_remote {l} {r} (Under_same p a) {l'} {r'} e (Under_pair p' q' h b) =
      let ep : p ≡ p' = cc (a.local_parent, b.local_parent) in
      absurd (no_pair_local r p h ep a.remote_parent)
  one_remote {l} {r} (Under_pair p q h a) {l'} {r'} e (Under_same p' b) =
      let ep : p' ≡ p = cc (a.local_parent, b.local_parent) in
      absurd (no_pair_local r' p' h ep b.remote_parent)
  one_remote {l} {r} (Under_pair p q h a) {l'} {r'} e (Under_pair p' q' k b) =
      let ep : p ≡ p' = cc (a.local_parent, b.local_parent) in
      one_remote_of l r p q l' r' p' q' a b e ep (one_remote h ep k)

  pub one_local : {l r : Id} → IsPair s l r → {l' r' : Id} → r ≡ r' → IsPair s l' r' → l ≡ l'
  one_local {l} {r} (Under_same p a) {l'} {r'} e (Under_same p' b) =
      let ep : p ≡ p' = cc (a.remote_parent, b.remote_parent) in
      one_local_of l r p p l' r' p' p' a b e ep ep
  one_local {l} {r} (Under_same p a) {l'} {r'} e (Under_pair p' q' h b) =
      let ep : p ≡ q' = cc (a.remote_parent, b.remote_parent) in
      absurd (no_pair_remote l p h ep a.local_parent)
  one_local {l} {r} (Under_pair p q h a) {l'} {r'} e (Under_same p' b) =
      let ep : p' ≡ q = cc (a.remote_parent, b.remote_parent) in
      absurd (no_pair_remote l' p' h ep b.local_parent)
  one_local {l} {r} (Under_pair p q h a) {l'} {r'} e (Under_pair p' q' k b) =
      let ep : q ≡ q' = cc (a.remote_parent, b.remote_parent) in
      one_local_of l r p q l' r' p' q' a b e (one_local h ep k) ep

  -- and no id is the local one of a pair and the remote one of a pair
  pub apart : {l r l' r' : Id} → IsPair s l r → IsPair s l' r' → ¬ (l ≡ r')
  apart {l} {r' = r'} h k e = no_way (is_in s.local l) (new-in Local l (pair_local_new h)) (subst (λ z. is_in s.local z ≡ false) (sym e) (new-not_other Remote r' (pair_remote_new k)))
