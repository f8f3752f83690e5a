-- Rounds: what is a pair is found in some round, and there are no more rounds than local ids.
use Rattle.std.proofs.Common.{◌≡◌, ◌↔◌, ◌⊎◌, ℕ, zero, suc, ◌+◌, ◌<◌, ◌≤◌, true, false, List, [], length, map, bytes_eq}
use Rattle.std.proofs.Common.{Option, Some, None, is_some, refl, sym, ap, subst, ◌∙◌, inl, inr, arith}
use Rattle.std.specs.BTreeMap as tree
use Rattle.std.specs.Prelude.{Result, Ok, Err, IfOk, OnOk}
use Rattle.std.specs.BTreeMap.{BTreeMap}
use Rattle.std.specs.Cmp.Lexicographic.{texts_ties}
use Rattle.std.specs.Map.{lookup}
use Rattle.std.specs.List.Sorted.{IsStrictlySortedBy}
use Rattle.ss_text.specs.Texts.{text_cmp}
use Rattle.ss_record.specs.Ids.{has}
use Rattle.ss_dupe.specs.Looks.{Id, is_in, parent_of, is_places}
use Rattle.ss_dupe.specs.Shapes.{HaveShapes}
use Rattle.ss_dupe.specs.Sides.{Sides}
use Rattle.ss_dupe.specs.Pairs.{AreAlike, IsPair, Under_same, Under_pair, ArePairs}
use Rattle.ss_dupe.specs.News.{InRound, is_shared, has_pair, Adds}
use Rattle.ss_dupe.proofs.Basics.{same-tells, same-true, same-self, false_from}
use Rattle.ss_dupe.proofs.Bounds.{Takes, TakesIn, takes_from_meets, takes_at_most}
use Rattle.ss_dupe.proofs.Shapes.{is_places-is, top_parent, with_parent-in}
use Rattle.ss_dupe.proofs.OneEach.{parent-lists, children-inside, one_remote}
use Rattle.ss_text.proofs.Basics.{both_left, no_way}
use Rattle.std.proofs.lemmas.Bool.{and_from}

module _ (s : Sides) (a : HaveShapes s) where
  shared_is : (p : Id) → is_in s.local p ≡ true → is_in s.remote p ≡ true → is_shared s p p ≡ true
  shared_is p l r = and_from (bytes_eq p p) _ (same-self p) (and_from (is_in s.local p) _ l r)

  local_above : (x p : Id) → parent_of s.local x ≡ Some p → is_in s.local p ≡ true
  local_above x p e = children-inside s.local x p (parent-lists s.local a.local x p e)

  remote_above : (x p : Id) → parent_of s.remote x ≡ Some p → is_in s.remote p ≡ true
  remote_above x p e = children-inside s.remote x p (parent-lists s.remote a.remote x p e)

  -- each pair is found in some round
  pub round_of : {l r : Id} → IsPair s l r → (n : ℕ) × InRound s (suc n) l r
  unfolding InRound
  round_of {l} {r} (Under_same p k) = (0, (p, p, shared_is p (local_above l p k.local_parent) (remote_above r p k.remote_parent), k))
  round_of {l} {r} (Under_pair p q h k) = let f = round_of h in (suc f.0, (p, q, f.1, k))

  -- and what a round finds is a pair
  pub pair_of : (n : ℕ) (l r : Id) → InRound s (suc n) l r → IsPair s l r
  unfolding InRound
  pair_of zero l r (p, q, h, k) =
      let same : q ≡ p = sym (same-true p q (both_left (bytes_eq p q) _ h)) in
      Under_same p (subst (λ z. AreAlike s l r p z) same k)
  pair_of (suc n) l r (p, q, h, k) = Under_pair p q (pair_of n p q h) k

  -- n steps lead from x up to `places`
  abbrev Far : ℕ → Id → Type 0
  Far n x = Takes bytes_eq same-tells (parent_of s.local) is_places n x

  not_top : (x p : Id) → parent_of s.local x ≡ Some p → is_places x ≡ false
  not_top x p e = false_from (is_places x) (λ h. let none : parent_of s.local x ≡ None = ap (parent_of s.local) (is_places-is x h) ∙ top_parent s.local a.local in cc)

  as_far : (n d : ℕ) (l r : Id) → InRound s (suc n) l r → Far d l → suc n ≤ d
  unfolding InRound
  as_far n zero l r (p, q, h, k) f = no_way (is_places l) f (not_top l p k.local_parent)
  as_far zero (suc d) l r (p, q, h, k) f = omega arith
  as_far (suc n) (suc d) l r (p, q, h, k) f =
      let same : f.1.0 ≡ p = cc (f.1.1, k.local_parent) in
      let up = as_far n d p q h (subst (Far d) same f.1.2) in
      omega arith

  module _ (ids : List Id) (all : (x : Id) → is_in s.local x ≡ true → has x ids ≡ true) where
    far_in : (n : ℕ) (x : Id) → is_in s.local x ≡ true → Far n x → TakesIn bytes_eq same-tells (parent_of s.local) is_places ids n x
    unfolding has
    far_in zero x h f = f
    far_in (suc n) x h f = (f.0, (all x h, (f.1.0, f.1.1, far_in n f.1.0 (local_above x f.1.0 f.1.1) f.1.2)))

    pub within : (n : ℕ) (l r : Id) → InRound s (suc n) l r → n < length ids
    unfolding InRound
    within n l r (p, q, h, k) =
        let inside = with_parent-in s.local l p k.local_parent in
        let b = a.local.below l inside in
        let t = takes_from_meets bytes_eq same-tells (parent_of s.local) is_places b.0 l b.1 in
        let deep = as_far n t.0 l r (p, q, h, k) t.1 in
        let le = takes_at_most bytes_eq same-tells (parent_of s.local) is_places t.0 ids l (far_in t.0 l inside t.1) in
        omega arith

-- what stands after n rounds
pub record After (s : Sides) (n : ℕ) (current : List (Id × Id)) (found : BTreeMap Id Id) : Type 0 where
  pub now : (p q : Id) → (has_pair p q current ≡ true) ↔ InRound s n p q
  pub sound : (l r : Id) → tree.get text_cmp found l ≡ Some r → IsPair s l r
  pub all : (j : ℕ) (l r : Id) → j < n → InRound s (suc j) l r → is_some (tree.get text_cmp found l) ≡ true

pub before_all : (s : Sides) (current : List (Id × Id)) (found : BTreeMap Id Id) → ((l r : Id) → has_pair l r current ≡ is_shared s l r) → found.entries ≡ [] → After s 0 current found
unfolding InRound
before_all s current found is none = record {
  now = λ p q. (λ h. sym (is p q) ∙ h, λ h. is p q ∙ h);
  sound = λ l r e. let no : tree.get text_cmp found l ≡ None = ap (lookup (tree.is_at (text_cmp l))) none in cc;
  all = λ j l r lt h. absurd (omega arith);
}

pub one_round : (s : Sides) (a : HaveShapes s) (n : ℕ) (current next : List (Id × Id)) (found later : BTreeMap Id Id) → After s n current found →
    ((l r : Id) → (has_pair l r next ≡ true) ↔ ((p : Id) × (q : Id) × (has_pair p q current ≡ true) × AreAlike s l r p q)) → Adds found later next → After s (n + 1) next later
unfolding InRound
one_round s a n current next found later f is d = record {
  now = λ p q. now p q;
  sound = λ l r e. elim (d.sound l r e) [ inl h ↦ f.sound l r h | inr h ↦ pair_of s a n l r (there l r h) ];
  all = λ j l r lt h. all j l r (two_ways_lt j lt) h;
}
  where
    there : (l r : Id) → has_pair l r next ≡ true → InRound s (suc n) l r
    there l r h = let k = (is l r).0 h in (k.0, k.1, (f.now k.0 k.1).0 k.2, k.3)

    back : (l r : Id) → InRound s (suc n) l r → has_pair l r next ≡ true
    back l r (p, q, h, k) = (is l r).1 (p, q, (f.now p q).1 h, k)

    one_more : n + 1 ≡ suc n
    one_more = omega arith

    now : (p q : Id) → (has_pair p q next ≡ true) ↔ InRound s (n + 1) p q
    now p q = (λ h. subst (λ m. InRound s m p q) (sym one_more) (there p q h), λ h. back p q (subst (λ m. InRound s m p q) one_more h))

    two_ways_lt : (j : ℕ) → j < n + 1 → (j < n) ⊎ (j ≡ n)
    two_ways_lt j lt = lt_or_eq j n (omega arith)
      where
        lt_or_eq : (i m : ℕ) → i ≤ m → (i < m) ⊎ (i ≡ m)
        lt_or_eq zero zero le = inr refl
        lt_or_eq zero (suc m) le = inl (omega arith)
        lt_or_eq (suc i) zero le = absurd (omega arith)
        lt_or_eq (suc i) (suc m) le = elim (lt_or_eq i m (omega arith)) [ inl h ↦ inl (omega arith) | inr h ↦ inr (ap suc h) ]

    all : (j : ℕ) (l r : Id) → (j < n) ⊎ (j ≡ n) → InRound s (suc j) l r → is_some (tree.get text_cmp later l) ≡ true
    all j l r (inl lt) h = d.kept l (f.all j l r lt h)
    all j l r (inr e) h = d.added l r (back l r (subst (λ m. InRound s (suc m) l r) e h))

pub found_all : (s : Sides) (a : HaveShapes s) (ids : List Id) (n : ℕ) (current : List (Id × Id)) (found : BTreeMap Id Id) (pairs : List (Id × Id)) → ((x : Id) → has x ids ≡ is_in s.local x) → length ids ≤ n →
    After s n current found → tree.IsOrdered text_cmp found → pairs ≡ found.entries → ArePairs s pairs
found_all s a ids n current found pairs are le f ordered is = record {
  in_order = subst (λ ps. IsStrictlySortedBy text_cmp (map (λ p. p.0) ps)) (sym is) ordered;
  each = λ l r e. f.sound l r (sym (looked l) ∙ e);
  all = λ l r h. looked l ∙ at_found l r h (tree.get text_cmp found l) refl;
}
  where
    looked : (l : Id) → lookup (bytes_eq l) pairs ≡ tree.get text_cmp found l
    looked l = ap (lookup (bytes_eq l)) is ∙ ap (λ t. lookup t found.entries) (λ i k. texts_ties l k i)

    at_found : (l r : Id) → IsPair s l r → (o : Option Id) → tree.get text_cmp found l ≡ o → tree.get text_cmp found l ≡ Some r
    at_found l r h None e =
        let k = round_of s a h in
        let lt = within s a ids (λ x i. are x ∙ i) k.0 l r k.1 in
        no_way (is_some (tree.get text_cmp found l)) (f.all k.0 l r (omega arith) k.1) (ap is_some e)
    at_found l r h (Some r') e = e ∙ ap Some (one_remote s a.local a.remote (f.sound l r' e) refl h)

-- what is known of a value that is there
pub ok_then : {T E O : Type 0} (P Q : T → Type 0) (r : Result T E) → IfOk r P → OnOk r O → ((x : T) → P x → O → Q x) → IfOk r Q
ok_then P Q (Ok x) p o f = f x p o
ok_then P Q (Err e) p o f = tt
