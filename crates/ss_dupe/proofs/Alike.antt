-- The new children of two items that are alike.
use Rattle.std.proofs.Common.{◌≡◌, ◌↔◌, ◌⊎◌, ◌&&◌, ◌||◌, Bool, true, false, cond, List, [], ◌∷◌, ◌++◌, map, filter}
use Rattle.std.proofs.Common.{bytes_eq, Option, Some, None, is_some, refl, sym, ap, ◌∙◌, inl, inr}
use Rattle.std.proofs.lemmas.Bool.{eqb-true, cases_Bool, and_from, eq-eqb}
use Rattle.ss_record.specs.Ids.{has, Apart}
use Rattle.ss_dupe.specs.declared.sides.Side.{Side}
use Rattle.ss_dupe.specs.declared.sides.Side.TheVariants.{Local, Remote}
use Rattle.ss_dupe.specs.declared.news.New.{New}
use Rattle.ss_dupe.specs.declared.news.Mark.{Mark}
use Rattle.ss_dupe.specs.Looks.{Id, is_in, children_of}
use Rattle.ss_dupe.specs.Shapes.{HaveShapes}
use Rattle.ss_dupe.specs.Sides.{Sides, tree_of, is_new}
use Rattle.ss_dupe.specs.Pairs.{AreAlike}
use Rattle.ss_dupe.specs.News.{new_at, news_of, AreApart, HasNew, same_mark, has_pair}
use Rattle.ss_dupe.proofs.Basics.{same-is, same-true, has-head, has-tail, has-cases, has-nil, false_from}
use Rattle.ss_dupe.proofs.Lists.{has-filter, has-filter_list, has-filter_test, has-append_left, has-append_right}
use Rattle.ss_dupe.proofs.Lists.{has-append_cases}
use Rattle.ss_dupe.proofs.Shapes.{apart-from_counts}
use Rattle.ss_dupe.proofs.OneEach.{parent-lists, one_remote_of}
use Rattle.ss_text.proofs.Basics.{both_left, both_right, no_way}

-- ---- marks

pub mark-true : (a b : Mark) → same_mark a b ≡ true → a ≡ b
mark-true a b h =
    let k = same-true a.key b.key (both_left (bytes_eq a.key b.key) _ h) in
    let r = eqb-true a.rank b.rank (both_right (bytes_eq a.key b.key) _ h) in
    λ i. record { key = k i; rank = r i }

pub mark-is : (a b : Mark) → a ≡ b → same_mark a b ≡ true
mark-is a b e = and_from (bytes_eq a.key b.key) _ (same-is a.key b.key (ap (λ (m : Mark). m.key) e)) (eq-eqb a.rank b.rank (ap (λ (m : Mark). m.rank) e))

-- ---- an index of new items

pub hasnew-end : (m : Mark) (x : Id) (ns : List New) (n : New) → n.mark ≡ m → n.id ≡ x → HasNew m x (ns ++ n ∷ [])
hasnew-end m x [] n e f = inl (e, f)
hasnew-end m x (k ∷ ks) n e f = inr (hasnew-end m x ks n e f)

pub hasnew-front : (m : Mark) (x : Id) (ns : List New) (n : New) → HasNew m x ns → HasNew m x (ns ++ n ∷ [])
hasnew-front m x [] n h = absurd h
hasnew-front m x (k ∷ ks) n (inl h) = inl h
hasnew-front m x (k ∷ ks) n (inr h) = inr (hasnew-front m x ks n h)

hasnew-cases : (m : Mark) (x : Id) (ns : List New) (n : New) → HasNew m x (ns ++ n ∷ []) → HasNew m x ns ⊎ ((n.mark ≡ m) × (n.id ≡ x))
hasnew-cases m x [] n (inl h) = inr h
hasnew-cases m x [] n (inr h) = absurd h
hasnew-cases m x (k ∷ ks) n (inl h) = inl (inl h)
hasnew-cases m x (k ∷ ks) n (inr h) = elim (hasnew-cases m x ks n h) [ inl a ↦ inl (inr a) | inr b ↦ inr b ]

pub record Indexed (ns : List New) (index : Mark → Option Id) : Type 0 where
  pub found : (m : Mark) (x : Id) → index m ≡ Some x → HasNew m x ns
  pub all : (m : Mark) (x : Id) → HasNew m x ns → is_some (index m) ≡ true

pub nothing_indexed : (index : Mark → Option Id) → ((m : Mark) → index m ≡ None) → Indexed [] index
nothing_indexed index none = record { found = λ m x e. let no : index m ≡ None = none m in cc; all = λ m x h. absurd h }

pub one_indexed : (ns : List New) (n : New) (index after : Mark → Option Id) → Indexed ns index → ((m : Mark) → after m ≡ cond (same_mark n.mark m) (Some n.id) (index m)) → Indexed (ns ++ n ∷ []) after
one_indexed ns n index after i is = record { found = λ m x e. found m x e (cases_Bool (same_mark n.mark m)); all = λ m x h. all m x (hasnew-cases m x ns n h) (cases_Bool (same_mark n.mark m)) }
  where
    found : (m : Mark) (x : Id) → after m ≡ Some x → (same_mark n.mark m ≡ true) ⊎ (same_mark n.mark m ≡ false) → HasNew m x (ns ++ n ∷ [])
    found m x e (inl hit) =
        let here : Some n.id ≡ Some x = sym (is m ∙ ap (λ b. cond b (Some n.id) (index m)) hit) ∙ e in
        let same : n.id ≡ x = cc in
        hasnew-end m x ns n (mark-true n.mark m hit) same
    found m x e (inr miss) = hasnew-front m x ns n (i.found m x (sym (is m ∙ ap (λ b. cond b (Some n.id) (index m)) miss) ∙ e))

    all : (m : Mark) (x : Id) → HasNew m x ns ⊎ ((n.mark ≡ m) × (n.id ≡ x)) → (same_mark n.mark m ≡ true) ⊎ (same_mark n.mark m ≡ false) → is_some (after m) ≡ true
    all m x h (inl hit) = ap is_some (is m ∙ ap (λ b. cond b (Some n.id) (index m)) hit)
    all m x (inl h) (inr miss) = ap is_some (is m ∙ ap (λ b. cond b (Some n.id) (index m)) miss) ∙ i.all m x h
    all m x (inr h) (inr miss) = no_way (same_mark n.mark m) (mark-is n.mark m h.0) miss

-- ---- pairs in a list

pub pair-end : (l r a b : Id) (ps : List (Id × Id)) → has_pair l r (ps ++ (a, b) ∷ []) ≡ (has_pair l r ps || (bytes_eq l a && bytes_eq r b))
pair-end l r a b [] = or_false (bytes_eq l a && bytes_eq r b)
  where
    or_false : (c : Bool) → (c || false) ≡ c
    or_false true = refl
    or_false false = refl
pair-end l r a b (p ∷ ps) = ap (λ c. (bytes_eq l p.0 && bytes_eq r p.1) || c) (pair-end l r a b ps) ∙ or_assoc (bytes_eq l p.0 && bytes_eq r p.1) (has_pair l r ps) (bytes_eq l a && bytes_eq r b)
  where
    or_assoc : (x y z : Bool) → (x || (y || z)) ≡ ((x || y) || z)
    or_assoc true y z = refl
    or_assoc false y z = refl

-- the pairs of the items passed with what the index has at their marks
pub record Matched (ns : List New) (index : Mark → Option Id) (ps : List (Id × Id)) : Type 0 where
  pub from : (l r : Id) → has_pair l r ps ≡ true → (m : Mark) × HasNew m l ns × (index m ≡ Some r)
  pub to : (l r : Id) (m : Mark) → HasNew m l ns → index m ≡ Some r → has_pair l r ps ≡ true

pub nothing_matched : (index : Mark → Option Id) → Matched [] index []
nothing_matched index = record { from = λ l r h. cc; to = λ l r m h e. absurd h }

pub one_matched : (ns : List New) (n : New) (index : Mark → Option Id) (ps : List (Id × Id)) (r : Id) → index n.mark ≡ Some r → Matched ns index ps → Matched (ns ++ n ∷ []) index (ps ++ (n.id, r) ∷ [])
one_matched ns n index ps r e m = record {
  from = λ l q h. from l q (cases_Bool (has_pair l q ps)) (sym (pair-end l q n.id r ps) ∙ h);
  to = λ l q k h f. pair-end l q n.id r ps ∙ to l q k (hasnew-cases k l ns n h) f;
}
  where
    from : (l q : Id) → (has_pair l q ps ≡ true) ⊎ (has_pair l q ps ≡ false) → (has_pair l q ps || (bytes_eq l n.id && bytes_eq q r)) ≡ true → (k : Mark) × HasNew k l (ns ++ n ∷ []) × (index k ≡ Some q)
    from l q (inl old) h = let f = m.from l q old in (f.0, hasnew-front f.0 l ns n f.1, f.2)
    from l q (inr new) h =
        let both : (bytes_eq l n.id && bytes_eq q r) ≡ true = sym (ap (λ b. b || (bytes_eq l n.id && bytes_eq q r)) new) ∙ h in
        let one = same-true l n.id (both_left (bytes_eq l n.id) _ both) in
        let two = same-true q r (both_right (bytes_eq l n.id) _ both) in
        (n.mark, hasnew-end n.mark l ns n refl (sym one), e ∙ ap Some (sym two))

    to : (l q : Id) (k : Mark) → HasNew k l ns ⊎ ((n.mark ≡ k) × (n.id ≡ l)) → index k ≡ Some q → (has_pair l q ps || (bytes_eq l n.id && bytes_eq q r)) ≡ true
    to l q k (inl h) f = ap (λ b. b || (bytes_eq l n.id && bytes_eq q r)) (m.to l q k h f)
    to l q k (inr h) f =
        let there : Some r ≡ Some q = sym e ∙ ap index h.0 ∙ f in
        let same : r ≡ q = cc in
        or_last (has_pair l q ps) (and_from (bytes_eq l n.id) _ (same-is l n.id (sym h.1)) (same-is q r (sym same)))
      where
        or_last : (b : Bool) {c : Bool} → c ≡ true → (b || c) ≡ true
        or_last true e = refl
        or_last false e = e

pub none_matched : (ns : List New) (n : New) (index : Mark → Option Id) (ps : List (Id × Id)) → index n.mark ≡ None → Matched ns index ps → Matched (ns ++ n ∷ []) index ps
none_matched ns n index ps e m = record {
  from = λ l q h. let f = m.from l q h in (f.0, hasnew-front f.0 l ns n f.1, f.2);
  to = λ l q k h f. to l q k (hasnew-cases k l ns n h) f;
}
  where
    to : (l q : Id) (k : Mark) → HasNew k l ns ⊎ ((n.mark ≡ k) × (n.id ≡ l)) → index k ≡ Some q → has_pair l q ps ≡ true
    to l q k (inl h) f = m.to l q k h f
    to l q k (inr h) f = let there : index n.mark ≡ Some q = ap index h.0 ∙ f in cc

-- ---- the new items under a parent, by membership

listed_new : (s : Sides) (side : Side) (p : Id) (m : Mark) (x : Id) (xs : List Id) → HasNew m x (map (new_at s side p) xs) → (has x xs ≡ true) × ((new_at s side p x).mark ≡ m)
listed_new s side p m x [] h = absurd h
listed_new s side p m x (y ∷ ys) (inl h) = (has-head x y ys (sym h.1), ap (λ z. (new_at s side p z).mark) (sym h.1) ∙ h.0)
listed_new s side p m x (y ∷ ys) (inr h) = let r = listed_new s side p m x ys h in (has-tail x y ys r.0, r.1)

new_listed : (s : Sides) (side : Side) (p x : Id) (xs : List Id) → has x xs ≡ true → HasNew (new_at s side p x).mark x (map (new_at s side p) xs)
new_listed s side p x [] h = no_way (has x []) h (has-nil x)
new_listed s side p x (y ∷ ys) h = elim (has-cases x y ys h) [
  | inl e ↦ inl (ap (λ z. (new_at s side p z).mark) (sym e), sym e)
  | inr k ↦ inr (new_listed s side p x ys k)
]

pub apart_of : (s : Sides) → HaveShapes s → AreApart s
apart_of s a = record { each = λ side x. at_side side x }
  where
    at_side : (side : Side) (x : Id) → Apart (children_of (tree_of s side) x)
    at_side Local x = apart-from_counts (children_of s.local x) (λ y h. a.local.once y x (a.local.listed y x h).1)
    at_side Remote x = apart-from_counts (children_of s.remote x) (λ y h. a.remote.once y x (a.remote.listed y x h).1)

pub like_pairs : (s : Sides) → HaveShapes s → (p q : Id) (index : Mark → Option Id) (ps : List (Id × Id)) → Indexed (news_of s Remote q) index → Matched (news_of s Local p) index ps →
    (l r : Id) → (has_pair l r ps ≡ true) ↔ AreAlike s l r p q
like_pairs s a p q index ps i m l r = (there, back)
  where
    alike : (k : Mark) (l r : Id) → HasNew k l (news_of s Local p) → HasNew k r (news_of s Remote q) → AreAlike s l r p q
    alike k l r hl hr =
        let own = listed_new s Local p k l (filter (is_new s Local) (children_of s.local p)) hl in
        let far = listed_new s Remote q k r (filter (is_new s Remote) (children_of s.remote q)) hr in
        let same = own.1 ∙ sym far.1 in
        record {
          local_new = has-filter_test (is_new s Local) l (children_of s.local p) own.0;
          remote_new = has-filter_test (is_new s Remote) r (children_of s.remote q) far.0;
          local_parent = (a.local.listed l p (has-filter_list (is_new s Local) l (children_of s.local p) own.0)).1;
          remote_parent = (a.remote.listed r q (has-filter_list (is_new s Remote) r (children_of s.remote q) far.0)).1;
          key_is = ap (λ (n : Mark). n.key) same;
          rank_is = ap (λ (n : Mark). n.rank) same;
        }

    there : has_pair l r ps ≡ true → AreAlike s l r p q
    there h = let f = m.from l r h in alike f.0 l r f.1 (i.found f.0 r f.2)

    back : AreAlike s l r p q → has_pair l r ps ≡ true
    back k =
        let hl = new_listed s Local p l (filter (is_new s Local) (children_of s.local p)) (has-filter (is_new s Local) l (children_of s.local p) (parent-lists s.local a.local l p k.local_parent) k.local_new) in
        let hr = new_listed s Remote q r (filter (is_new s Remote) (children_of s.remote q)) (has-filter (is_new s Remote) r (children_of s.remote q) (parent-lists s.remote a.remote r q k.remote_parent) k.remote_new) in
        let mark : (new_at s Local p l).mark ≡ (new_at s Remote q r).mark = λ j. record { key = k.key_is j; rank = k.rank_is j } in
        m.to l r (new_at s Local p l).mark hl (at_mark (index (new_at s Local p l).mark) refl (ap (λ z. is_some (index z)) mark ∙ i.all (new_at s Remote q r).mark r hr) hl)
      where
        at_mark : (o : Option Id) → index (new_at s Local p l).mark ≡ o → is_some (index (new_at s Local p l).mark) ≡ true → HasNew (new_at s Local p l).mark l (news_of s Local p) → index (new_at s Local p l).mark ≡ Some r
        at_mark None e h hl = let none : is_some (index (new_at s Local p l).mark) ≡ false = ap is_some e in no_way (is_some (index (new_at s Local p l).mark)) h none
        at_mark (Some r') e h hl =
            let other = alike (new_at s Local p l).mark l r' hl (i.found (new_at s Local p l).mark r' e) in
            e ∙ ap Some (one_remote_of s a.local a.remote l r' p q l r p q other k refl refl refl)

-- ---- ids that are in both trees

has-end_other : (l y : Id) (ids : List Id) → bytes_eq l y ≡ false → has l ids ≡ has l (ids ++ y ∷ [])
has-end_other l y ids e = elim (cases_Bool (has l ids)) [
  | inl k ↦ k ∙ sym (has-append_left l ids (y ∷ []) k)
  | inr k ↦ k ∙ sym (false_from (has l (ids ++ y ∷ [])) (λ m. elim (has-append_cases l ids (y ∷ []) m) [
    | inl a ↦ no_way (has l ids) a k
    | inr b ↦ elim (has-cases l y [] b) [ inl q ↦ no_way (bytes_eq l y) (same-is l y q) e | inr q ↦ no_way (has l []) q (has-nil l) ]
  ]))
]

pub shared_more : (s : Sides) (ids : List Id) (y : Id) (ps later : List (Id × Id)) → ((l r : Id) → has_pair l r ps ≡ (bytes_eq l r && (has l ids && is_in s.remote l))) →
    ((is_in s.remote y ≡ true) × (later ≡ ps ++ (y, y) ∷ [])) ⊎ ((is_in s.remote y ≡ false) × (later ≡ ps)) → (l r : Id) → has_pair l r later ≡ (bytes_eq l r && (has l (ids ++ y ∷ []) && is_in s.remote l))
shared_more s ids y ps later is (inl h) l r =
    ap (has_pair l r) h.1 ∙ pair-end l r y y ps ∙ ap (λ b. b || (bytes_eq l y && bytes_eq r y)) (is l r) ∙ cases (cases_Bool (bytes_eq l y)) (cases_Bool (bytes_eq l r))
  where
    and_false : (b : Bool) → (b && false) ≡ false
    and_false true = refl
    and_false false = refl

    or_none : (b : Bool) → (b || false) ≡ b
    or_none true = refl
    or_none false = refl

    cases : (bytes_eq l y ≡ true) ⊎ (bytes_eq l y ≡ false) → (bytes_eq l r ≡ true) ⊎ (bytes_eq l r ≡ false) →
        ((bytes_eq l r && (has l ids && is_in s.remote l)) || (bytes_eq l y && bytes_eq r y)) ≡ (bytes_eq l r && (has l (ids ++ y ∷ []) && is_in s.remote l))
    cases (inr e) f =
        ap (λ b. (bytes_eq l r && (has l ids && is_in s.remote l)) || (b && bytes_eq r y)) e ∙ or_none (bytes_eq l r && (has l ids && is_in s.remote l))
        ∙ ap (λ b. bytes_eq l r && (b && is_in s.remote l)) (has-end_other l y ids e)
    cases (inl e) (inl f) =
        let ly = same-true l y e in
        let inside : is_in s.remote l ≡ true = ap (is_in s.remote) ly ∙ h.0 in
        let ry : bytes_eq r y ≡ true = same-is r y (sym (same-true l r f) ∙ ly) in
        ap (λ b. (bytes_eq l r && (has l ids && is_in s.remote l)) || (b && bytes_eq r y)) e ∙ ap (λ b. (bytes_eq l r && (has l ids && is_in s.remote l)) || b) ry
        ∙ or_yes (bytes_eq l r && (has l ids && is_in s.remote l))
        ∙ sym (and_from (bytes_eq l r) _ f (and_from (has l (ids ++ y ∷ [])) _ (has-append_right l ids (y ∷ []) (has-head l y [] ly)) inside))
      where
        or_yes : (b : Bool) → (b || true) ≡ true
        or_yes true = refl
        or_yes false = refl
    cases (inl e) (inr f) =
        let ry : bytes_eq r y ≡ false = false_from (bytes_eq r y) (λ k. no_way (bytes_eq l r) (same-is l r (same-true l y e ∙ sym (same-true r y k))) f) in
        ap (λ b. (b && (has l ids && is_in s.remote l)) || (bytes_eq l y && bytes_eq r y)) f ∙ ap (λ b. bytes_eq l y && b) ry ∙ and_false (bytes_eq l y)
        ∙ sym (ap (λ b. b && (has l (ids ++ y ∷ []) && is_in s.remote l)) f)
shared_more s ids y ps later is (inr h) l r = ap (has_pair l r) h.1 ∙ is l r ∙ cases (cases_Bool (bytes_eq l y))
  where
    and_none : (b : Bool) → (b && false) ≡ false
    and_none true = refl
    and_none false = refl

    cases : (bytes_eq l y ≡ true) ⊎ (bytes_eq l y ≡ false) → (bytes_eq l r && (has l ids && is_in s.remote l)) ≡ (bytes_eq l r && (has l (ids ++ y ∷ []) && is_in s.remote l))
    cases (inr e) = ap (λ b. bytes_eq l r && (b && is_in s.remote l)) (has-end_other l y ids e)
    cases (inl e) =
        let out : is_in s.remote l ≡ false = ap (is_in s.remote) (same-true l y e) ∙ h.0 in
        ap (λ b. bytes_eq l r && (has l ids && b)) out ∙ ap (λ b. bytes_eq l r && b) (and_none (has l ids) ∙ sym (and_none (has l (ids ++ y ∷ [])))) ∙ sym (ap (λ b. bytes_eq l r && (has l (ids ++ y ∷ []) && b)) out)

pub no_shared : (s : Sides) (ps : List (Id × Id)) (l r : Id) → ps ≡ [] → has_pair l r ps ≡ (bytes_eq l r && (has l [] && is_in s.remote l))
unfolding has
no_shared s ps l r e = ap (has_pair l r) e ∙ none (bytes_eq l r)
  where
    none : (b : Bool) → false ≡ (b && false)
    none true = refl
    none false = refl
