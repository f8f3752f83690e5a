-- Pairs that are added, one after the other.
use Rattle.std.proofs.Common.{◌≡◌, ◌↔◌, ◌⊎◌, ◌+◌, ◌<◌, ℕ, ◌&&◌, ◌||◌, true, false, cond, List, [], ◌∷◌, ◌++◌, length}
use Rattle.std.proofs.Common.{take, get_or, bytes_eq, Some, is_some, refl, sym, ap, subst, ◌∙◌, inl, inr}
use Rattle.std.proofs.lemmas.List.{take_more}
use Rattle.std.specs.BTreeMap as tree
use Rattle.std.specs.BTreeMap.{BTreeMap}
use Rattle.std.specs.Cmp.Lexicographic.{texts_ties}
use Rattle.ss_text.specs.Texts.{text_cmp}
use Rattle.ss_dupe.specs.Looks.{Id}
use Rattle.ss_dupe.specs.Sides.{Sides}
use Rattle.ss_dupe.specs.Pairs.{AreAlike}
use Rattle.ss_dupe.specs.News.{Adds, has_pair}
use Rattle.ss_dupe.proofs.Basics.{same-true, same-is}
use Rattle.ss_dupe.proofs.Alike.{pair-end}
use Rattle.std.proofs.lemmas.Bool.{cases_Bool, or_cases, or_left, and_from, or_right}
use Rattle.ss_text.proofs.Basics.{both_left, both_right, no_way}
use Rattle.ss_record.proofs.IdLists.{or-assoc}

pub next_more : (before now later seen : List (Id × Id)) (a b : Id) → ((l r : Id) → has_pair l r now ≡ (has_pair l r before || has_pair l r seen)) → later ≡ now ++ (a, b) ∷ [] →
    (l r : Id) → has_pair l r later ≡ (has_pair l r before || has_pair l r (seen ++ (a, b) ∷ []))
next_more before now later seen a b is then l r =
    ap (has_pair l r) then ∙ pair-end l r a b now ∙ ap (λ c. c || (bytes_eq l a && bytes_eq r b)) (is l r) ∙ or-assoc (has_pair l r before) (has_pair l r seen) (bytes_eq l a && bytes_eq r b)
    ∙ ap (λ c. has_pair l r before || c) (sym (pair-end l r a b seen))

pub nothing_added : (m : BTreeMap Id Id) → Adds m m []
nothing_added m = record { sound = λ l r e. inl e; kept = λ l e. e; added = λ l r e. cc }

pub one_added : (old now later : BTreeMap Id Id) (seen : List (Id × Id)) (a b : Id) → Adds old now seen → tree.Updates text_cmp now later a (Some b) → Adds old later (seen ++ (a, b) ∷ [])
one_added old now later seen a b d u = record {
  sound = λ l r e. sound l r e (cases_Bool (bytes_eq a l));
  kept = λ l e. kept l (d.kept l e) (cases_Bool (bytes_eq a l));
  added = λ l r e. added l r (or_cases (has_pair l r seen) _ (sym (pair-end l r a b seen) ∙ e)) (cases_Bool (bytes_eq a l));
}
  where
    updated : (l : Id) → tree.get text_cmp later l ≡ cond (bytes_eq a l) (Some b) (tree.get text_cmp now l)
    updated l = u.0 l ∙ ap (λ c. cond c (Some b) (tree.get text_cmp now l)) (sym (texts_ties a l))

    here : (l : Id) → bytes_eq a l ≡ true → tree.get text_cmp later l ≡ Some b
    here l h = updated l ∙ ap (λ c. cond c (Some b) (tree.get text_cmp now l)) h

    there : (l : Id) → bytes_eq a l ≡ false → tree.get text_cmp later l ≡ tree.get text_cmp now l
    there l h = updated l ∙ ap (λ c. cond c (Some b) (tree.get text_cmp now l)) h

    sound : (l r : Id) → tree.get text_cmp later l ≡ Some r → (bytes_eq a l ≡ true) ⊎ (bytes_eq a l ≡ false) → (tree.get text_cmp old l ≡ Some r) ⊎ (has_pair l r (seen ++ (a, b) ∷ []) ≡ true)
    sound l r e (inl h) =
        let found : Some b ≡ Some r = sym (here l h) ∙ e in
        let same : b ≡ r = cc in
        inr (pair-end l r a b seen ∙ or_right (has_pair l r seen) _ (and_from (bytes_eq l a) _ (same-is l a (sym (same-true a l h))) (same-is r b (sym same))))
    sound l r e (inr h) = elim (d.sound l r (sym (there l h) ∙ e)) [
      | inl f ↦ inl f
      | inr f ↦ inr (pair-end l r a b seen ∙ or_left (has_pair l r seen) _ f)
    ]

    kept : (l : Id) → is_some (tree.get text_cmp now l) ≡ true → (bytes_eq a l ≡ true) ⊎ (bytes_eq a l ≡ false) → is_some (tree.get text_cmp later l) ≡ true
    kept l e (inl h) = ap is_some (here l h)
    kept l e (inr h) = ap is_some (there l h) ∙ e

    added : (l r : Id) → (has_pair l r seen ≡ true) ⊎ ((bytes_eq l a && bytes_eq r b) ≡ true) → (bytes_eq a l ≡ true) ⊎ (bytes_eq a l ≡ false) → is_some (tree.get text_cmp later l) ≡ true
    added l r e (inl h) = ap is_some (here l h)
    added l r (inl f) (inr h) = ap is_some (there l h) ∙ d.added l r f
    added l r (inr f) (inr h) = no_way (bytes_eq a l) (same-is a l (sym (same-true l a (both_left (bytes_eq l a) _ f)))) h

-- first some, then others
pub added_through : (a b c : BTreeMap Id Id) (xs ys zs : List (Id × Id)) → Adds a b xs → Adds b c ys → ((l r : Id) → has_pair l r zs ≡ (has_pair l r xs || has_pair l r ys)) → Adds a c zs
added_through a b c xs ys zs d e is = record {
  sound = λ l r h. elim (e.sound l r h) [
    | inl f ↦ elim (d.sound l r f) [ inl k ↦ inl k | inr k ↦ inr (is l r ∙ or_left (has_pair l r xs) (has_pair l r ys) k) ]
    | inr f ↦ inr (is l r ∙ or_right (has_pair l r xs) (has_pair l r ys) f)
  ];
  kept = λ l h. e.kept l (d.kept l h);
  added = λ l r h. elim (or_cases (has_pair l r xs) (has_pair l r ys) (sym (is l r) ∙ h)) [ inl f ↦ e.kept l (d.added l r f) | inr f ↦ e.added l r f ];
}

-- the like children of one more pair
pub round_more : (s : Sides) (current : List (Id × Id)) (i : ℕ) (a b : Id) (c : Id × Id) (now likes later : List (Id × Id)) → i < length current → c ≡ get_or current i c → c.0 ≡ a → c.1 ≡ b →
    ((l r : Id) → (has_pair l r now ≡ true) ↔ ((p : Id) × (q : Id) × (has_pair p q (take i current) ≡ true) × AreAlike s l r p q)) →
    ((l r : Id) → (has_pair l r likes ≡ true) ↔ AreAlike s l r a b) →
    ((l r : Id) → has_pair l r later ≡ (has_pair l r now || has_pair l r likes)) →
    (l r : Id) → (has_pair l r later ≡ true) ↔ ((p : Id) × (q : Id) × (has_pair p q (take (i + 1) current) ≡ true) × AreAlike s l r p q)
round_more s current i a b c now likes later lt is_c ca cb before like then l r = (there, back)
  where
    more : take (i + 1) current ≡ take i current ++ (a, b) ∷ []
    more = take_more current i c lt ∙ ap (λ z. take i current ++ z ∷ []) (sym is_c) ∙ (λ j. take i current ++ (ca j, cb j) ∷ [])

    grown : (p q : Id) → has_pair p q (take (i + 1) current) ≡ (has_pair p q (take i current) || (bytes_eq p a && bytes_eq q b))
    grown p q = ap (has_pair p q) more ∙ pair-end p q a b (take i current)

    there : has_pair l r later ≡ true → (p : Id) × (q : Id) × (has_pair p q (take (i + 1) current) ≡ true) × AreAlike s l r p q
    there h = elim (or_cases (has_pair l r now) (has_pair l r likes) (sym (then l r) ∙ h)) [
      | inl f ↦ let k = (before l r).0 f in (k.0, k.1, grown k.0 k.1 ∙ or_left (has_pair k.0 k.1 (take i current)) _ k.2, k.3)
      | inr f ↦ (a, b, grown a b ∙ or_right (has_pair a b (take i current)) _ (and_from (bytes_eq a a) _ (same-is a a refl) (same-is b b refl)), (like l r).0 f)
    ]

    back : (p : Id) × (q : Id) × (has_pair p q (take (i + 1) current) ≡ true) × AreAlike s l r p q → has_pair l r later ≡ true
    back k = then l r ∙ elim (or_cases (has_pair k.0 k.1 (take i current)) _ (sym (grown k.0 k.1) ∙ k.2)) [
      | inl f ↦ or_left (has_pair l r now) (has_pair l r likes) ((before l r).1 (k.0, k.1, f, k.3))
      | inr f ↦
          let pa = same-true k.0 a (both_left (bytes_eq k.0 a) _ f) in
          let qb = same-true k.1 b (both_right (bytes_eq k.0 a) _ f) in
          or_right (has_pair l r now) (has_pair l r likes) ((like l r).1 (subst (λ z. AreAlike s l r a z) qb (subst (λ z. AreAlike s l r z k.1) pa k.3)))
    ]
