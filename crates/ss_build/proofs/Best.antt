-- The best of some folders is the one that a pass over them keeps; ids in order.
use Rattle.std.proofs.Common.{◌≡◌, ◌≢◌, ℕ, ◌<◌, List, [], ◌∷◌, Bool, true, false, not, cond, ◌&&◌, ◌==◌, ◌⊎◌, inl, inr}
use Rattle.std.proofs.Common.{nat_lt, refl, sym, ap, ◌∙◌, subst, arith, filter, find, bytes_eq, Some, Ordering, Less}
use Rattle.std.proofs.Common.{Equal, Greater, nat_cmp, is_lt, eq-eqb, lt-ltb}
use Rattle.std.specs.Bool.{⊤}
use Rattle.std.specs.List.{list_all, best_of}
use Rattle.std.specs.Ordering.{ordering_reverse, is_eq}
use Rattle.std.specs.Cmp.Lexicographic.{slice_cmp, nat_list_cmp_total}
use Rattle.std.proofs.lemmas.Bool.{or_cases, and_parts, and_from, or_left, or_right, false≢true, ltb-true, eqb-true}
use Rattle.std.proofs.lemmas.Bool.{cases_order, false_from_ne_true}
use Rattle.std.proofs.lemmas.Map.Text.{is_eq-slice_cmp}
use Rattle.ss_build.specs.Built.{beats, best, claim, ids}
use Rattle.ss_build.specs.declared.claims.Claim.{Claim}
use Rattle.ss_record.specs.Ids.{Apart, before, by_id, has}
use Rattle.ss_text.specs.Texts.{list_with}
use Rattle.ss_record.proofs.IdLists.{has-head, has-tail, Apart-head, Apart-tail, Apart-cons}
use Rattle.ss_build.proofs.Items.{In, claim_in}
use Rattle.ss_text.proofs.Basics.{same_text, bytes_eq-same, is_less}

cmp : List ℕ → List ℕ → Ordering
cmp = slice_cmp nat_cmp

before_less : (x y : List ℕ) → before x y ≡ true → slice_cmp nat_cmp x y ≡ Less
unfolding before
before_less x y e = is_less (slice_cmp nat_cmp x y) e

less_before : (x y : List ℕ) → slice_cmp nat_cmp x y ≡ Less → before x y ≡ true
unfolding before
less_before x y e = ap is_lt e

before_trans : (x y z : List ℕ) → before x y ≡ true → before y z ≡ true → before x z ≡ true
before_trans x y z e f = less_before x z (nat_list_cmp_total.trans x y z (before_less x y e) (before_less y z f))

before_asym : (x y : List ℕ) → before x y ≡ true → before y x ≡ true → ⊥
before_asym x y e f = less_greater (sym (before_less y x f) ∙ (nat_list_cmp_total.antisymm y x ∙ ap ordering_reverse (before_less x y e)))
  where
    less_greater : Less ≡ Greater → ⊥
    less_greater g = cc

before_total : (x y : List ℕ) → x ≢ y → (before x y ≡ true) ⊎ (before y x ≡ true)
before_total x y ne = go (slice_cmp nat_cmp x y) refl
  where
    go : (o : Ordering) → slice_cmp nat_cmp x y ≡ o → (before x y ≡ true) ⊎ (before y x ≡ true)
    go Less e = inl (less_before x y e)
    go Equal e = absurd (ne (same_text x y (sym (is_eq-slice_cmp x y) ∙ ap is_eq e)))
    go Greater e = inr (less_before y x (nat_list_cmp_total.antisymm y x ∙ ap ordering_reverse e))

-- ---- who beats whom

Beats : Claim → Claim → Type 0
Beats f g = (g.time < f.time) ⊎ ((f.time ≡ g.time) × (before f.item.id g.item.id ≡ true))

beats_parts : (f g : Claim) → beats f g ≡ true → Beats f g
unfolding beats Beats
beats_parts f g e = go (or_cases (nat_lt g.time f.time) ((f.time == g.time) && before f.item.id g.item.id) e)
  where
    go : (nat_lt g.time f.time ≡ true) ⊎ (((f.time == g.time) && before f.item.id g.item.id) ≡ true) → (g.time < f.time) ⊎ ((f.time ≡ g.time) × (before f.item.id g.item.id ≡ true))
    go (inl h) = inl (ltb-true g.time f.time h)
    go (inr h) = let p = and_parts (f.time == g.time) (before f.item.id g.item.id) h in inr (eqb-true f.time g.time p.0, p.1)

beats_from : (f g : Claim) → Beats f g → beats f g ≡ true
unfolding beats Beats
beats_from f g (inl h) = or_left (nat_lt g.time f.time) _ (lt-ltb g.time f.time h)
beats_from f g (inr p) = or_right (nat_lt g.time f.time) _ (and_from (f.time == g.time) (before f.item.id g.item.id) (eq-eqb f.time g.time p.0) p.1)

beats_trans : (f g h : Claim) → Beats f g → Beats g h → Beats f h
unfolding Beats
beats_trans f g h (inl a) (inl b) = inl (omega arith)
beats_trans f g h (inl a) (inr b) = inl (let e : g.time ≡ h.time = b.0 in omega arith)
beats_trans f g h (inr a) (inl b) = inl (let e : f.time ≡ g.time = a.0 in omega arith)
beats_trans f g h (inr a) (inr b) = inr (a.0 ∙ b.0, before_trans f.item.id g.item.id h.item.id a.1 b.1)

beats_asym : (f g : Claim) → Beats f g → Beats g f → ⊥
unfolding Beats
beats_asym f g (inl a) (inl b) = omega arith
beats_asym f g (inl a) (inr b) = let e : g.time ≡ f.time = b.0 in omega arith
beats_asym f g (inr a) (inl b) = let e : f.time ≡ g.time = a.0 in omega arith
beats_asym f g (inr a) (inr b) = before_asym f.item.id g.item.id a.1 b.1

beats_total : (f g : Claim) → f.item.id ≢ g.item.id → Beats f g ⊎ Beats g f
unfolding Beats
beats_total f g ne = go (cases_order f.time g.time) (before_total f.item.id g.item.id ne)
  where
    go : (f.time ≡ g.time) ⊎ ((f.time < g.time) ⊎ (g.time < f.time)) → (before f.item.id g.item.id ≡ true) ⊎ (before g.item.id f.item.id ≡ true) → ((g.time < f.time) ⊎ ((f.time ≡ g.time) × (before f.item.id g.item.id ≡ true))) ⊎ ((f.time < g.time) ⊎ ((g.time ≡ f.time) × (before g.item.id f.item.id ≡ true)))
    go (inl e) (inl b) = inl (inr (e, b))
    go (inl e) (inr b) = inr (inr (sym e, b))
    go (inr (inl l)) b = inr (inl l)
    go (inr (inr l)) b = inl (inl l)

-- ---- the best

-- none of the list beats b
Stands : Claim → List Claim → Type 0
Stands b [] = ⊤
Stands b (g ∷ gs) = (Beats g b → ⊥) × Stands b gs

kept_best : (f : Claim) (fs : List Claim) → Apart (ids (f ∷ fs)) → In (best_of beats f fs) (f ∷ fs) × Stands (best_of beats f fs) (f ∷ fs)
unfolding In Stands ids
kept_best f [] a = (inl refl, ((λ h. beats_asym f f h h), tt))
kept_best f (g ∷ gs) a = go (beats g f) refl (λ x. kept_best x gs)
  where
    ne : f.item.id ≢ g.item.id
    ne q = false≢true (sym (Apart-head f.item.id (g.item.id ∷ ids gs) a) ∙ (ap (λ w. has w (g.item.id ∷ ids gs)) q ∙ has-head g.item.id (ids gs)))

    skip : has f.item.id (ids gs) ≡ false
    skip = false_from_ne_true (has f.item.id (ids gs)) (λ h. false≢true (sym (Apart-head f.item.id (g.item.id ∷ ids gs) a) ∙ has-tail f.item.id g.item.id (ids gs) h))

    later : (best_of beats f gs ≡ f) ⊎ In (best_of beats f gs) gs → (best_of beats f gs ≡ f) ⊎ ((best_of beats f gs ≡ g) ⊎ In (best_of beats f gs) gs)
    later (inl q) = inl q
    later (inr q) = inr (inr q)

    lost : beats g f ≡ false → Beats g (best_of beats f gs) → Beats f g ⊎ Beats g f → (Beats f (best_of beats f gs) → ⊥) → ⊥
    lost e h (inl b) free = free (beats_trans f g (best_of beats f gs) b h)
    lost e h (inr b) free = false≢true (sym e ∙ beats_from g f b)

    go : (b : Bool) → beats g f ≡ b → ((x : Claim) → Apart (ids (x ∷ gs)) → In (best_of beats x gs) (x ∷ gs) × Stands (best_of beats x gs) (x ∷ gs)) → In (best_of beats (cond b g f) gs) (f ∷ g ∷ gs) × Stands (best_of beats (cond b g f) gs) (f ∷ g ∷ gs)
    go true e ih =
        let r = ih g (Apart-tail f.item.id (g.item.id ∷ ids gs) a) in
        (inr r.0, ((λ h. r.1.0 (beats_trans g f (best_of beats g gs) (beats_parts g f e) h)), r.1))
    go false e ih =
        let r = ih f (Apart-cons f.item.id (ids gs) skip (Apart-tail g.item.id (ids gs) (Apart-tail f.item.id (g.item.id ∷ ids gs) a))) in
        (later r.0, (r.1.0, ((λ h. lost e h (beats_total f g ne) r.1.0), r.1.1)))

-- whom none of the list beats
stands_at : (b : Claim) (fs : List Claim) (g : Claim) → Stands b fs → In g fs → Beats g b → ⊥
unfolding In Stands
stands_at b [] g s i h = i
stands_at b (f ∷ fs) g s (inl q) h = s.0 (subst (λ w. Beats w b) q h)
stands_at b (f ∷ fs) g s (inr i) h = stands_at b fs g s.1 i h

stands_test : (b : Claim) (fs : List Claim) → Stands b fs → list_all (λ g. not (beats g b)) fs ≡ true
unfolding Stands
stands_test b [] s = refl
stands_test b (f ∷ fs) s = and_from (not (beats f b)) _ (ap not (false_from_ne_true (beats f b) (λ h. s.0 (beats_parts f b h)))) (stands_test b fs s.1)

test_stands : (b g : Claim) (fs : List Claim) → list_all (λ h. not (beats h b)) fs ≡ true → In g fs → beats g b ≡ false
unfolding In
test_stands b g [] e i = absurd i
test_stands b g (f ∷ fs) e (inl q) = ap (λ w. beats w b) q ∙ not_true (beats f b) (and_parts (not (beats f b)) _ e).0
  where
    not_true : (x : Bool) → not x ≡ true → x ≡ false
    not_true true h = absurd (false≢true h)
    not_true false h = refl
test_stands b g (f ∷ fs) e (inr i) = test_stands b g fs (and_parts (not (beats f b)) _ e).1 i

find_only : (p : Claim → Bool) (fs : List Claim) (b : Claim) → In b fs → p b ≡ true → ((g : Claim) → In g fs → p g ≡ true → g ≡ b) → find p fs ≡ Some b
unfolding In
find_only p [] b i h one = absurd i
find_only p (f ∷ fs) b i h one = go (p f) refl i (λ j. find_only p fs b j h (λ g k. one g (inr k)))
  where
    go : (x : Bool) → p f ≡ x → (b ≡ f) ⊎ In b fs → (In b fs → find p fs ≡ Some b) → cond x (Some f) (find p fs) ≡ Some b
    go true q j ih = ap Some (one f (inl refl) q)
    go false q (inl e) ih = absurd (false≢true (sym q ∙ (ap p (sym e) ∙ h)))
    go false q (inr j) ih = ih j

same_claim : (fs : List Claim) (f g : Claim) → Apart (ids fs) → In f fs → In g fs → f.item.id ≡ g.item.id → f ≡ g
same_claim fs f g a i j e = some_is (sym (claim_in fs f a i) ∙ (ap (λ x. claim x fs) e ∙ claim_in fs g a j))
  where
    some_is : Some f ≡ Some g → f ≡ g
    some_is h = cc

-- there is a best folder where there is one at all: the one that a pass keeps, and no other stands against all
pub best_is : (f : Claim) (fs : List Claim) → Apart (ids (f ∷ fs)) → best (f ∷ fs) ≡ Some (best_of beats f fs)
unfolding best
best_is f fs a =
    let b : Claim = best_of beats f fs in
    let k = kept_best f fs a in
    find_only (λ g. list_all (λ h. not (beats h g)) (f ∷ fs)) (f ∷ fs) b k.0 (stands_test b (f ∷ fs) k.1) (λ g i e. only b g k.0 i (stands_at b (f ∷ fs) g k.1 i) (test_stands g b (f ∷ fs) e k.0))
  where
    only : (b g : Claim) → In b (f ∷ fs) → In g (f ∷ fs) → (Beats g b → ⊥) → beats b g ≡ false → g ≡ b
    only b g i j free e = go (bytes_eq g.item.id b.item.id) refl
      where
        go : (x : Bool) → bytes_eq g.item.id b.item.id ≡ x → g ≡ b
        go true q = same_claim (f ∷ fs) g b a j i (same_text g.item.id b.item.id q)
        go false q = lost (beats_total g b (λ h. false≢true (sym q ∙ bytes_eq-same g.item.id b.item.id h)))
          where
            lost : Beats g b ⊎ Beats b g → g ≡ b
            lost (inl h) = absurd (free h)
            lost (inr h) = absurd (false≢true (sym e ∙ beats_from b g h))

-- ---- ids in order

-- x is not before any of these
unfoldable pub Least : List ℕ → List (List ℕ) → Type 0
Least x [] = ⊤
Least x (y ∷ ys) = (before y x ≡ false) × Least x ys

unfoldable pub InOrder : List (List ℕ) → Type 0
InOrder [] = ⊤
InOrder (x ∷ xs) = Least x xs × InOrder xs

not_before_trans : (x y z : List ℕ) → before y x ≡ false → before z y ≡ false → before z x ≡ false
not_before_trans x y z e f = false_from_ne_true (before z x) (λ h. go (bytes_eq x y) refl h)
  where
    go : (b : Bool) → bytes_eq x y ≡ b → before z x ≡ true → ⊥
    go true q h = false≢true (sym f ∙ (ap (before z) (sym (same_text x y q)) ∙ h))
    go false q h = pick (before_total x y (λ s. false≢true (sym q ∙ bytes_eq-same x y s)))
      where
        pick : (before x y ≡ true) ⊎ (before y x ≡ true) → ⊥
        pick (inl b) = false≢true (sym f ∙ before_trans z x y h b)
        pick (inr b) = false≢true (sym e ∙ b)

least_less : (x y : List ℕ) (ys : List (List ℕ)) → before y x ≡ false → Least y ys → Least x ys
unfolding Least
least_less x y [] e l = tt
least_less x y (z ∷ zs) e l = (not_before_trans x y z e l.0, least_less x y zs e l.1)

least_cons : (x y : List ℕ) (ys : List (List ℕ)) → before y x ≡ false → Least x ys → Least x (y ∷ ys)
unfolding Least
least_cons x y ys e l = (e, l)

least_placed : (x z : List ℕ) (ys : List (List ℕ)) → before z x ≡ false → Least x ys → Least x (list_with before z ys)
unfolding Least
least_placed x z [] e l = (e, tt)
least_placed x z (y ∷ ys) e l = go (before y z) (least_placed x z ys e l.1)
  where
    go : (b : Bool) → Least x (list_with before z ys) → Least x (cond b (y ∷ list_with before z ys) (z ∷ y ∷ ys))
    go true ih = (l.0, ih)
    go false ih = (e, l)

placed_in_order : (x : List ℕ) (ys : List (List ℕ)) → InOrder ys → InOrder (list_with before x ys)
unfolding Least InOrder
placed_in_order x [] o = (tt, tt)
placed_in_order x (y ∷ ys) o = go (before y x) refl (placed_in_order x ys o.1)
  where
    go : (b : Bool) → before y x ≡ b → InOrder (list_with before x ys) → InOrder (cond b (y ∷ list_with before x ys) (x ∷ y ∷ ys))
    go true e ih = (least_placed y x ys (false_from_ne_true (before x y) (λ h. before_asym y x e h)) o.0, ih)
    go false e ih = ((e, least_less x y ys e o.0), o)

pub by_id_in_order : (xs : List (List ℕ)) → InOrder (by_id xs)
unfolding InOrder
by_id_in_order [] = tt
by_id_in_order (x ∷ xs) = placed_in_order x (by_id xs) (by_id_in_order xs)

placed_least : (x : List ℕ) (ys : List (List ℕ)) → Least x ys → list_with before x ys ≡ x ∷ ys
unfolding Least
placed_least x [] l = refl
placed_least x (y ∷ ys) l = ap (λ b. cond b (y ∷ list_with before x ys) (x ∷ y ∷ ys)) l.0

least_filter : (p : List ℕ → Bool) (x : List ℕ) (ys : List (List ℕ)) → Least x ys → Least x (filter p ys)
unfolding Least
least_filter p x [] l = tt
least_filter p x (y ∷ ys) l = go (p y) (least_filter p x ys l.1)
  where
    go : (b : Bool) → Least x (filter p ys) → Least x (cond b (y ∷ filter p ys) (filter p ys))
    go true ih = (l.0, ih)
    go false ih = ih

filter-placed : (p : List ℕ → Bool) (x : List ℕ) (ys : List (List ℕ)) → InOrder ys → filter p (list_with before x ys) ≡ cond (p x) (list_with before x (filter p ys)) (filter p ys)
unfolding InOrder
filter-placed p x [] o = refl
filter-placed p x (y ∷ ys) o = go (before y x) refl (filter-placed p x ys o.1)
  where
    F : List (List ℕ)
    F = filter p ys

    after : before y x ≡ true → (b c : Bool) → cond b (y ∷ cond c (list_with before x F) F) (cond c (list_with before x F) F) ≡ cond c (list_with before x (cond b (y ∷ F) F)) (cond b (y ∷ F) F)
    after e true true = sym (ap (λ b. cond b (y ∷ list_with before x F) (x ∷ y ∷ F)) e)
    after e true false = refl
    after e false true = refl
    after e false false = refl

    here : (c : Bool) → before y x ≡ false → cond c (x ∷ filter p (y ∷ ys)) (filter p (y ∷ ys)) ≡ cond c (list_with before x (filter p (y ∷ ys))) (filter p (y ∷ ys))
    here true e = sym (placed_least x (filter p (y ∷ ys)) (least_filter p x (y ∷ ys) (least_cons x y ys e (least_less x y ys e o.0))))
    here false e = refl

    go : (a : Bool) → before y x ≡ a → filter p (list_with before x ys) ≡ cond (p x) (list_with before x (filter p ys)) (filter p ys)
        → filter p (cond a (y ∷ list_with before x ys) (x ∷ y ∷ ys)) ≡ cond (p x) (list_with before x (filter p (y ∷ ys))) (filter p (y ∷ ys))
    go true e ih = ap (λ w. cond (p y) (y ∷ w) w) ih ∙ after e (p y) (p x)
    go false e ih = here (p x) e

-- a filter keeps the order, so what is left of the ids in order is what is left, in order
pub filter-by_id : (p : List ℕ → Bool) (xs : List (List ℕ)) → filter p (by_id xs) ≡ by_id (filter p xs)
filter-by_id p [] = refl
filter-by_id p (x ∷ xs) = filter-placed p x (by_id xs) (by_id_in_order xs) ∙ (ap (λ w. cond (p x) (list_with before x w) w) (filter-by_id p xs) ∙ go (p x))
  where
    go : (b : Bool) → cond b (list_with before x (by_id (filter p xs))) (by_id (filter p xs)) ≡ by_id (cond b (x ∷ filter p xs) (filter p xs))
    go true = refl
    go false = refl
