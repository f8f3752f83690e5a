-- The best of the folders that list an item, by their places.
use Rattle.std.proofs.Common.{◌≡◌, ◌≢◌, ℕ, zero, suc, ◌+◌, ◌<◌, ◌≤◌, ◌⊎◌, inl, inr, List, [], ◌∷◌, ◌++◌, length, map}
use Rattle.std.proofs.Common.{take, get_or, set, Bool, true, false, not, cond, ◌&&◌, ◌||◌, nat_eq, nat_lt, refl, sym}
use Rattle.std.proofs.Common.{ap, ap₂, ◌∙◌, subst, arith, eq-eqb, lt-ltb, filter, bytes_eq, drop, Option, Some, None}
use Rattle.std.specs.List.{list_all, list_any, best_of}
use Rattle.std.proofs.lemmas.Bool.{cases_eq, ne_eqb, or_parts, le-ltb}
use Rattle.std.proofs.lemmas.List.{append-nil, get_or_read, take_all, take-append-drop, take_more, get_or-set_same}
use Rattle.std.proofs.lemmas.List.{get_or-set_other, ext_get_or, get_or-map, length-map}
use Rattle.std.proofs.lemmas.List.Elements.{filter-append}
use Rattle.ss_record.specs.Ids.{Apart, has, places}
use Rattle.ss_record.specs.Kinds.{is_folder}
use Rattle.ss_record.proofs.IdLists.{has-cons, Apart-cons, Apart-head, Apart-tail}
use Rattle.ss_build.specs.declared.claims.Claim.{Claim}
use Rattle.ss_build.specs.Built.{beats, best, empty_root, ids, lists}
use Rattle.ss_build.specs.Places.{at, better, place, seat}
use Rattle.ss_build.proofs.Items.{In, find_in, In-filter}
use Rattle.ss_build.proofs.Best.{best_is}
use Rattle.ss_build.proofs.Seats.{Apart-left}
use Rattle.ss_build.proofs.Chosen.{at_own, lists_at, place_own, place_in}
use Rattle.ss_build.proofs.OfRows.{ids-append}

-- ---- one place

pub better_none : (es : List Claim) (old folder : ℕ) → length es ≤ old → folder ≡ better es old folder
unfolding better
better_none es old folder h = sym (ap (λ b. cond (b && not (beats (at es folder) (at es old))) old folder) (le-ltb old (length es) h))

better_at : (es : List Claim) (old folder : ℕ) (f g : Claim) → old < length es → folder < length es → f ≡ get_or es folder f → g ≡ get_or es old g → better es old folder ≡ cond (not (beats f g)) old folder
unfolding better
better_at es old folder f g l m p q =
    ap (λ b. cond (b && not (beats (at es folder) (at es old))) old folder) (lt-ltb old (length es) l)
    ∙ ap₂ (λ x y. cond (not (beats x y)) old folder) (sym (get_or_read es folder f m p (empty_root places))) (sym (get_or_read es old g l q (empty_root places)))

pub better_new : (es : List Claim) (old folder : ℕ) (f g : Claim) → old < length es → folder < length es → f ≡ get_or es folder f → g ≡ get_or es old g → beats f g ≡ true → folder ≡ better es old folder
better_new es old folder f g l m p q h = sym (better_at es old folder f g l m p q ∙ ap (λ b. cond (not b) old folder) h)

pub better_old : (es : List Claim) (old folder : ℕ) (f g : Claim) → old < length es → folder < length es → f ≡ get_or es folder f → g ≡ get_or es old g → beats f g ≡ false → old ≡ better es old folder
better_old es old folder f g l m p q h = sym (better_at es old folder f g l m p q ∙ ap (λ b. cond (not b) old folder) h)

better_again : (es : List Claim) (old folder : ℕ) → better es (better es old folder) folder ≡ better es old folder
unfolding better
better_again es old folder = go (nat_lt old (length es) && not (beats (at es folder) (at es old))) refl
  where
    test : ℕ → Bool
    test o = nat_lt o (length es) && not (beats (at es folder) (at es o))

    same : (b : Bool) → cond b folder folder ≡ folder
    same true = refl
    same false = refl

    go : (b : Bool) → test old ≡ b → cond (test (cond b old folder)) (cond b old folder) folder ≡ cond b old folder
    go true e = ap (λ b. cond b old folder) e
    go false e = same (test folder)

pub raise_more : (es : List Claim) (old kept new : List ℕ) (folder s i : ℕ) (was : Bool) → i < length kept
    → get_or kept i 0 ≡ cond was (better es (get_or old i 0) folder) (get_or old i 0)
    → new ≡ cond (nat_lt s (length kept)) (set kept s (better es (get_or kept s 0) folder)) kept
    → get_or new i 0 ≡ cond (was || nat_eq i s) (better es (get_or old i 0) folder) (get_or old i 0)
raise_more es old kept new folder s i was l h e = ap (λ w. get_or w i 0) e ∙ go (cases_eq i s)
  where
    again : (b : Bool) → better es (cond b (better es (get_or old i 0) folder) (get_or old i 0)) folder ≡ cond (b || true) (better es (get_or old i 0) folder) (get_or old i 0)
    again true = better_again es (get_or old i 0) folder
    again false = refl

    or_false : (b : Bool) → (b || false) ≡ b
    or_false true = refl
    or_false false = refl

    go : (i ≡ s) ⊎ (i ≢ s) → get_or (cond (nat_lt s (length kept)) (set kept s (better es (get_or kept s 0) folder)) kept) i 0 ≡ cond (was || nat_eq i s) (better es (get_or old i 0) folder) (get_or old i 0)
    go (inl q) =
        ap (λ b. get_or (cond b (set kept s (better es (get_or kept s 0) folder)) kept) i 0) (lt-ltb s (length kept) (omega arith))
        ∙ (ap (λ k. get_or (set kept s (better es (get_or kept s 0) folder)) k 0) q
        ∙ (get_or-set_same kept s (better es (get_or kept s 0) folder) 0 (omega arith)
        ∙ (ap (λ k. better es (get_or kept k 0) folder) (sym q)
        ∙ (ap (λ o. better es o folder) h
        ∙ (again was ∙ ap (λ b. cond (was || b) (better es (get_or old i 0) folder) (get_or old i 0)) (sym (eq-eqb i s q)))))))
    go (inr ne) = stays (nat_lt s (length kept)) ∙ (h ∙ ap (λ b. cond b (better es (get_or old i 0) folder) (get_or old i 0)) (sym (ap (λ b. was || b) (ne_eqb i s ne) ∙ or_false was)))
      where
        stays : (b : Bool) → get_or (cond b (set kept s (better es (get_or kept s 0) folder)) kept) i 0 ≡ get_or kept i 0
        stays true = get_or-set_other kept s i (better es (get_or kept s 0) folder) 0 ne
        stays false = refl

-- ---- one folder

over : Claim → Option Claim → Claim
over f None = f
over f (Some b) = cond (beats f b) f b

best_of_push : (g f : Claim) (gs : List Claim) → best_of beats g (gs ++ f ∷ []) ≡ cond (beats f (best_of beats g gs)) f (best_of beats g gs)
best_of_push g f [] = refl
best_of_push g f (h ∷ hs) = best_of_push (cond (beats h g) h g) f hs

best_push : (fs : List Claim) (f : Claim) → Apart (ids (fs ++ f ∷ [])) → best (fs ++ f ∷ []) ≡ Some (over f (best fs))
unfolding over best
best_push [] f a = best_is f [] a
best_push (g ∷ gs) f a =
    best_is g (gs ++ f ∷ []) a ∙ ap Some (best_of_push g f gs ∙ ap (over f) (sym (best_is g gs (Apart-left (ids (g ∷ gs)) (ids (f ∷ [])) (subst Apart (ids-append (g ∷ gs) (f ∷ [])) a)))))

Apart-ids-filter : (p : Claim → Bool) (es : List Claim) → Apart (ids es) → Apart (ids (filter p es))
unfolding ids
Apart-ids-filter p [] a = a
Apart-ids-filter p (e ∷ es) a = go (p e) (Apart-ids-filter p es (Apart-tail e.item.id (ids es) a))
  where
    fewer : (x : List ℕ) (es : List Claim) → has x (ids es) ≡ false → has x (ids (filter p es)) ≡ false
    fewer x [] h = h
    fewer x (f ∷ fs) h = pick (p f) (or_parts (bytes_eq x f.item.id) (has x (ids fs)) (sym (has-cons x f.item.id (ids fs)) ∙ h)) (fewer x fs)
      where
        pick : (b : Bool) → (bytes_eq x f.item.id ≡ false) × (has x (ids fs) ≡ false) → (has x (ids fs) ≡ false → has x (ids (filter p fs)) ≡ false) → has x (ids (cond b (f ∷ filter p fs) (filter p fs))) ≡ false
        pick true q ih = has-cons x f.item.id (ids (filter p fs)) ∙ ap₂ (λ b c. b || c) q.0 (ih q.1)
        pick false q ih = ih q.1

    go : (b : Bool) → Apart (ids (filter p es)) → Apart (ids (cond b (e ∷ filter p es) (filter p es)))
    go true ih = Apart-cons e.item.id (ids (filter p es)) (fewer e.item.id es (Apart-head e.item.id (ids es) a)) ih
    go false ih = ih

Apart-ids-take : (n : ℕ) (es : List Claim) → Apart (ids es) → Apart (ids (take n es))
Apart-ids-take n es a = Apart-left (ids (take n es)) (ids (drop n es)) (subst Apart (ap ids (sym (take-append-drop n es)) ∙ ids-append (take n es) (drop n es)) a)

In-take : {X : Type 0} (n : ℕ) (xs : List X) (x : X) → In x (take n xs) → In x xs
unfolding In
In-take zero xs x i = absurd i
In-take (suc n) [] x i = i
In-take (suc n) (y ∷ ys) x (inl q) = inl q
In-take (suc n) (y ∷ ys) x (inr i) = inr (In-take n ys x i)

-- the better of what is there and one more
seat_over : (es fs : List Claim) (folder : ℕ) → Apart (ids es) → folder < length es → ((b : Claim) → In b fs → In b es) → (o : Option Claim) → best fs ≡ o
    → better es (seat es o) folder ≡ seat es (Some (over (at es folder) o))
unfolding better seat over best
seat_over es fs folder a l sub None q =
    ap (λ b. cond (b && not (beats (at es folder) (at es (length es)))) (length es) folder) (le-ltb (length es) (length es) (omega arith)) ∙ sym (place_own es folder a l)
seat_over es fs folder a l sub (Some b) q =
    let i : In b es = sub b (find_in (λ f. list_all (λ g. not (beats g f)) fs) fs b q).0 in
    ap₂ (λ x y. cond (x && not (beats (at es folder) y)) (place b.item.id (ids es)) folder) (lt-ltb _ _ (place_in es b i)) (at_own es b a i)
    ∙ go (beats (at es folder) b)
  where
    go : (c : Bool) → cond (not c) (place b.item.id (ids es)) folder ≡ place (cond c (at es folder) b).item.id (ids es)
    go true = sym (place_own es folder a l)
    go false = refl

-- the folders among the first that list the item at a place
abbrev front : List Claim → ℕ → ℕ → List Claim
front es folder i = filter (λ f. lists f (at es i).item.id) (take folder es)

-- one more folder, which lists the item or not
pub lister_more : (es : List Claim) (folder i old : ℕ) → Apart (ids es) → i < length es → folder < length es
    → old ≡ seat es (best (filter (λ f. lists f (at es i).item.id) (take folder es)))
    → cond (lists (at es folder) (at es i).item.id) (better es old folder) old ≡ seat es (best (filter (λ f. lists f (at es i).item.id) (take (folder + 1) es)))
lister_more es folder i old a l m h = go (lists (at es folder) (at es i).item.id) refl
  where
    split : filter (λ f. lists f (at es i).item.id) (take (folder + 1) es) ≡ front es folder i ++ cond (lists (at es folder) (at es i).item.id) (at es folder ∷ []) []
    split = ap (filter (λ f. lists f (at es i).item.id)) (take_more es folder (empty_root places) m) ∙ filter-append (λ f. lists f (at es i).item.id) (take folder es) (at es folder ∷ [])

    go : (b : Bool) → lists (at es folder) (at es i).item.id ≡ b → cond b (better es old folder) old ≡ seat es (best (filter (λ f. lists f (at es i).item.id) (take (folder + 1) es)))
    go true e =
        let whole : filter (λ f. lists f (at es i).item.id) (take (folder + 1) es) ≡ front es folder i ++ at es folder ∷ [] = split ∙ ap (λ b. front es folder i ++ cond b (at es folder ∷ []) []) e in
        let apart : Apart (ids (front es folder i ++ at es folder ∷ [])) = subst (λ w. Apart (ids w)) whole (Apart-ids-filter (λ f. lists f (at es i).item.id) (take (folder + 1) es) (Apart-ids-take (folder + 1) es a)) in
        ap (λ o. better es o folder) h
        ∙ (seat_over es (front es folder i) folder a m inside (best (front es folder i)) refl
        ∙ ap (seat es) (sym (ap best whole ∙ best_push (front es folder i) (at es folder) apart)))
      where
        inside : (b : Claim) → In b (front es folder i) → In b es
        inside b j = In-take folder es b (In-filter (λ f. lists f (at es i).item.id) (take folder es) b j).0
    go false e = h ∙ ap (λ w. seat es (best w)) (sym (split ∙ (ap (λ b. front es folder i ++ cond b (at es folder ∷ []) []) e ∙ append-nil (front es folder i))))

-- a folder raises what it lists
pub folder_raises : (es : List Claim) (folder i old new : ℕ) (f : Claim) (seats : List ℕ) → Apart (ids es) → i < length es → folder < length es → f ≡ get_or es folder f
    → is_folder f.item.kind ≡ true → seats ≡ map (λ c. place c (ids es)) f.children
    → new ≡ cond (list_any (nat_eq i) seats) (better es old folder) old
    → new ≡ cond (lists (at es folder) (at es i).item.id) (better es old folder) old
unfolding lists
folder_raises es folder i old new f seats a l m p k q e =
    let here : f ≡ at es folder = get_or_read es folder f m p (empty_root places) in
    e ∙ ap (λ b. cond b (better es old folder) old)
    (ap (list_any (nat_eq i)) (q ∙ ap (λ g. map (λ c. place c (ids es)) g.children) here)
    ∙ (lists_at es folder i a l ∙ sym (ap (λ b. b && has (at es i).item.id (at es folder).children) (ap (λ g. is_folder g.item.kind) (sym here) ∙ k))))

pub leaf_raises : (es : List Claim) (folder i old : ℕ) (f : Claim) → folder < length es → f ≡ get_or es folder f → is_folder f.item.kind ≡ false
    → old ≡ cond (lists (at es folder) (at es i).item.id) (better es old folder) old
unfolding lists
leaf_raises es folder i old f m p k =
    let here : f ≡ at es folder = get_or_read es folder f m p (empty_root places) in
    sym (ap (λ b. cond (b && has (at es i).item.id (at es folder).children) (better es old folder) old) (ap (λ g. is_folder g.item.kind) (sym here) ∙ k))

pub all_raised : (es : List Claim) (listers : List ℕ) → length listers ≡ length es → (folder : ℕ) → folder ≡ length es
    → ((i : ℕ) → i < length es → get_or listers i 0 ≡ seat es (best (filter (λ f. lists f (at es i).item.id) (take folder es))))
    → listers ≡ map (λ e. seat es (best (filter (λ f. lists f e.item.id) es))) es
all_raised es listers n folder end h =
    ext_get_or 0 listers (map (λ e. seat es (best (filter (λ f. lists f e.item.id) es))) es) (n ∙ sym (length-map es (λ e. seat es (best (filter (λ f. lists f e.item.id) es)))))
    (λ i l. let m : i < length es = omega arith in
    h i m ∙ (ap (λ w. seat es (best (filter (λ f. lists f (at es i).item.id) w))) (take_all folder es (omega arith))
    ∙ sym (get_or-map (λ e. seat es (best (filter (λ f. lists f e.item.id) es))) es i (empty_root places) 0 m)))

-- at first there is none
pub no_lister : (es : List Claim) → length es ≡ seat es (best [])
unfolding seat best
no_lister es = refl
