-- Proposed parents by their places.
use Rattle.std.proofs.Common.{◌≡◌, ◌≢◌, ℕ, suc, ◌+◌, ◌<◌, ◌≤◌, ◌==◌, ◌⊎◌, inl, inr, List, [], ◌∷◌, ◌++◌, length, map}
use Rattle.std.proofs.Common.{take, get_or, set, Bool, true, false, not, cond, ◌&&◌, ◌||◌, nat_eq, nat_lt, refl, sym}
use Rattle.std.proofs.Common.{ap, ap₂, ◌∙◌, subst, arith, eq-eqb, lt-ltb, find, bytes_eq, filter, Option, Some, None}
use Rattle.std.proofs.Common.{unwrap_or, option_map, option_and_then}
use Rattle.std.specs.List.{list_all, list_any}
use Rattle.std.proofs.lemmas.Bool.{false≢true, cases_lt, cases_eq, ne_eqb, and_parts, and_from, le-ltb}
use Rattle.std.proofs.lemmas.List.{get_or_read, take_all, take_more, get_or-set_same, get_or-set_other, ext_get_or}
use Rattle.std.proofs.lemmas.List.{get_or-map, length-map}
use Rattle.ss_record.specs.Ids.{Apart, has, places, roots, unfiled}
use Rattle.ss_record.specs.Kinds.{is_folder}
use Rattle.ss_record.proofs.IdLists.{bytes_eq-apart, Apart-head, Apart-tail}
use Rattle.ss_build.specs.declared.claims.Claim.{Claim}
use Rattle.ss_build.specs.Built.{beats, best, claim, empty_root, ids, kept_if, lists, named, or_else, proposal}
use Rattle.ss_build.specs.Built.{proposed_parents}
use Rattle.ss_build.specs.Places.{AreItems, at, chosen_place, kept_at, next_of, place, seat}
use Rattle.ss_build.proofs.Items.{In, find_in, In_has, In-filter, claim_in}
use Rattle.ss_build.proofs.Valid.{length-ids, proposed_claim, proposed_root}
use Rattle.ss_build.proofs.Seats.{place_lt, place_at, place_none, at_place, has_from_place, any_place, id_at, at_in}
use Rattle.ss_text.proofs.Basics.{same_text, bytes_eq-same}

-- ---- the item at the place of an id

pub claim_at_place : (es : List Claim) (x : List ℕ) → place x (ids es) < length es → (at es (place x (ids es))).item.id ≡ x
claim_at_place es x l = let n : length (ids es) ≡ length es = length-ids es in sym (id_at es (place x (ids es))) ∙ at_place x (ids es) places (has_from_place x (ids es) (omega arith))

-- an item stands at the place of its id
pub at_own : (es : List Claim) (e : Claim) → Apart (ids es) → In e es → at es (place e.item.id (ids es)) ≡ e
unfolding In ids
at_own [] e a i = absurd i
at_own (f ∷ fs) e a (inl q) = ap (λ b. get_or (f ∷ fs) (cond b 0 (suc (place e.item.id (ids fs)))) (empty_root places)) (bytes_eq-same e.item.id f.item.id (ap (λ z. z.item.id) q)) ∙ sym q
at_own (f ∷ fs) e a (inr i) = ap (λ b. get_or (f ∷ fs) (cond b 0 (suc (place e.item.id (ids fs)))) (empty_root places)) (bytes_eq-apart e.item.id f.item.id ne) ∙ at_own fs e (Apart-tail f.item.id (ids fs) a) i
  where
    ne : e.item.id ≢ f.item.id
    ne q = false≢true (sym (Apart-head f.item.id (ids fs) a) ∙ (ap (λ x. has x (ids fs)) (sym q) ∙ In_has fs e i))

pub place_own : (es : List Claim) (i : ℕ) → Apart (ids es) → i < length es → place (at es i).item.id (ids es) ≡ i
place_own es i a l = let n : length (ids es) ≡ length es = length-ids es in ap (λ w. place w (ids es)) (sym (id_at es i)) ∙ place_at (ids es) i places a (omega arith)

pub place_in : (es : List Claim) (e : Claim) → In e es → place e.item.id (ids es) < length es
place_in es e i = let n : length (ids es) ≡ length es = length-ids es in let l : place e.item.id (ids es) < length (ids es) = place_lt e.item.id (ids es) (In_has es e i) in omega arith

-- ---- the folder that an item names

find_some : (p : Claim → Bool) (es : List Claim) (e : Claim) → In e es → p e ≡ true → (f : Claim) × (find p es ≡ Some f)
unfolding In
find_some p [] e i h = absurd i
find_some p (f ∷ fs) e i h = go (p f) refl i (λ j. find_some p fs e j h)
  where
    go : (b : Bool) → p f ≡ b → (e ≡ f) ⊎ In e fs → (In e fs → (g : Claim) × (find p fs ≡ Some g)) → (g : Claim) × (cond b (Some f) (find p fs) ≡ Some g)
    go true q j ih = (f, refl)
    go false q (inl s) ih = absurd (false≢true (sym q ∙ (ap p (sym s) ∙ h)))
    go false q (inr j) ih = ih j

named_test : List ℕ → Claim → Bool
named_test p f = is_folder f.item.kind && bytes_eq p f.item.id

named_found : (es : List Claim) (p : List ℕ) → Apart (ids es) → place p (ids es) < length es → is_folder (at es (place p (ids es))).item.kind ≡ true → find (named_test p) es ≡ Some (at es (place p (ids es)))
unfolding named_test
named_found es p a l k =
    let f : Claim = at es (place p (ids es)) in
    let i : In f es = at_in es (place p (ids es)) l in
    let found = find_some (λ f. is_folder f.item.kind && bytes_eq p f.item.id) es f i (and_from (is_folder f.item.kind) (bytes_eq p f.item.id) k (bytes_eq-same p f.item.id (sym (claim_at_place es p l)))) in
    let r = find_in (λ f. is_folder f.item.kind && bytes_eq p f.item.id) es found.0 found.1 in
    found.1 ∙ ap Some (sym (at_own es found.0 a r.0) ∙ ap (λ w. at es (place w (ids es))) (sym (same_text p found.0.item.id (and_parts (is_folder found.0.item.kind) (bytes_eq p found.0.item.id) r.1).1)))

named_not : (es : List Claim) (p : List ℕ) → Apart (ids es) → (place p (ids es) < length es → is_folder (at es (place p (ids es))).item.kind ≡ false) → find (named_test p) es ≡ None
unfolding named_test
named_not es p a h = go (find (λ f. is_folder f.item.kind && bytes_eq p f.item.id) es) refl
  where
    go : (o : Option Claim) → find (λ f. is_folder f.item.kind && bytes_eq p f.item.id) es ≡ o → o ≡ None
    go None q = refl
    go (Some g) q =
        let r = find_in (λ f. is_folder f.item.kind && bytes_eq p f.item.id) es g q in
        let parts = and_parts (is_folder g.item.kind) (bytes_eq p g.item.id) r.1 in
        let same : p ≡ g.item.id = same_text p g.item.id parts.1 in
        let here : at es (place p (ids es)) ≡ g = ap (λ w. at es (place w (ids es))) same ∙ at_own es g a r.0 in
        let l : place p (ids es) < length es = subst (λ w. place w (ids es) < length es) (sym same) (place_in es g r.0) in
        absurd (false≢true (sym (h l) ∙ (ap (λ f. is_folder f.item.kind) here ∙ parts.0)))

pub seat_named : (es : List Claim) (e : Claim) (p : List ℕ) → e.parentid ≡ Some p → Apart (ids es) → place p (ids es) < length es → is_folder (at es (place p (ids es))).item.kind ≡ true → place p (ids es) ≡ seat es (named es e)
unfolding named seat named_test
seat_named es e p q a l k =
    ap (λ w. place w (ids es)) (sym (claim_at_place es p l))
    ∙ ap (seat es) (sym (ap (option_and_then (λ p. find (λ f. is_folder f.item.kind && bytes_eq p f.item.id) es)) q ∙ named_found es p a l k))

pub seat_not_named : (es : List Claim) (e : Claim) (p : List ℕ) → e.parentid ≡ Some p → Apart (ids es) → (place p (ids es) < length es → is_folder (at es (place p (ids es))).item.kind ≡ false) → length es ≡ seat es (named es e)
unfolding named seat named_test
seat_not_named es e p q a h = ap (seat es) (sym (ap (option_and_then (λ p. find (λ f. is_folder f.item.kind && bytes_eq p f.item.id) es)) q ∙ named_not es p a h))

pub seat_none : (es : List Claim) (e : Claim) → e.parentid ≡ None → length es ≡ seat es (named es e)
unfolding named seat
seat_none es e q = ap (seat es) (sym (ap (option_and_then (λ p. find (λ f. is_folder f.item.kind && bytes_eq p f.item.id) es)) q))

pub named_in : (es : List Claim) (e f : Claim) → named es e ≡ Some f → In f es × (is_folder f.item.kind ≡ true)
unfolding named
named_in es e f q = go e.parentid q
  where
    go : (o : Option (List ℕ)) → option_and_then (λ p. find (λ f. is_folder f.item.kind && bytes_eq p f.item.id) es) o ≡ Some f → In f es × (is_folder f.item.kind ≡ true)
    go None k = cc
    go (Some p) k = let r = find_in (λ g. is_folder g.item.kind && bytes_eq p g.item.id) es f k in (r.0, (and_parts (is_folder f.item.kind) (bytes_eq p f.item.id) r.1).0)

-- ---- whether the named folder lists an item

-- one more place is marked
pub mark_more : (old kept new : List Bool) (claimed : List ℕ) (folder s i : ℕ) (was : Bool) → i < length kept
    → get_or kept i false ≡ (get_or old i false || ((get_or claimed i 0 == folder) && was))
    → new ≡ cond (nat_lt s (length kept) && (get_or claimed s 0 == folder)) (set kept s true) kept
    → get_or new i false ≡ (get_or old i false || ((get_or claimed i 0 == folder) && (was || nat_eq i s)))
mark_more old kept new claimed folder s i was l h e = ap (λ w. get_or w i false) e ∙ go (cases_eq i s)
  where
    same_table : (a b : Bool) → true ≡ (a || (true && (b || true)))
    same_table true b = refl
    same_table false true = refl
    same_table false false = refl

    or_false : (b : Bool) → (b || false) ≡ b
    or_false true = refl
    or_false false = refl

    go : (i ≡ s) ⊎ (i ≢ s) → get_or (cond (nat_lt s (length kept) && (get_or claimed s 0 == folder)) (set kept s true) kept) i false ≡ (get_or old i false || ((get_or claimed i 0 == folder) && (was || nat_eq i s)))
    go (inl q) = pick (get_or claimed s 0 == folder) refl
      where
        inside : nat_lt s (length kept) ≡ true
        inside = lt-ltb s (length kept) (omega arith)

        pick : (b : Bool) → (get_or claimed s 0 == folder) ≡ b → get_or (cond (nat_lt s (length kept) && (get_or claimed s 0 == folder)) (set kept s true) kept) i false ≡ (get_or old i false || ((get_or claimed i 0 == folder) && (was || nat_eq i s)))
        pick true f =
            ap₂ (λ x y. get_or (cond (x && y) (set kept s true) kept) i false) inside f
            ∙ (ap (λ k. get_or (set kept s true) k false) q
            ∙ (get_or-set_same kept s true false (omega arith)
            ∙ (same_table (get_or old i false) was
            ∙ sym (ap₂ (λ x y. get_or old i false || (x && (was || y))) (ap (λ k. get_or claimed k 0 == folder) q ∙ f) (eq-eqb i s q)))))
        pick false f =
            let z : (get_or claimed i 0 == folder) ≡ false = ap (λ k. get_or claimed k 0 == folder) q ∙ f in
            ap₂ (λ x y. get_or (cond (x && y) (set kept s true) kept) i false) inside f
            ∙ (h ∙ (ap (λ x. get_or old i false || (x && was)) z ∙ sym (ap (λ x. get_or old i false || (x && (was || nat_eq i s))) z)))
    go (inr ne) =
        stays (nat_lt s (length kept) && (get_or claimed s 0 == folder)) ∙ (h ∙ ap (λ x. get_or old i false || ((get_or claimed i 0 == folder) && x)) (sym (ap (λ b. was || b) (ne_eqb i s ne) ∙ or_false was)))
      where
        stays : (b : Bool) → get_or (cond b (set kept s true) kept) i false ≡ get_or kept i false
        stays true = get_or-set_other kept s i true false ne
        stays false = refl

bigger : (x y : ℕ) → x ≢ y → nat_lt x y ≡ nat_lt x (y + 1)
bigger x y ne = pick (cases_lt x y)
  where
    pick : (x < y) ⊎ (y ≤ x) → nat_lt x y ≡ nat_lt x (y + 1)
    pick (inl q) = lt-ltb x y q ∙ sym (lt-ltb x (y + 1) (omega arith))
    pick (inr q) = le-ltb x y q ∙ sym (le-ltb x (y + 1) (let n : x ≢ y = ne in omega arith))

-- a folder has marked the items that name it and that it lists
pub folder_marked : (es : List Claim) (claimed : List ℕ) (folder i : ℕ) (old new : Bool) → Apart (ids es) → i < length es → folder < length es
    → claimed ≡ map (λ e. seat es (named es e)) es
    → old ≡ (nat_lt (get_or claimed i 0) folder && kept_at es (at es i))
    → new ≡ (old || ((get_or claimed i 0 == folder) && lists (at es folder) (at es i).item.id))
    → new ≡ (nat_lt (get_or claimed i 0) (folder + 1) && kept_at es (at es i))
unfolding kept_at seat
folder_marked es claimed folder i old new a l m k w e =
    e ∙ (ap (λ b. b || ((get_or claimed i 0 == folder) && L)) w ∙ go (cases_eq (get_or claimed i 0) folder))
  where
    K : Bool
    K = unwrap_or (option_map (λ f. lists f (at es i).item.id) (named es (at es i))) false

    L : Bool
    L = lists (at es folder) (at es i).item.id

    claimed_at : get_or claimed i 0 ≡ seat es (named es (at es i))
    claimed_at = ap (λ w. get_or w i 0) k ∙ get_or-map (λ e. seat es (named es e)) es i (empty_root places) 0 l

    or_false : (b : Bool) → (b || false) ≡ b
    or_false true = refl
    or_false false = refl

    told : (o : Option Claim) → named es (at es i) ≡ o → get_or claimed i 0 ≡ folder → L ≡ unwrap_or (option_map (λ f. lists f (at es i).item.id) o) false
    told None n q = let c : get_or claimed i 0 ≡ length es = claimed_at ∙ ap (seat es) n in absurd (omega arith)
    told (Some f) n q =
        let c : get_or claimed i 0 ≡ place f.item.id (ids es) = claimed_at ∙ ap (seat es) n in
        let here : at es folder ≡ f = ap (at es) (sym q ∙ c) ∙ at_own es f a (named_in es (at es i) f n).0 in
        ap (λ g. lists g (at es i).item.id) here

    go : (get_or claimed i 0 ≡ folder) ⊎ (get_or claimed i 0 ≢ folder) → ((nat_lt (get_or claimed i 0) folder && K) || ((get_or claimed i 0 == folder) && L)) ≡ (nat_lt (get_or claimed i 0) (folder + 1) && K)
    go (inl q) =
        let z : nat_lt (get_or claimed i 0) folder ≡ false = le-ltb (get_or claimed i 0) folder (omega arith) in
        ap₂ (λ x y. (x && K) || (y && L)) z (eq-eqb (get_or claimed i 0) folder q) ∙ (told (named es (at es i)) refl q ∙ sym (ap (λ b. b && K) (lt-ltb (get_or claimed i 0) (folder + 1) (omega arith))))
    go (inr ne) = ap (λ b. (nat_lt (get_or claimed i 0) folder && K) || (b && L)) (ne_eqb (get_or claimed i 0) folder ne) ∙ (or_false (nat_lt (get_or claimed i 0) folder && K) ∙ ap (λ b. b && K) (bigger (get_or claimed i 0) folder ne))

-- all folders have marked
pub all_marked : (es : List Claim) (claimed : List ℕ) (kept : List Bool) → length kept ≡ length es → (folder : ℕ) → folder ≡ length es
    → claimed ≡ map (λ e. seat es (named es e)) es
    → ((i : ℕ) → i < length es → get_or kept i false ≡ (nat_lt (get_or claimed i 0) folder && kept_at es (at es i)))
    → kept ≡ map (kept_at es) es
unfolding kept_at seat
all_marked es claimed kept n folder end k h = ext_get_or false kept (map (kept_at es) es) (n ∙ sym (length-map es (kept_at es))) each
  where
    claimed_at : (i : ℕ) → i < length es → get_or claimed i 0 ≡ seat es (named es (at es i))
    claimed_at i l = ap (λ w. get_or w i 0) k ∙ get_or-map (λ e. seat es (named es e)) es i (empty_root places) 0 l

    told : (i : ℕ) (o : Option Claim) → named es (at es i) ≡ o → get_or claimed i 0 ≡ seat es o → (nat_lt (get_or claimed i 0) folder && unwrap_or (option_map (λ f. lists f (at es i).item.id) o) false) ≡ unwrap_or (option_map (λ f. lists f (at es i).item.id) o) false
    told i None q c = and_false (nat_lt (get_or claimed i 0) folder)
      where
        and_false : (b : Bool) → (b && false) ≡ false
        and_false true = refl
        and_false false = refl
    told i (Some f) q c =
        let l : place f.item.id (ids es) < length es = place_in es f (named_in es (at es i) f q).0 in
        ap (λ b. b && lists f (at es i).item.id) (lt-ltb _ _ (let d : get_or claimed i 0 ≡ place f.item.id (ids es) = c in omega arith))

    each : (i : ℕ) → i < length kept → get_or kept i false ≡ get_or (map (kept_at es) es) i false
    each i l =
        let m : i < length es = omega arith in
        h i m ∙ (told i (named es (at es i)) refl (claimed_at i m) ∙ sym (get_or-map (kept_at es) es i (empty_root places) false m))

-- what a folder's list says of the item at a place
pub lists_at : (es : List Claim) (folder i : ℕ) → Apart (ids es) → i < length es → list_any (nat_eq i) (map (λ c. place c (ids es)) (at es folder).children) ≡ has (at es i).item.id (at es folder).children
lists_at es folder i a l =
    let s : length (ids es) ≡ length es = length-ids es in
    any_place (ids es) (at es folder).children i places a (omega arith) ∙ ap (λ x. has x (at es folder).children) (id_at es i)

-- a folder marks what it lists
pub folder_marks : (es : List Claim) (folder i : ℕ) (old new named : Bool) (f : Claim) (seats : List ℕ) → Apart (ids es) → i < length es → folder < length es → f ≡ get_or es folder f
    → is_folder f.item.kind ≡ true → seats ≡ map (λ c. place c (ids es)) f.children
    → new ≡ (old || (named && list_any (nat_eq i) seats))
    → new ≡ (old || (named && lists (at es folder) (at es i).item.id))
unfolding lists
folder_marks es folder i old new named f seats a l m p k q e =
    let here : f ≡ at es folder = get_or_read es folder f m p (empty_root places) in
    e ∙ ap (λ b. old || (named && b))
    (ap (list_any (nat_eq i)) (q ∙ ap (λ g. map (λ c. place c (ids es)) g.children) here)
    ∙ (lists_at es folder i a l ∙ sym (ap (λ b. b && has (at es i).item.id (at es folder).children) (ap (λ g. is_folder g.item.kind) (sym here) ∙ k))))

pub leaf_marks : (es : List Claim) (folder i : ℕ) (old named : Bool) (f : Claim) → folder < length es → f ≡ get_or es folder f → is_folder f.item.kind ≡ false
    → old ≡ (old || (named && lists (at es folder) (at es i).item.id))
unfolding lists
leaf_marks es folder i old named f m p k =
    let here : f ≡ at es folder = get_or_read es folder f m p (empty_root places) in
    sym (ap (λ b. old || (named && (b && has (at es i).item.id (at es folder).children))) (ap (λ g. is_folder g.item.kind) (sym here) ∙ k) ∙ none old named)
  where
    none : (a b : Bool) → (a || (b && false)) ≡ a
    none true b = refl
    none false true = refl
    none false false = refl

-- ---- the first that there is

first_there : (es : List Claim) (p : Claim → Bool) (N B : Option Claim) → ((f : Claim) → N ≡ Some f → In f es) → ((f : Claim) → B ≡ Some f → In f es)
    → place (unwrap_or (option_map (λ f. f.item.id) (or_else (kept_if p N) (or_else B N))) unfiled) (ids es)
    ≡ chosen_place false (unwrap_or (option_map p N) false) (seat es N) (seat es B) (place unfiled (ids es)) (length es)
unfolding or_else kept_if seat
first_there es p None None n b =
    sym (ap₂ (λ x y. cond x (length es) (cond y (length es) (place unfiled (ids es)))) (le-ltb (length es) (length es) (omega arith)) (le-ltb (length es) (length es) (omega arith)))
first_there es p None (Some g) n b = sym (ap (λ x. cond x (place g.item.id (ids es)) (cond (nat_lt (length es) (length es)) (length es) (place unfiled (ids es)))) (lt-ltb _ _ (place_in es g (b g refl))))
first_there es p (Some f) None n b = go (p f)
  where
    go : (c : Bool) → place (unwrap_or (option_map (λ f. f.item.id) (or_else (cond c (Some f) None) (Some f))) unfiled) (ids es) ≡ cond c (place f.item.id (ids es)) (cond (nat_lt (length es) (length es)) (length es) (cond (nat_lt (place f.item.id (ids es)) (length es)) (place f.item.id (ids es)) (place unfiled (ids es))))
    go true = refl
    go false =
        sym (ap₂ (λ x y. cond x (length es) (cond y (place f.item.id (ids es)) (place unfiled (ids es)))) (le-ltb (length es) (length es) (omega arith)) (lt-ltb _ _ (place_in es f (n f refl))))
first_there es p (Some f) (Some g) n b = go (p f)
  where
    go : (c : Bool) → place (unwrap_or (option_map (λ f. f.item.id) (or_else (cond c (Some f) None) (Some g))) unfiled) (ids es) ≡ cond c (place f.item.id (ids es)) (cond (nat_lt (place g.item.id (ids es)) (length es)) (place g.item.id (ids es)) (cond (nat_lt (place f.item.id (ids es)) (length es)) (place f.item.id (ids es)) (place unfiled (ids es))))
    go true = refl
    go false = sym (ap (λ x. cond x (place g.item.id (ids es)) (cond (nat_lt (place f.item.id (ids es)) (length es)) (place f.item.id (ids es)) (place unfiled (ids es)))) (lt-ltb _ _ (place_in es g (b g refl))))

best_in : (es : List Claim) (x : List ℕ) (f : Claim) → best (filter (λ f. lists f x) es) ≡ Some f → In f es
unfolding best
best_in es x f q = (In-filter (λ f. lists f x) es f (find_in (λ f. list_all (λ g. not (beats g f)) (filter (λ f. lists f x) es)) (filter (λ f. lists f x) es) f q).0).0

next_at : (es : List Claim) (i : ℕ) → AreItems es → i < length es
    → place (proposed_parents es (at es i).item.id) (ids es)
    ≡ chosen_place (has (at es i).item.id roots) (kept_at es (at es i)) (seat es (named es (at es i))) (seat es (best (filter (λ f. lists f (at es i).item.id) es))) (place unfiled (ids es)) (length es)
unfolding proposal kept_at
next_at es i a l = go (has (at es i).item.id roots) refl
  where
    here : claim (at es i).item.id es ≡ Some (at es i)
    here = claim_in es (at es i) a.apart (at_in es i l)

    go : (b : Bool) → has (at es i).item.id roots ≡ b → place (proposed_parents es (at es i).item.id) (ids es)
        ≡ chosen_place b (unwrap_or (option_map (λ f. lists f (at es i).item.id) (named es (at es i))) false) (seat es (named es (at es i))) (seat es (best (filter (λ f. lists f (at es i).item.id) es))) (place unfiled (ids es)) (length es)
    go true h = ap (λ x. place x (ids es)) (proposed_root es (at es i).item.id h) ∙ (place_none places (ids es) a.no_places ∙ length-ids es)
    go false h =
        ap (λ x. place x (ids es)) (proposed_claim es (at es i).item.id (at es i) h here)
        ∙ first_there es (λ f. lists f (at es i).item.id) (named es (at es i)) (best (filter (λ f. lists f (at es i).item.id) es)) (λ f q. (named_in es (at es i) f q).0) (λ f q. best_in es (at es i).item.id f q)

element : {X : Type 0} (f : Claim → X) (es : List Claim) (xs : List X) (i : ℕ) (x : X) → i < length es → xs ≡ map f es → x ≡ get_or xs i x → x ≡ f (at es i)
element f es xs i x l e r = r ∙ (ap (λ w. get_or w i x) e ∙ get_or-map f es i (empty_root places) x l)

pub next_more : (es : List Claim) (next : List ℕ) (listed : List Bool) (claimed listers : List ℕ) (fallback i v : ℕ) (root li : Bool) (ci bi : ℕ) (e : Claim) → AreItems es → i < length es
    → listed ≡ map (kept_at es) es → claimed ≡ map (λ e. seat es (named es e)) es → listers ≡ map (λ e. seat es (best (filter (λ f. lists f e.item.id) es))) es → fallback ≡ place unfiled (ids es)
    → e ≡ get_or es i e → root ≡ has e.item.id roots → li ≡ get_or listed i li → ci ≡ get_or claimed i ci → bi ≡ get_or listers i bi → next ≡ take i (next_of es)
    → v ≡ chosen_place root li ci bi fallback (length es)
    → next ++ v ∷ [] ≡ take (i + 1) (next_of es)
unfolding next_of
next_more es next listed claimed listers fallback i v root li ci bi e a l k c b f at_e r lr cr br n w =
    ap₂ (λ x y. x ++ y ∷ []) n (w ∙ (same ∙ (sym (next_at es i a l) ∙ sym (get_or-map (λ e. place (proposed_parents es e.item.id) (ids es)) es i (empty_root places) 0 l))))
    ∙ sym (take_more (map (λ e. place (proposed_parents es e.item.id) (ids es)) es) i 0 (let m : length (map (λ e. place (proposed_parents es e.item.id) (ids es)) es) ≡ length es = length-map es (λ e. place (proposed_parents es e.item.id) (ids es)) in omega arith))
  where
    rooted : root ≡ has (at es i).item.id roots
    rooted = r ∙ ap (λ z. has z.item.id roots) (get_or_read es i e l at_e (empty_root places))

    same : chosen_place root li ci bi fallback (length es)
        ≡ chosen_place (has (at es i).item.id roots) (kept_at es (at es i)) (seat es (named es (at es i))) (seat es (best (filter (λ f. lists f (at es i).item.id) es))) (place unfiled (ids es)) (length es)
    same =
        ap₂ (λ x y. chosen_place x y ci bi fallback (length es)) rooted (element (kept_at es) es listed i li l k lr)
        ∙ (ap₂ (λ x y. chosen_place (has (at es i).item.id roots) (kept_at es (at es i)) x y fallback (length es)) (element (λ e. seat es (named es e)) es claimed i ci l c cr) (element (λ e. seat es (best (filter (λ f. lists f e.item.id) es))) es listers i bi l b br)
        ∙ ap (λ x. chosen_place (has (at es i).item.id roots) (kept_at es (at es i)) (seat es (named es (at es i))) (seat es (best (filter (λ f. lists f (at es i).item.id) es))) x (length es)) f)

pub next_all : (es : List Claim) (next : List ℕ) (i : ℕ) → length es ≤ i → next ≡ take i (next_of es) → next ≡ next_of es
unfolding next_of
next_all es next i l n = n ∙ take_all i (map (λ e. place (proposed_parents es e.item.id) (ids es)) es) (let m : length (map (λ e. place (proposed_parents es e.item.id) (ids es)) es) ≡ length es = length-map es (λ e. place (proposed_parents es e.item.id) (ids es)) in omega arith)

-- what is read of the folder that an item names
pub named_here : (es : List Claim) (e f : Claim) (p : List ℕ) (i : ℕ) → e.parentid ≡ Some p → Apart (ids es) → i ≡ place p (ids es) → i < length es → f ≡ get_or es i f → is_folder f.item.kind ≡ true → i ≡ seat es (named es e)
named_here es e f p i q a r l g k =
    r ∙ seat_named es e p q a (subst (λ j. j < length es) r l)
    (ap (λ z. is_folder z.item.kind) (sym (get_or_read es i f l g (empty_root places) ∙ ap (at es) r)) ∙ k)

pub named_leaf : (es : List Claim) (e f : Claim) (p : List ℕ) (i : ℕ) → e.parentid ≡ Some p → Apart (ids es) → i ≡ place p (ids es) → i < length es → f ≡ get_or es i f → is_folder f.item.kind ≡ false → length es ≡ seat es (named es e)
named_leaf es e f p i q a r l g k = seat_not_named es e p q a (λ m. ap (λ z. is_folder z.item.kind) (sym (get_or_read es i f l g (empty_root places) ∙ ap (at es) r)) ∙ k)

pub named_nowhere : (es : List Claim) (e : Claim) (p : List ℕ) (i : ℕ) → e.parentid ≡ Some p → Apart (ids es) → i ≡ place p (ids es) → length es ≤ i → length es ≡ seat es (named es e)
named_nowhere es e p i q a r l = seat_not_named es e p q a (λ m. absurd (omega arith))
