-- Taking items one by one.
use Rattle.std.proofs.Common.{◌≡◌, ◌≢◌, ℕ, zero, suc, ◌+◌, ◌-◌, ◌<◌, ◌≤◌, ◌==◌, ◌⊎◌, inl, inr, List, [], ◌∷◌, ◌++◌}
use Rattle.std.proofs.Common.{length, map, take, get_or, set, Bool, true, false, not, cond, ◌&&◌, ◌||◌, refl, sym, ap}
use Rattle.std.proofs.Common.{ap₂, ◌∙◌, subst, arith, eq-eqb, lt-ltb, filter, bytes_eq}
use Rattle.std.specs.List.{flat_map}
use Rattle.std.proofs.lemmas.Bool.{cases_eq, cases_lt, ne_eqb, or_parts, and_parts, false≢true, false_from_ne_true}
use Rattle.std.proofs.lemmas.Bool.{le-ltb}
use Rattle.std.proofs.lemmas.List.{append-nil, append_assoc, map_push, take_more, take_all, get_or_append_left}
use Rattle.std.proofs.lemmas.List.{get_or_push, get_or-map, length-map, length-append, length_push, get_or_read}
use Rattle.std.proofs.lemmas.List.Elements.{filter-append}
use Rattle.ss_record.specs.Ids.{Apart, firsts, has, places, roots}
use Rattle.ss_record.proofs.IdLists.{bytes_eq-refl, bytes_eq-apart, has-nil, has-cons, has-head, has-tail, has-append}
use Rattle.ss_record.proofs.IdLists.{has-filter, has-firsts, Apart-head, Apart-tail}
use Rattle.ss_build.specs.declared.claims.Claim.{Claim}
use Rattle.ss_build.specs.Built.{built_parent, empty_root, ids, is_child}
use Rattle.ss_build.specs.Places.{AreItems, IsTakenSoFar, at, front, is_next, claimed_children, lists_as_told, names}
use Rattle.ss_build.specs.Places.{parents_of, place}
use Rattle.ss_build.proofs.Items.{In_has}
use Rattle.ss_build.proofs.Valid.{length-ids, parent_root, is_child_parts}
use Rattle.ss_build.proofs.Seats.{place_lt, place_at, place_none, at_place, has_at, has_from_place, id_at, at_in}
use Rattle.ss_build.proofs.Seats.{ids_take}
use Rattle.ss_build.proofs.Uppers.{claims_from}
use Rattle.std.proofs.Math.Bool.{or-true, or-false}
use Rattle.ss_text.proofs.Basics.{bytes_eq-sym, bytes_eq-same}
use Rattle.std.proofs.lemmas.Grind.{flat_map-append}

-- ---- one more place

pub names_push : (xs : List (List ℕ)) (order : List ℕ) (i : ℕ) → names xs (order ++ i ∷ []) ≡ names xs order ++ get_or xs i places ∷ []
names_push xs order i = map_push (λ i. get_or xs i places) order i

has-push : (z x : List ℕ) (F : List (List ℕ)) → has z (F ++ x ∷ []) ≡ (has z F || bytes_eq z x)
has-push z x F = has-append z F (x ∷ []) ∙ ap (λ b. has z F || b) (has-cons z x [] ∙ (ap (λ b. bytes_eq z x || b) (has-nil z) ∙ or-false (bytes_eq z x)))

mark_others : (F : List (List ℕ)) (x : List ℕ) (xs : List (List ℕ)) → has x xs ≡ false → map (λ z. has z F) xs ≡ map (λ z. has z (F ++ x ∷ [])) xs
mark_others F x [] h = refl
mark_others F x (y ∷ ys) h =
    let p = or_parts (bytes_eq x y) (has x ys) (sym (has-cons x y ys) ∙ h) in
    ap₂ (λ b bs. b ∷ bs) (sym (has-push y x F ∙ (ap (λ b. has y F || b) (bytes_eq-sym y x ∙ p.0) ∙ or-false (has y F)))) (mark_others F x ys p.1)

mark_set : (F : List (List ℕ)) (xs : List (List ℕ)) (i : ℕ) (d : List ℕ) → Apart xs → i < length xs → set (map (λ z. has z F) xs) i true ≡ map (λ z. has z (F ++ get_or xs i d ∷ [])) xs
mark_set F [] i d a l = absurd (omega arith)
mark_set F (x ∷ xs) zero d a l = ap₂ (λ b bs. b ∷ bs) (sym (has-push x x F ∙ (ap (λ b. has x F || b) (bytes_eq-refl x) ∙ or-true (has x F)))) (mark_others F x xs (Apart-head x xs a))
mark_set F (x ∷ xs) (suc i) d a l =
    ap₂ (λ b bs. b ∷ bs) (sym (has-push x (get_or xs i d) F ∙ (ap (λ b. has x F || b) (bytes_eq-apart x (get_or xs i d) ne) ∙ or-false (has x F)))) (mark_set F xs i d (Apart-tail x xs a) (omega arith))
  where
    ne : x ≢ get_or xs i d
    ne q = false≢true (sym (Apart-head x xs a) ∙ (ap (λ w. has w xs) q ∙ has_at xs i d (omega arith)))

pub taken_push : (xs : List (List ℕ)) (order : List ℕ) (taken : List Bool) (i : ℕ) → Apart xs → i < length xs → IsTakenSoFar xs order taken → IsTakenSoFar xs (order ++ i ∷ []) (set taken i true)
taken_push xs order taken i a l t = record {
  bounded = λ k m. pick k m (cases_lt k (length order));
  marked = ap (λ w. set w i true) t.marked ∙ (mark_set (names xs order) xs i places a l ∙ ap (λ F. map (λ z. has z F) xs) (sym (names_push xs order i)));
}
  where
    pick : (k : ℕ) → k < length (order ++ i ∷ []) → (k < length order) ⊎ (length order ≤ k) → get_or (order ++ i ∷ []) k 0 < length xs
    pick k m (inl q) = let b : get_or order k 0 < length xs = t.bounded k q in let e : get_or (order ++ i ∷ []) k 0 ≡ get_or order k 0 = get_or_append_left order (i ∷ []) 0 k q in omega arith
    pick k m (inr q) =
        let n : length (order ++ i ∷ []) ≡ length order + 1 = length_push order i in
        let e : get_or (order ++ i ∷ []) k 0 ≡ i = get_or_push order i 0 k (omega arith) in
        omega arith

pub none_taken : (xs : List (List ℕ)) (taken : List Bool) → taken ≡ map (λ z. false) xs → IsTakenSoFar xs [] taken
none_taken xs taken e = record { bounded = λ k l. absurd (omega arith); marked = e ∙ nobody xs }
  where
    nobody : (xs : List (List ℕ)) → map (λ z. false) xs ≡ map (λ z. has z []) xs
    nobody [] = refl
    nobody (x ∷ xs) = ap₂ (λ b bs. b ∷ bs) (sym (has-nil x)) (nobody xs)

-- one more id
pub taken_more : (xs ws : List (List ℕ)) (old order : List ℕ) (j i : ℕ) → j < length ws → i ≡ place (get_or ws j places) xs → ((x : List ℕ) → has x ws ≡ true → has x xs ≡ true)
    → names xs order ≡ names xs old ++ take j ws → names xs (order ++ i ∷ []) ≡ names xs old ++ take (j + 1) ws
taken_more xs ws old order j i l q inside e =
    names_push xs order i
    ∙ (ap₂ (λ a b. a ++ b ∷ []) e (ap (λ k. get_or xs k places) q ∙ at_place (get_or ws j places) xs places (inside (get_or ws j places) (has_at ws j places l)))
    ∙ (append_assoc (names xs old) (take j ws) (get_or ws j places ∷ []) ∙ ap (λ w. names xs old ++ w) (sym (take_more ws j places l))))

pub place_inside : (xs ws : List (List ℕ)) (j : ℕ) (d : List ℕ) → j < length ws → ((x : List ℕ) → has x ws ≡ true → has x xs ≡ true) → place (get_or ws j d) xs < length xs
place_inside xs ws j d l inside = place_lt (get_or ws j d) xs (inside (get_or ws j d) (has_at ws j d l))

-- ---- one more child

firsts-push : (xs : List (List ℕ)) (c : List ℕ) → firsts (xs ++ c ∷ []) ≡ firsts xs ++ cond (has c xs) [] (c ∷ [])
firsts-push [] c = ap (λ b. cond b [] (c ∷ [])) (sym (has-nil c))
firsts-push (x ∷ xs) c =
    ap (λ w. x ∷ filter (λ y. not (bytes_eq y x)) w) (firsts-push xs c)
    ∙ (ap (λ w. x ∷ w) (filter-append (λ y. not (bytes_eq y x)) (firsts xs) (cond (has c xs) [] (c ∷ [])) ∙ ap (λ w. filter (λ y. not (bytes_eq y x)) (firsts xs) ++ w) (go (has c xs) (bytes_eq c x) refl))
    ∙ ap (λ b. (x ∷ filter (λ y. not (bytes_eq y x)) (firsts xs)) ++ cond b [] (c ∷ [])) (sym (has-cons c x xs)))
  where
    go : (h b : Bool) → bytes_eq c x ≡ b → filter (λ y. not (bytes_eq y x)) (cond h [] (c ∷ [])) ≡ cond (b || h) [] (c ∷ [])
    go true true e = refl
    go true false e = refl
    go false true e = ap (λ b. cond (not b) (c ∷ []) []) e
    go false false e = ap (λ b. cond (not b) (c ∷ []) []) e

firsts-filter-push : (p : List ℕ → Bool) (xs : List (List ℕ)) (c : List ℕ) → firsts (filter p (xs ++ c ∷ [])) ≡ firsts (filter p xs) ++ cond (p c && not (has c (filter p xs))) (c ∷ []) []
firsts-filter-push p xs c = ap firsts (filter-append p xs (c ∷ [])) ∙ go (p c) (has c (filter p xs)) refl
  where
    go : (b h : Bool) → has c (filter p xs) ≡ h → firsts (filter p xs ++ cond b (c ∷ []) []) ≡ firsts (filter p xs) ++ cond (b && not h) (c ∷ []) []
    go true true e = firsts-push (filter p xs) c ∙ ap (λ b. firsts (filter p xs) ++ cond b [] (c ∷ [])) e
    go true false e = firsts-push (filter p xs) c ∙ ap (λ b. firsts (filter p xs) ++ cond b [] (c ∷ [])) e
    go false h e = ap firsts (append-nil (filter p xs)) ∙ sym (append-nil (firsts (filter p xs)))

pub place_eq : (xs : List (List ℕ)) (y : List ℕ) (i : ℕ) (d : List ℕ) → Apart xs → i < length xs → (place y xs == i) ≡ bytes_eq y (get_or xs i d)
place_eq xs y i d a l = go (cases_eq (place y xs) i)
  where
    go : (place y xs ≡ i) ⊎ (place y xs ≢ i) → (place y xs == i) ≡ bytes_eq y (get_or xs i d)
    go (inl e) = eq-eqb (place y xs) i e ∙ sym (bytes_eq-same y (get_or xs i d) (sym (at_place y xs d (has_from_place y xs (omega arith))) ∙ ap (λ k. get_or xs k d) e))
    go (inr ne) = ne_eqb (place y xs) i ne ∙ sym (bytes_eq-apart y (get_or xs i d) (λ q. ne (ap (λ w. place w xs) q ∙ place_at xs i d a l)))

pub parents_length : (es : List Claim) (parents : List ℕ) → parents ≡ parents_of es → length parents ≡ length es
unfolding parents_of
parents_length es parents e = ap length e ∙ length-map es (λ e. place (built_parent es e.item.id) (ids es))

-- whether the place of an id is that of a child that isn't taken
next_test : (es : List Claim) (parents : List ℕ) (folder : ℕ) (order : List ℕ) (taken : List Bool) (c : List ℕ) → AreItems es → parents ≡ parents_of es → folder < length es → IsTakenSoFar (ids es) order taken
    → is_next parents folder taken (place c (ids es)) ≡ (is_child es (at es folder).item.id c && not (has c (names (ids es) order)))
unfolding parents_of is_child
next_test es parents folder order taken c a e l t = go (has c (ids es)) refl
  where
    s : length (ids es) ≡ length es
    s = length-ids es

    n : length parents ≡ length es
    n = ap length e ∙ length-map es (λ e. place (built_parent es e.item.id) (ids es))

    go : (b : Bool) → has c (ids es) ≡ b → is_next parents folder taken (place c (ids es)) ≡ ((has c (ids es) && bytes_eq (built_parent es c) (at es folder).item.id) && not (has c (names (ids es) order)))
    go true h =
        let i : place c (ids es) < length (ids es) = place_lt c (ids es) h in
        let k : length (ids es) ≡ length es = s in
        let m : length parents ≡ length es = n in
        let here : (at es (place c (ids es))).item.id ≡ c = sym (id_at es (place c (ids es))) ∙ at_place c (ids es) places h in
        let up : (get_or parents (place c (ids es)) 0 == folder) ≡ bytes_eq (built_parent es c) (at es folder).item.id =
        ap (λ w. get_or w (place c (ids es)) 0 == folder) e
        ∙ (ap (λ w. w == folder) (get_or-map (λ e. place (built_parent es e.item.id) (ids es)) es (place c (ids es)) (empty_root places) 0 (omega arith))
        ∙ (ap (λ w. place (built_parent es w) (ids es) == folder) here
        ∙ (place_eq (ids es) (built_parent es c) folder places a.apart (omega arith) ∙ ap (bytes_eq (built_parent es c)) (id_at es folder)))) in
        let had : get_or taken (place c (ids es)) false ≡ has c (names (ids es) order) =
        ap (λ w. get_or w (place c (ids es)) false) t.marked
        ∙ (get_or-map (λ x. has x (names (ids es) order)) (ids es) (place c (ids es)) places false i ∙ ap (λ x. has x (names (ids es) order)) (at_place c (ids es) places h)) in
        ap (λ b. b && ((get_or parents (place c (ids es)) 0 == folder) && not (get_or taken (place c (ids es)) false))) (lt-ltb (place c (ids es)) (length parents) (omega arith))
        ∙ (ap₂ (λ x y. x && not y) up had ∙ sym (ap (λ b. (b && bytes_eq (built_parent es c) (at es folder).item.id) && not (has c (names (ids es) order))) h))
    go false h =
        let k : length (ids es) ≡ length es = s in
        let m : length parents ≡ length es = n in
        let p : place c (ids es) ≡ length (ids es) = place_none c (ids es) h in
        ap (λ b. b && ((get_or parents (place c (ids es)) 0 == folder) && not (get_or taken (place c (ids es)) false))) (le-ltb (place c (ids es)) (length parents) (omega arith))
        ∙ sym (ap (λ b. (b && bytes_eq (built_parent es c) (at es folder).item.id) && not (has c (names (ids es) order))) h)

-- what a folder lists, as far as the loop has come
pub record Listing (es : List Claim) (folder : ℕ) (old order : List ℕ) (taken : List Bool) (cs : List (List ℕ)) : Type 0 where
  pub names_are : names (ids es) order ≡ names (ids es) old ++ firsts (filter (λ x. is_child es (at es folder).item.id x && not (has x (names (ids es) old))) cs)
  pub is_taken : IsTakenSoFar (ids es) order taken

pub child_more : (es : List Claim) (parents : List ℕ) (folder : ℕ) (old order neworder : List ℕ) (taken newtaken : List Bool) (cs : List (List ℕ)) (j i : ℕ) → AreItems es → parents ≡ parents_of es → folder < length es
    → j < length cs → i ≡ place (get_or cs j places) (ids es)
    → neworder ≡ cond (is_next parents folder taken i) (order ++ i ∷ []) order
    → newtaken ≡ cond (is_next parents folder taken i) (set taken i true) taken
    → Listing es folder old order taken (take j cs) → Listing es folder old neworder newtaken (take (j + 1) cs)
child_more es parents folder old order neworder taken newtaken cs j i a e l m q eo et g = go (is_next parents folder taken i) refl
  where
    table : (x y z : Bool) → (x && not (y || z)) ≡ ((x && not y) && not z)
    table true true z = refl
    table true false z = refl
    table false y z = refl

    test : is_next parents folder taken i ≡ ((is_child es (at es folder).item.id (get_or cs j places) && not (has (get_or cs j places) (names (ids es) old))) && not (has (get_or cs j places) (filter (λ x. is_child es (at es folder).item.id x && not (has x (names (ids es) old))) (take j cs))))
    test =
        ap (is_next parents folder taken) q ∙ (next_test es parents folder order taken (get_or cs j places) a e l g.is_taken
        ∙ (ap (λ b. is_child es (at es folder).item.id (get_or cs j places) && not b)
        (ap (has (get_or cs j places)) g.names_are
        ∙ (has-append (get_or cs j places) (names (ids es) old) (firsts (filter (λ x. is_child es (at es folder).item.id x && not (has x (names (ids es) old))) (take j cs)))
        ∙ ap (λ b. has (get_or cs j places) (names (ids es) old) || b) (has-firsts (get_or cs j places) (filter (λ x. is_child es (at es folder).item.id x && not (has x (names (ids es) old))) (take j cs)))))
        ∙ table (is_child es (at es folder).item.id (get_or cs j places)) (has (get_or cs j places) (names (ids es) old)) (has (get_or cs j places) (filter (λ x. is_child es (at es folder).item.id x && not (has x (names (ids es) old))) (take j cs)))))

    longer : firsts (filter (λ x. is_child es (at es folder).item.id x && not (has x (names (ids es) old))) (take (j + 1) cs)) ≡ firsts (filter (λ x. is_child es (at es folder).item.id x && not (has x (names (ids es) old))) (take j cs)) ++ cond (is_next parents folder taken i) (get_or cs j places ∷ []) []
    longer =
        ap (λ w. firsts (filter (λ x. is_child es (at es folder).item.id x && not (has x (names (ids es) old))) w)) (take_more cs j places m)
        ∙ (firsts-filter-push (λ x. is_child es (at es folder).item.id x && not (has x (names (ids es) old))) (take j cs) (get_or cs j places)
        ∙ ap (λ b. firsts (filter (λ x. is_child es (at es folder).item.id x && not (has x (names (ids es) old))) (take j cs)) ++ cond b (get_or cs j places ∷ []) []) (sym test))

    inside : is_next parents folder taken i ≡ true → i < length (ids es)
    inside h = go (cases_lt i (length (ids es)))
      where
        go : (i < length (ids es)) ⊎ (length (ids es) ≤ i) → i < length (ids es)
        go (inl k) = k
        go (inr k) =
            let n : length parents ≡ length es = plen in
            let s : length (ids es) ≡ length es = length-ids es in
            absurd (false≢true (sym (ap (λ b. b && ((get_or parents i 0 == folder) && not (get_or taken i false))) (le-ltb i (length parents) (omega arith))) ∙ h))
          where
            plen : length parents ≡ length es
            plen = parents_length es parents e

    go : (b : Bool) → is_next parents folder taken i ≡ b → Listing es folder old neworder newtaken (take (j + 1) cs)
    go true h =
        let k : i < length (ids es) = inside h in
        let o : neworder ≡ order ++ i ∷ [] = eo ∙ ap (λ b. cond b (order ++ i ∷ []) order) h in
        let t : newtaken ≡ set taken i true = et ∙ ap (λ b. cond b (set taken i true) taken) h in
        record {
          names_are =
              ap (names (ids es)) o ∙ (names_push (ids es) order i
              ∙ (ap₂ (λ x y. x ++ y ∷ []) g.names_are (ap (λ w. get_or (ids es) w places) q ∙ at_place (get_or cs j places) (ids es) places (has_from_place (get_or cs j places) (ids es) (subst (λ w. w < length (ids es)) q k)))
              ∙ (append_assoc (names (ids es) old) (firsts (filter (λ x. is_child es (at es folder).item.id x && not (has x (names (ids es) old))) (take j cs))) (get_or cs j places ∷ [])
              ∙ ap (λ w. names (ids es) old ++ w) (sym (longer ∙ ap (λ b. firsts (filter (λ x. is_child es (at es folder).item.id x && not (has x (names (ids es) old))) (take j cs)) ++ cond b (get_or cs j places ∷ []) []) h)))));
          is_taken = subst (λ w. IsTakenSoFar (ids es) w newtaken) (sym o) (subst (IsTakenSoFar (ids es) (order ++ i ∷ [])) (sym t) (taken_push (ids es) order taken i a.apart k g.is_taken));
        }
    go false h =
        let o : neworder ≡ order = eo ∙ ap (λ b. cond b (order ++ i ∷ []) order) h in
        let t : newtaken ≡ taken = et ∙ ap (λ b. cond b (set taken i true) taken) h in
        record {
          names_are =
              ap (names (ids es)) o ∙ (g.names_are
              ∙ ap (λ w. names (ids es) old ++ w) (sym (longer ∙ (ap (λ b. firsts (filter (λ x. is_child es (at es folder).item.id x && not (has x (names (ids es) old))) (take j cs)) ++ cond b (get_or cs j places ∷ []) []) h ∙ append-nil (firsts (filter (λ x. is_child es (at es folder).item.id x && not (has x (names (ids es) old))) (take j cs)))))));
          is_taken = subst (λ w. IsTakenSoFar (ids es) w newtaken) (sym o) (subst (IsTakenSoFar (ids es) order) (sym t) g.is_taken);
        }

pub none_listed : (es : List Claim) (folder : ℕ) (old : List ℕ) (taken : List Bool) → IsTakenSoFar (ids es) old taken → Listing es folder old old taken []
none_listed es folder old taken t = record { names_are = sym (append-nil (names (ids es) old)); is_taken = t }

pub listed_all : (es : List Claim) (folder : ℕ) (old order : List ℕ) (taken : List Bool) (cs : List (List ℕ)) (j : ℕ) → length cs ≤ j → cs ≡ (at es folder).children → Listing es folder old order taken (take j cs)
    → names (ids es) order ≡ names (ids es) old ++ firsts (filter (λ x. is_child es (at es folder).item.id x && not (has x (names (ids es) old))) (at es folder).children)
listed_all es folder old order taken cs j l e g = g.names_are ∙ ap (λ w. names (ids es) old ++ firsts (filter (λ x. is_child es (at es folder).item.id x && not (has x (names (ids es) old))) w)) (take_all j cs l ∙ e)

pub item_at : (es : List Claim) (i : ℕ) (e : Claim) → i < length es → e ≡ get_or es i e → e ≡ at es i
item_at es i e l r = get_or_read es i e l r (empty_root places)

-- ---- the children of the folders, one folder after the other

listed_is : (es : List Claim) (f : Claim) → firsts (filter (is_child es f.item.id) f.children) ≡ claimed_children es f
unfolding claimed_children
listed_is es f = refl

pub has-listed : (es : List Claim) (f : Claim) (x : List ℕ) → has x (claimed_children es f) ≡ (has x f.children && is_child es f.item.id x)
unfolding claimed_children
has-listed es f x = has-firsts x (filter (is_child es f.item.id) f.children) ∙ has-filter (is_child es f.item.id) x f.children

-- who is listed by one of these stands under it
pub listed_under : (es gs : List Claim) (x : List ℕ) → has x (flat_map (claimed_children es) gs) ≡ true → (has x (ids es) ≡ true) × (has (built_parent es x) (ids gs) ≡ true)
unfolding ids
listed_under es [] x h = absurd (false≢true (sym (has-nil x) ∙ h))
listed_under es (g ∷ gs) x h = go (has x (claimed_children es g)) refl (sym (has-append x (claimed_children es g) (flat_map (claimed_children es) gs)) ∙ h) (listed_under es gs x)
  where
    go : (b : Bool) → has x (claimed_children es g) ≡ b → (b || has x (flat_map (claimed_children es) gs)) ≡ true → (has x (flat_map (claimed_children es) gs) ≡ true → (has x (ids es) ≡ true) × (has (built_parent es x) (ids gs) ≡ true))
        → (has x (ids es) ≡ true) × (has (built_parent es x) (g.item.id ∷ ids gs) ≡ true)
    go true q e ih =
        let c = is_child_parts es g.item.id x (and_parts (has x g.children) (is_child es g.item.id x) (sym (has-listed es g x) ∙ q)).1 in
        (c.0, ap (λ w. has w (g.item.id ∷ ids gs)) c.1 ∙ has-head g.item.id (ids gs))
    go false q e ih = let r = ih e in (r.0, has-tail (built_parent es x) g.item.id (ids gs) r.1)

pub not_in_front : (xs : List (List ℕ)) (j : ℕ) (d : List ℕ) → Apart xs → j < length xs → has (get_or xs j d) (take j xs) ≡ false
not_in_front [] j d a l = absurd (omega arith)
not_in_front (x ∷ xs) zero d a l = has-nil x
not_in_front (x ∷ xs) (suc j) d a l =
    has-cons (get_or xs j d) x (take j xs) ∙ ap₂ (λ b c. b || c) (bytes_eq-apart (get_or xs j d) x ne) (not_in_front xs j d (Apart-tail x xs a) (omega arith))
  where
    ne : get_or xs j d ≢ x
    ne q = false≢true (sym (Apart-head x xs a) ∙ (ap (λ w. has w xs) (sym q) ∙ has_at xs j d (omega arith)))

-- a child of a folder wasn't taken for an earlier one, nor is it a root
not_yet : (es : List Claim) (j : ℕ) (x : List ℕ) → AreItems es → j < length es → is_child es (at es j).item.id x ≡ true → has x (roots ++ flat_map (claimed_children es) (take j es)) ≡ false
not_yet es j x a l h =
    has-append x roots (flat_map (claimed_children es) (take j es)) ∙ ap₂ (λ b c. b || c) (false_from_ne_true (has x roots) no_root) (false_from_ne_true (has x (flat_map (claimed_children es) (take j es))) no_earlier)
  where
    parts : (has x (ids es) ≡ true) × (built_parent es x ≡ (at es j).item.id)
    parts = is_child_parts es (at es j).item.id x h

    no_root : has x roots ≡ true → ⊥
    no_root r = false≢true (sym a.no_places ∙ (ap (λ w. has w (ids es)) (sym (parent_root es x (claims_from es a) r) ∙ parts.1) ∙ In_has es (at es j) (at_in es j l)))

    no_earlier : has x (flat_map (claimed_children es) (take j es)) ≡ true → ⊥
    no_earlier q =
        let s : length (ids es) ≡ length es = length-ids es in
        false≢true (sym (not_in_front (ids es) j places a.apart (omega arith)) ∙ (ap₂ has (id_at es j ∙ sym parts.1) (sym (ids_take j es)) ∙ (listed_under es (take j es) x q).1))

filter_same : (p q : List ℕ → Bool) (xs : List (List ℕ)) → ((x : List ℕ) → p x ≡ q x) → filter p xs ≡ filter q xs
filter_same p q [] h = refl
filter_same p q (x ∷ xs) h = ap₂ (λ b w. cond b (x ∷ w) w) (h x) (filter_same p q xs h)

pub front_more : (es : List Claim) (old order : List ℕ) (j : ℕ) → AreItems es → j < length es → names (ids es) old ≡ roots ++ flat_map (claimed_children es) (take j es)
    → names (ids es) order ≡ names (ids es) old ++ firsts (filter (λ x. is_child es (at es j).item.id x && not (has x (names (ids es) old))) (at es j).children)
    → (names (ids es) order ≡ names (ids es) old ++ claimed_children es (at es j)) × (names (ids es) order ≡ roots ++ flat_map (claimed_children es) (take (j + 1) es))
front_more es old order j a l e g = (one, one ∙ (ap (λ w. w ++ claimed_children es (at es j)) e ∙ (append_assoc roots (flat_map (claimed_children es) (take j es)) (claimed_children es (at es j)) ∙ ap (λ w. roots ++ w) (ap (λ w. flat_map (claimed_children es) (take j es) ++ w) (sym (append-nil (claimed_children es (at es j)))) ∙ (sym (flat_map-append (claimed_children es) (take j es) (at es j ∷ [])) ∙ ap (flat_map (claimed_children es)) (sym (take_more es j (empty_root places) l)))))))
  where
    unlisted : (b : Bool) (x : List ℕ) → is_child es (at es j).item.id x ≡ b → (b && not (has x (names (ids es) old))) ≡ b
    unlisted true x h = ap not (ap (has x) e ∙ not_yet es j x a l h)
    unlisted false x h = refl

    one : names (ids es) order ≡ names (ids es) old ++ claimed_children es (at es j)
    one = g ∙ ap (λ w. names (ids es) old ++ w) (ap firsts (filter_same (λ x. is_child es (at es j).item.id x && not (has x (names (ids es) old))) (is_child es (at es j).item.id) (at es j).children (λ x. unlisted (is_child es (at es j).item.id x) x refl)) ∙ listed_is es (at es j))

pub names_length : (xs : List (List ℕ)) (order : List ℕ) → length (names xs order) ≡ length order
names_length xs order = length-map order (λ i. get_or xs i places)

-- how many a folder lists
pub told_more : (es : List Claim) (told : List Bool) (old order : List ℕ) (j : ℕ) (v : Bool) (n : ℕ) → j < length es → n ≡ length (at es j).children
    → names (ids es) order ≡ names (ids es) old ++ claimed_children es (at es j) → v ≡ (length order - length old == n)
    → told ≡ map (lists_as_told es) (take j es) → told ++ v ∷ [] ≡ map (lists_as_told es) (take (j + 1) es)
unfolding lists_as_told
told_more es told old order j v n l m e w t =
    ap₂ (λ x y. x ++ y ∷ []) t (w ∙ ap₂ (λ x y. x == y) count m)
    ∙ (sym (map_push (λ e. length (claimed_children es e) == length e.children) (take j es) (at es j)) ∙ ap (map (λ e. length (claimed_children es e) == length e.children)) (sym (take_more es j (empty_root places) l)))
  where
    count : length order - length old ≡ length (claimed_children es (at es j))
    count =
        let a : length (names (ids es) order) ≡ length order = names_length (ids es) order in
        let b : length (names (ids es) old) ≡ length old = names_length (ids es) old in
        let c : length (names (ids es) order) ≡ length (names (ids es) old ++ claimed_children es (at es j)) = ap length e in
        let d : length (names (ids es) old ++ claimed_children es (at es j)) ≡ length (names (ids es) old) + length (claimed_children es (at es j)) = length-append (names (ids es) old) (claimed_children es (at es j)) in
        omega arith

pub taken_length : (xs : List (List ℕ)) (order : List ℕ) (taken : List Bool) → IsTakenSoFar xs order taken → length taken ≡ length xs
taken_length xs order taken t = ap length t.marked ∙ length-map xs (λ x. has x (names xs order))

pub front_all : (es : List Claim) (order : List ℕ) (j : ℕ) → length es ≤ j → names (ids es) order ≡ roots ++ flat_map (claimed_children es) (take j es) → names (ids es) order ≡ front es
unfolding front
front_all es order j l e = e ∙ ap (λ w. roots ++ flat_map (claimed_children es) w) (take_all j es l)

pub longer_front : (es : List Claim) (old order : List ℕ) (j : ℕ) → names (ids es) order ≡ names (ids es) old ++ claimed_children es (at es j) → length old ≤ length order
longer_front es old order j e =
    let a : length (names (ids es) order) ≡ length order = names_length (ids es) order in
    let b : length (names (ids es) old) ≡ length old = names_length (ids es) old in
    let c : length (names (ids es) order) ≡ length (names (ids es) old ++ claimed_children es (at es j)) = ap length e in
    let d : length (names (ids es) old ++ claimed_children es (at es j)) ≡ length (names (ids es) old) + length (claimed_children es (at es j)) = length-append (names (ids es) old) (claimed_children es (at es j)) in
    omega arith

pub taken_pushed : (xs : List (List ℕ)) (order neworder : List ℕ) (taken newtaken : List Bool) (i : ℕ) → Apart xs → i < length xs → neworder ≡ order ++ i ∷ [] → newtaken ≡ set taken i true → IsTakenSoFar xs order taken → IsTakenSoFar xs neworder newtaken
taken_pushed xs order neworder taken newtaken i a l eo et t = subst (λ w. IsTakenSoFar xs w newtaken) (sym eo) (subst (IsTakenSoFar xs (order ++ i ∷ [])) (sym et) (taken_push xs order taken i a l t))
