-- Which items have the children that their records name.
use Rattle.std.proofs.Common.{◌≡◌, ◌≢◌, ℕ, zero, suc, ◌+◌, ◌<◌, ◌≤◌, ◌==◌, ◌⊎◌, inl, inr, List, [], ◌∷◌, ◌++◌, length}
use Rattle.std.proofs.Common.{map, take, replicate, get_or, set, Bool, true, false, not, cond, ◌&&◌, ◌||◌, refl, sym}
use Rattle.std.proofs.Common.{ap, ap₂, ◌∙◌, subst, arith, eq-eqb, filter, bytes_eq}
use Rattle.std.specs.List.{list_any}
use Rattle.std.proofs.lemmas.Bool.{cases_eq, ne_eqb, eqb-true, and_parts, false≢true, false_from_ne_true}
use Rattle.std.proofs.lemmas.List.{append-nil, get_or-map, get_or-set_same, get_or-set_other, length-map, ext_get_or}
use Rattle.std.proofs.lemmas.Slice.Eq.{bytes_eq-Decides, slice_eq-Decides}
use Rattle.ss_record.specs.Ids.{by_id, firsts, has, places, same_list}
use Rattle.ss_record.proofs.IdLists.{has-nil, has-cons, has-head, has-tail, has-append, has-filter, has-by_id}
use Rattle.ss_build.specs.declared.claims.Claim.{Claim}
use Rattle.ss_build.specs.Built.{built_children, built_parent, empty_root, ids, is_child}
use Rattle.ss_build.specs.Places.{AreItems, IsTakenSoFar, as_told, at, front, in_order, claimed_children, lists_as_told}
use Rattle.ss_build.specs.Places.{names, parents_of, place, rest, untaken}
use Rattle.ss_build.proofs.Items.{In}
use Rattle.ss_build.proofs.Valid.{length-ids}
use Rattle.ss_build.proofs.Bounded.{any_found}
use Rattle.ss_build.proofs.Seats.{place_lt, at_place, id_at, at_in}
use Rattle.ss_build.proofs.Taking.{has-listed, none_taken, place_eq}
use Rattle.ss_build.proofs.Ordered.{front_has, has-rest, children_parts}
use Rattle.ss_build.proofs.Stand.{same_list_is}
use Rattle.ss_text.proofs.Basics.{same_text, length-filter_le}

-- ---- what is left

pub untaken_all : (F xs : List (List ℕ)) → untaken xs (map (λ x. has x F) xs) ≡ filter (λ x. not (has x F)) xs
untaken_all F [] = refl
untaken_all F (x ∷ xs) = go (has x F) (untaken_all F xs)
  where
    go : (b : Bool) → untaken xs (map (λ x. has x F) xs) ≡ filter (λ x. not (has x F)) xs → cond b (untaken xs (map (λ x. has x F) xs)) (x ∷ untaken xs (map (λ x. has x F) xs)) ≡ cond (not b) (x ∷ filter (λ x. not (has x F)) xs) (filter (λ x. not (has x F)) xs)
    go true ih = ih
    go false ih = ap (λ w. x ∷ w) ih

pub untaken_more : (xs : List (List ℕ)) (ts : List Bool) (i : ℕ) (d : List ℕ) (e : Bool) → i < length xs → i < length ts
    → untaken (take (i + 1) xs) (take (i + 1) ts) ≡ cond (get_or ts i e) (untaken (take i xs) (take i ts)) (untaken (take i xs) (take i ts) ++ get_or xs i d ∷ [])
untaken_more [] ts i d e l m = absurd (omega arith)
untaken_more (x ∷ xs) [] i d e l m = absurd (omega arith)
untaken_more (x ∷ xs) (t ∷ ts) zero d e l m = refl
untaken_more (x ∷ xs) (t ∷ ts) (suc i) d e l m =
    let n : suc i + 1 ≡ suc (i + 1) = omega arith in
    ap (λ k. untaken (take k (x ∷ xs)) (take k (t ∷ ts))) n ∙ go t (get_or ts i e) (untaken_more xs ts i d e (omega arith) (omega arith))
  where
    go : (t b : Bool) → untaken (take (i + 1) xs) (take (i + 1) ts) ≡ cond b (untaken (take i xs) (take i ts)) (untaken (take i xs) (take i ts) ++ get_or xs i d ∷ [])
        → cond t (untaken (take (i + 1) xs) (take (i + 1) ts)) (x ∷ untaken (take (i + 1) xs) (take (i + 1) ts))
        ≡ cond b (cond t (untaken (take i xs) (take i ts)) (x ∷ untaken (take i xs) (take i ts))) (cond t (untaken (take i xs) (take i ts)) (x ∷ untaken (take i xs) (take i ts)) ++ get_or xs i d ∷ [])
    go true true ih = ih
    go true false ih = ih
    go false true ih = ap (λ w. x ∷ w) ih
    go false false ih = ap (λ w. x ∷ w) ih

replicate_map : (xs : List (List ℕ)) (b : Bool) → replicate (length xs) b ≡ map (λ z. b) xs
replicate_map [] b = refl
replicate_map (x ∷ xs) b = ap (λ w. b ∷ w) (replicate_map xs b)

pub fresh_taken : (xs : List (List ℕ)) (taken : List Bool) (n : ℕ) → length xs ≡ n → taken ≡ replicate n false → IsTakenSoFar xs [] taken
fresh_taken xs taken n q e = none_taken xs taken (e ∙ (ap (λ k. replicate k false) (sym q) ∙ replicate_map xs false))

-- ---- one more that is left

pub untell_more : (old kept new : List Bool) (parents : List ℕ) (s i : ℕ) (was : Bool) → i < length kept → length kept ≡ length old
    → get_or kept i false ≡ (get_or old i false && not was)
    → new ≡ set kept (get_or parents s (length kept)) false
    → get_or new i false ≡ (get_or old i false && not (was || (get_or parents s (length old) == i)))
untell_more old kept new parents s i was l n h e = ap (λ w. get_or w i false) e ∙ (ap (λ k. get_or (set kept (get_or parents s k) false) i false) n ∙ go (cases_eq (get_or parents s (length old)) i))
  where
    none : (b c : Bool) → false ≡ (b && not (c || true))
    none true true = refl
    none true false = refl
    none false c = refl

    or_false : (b : Bool) → (b || false) ≡ b
    or_false true = refl
    or_false false = refl

    go : (get_or parents s (length old) ≡ i) ⊎ (get_or parents s (length old) ≢ i) → get_or (set kept (get_or parents s (length old)) false) i false ≡ (get_or old i false && not (was || (get_or parents s (length old) == i)))
    go (inl q) =
        ap (λ k. get_or (set kept k false) i false) q ∙ (get_or-set_same kept i false false l ∙ (none (get_or old i false) was ∙ ap (λ b. get_or old i false && not (was || b)) (sym (eq-eqb (get_or parents s (length old)) i q))))
    go (inr ne) =
        get_or-set_other kept (get_or parents s (length old)) i false false (λ q. ne (sym q))
        ∙ (h ∙ ap (λ b. get_or old i false && not b) (sym (ap (λ b. was || b) (ne_eqb (get_or parents s (length old)) i ne) ∙ or_false was)))

-- ---- lists that are whole

le-firsts : (xs : List (List ℕ)) → length (firsts xs) ≤ length xs
le-firsts [] = omega arith
le-firsts (x ∷ xs) =
    let a : length (firsts xs) ≤ length xs = le-firsts xs in
    let b : length (filter (λ y. not (bytes_eq y x)) (firsts xs)) ≤ length (firsts xs) = length-filter_le (λ y. not (bytes_eq y x)) (firsts xs) in
    omega arith

filter_whole : {X : Type 0} (p : X → Bool) (xs : List X) → length (filter p xs) ≡ length xs → filter p xs ≡ xs
filter_whole p [] e = refl
filter_whole {X} p (x ∷ xs) e = go (p x) e (filter_whole p xs) (length-filter_le p xs)
  where
    go : (b : Bool) → length (cond b (x ∷ filter p xs) (filter p xs)) ≡ suc (length xs) → (length (filter p xs) ≡ length xs → filter p xs ≡ xs) → length (filter p xs) ≤ length xs → cond b (x ∷ filter p xs) (filter p xs) ≡ x ∷ xs
    go true e ih h = ap (λ w. x ∷ w) (ih (omega arith))
    go false e ih h = absurd (omega arith)

firsts_whole : (xs : List (List ℕ)) → length (firsts xs) ≡ length xs → firsts xs ≡ xs
firsts_whole [] e = refl
firsts_whole (x ∷ xs) e =
    let a : length (firsts xs) ≤ length xs = le-firsts xs in
    let b : length (filter (λ y. not (bytes_eq y x)) (firsts xs)) ≤ length (firsts xs) = length-filter_le (λ y. not (bytes_eq y x)) (firsts xs) in
    let s : suc (length (filter (λ y. not (bytes_eq y x)) (firsts xs))) ≡ suc (length xs) = e in
    ap (λ w. x ∷ w) (filter_whole (λ y. not (bytes_eq y x)) (firsts xs) (omega arith) ∙ firsts_whole xs (omega arith))

listed_whole : (es : List Claim) (f : Claim) → length (claimed_children es f) ≡ length f.children → claimed_children es f ≡ f.children
unfolding claimed_children
listed_whole es f e =
    let a : length (firsts (filter (is_child es f.item.id) f.children)) ≤ length (filter (is_child es f.item.id) f.children) = le-firsts (filter (is_child es f.item.id) f.children) in
    let b : length (filter (is_child es f.item.id) f.children) ≤ length f.children = length-filter_le (is_child es f.item.id) f.children in
    firsts_whole (filter (is_child es f.item.id) f.children) (omega arith) ∙ filter_whole (is_child es f.item.id) f.children (omega arith)

is_same_list : (xs ys : List (List ℕ)) → xs ≡ ys → same_list xs ys ≡ true
unfolding same_list
is_same_list xs ys e = (slice_eq-Decides bytes_eq-Decides xs ys (same_list xs ys) refl).1 e

none_is : (xs : List (List ℕ)) → ((x : List ℕ) → has x xs ≡ true → ⊥) → xs ≡ []
none_is [] h = refl
none_is (x ∷ xs) h = absurd (h x (has-head x xs))

any_from : (p : List ℕ → Bool) (xs : List (List ℕ)) (x : List ℕ) → has x xs ≡ true → p x ≡ true → list_any p xs ≡ true
any_from p [] x h k = absurd (false≢true (sym (has-nil x) ∙ h))
any_from p (y ∷ ys) x h k = go (bytes_eq x y) refl (sym (has-cons x y ys) ∙ h) (any_from p ys x)
  where
    later : {c : Bool} (b : Bool) → c ≡ true → (b || c) ≡ true
    later true e = refl
    later false e = e

    go : (b : Bool) → bytes_eq x y ≡ b → (b || has x ys) ≡ true → (has x ys ≡ true → p x ≡ true → list_any p ys ≡ true) → (p y || list_any p ys) ≡ true
    go true q e ih = ap (λ b. b || list_any p ys) (ap p (sym (same_text x y q)) ∙ k)
    go false q e ih = later (p y) (ih e k)

-- ---- an item has the children that its record names where it lists as many, and none of them is left

pub told_is : (es : List Claim) (f : Claim) → AreItems es → In f es → (lists_as_told es f && not (list_any (λ x. bytes_eq (built_parent es x) f.item.id) (rest es))) ≡ as_told es f
unfolding lists_as_told as_told is_child
told_is es f a i = go (list_any (λ x. bytes_eq (built_parent es x) f.item.id) (rest es)) refl
  where
    others : List (List ℕ)
    others = by_id (filter (λ x. (has x (ids es) && bytes_eq (built_parent es x) f.item.id) && not (has x (claimed_children es f))) (ids es))

    has-others : (x : List ℕ) → has x others ≡ (has x (ids es) && ((has x (ids es) && bytes_eq (built_parent es x) f.item.id) && not (has x (claimed_children es f))))
    has-others x = has-by_id x (filter (λ x. (has x (ids es) && bytes_eq (built_parent es x) f.item.id) && not (has x (claimed_children es f))) (ids es)) ∙ has-filter (λ x. (has x (ids es) && bytes_eq (built_parent es x) f.item.id) && not (has x (claimed_children es f))) x (ids es)

    parts : built_children es f ≡ claimed_children es f ++ others
    parts = children_parts es f

    and_false : (b : Bool) → (b && false) ≡ false
    and_false true = refl
    and_false false = refl

    -- one that is left isn't among those that are listed
    left_out : (x : List ℕ) → has x (rest es) ≡ true → bytes_eq (built_parent es x) f.item.id ≡ true → (has x (ids es) ≡ true) × (has x (claimed_children es f) ≡ false)
    left_out x h q =
        let p = and_parts (has x (ids es)) (not (has x (front es))) (sym (has-rest es x) ∙ h) in
        (p.0, sym (front_has es f x a i (same_text (built_parent es x) f.item.id q)) ∙ not_true (has x (front es)) p.1)
      where
        not_true : (b : Bool) → not b ≡ true → b ≡ false
        not_true true e = absurd (false≢true e)
        not_true false e = refl

    some_left : list_any (λ x. bytes_eq (built_parent es x) f.item.id) (rest es) ≡ true → same_list (built_children es f) f.children ≡ false
    some_left h = false_from_ne_true (same_list (built_children es f) f.children) (λ s.
        let r = any_found (λ x. bytes_eq (built_parent es x) f.item.id) (rest es) h in
        let o = left_out r.0 r.1 r.2 in
        let in_others : has r.0 others ≡ true = has-others r.0 ∙ (ap₂ (λ b c. b && ((b && bytes_eq (built_parent es r.0) f.item.id) && not c)) o.0 o.1 ∙ ap (λ b. true && ((true && b) && true)) r.2) in
        let listed_too : has r.0 f.children ≡ true = ap (has r.0) (sym (same_list_is (built_children es f) f.children s) ∙ parts) ∙ (has-append r.0 (claimed_children es f) others ∙ either (has r.0 (claimed_children es f)) in_others) in
        false≢true (sym o.1 ∙ (has-listed es f r.0 ∙ (ap₂ (λ b c. b && (c && bytes_eq (built_parent es r.0) f.item.id)) listed_too o.0 ∙ r.2))))
      where
        either : {c : Bool} (b : Bool) → c ≡ true → (b || c) ≡ true
        either true e = refl
        either false e = e

    none_left : list_any (λ x. bytes_eq (built_parent es x) f.item.id) (rest es) ≡ false → built_children es f ≡ claimed_children es f
    none_left h = parts ∙ (ap (λ w. claimed_children es f ++ w) (none_is others nobody) ∙ append-nil (claimed_children es f))
      where
        nobody : (x : List ℕ) → has x others ≡ true → ⊥
        nobody x k =
            let p = and_parts (has x (ids es)) _ (sym (has-others x) ∙ k) in
            let q = and_parts (has x (ids es) && bytes_eq (built_parent es x) f.item.id) (not (has x (claimed_children es f))) p.1 in
            let u = and_parts (has x (ids es)) (bytes_eq (built_parent es x) f.item.id) q.0 in
            let in_rest : has x (rest es) ≡ true = has-rest es x ∙ ap₂ (λ b c. b && not c) p.0 (front_has es f x a i (same_text (built_parent es x) f.item.id u.1)) ∙ q.1 in
            false≢true (sym h ∙ any_from (λ x. bytes_eq (built_parent es x) f.item.id) (rest es) x in_rest u.1)

    same_bools : (b c : Bool) → (b ≡ true → c ≡ true) → (c ≡ true → b ≡ true) → b ≡ c
    same_bools true c d e = sym (d refl)
    same_bools false true d e = e refl
    same_bools false false d e = refl

    and_true : (b : Bool) → (b && true) ≡ b
    and_true true = refl
    and_true false = refl

    go : (b : Bool) → list_any (λ x. bytes_eq (built_parent es x) f.item.id) (rest es) ≡ b → ((length (claimed_children es f) == length f.children) && not b) ≡ same_list (built_children es f) f.children
    go true h = and_false (length (claimed_children es f) == length f.children) ∙ sym (some_left h)
    go false h =
        and_true (length (claimed_children es f) == length f.children)
        ∙ same_bools (length (claimed_children es f) == length f.children) (same_list (built_children es f) f.children)
        (λ e. is_same_list (built_children es f) f.children (none_left h ∙ listed_whole es f (eqb-true (length (claimed_children es f)) (length f.children) e)))
        (λ e. eq-eqb (length (claimed_children es f)) (length f.children) (ap length (sym (none_left h) ∙ same_list_is (built_children es f) f.children e)))

-- the parents of those that are left, by their places
left_at : (es : List Claim) (parents : List ℕ) (i n : ℕ) (xs : List (List ℕ)) → AreItems es → parents ≡ parents_of es → i < length es → ((x : List ℕ) → has x xs ≡ true → has x (ids es) ≡ true)
    → list_any (λ s. get_or parents s n == i) (map (λ x. place x (ids es)) xs) ≡ list_any (λ x. bytes_eq (built_parent es x) (at es i).item.id) xs
unfolding parents_of
left_at es parents i n [] a e l sub = refl
left_at es parents i n (x ∷ xs) a e l sub =
    let h : has x (ids es) ≡ true = sub x (has-head x xs) in
    let k : place x (ids es) < length (ids es) = place_lt x (ids es) h in
    let s : length (ids es) ≡ length es = length-ids es in
    ap₂ (λ b c. b || c)
    (ap (λ w. get_or w (place x (ids es)) n == i) e
    ∙ (ap (λ w. w == i) (get_or-map (λ e. place (built_parent es e.item.id) (ids es)) es (place x (ids es)) (empty_root places) n (omega arith))
    ∙ (ap (λ w. place (built_parent es w) (ids es) == i) (sym (id_at es (place x (ids es))) ∙ at_place x (ids es) places h)
    ∙ (place_eq (ids es) (built_parent es x) i places a.apart (omega arith) ∙ ap (bytes_eq (built_parent es x)) (id_at es i)))))
    (left_at es parents i n xs a e l (λ z q. sub z (has-tail z x xs q)))

pub told_all : (es : List Claim) (parents : List ℕ) (told new : List Bool) (seats : List ℕ) → AreItems es → parents ≡ parents_of es → told ≡ map (lists_as_told es) es → seats ≡ map (λ x. place x (ids es)) (rest es)
    → length new ≡ length told → ((i : ℕ) → i < length told → get_or new i false ≡ (get_or told i false && not (list_any (λ s. get_or parents s (length told) == i) seats)))
    → new ≡ map (as_told es) es
told_all es parents told new seats a e t q n h =
    ext_get_or false new (map (as_told es) es) (n ∙ (ap length t ∙ (length-map es (lists_as_told es) ∙ sym (length-map es (as_told es)))))
    (λ i l.
    let m : length told ≡ length es = ap length t ∙ length-map es (lists_as_told es) in
    let k : i < length es = omega arith in
    h i (omega arith)
    ∙ (ap₂ (λ b c. b && not c)
    (ap (λ w. get_or w i false) t ∙ get_or-map (lists_as_told es) es i (empty_root places) false k)
    (ap (list_any (λ s. get_or parents s (length told) == i)) q ∙ left_at es parents i (length told) (rest es) a e k (λ x r. (and_parts (has x (ids es)) (not (has x (front es))) (sym (has-rest es x) ∙ r)).0))
    ∙ (told_is es (at es i) a (at_in es i k) ∙ sym (get_or-map (as_told es) es i (empty_root places) false k))))

pub left_is : (es : List Claim) (order : List ℕ) (taken : List Bool) (left : List (List ℕ)) → IsTakenSoFar (ids es) order taken → names (ids es) order ≡ front es → left ≡ by_id (untaken (ids es) taken) → left ≡ rest es
unfolding rest
left_is es order taken left t f e =
    e ∙ ap by_id (ap (untaken (ids es)) t.marked ∙ (untaken_all (names (ids es) order) (ids es) ∙ ap (λ F. filter (λ x. not (has x F)) (ids es)) f))

pub left_inside : (es : List Claim) (ws keys : List (List ℕ)) → ws ≡ rest es → keys ≡ ids es → (x : List ℕ) → has x ws ≡ true → has x keys ≡ true
left_inside es ws keys e k x h = ap (has x) k ∙ (and_parts (has x (ids es)) (not (has x (front es))) (sym (has-rest es x) ∙ (ap (has x) (sym e) ∙ h))).0

pub order_is : (es : List Claim) (keys ws : List (List ℕ)) (old order : List ℕ) → keys ≡ ids es → names (ids es) old ≡ front es → ws ≡ rest es → names keys order ≡ names keys old ++ ws → names (ids es) order ≡ in_order es
unfolding in_order
order_is es keys ws old order k f e n = subst (λ w. names w order ≡ names w old ++ ws) k n ∙ ap₂ (λ a b. a ++ b) f e
