-- All items in order: those under one item are its children, in their order.
use Rattle.std.proofs.Common.{◌≡◌, ◌≢◌, ℕ, ◌⊎◌, inl, inr, List, [], ◌∷◌, ◌++◌, Bool, true, false, not, cond, ◌&&◌, ◌||◌}
use Rattle.std.proofs.Common.{refl, sym, ap, ap₂, ◌∙◌, subst, filter, bytes_eq}
use Rattle.std.specs.List.{flat_map}
use Rattle.std.proofs.lemmas.Bool.{and_parts, false≢true, false_from_ne_true}
use Rattle.std.proofs.lemmas.List.{append-nil}
use Rattle.std.proofs.lemmas.List.Elements.{filter-append}
use Rattle.ss_record.specs.Ids.{Apart, by_id, firsts, has, places, roots}
use Rattle.ss_record.specs.Kinds.{is_folder}
use Rattle.ss_record.proofs.IdLists.{bytes_eq-apart, has-head, has-tail, has-append, has-filter, has-by_id, Apart-nil}
use Rattle.ss_record.proofs.IdLists.{Apart-head, Apart-tail, Apart-append, Apart-filter, Apart-firsts, Apart-by_id}
use Rattle.ss_build.specs.declared.claims.Claim.{Claim}
use Rattle.ss_build.specs.Built.{built_children, built_parent, ids, is_child}
use Rattle.ss_build.specs.Places.{AreItems, front, in_order, claimed_children, rest}
use Rattle.ss_build.proofs.Items.{In, In_has, Apart-roots}
use Rattle.ss_build.proofs.Best.{filter-by_id}
use Rattle.ss_build.proofs.Valid.{parent_root, parent_cases}
use Rattle.ss_build.proofs.Uppers.{claims_from}
use Rattle.ss_build.proofs.Taking.{has-listed, listed_under}
use Rattle.ss_text.proofs.Basics.{same_text, bytes_eq-same}
use Rattle.ss_build.proofs.Stand.{filter_none, filter_all}

-- the parent of x is y
abbrev under : List Claim → List ℕ → List ℕ → Bool
under es y x = bytes_eq (built_parent es x) y

pub filter_alike : (p q : List ℕ → Bool) (xs : List (List ℕ)) → ((x : List ℕ) → has x xs ≡ true → p x ≡ q x) → filter p xs ≡ filter q xs
filter_alike p q [] h = refl
filter_alike p q (x ∷ xs) h = ap₂ (λ b w. cond b (x ∷ w) w) (h x (has-head x xs)) (filter_alike p q xs (λ z k. h z (has-tail z x xs k)))

filter_twice : (p q : List ℕ → Bool) (xs : List (List ℕ)) → filter p (filter q xs) ≡ filter (λ x. p x && q x) xs
filter_twice p q [] = refl
filter_twice p q (x ∷ xs) = go (q x) (p x) (filter_twice p q xs)
  where
    go : (b c : Bool) → filter p (filter q xs) ≡ filter (λ x. p x && q x) xs → filter p (cond b (x ∷ filter q xs) (filter q xs)) ≡ cond (p x && b) (x ∷ filter (λ x. p x && q x) xs) (filter (λ x. p x && q x) xs)
    go true c ih = step (p x)
      where
        step : (d : Bool) → cond d (x ∷ filter p (filter q xs)) (filter p (filter q xs)) ≡ cond (d && true) (x ∷ filter (λ x. p x && q x) xs) (filter (λ x. p x && q x) xs)
        step true = ap (λ w. x ∷ w) ih
        step false = ih
    go false c ih = step (p x)
      where
        step : (d : Bool) → filter p (filter q xs) ≡ cond (d && false) (x ∷ filter (λ x. p x && q x) xs) (filter (λ x. p x && q x) xs)
        step true = ih
        step false = ih

-- ---- whose children are whose

listed_of : (es : List Claim) (f : Claim) (x : List ℕ) → has x (claimed_children es f) ≡ true → (has x f.children ≡ true) × (has x (ids es) ≡ true) × (built_parent es x ≡ f.item.id)
unfolding is_child
listed_of es f x h =
    let p = and_parts (has x f.children) (is_child es f.item.id x) (sym (has-listed es f x) ∙ h) in
    let q = and_parts (has x (ids es)) (bytes_eq (built_parent es x) f.item.id) p.1 in
    (p.0, q.0, same_text (built_parent es x) f.item.id q.1)

-- of all that is listed, what stands under an item is what it lists
listed_part_of : (es gs : List Claim) (f : Claim) → Apart (ids gs) → In f gs → filter (under es f.item.id) (flat_map (claimed_children es) gs) ≡ claimed_children es f
unfolding In ids
listed_part_of es [] f a i = absurd i
listed_part_of es (g ∷ gs) f a (inl q) =
    filter-append (under es f.item.id) (claimed_children es g) (flat_map (claimed_children es) gs)
    ∙ (ap₂ (λ x y. x ++ y)
    (filter_all (under es f.item.id) (claimed_children es g) (λ x h. bytes_eq-same (built_parent es x) f.item.id ((listed_of es g x h).2 ∙ ap (λ z. z.item.id) (sym q))))
    (filter_none (under es f.item.id) (flat_map (claimed_children es) gs) (λ x h. bytes_eq-apart (built_parent es x) f.item.id (λ s. false≢true (sym (Apart-head g.item.id (ids gs) a) ∙ (ap (λ w. has w (ids gs)) (ap (λ z. z.item.id) (sym q) ∙ sym s) ∙ (listed_under es gs x h).1)))))
    ∙ (append-nil (claimed_children es g) ∙ ap (claimed_children es) (sym q)))
listed_part_of es (g ∷ gs) f a (inr i) =
    filter-append (under es f.item.id) (claimed_children es g) (flat_map (claimed_children es) gs)
    ∙ ap₂ (λ x y. x ++ y)
    (filter_none (under es f.item.id) (claimed_children es g) (λ x h. bytes_eq-apart (built_parent es x) f.item.id (λ s. false≢true (sym (Apart-head g.item.id (ids gs) a) ∙ (ap (λ w. has w (ids gs)) (sym (listed_of es g x h).2 ∙ s) ∙ In_has gs f i)))))
    (listed_part_of es gs f (Apart-tail g.item.id (ids gs) a) i)

-- what the front has of an item's children is what it lists
pub front_has : (es : List Claim) (f : Claim) (x : List ℕ) → AreItems es → In f es → built_parent es x ≡ f.item.id → has x (front es) ≡ has x (claimed_children es f)
unfolding front
front_has es f x a i u =
    has-append x roots (flat_map (claimed_children es) es)
    ∙ (ap (λ b. b || has x (flat_map (claimed_children es) es)) (false_from_ne_true (has x roots) no_root)
    ∙ same (has x (flat_map (claimed_children es) es)) (has x (claimed_children es f)) down up)
  where
    no_root : has x roots ≡ true → ⊥
    no_root r = false≢true (sym a.no_places ∙ (ap (λ w. has w (ids es)) (sym (parent_root es x (claims_from es a) r) ∙ u) ∙ In_has es f i))

    same : (b c : Bool) → (b ≡ true → c ≡ true) → (c ≡ true → b ≡ true) → b ≡ c
    same true c d e = sym (d refl)
    same false true d e = e refl
    same false false d e = refl

    into : (p : List ℕ → Bool) (xs : List (List ℕ)) → p x ≡ true → has x xs ≡ true → has x (filter p xs) ≡ true
    into p xs h k = has-filter p x xs ∙ ap₂ (λ b c. b && c) k h

    out : (p : List ℕ → Bool) (xs : List (List ℕ)) → has x (filter p xs) ≡ true → has x xs ≡ true
    out p xs h = (and_parts (has x xs) (p x) (sym (has-filter p x xs) ∙ h)).0

    down : has x (flat_map (claimed_children es) es) ≡ true → has x (claimed_children es f) ≡ true
    down h = ap (has x) (sym (listed_part_of es es f a.apart i)) ∙ into (under es f.item.id) (flat_map (claimed_children es) es) (bytes_eq-same (built_parent es x) f.item.id u) h

    up : has x (claimed_children es f) ≡ true → has x (flat_map (claimed_children es) es) ≡ true
    up h = out (under es f.item.id) (flat_map (claimed_children es) es) (ap (has x) (listed_part_of es es f a.apart i) ∙ h)

-- a root stands under `places`, and an item that is listed doesn't
root_up : (es : List Claim) (x : List ℕ) → AreItems es → has x roots ≡ true → built_parent es x ≡ places
root_up es x a h = parent_root es x (claims_from es a) h

item_no_places : (es : List Claim) (f : Claim) → AreItems es → In f es → f.item.id ≢ places
item_no_places es f a i q = false≢true (sym a.no_places ∙ (ap (λ w. has w (ids es)) (sym q) ∙ In_has es f i))

listed_no_root : (es : List Claim) (x : List ℕ) → AreItems es → has x (flat_map (claimed_children es) es) ≡ true → has x roots ≡ true → ⊥
listed_no_root es x a h r = false≢true (sym a.no_places ∙ (ap (λ w. has w (ids es)) (sym (root_up es x a r)) ∙ (listed_under es es x h).1))

in_order_parts : (es : List Claim) → in_order es ≡ (roots ++ flat_map (claimed_children es) es) ++ rest es
unfolding in_order front
in_order_parts es = refl

pub front_parts : (es : List Claim) → front es ≡ roots ++ flat_map (claimed_children es) es
unfolding front
front_parts es = refl

filter_rest : (es : List Claim) (p : List ℕ → Bool) → filter p (rest es) ≡ by_id (filter (λ x. p x && not (has x (front es))) (ids es))
unfolding rest
filter_rest es p = filter-by_id p (filter (λ x. not (has x (front es))) (ids es)) ∙ ap by_id (filter_twice p (λ x. not (has x (front es))) (ids es))

filter_order : (es : List Claim) (p : List ℕ → Bool) → filter p (in_order es) ≡ (filter p roots ++ filter p (flat_map (claimed_children es) es)) ++ by_id (filter (λ x. p x && not (has x (front es))) (ids es))
filter_order es p =
    ap (filter p) (in_order_parts es)
    ∙ (filter-append p (roots ++ flat_map (claimed_children es) es) (rest es) ∙ ap₂ (λ x y. x ++ y) (filter-append p roots (flat_map (claimed_children es) es)) (filter_rest es p))

pub children_parts : (es : List Claim) (f : Claim) → built_children es f ≡ claimed_children es f ++ by_id (filter (λ x. is_child es f.item.id x && not (has x (claimed_children es f))) (ids es))
unfolding built_children claimed_children
children_parts es f = refl

-- those under an item are its children, in their order
pub under_item : (es : List Claim) (f : Claim) → AreItems es → In f es → filter (λ x. bytes_eq (built_parent es x) f.item.id) (in_order es) ≡ built_children es f
unfolding is_child
under_item es f a i =
    filter_order es (λ x. bytes_eq (built_parent es x) f.item.id)
    ∙ (ap₂ (λ x y. (x ++ y) ++ by_id (filter (λ x. bytes_eq (built_parent es x) f.item.id && not (has x (front es))) (ids es)))
    (filter_none (λ x. bytes_eq (built_parent es x) f.item.id) roots (λ x h. bytes_eq-apart (built_parent es x) f.item.id (λ q. item_no_places es f a i (sym q ∙ root_up es x a h))))
    (listed_part_of es es f a.apart i)
    ∙ (ap (λ w. claimed_children es f ++ by_id w) (filter_alike (λ x. bytes_eq (built_parent es x) f.item.id && not (has x (front es))) (λ x. (has x (ids es) && bytes_eq (built_parent es x) f.item.id) && not (has x (claimed_children es f))) (ids es) alike)
    ∙ sym (children_parts es f)))
  where
    alike : (x : List ℕ) → has x (ids es) ≡ true → (bytes_eq (built_parent es x) f.item.id && not (has x (front es))) ≡ ((has x (ids es) && bytes_eq (built_parent es x) f.item.id) && not (has x (claimed_children es f)))
    alike x h = go (bytes_eq (built_parent es x) f.item.id) refl
      where
        go : (b : Bool) → bytes_eq (built_parent es x) f.item.id ≡ b → (b && not (has x (front es))) ≡ ((has x (ids es) && b) && not (has x (claimed_children es f)))
        go true q = ap not (front_has es f x a i (same_text (built_parent es x) f.item.id q)) ∙ sym (ap (λ b. (b && true) && not (has x (claimed_children es f))) h)
        go false q = sym (ap (λ b. (b && false) && not (has x (claimed_children es f))) h)

-- those under `places` are the roots
pub under_places : (es : List Claim) → AreItems es → filter (λ x. bytes_eq (built_parent es x) places) (in_order es) ≡ roots
under_places es a =
    filter_order es (λ x. bytes_eq (built_parent es x) places)
    ∙ (ap₂ (λ x y. (x ++ y) ++ by_id (filter (λ x. bytes_eq (built_parent es x) places && not (has x (front es))) (ids es)))
    (filter_all (λ x. bytes_eq (built_parent es x) places) roots (λ x h. bytes_eq-same (built_parent es x) places (root_up es x a h)))
    (filter_none (λ x. bytes_eq (built_parent es x) places) (flat_map (claimed_children es) es) (λ x h. bytes_eq-apart (built_parent es x) places (λ q. false≢true (sym a.no_places ∙ (ap (λ w. has w (ids es)) (sym q) ∙ (listed_under es es x h).1)))))
    ∙ (ap (λ w. (roots ++ []) ++ by_id w) (filter_none (λ x. bytes_eq (built_parent es x) places && not (has x (front es))) (ids es) nobody)
    ∙ (append-nil (roots ++ []) ∙ append-nil roots)))
  where
    nobody : (x : List ℕ) → has x (ids es) ≡ true → (bytes_eq (built_parent es x) places && not (has x (front es))) ≡ false
    nobody x h = go (bytes_eq (built_parent es x) places) refl
      where
        rooted : ((has x roots ≡ true) × (built_parent es x ≡ places)) ⊎ ((f : Claim) × In f es × (is_folder f.item.kind ≡ true) × (built_parent es x ≡ f.item.id)) → built_parent es x ≡ places → has x roots ≡ true
        rooted (inl r) p = r.0
        rooted (inr f) p = absurd (item_no_places es f.0 a f.1 (sym f.3 ∙ p))

        go : (b : Bool) → bytes_eq (built_parent es x) places ≡ b → (b && not (has x (front es))) ≡ false
        go true q =
            let r : has x roots ≡ true = rooted (parent_cases es (claims_from es a) x h) (same_text (built_parent es x) places q) in
            ap not (ap (has x) (front_parts es) ∙ (has-append x roots (flat_map (claimed_children es) es) ∙ ap (λ b. b || has x (flat_map (claimed_children es) es)) r))
        go false q = refl

-- ---- each item once

front_in : (es : List Claim) (x : List ℕ) → AreItems es → has x (front es) ≡ true → has x (ids es) ≡ true
front_in es x a h = go (has x roots) refl (sym (has-append x roots (flat_map (claimed_children es) es)) ∙ (sym (ap (has x) (front_parts es)) ∙ h))
  where
    go : (b : Bool) → has x roots ≡ b → (b || has x (flat_map (claimed_children es) es)) ≡ true → has x (ids es) ≡ true
    go true q e = a.roots_in x q
    go false q e = (listed_under es es x e).0

pub has-rest : (es : List Claim) (x : List ℕ) → has x (rest es) ≡ (has x (ids es) && not (has x (front es)))
unfolding rest
has-rest es x = has-by_id x (filter (λ x. not (has x (front es))) (ids es)) ∙ has-filter (λ x. not (has x (front es))) x (ids es)

pub has-in_order : (es : List Claim) (x : List ℕ) → AreItems es → has x (in_order es) ≡ has x (ids es)
has-in_order es x a =
    ap (has x) (in_order_parts es ∙ ap (λ w. w ++ rest es) (sym (front_parts es)))
    ∙ (has-append x (front es) (rest es) ∙ (ap (λ b. has x (front es) || b) (has-rest es x) ∙ table (has x (front es)) (has x (ids es)) (front_in es x a)))
  where
    table : (f i : Bool) → (f ≡ true → i ≡ true) → (f || (i && not f)) ≡ i
    table true i h = sym (h refl)
    table false true h = refl
    table false false h = refl

Apart-listed : (es gs : List Claim) → Apart (ids gs) → Apart (flat_map (claimed_children es) gs)
unfolding ids claimed_children
Apart-listed es [] a = Apart-nil
Apart-listed es (g ∷ gs) a =
    Apart-append (firsts (filter (is_child es g.item.id) g.children)) (flat_map (claimed_children es) gs) (Apart-firsts (filter (is_child es g.item.id) g.children)) (Apart-listed es gs (Apart-tail g.item.id (ids gs) a))
    (λ x h. false_from_ne_true (has x (flat_map (claimed_children es) gs)) (λ k. false≢true (sym (Apart-head g.item.id (ids gs) a) ∙ (ap (λ w. has w (ids gs)) (sym (listed_of es g x h).2) ∙ (listed_under es gs x k).1))))

pub Apart-in_order : (es : List Claim) → AreItems es → Apart (in_order es)
unfolding rest
Apart-in_order es a =
    subst Apart (sym (in_order_parts es))
    (Apart-append (roots ++ flat_map (claimed_children es) es) (by_id (filter (λ x. not (has x (front es))) (ids es)))
    (Apart-append roots (flat_map (claimed_children es) es) Apart-roots (Apart-listed es es a.apart) (λ x h. false_from_ne_true (has x (flat_map (claimed_children es) es)) (λ k. listed_no_root es x a k h)))
    (Apart-by_id _ (Apart-filter (λ x. not (has x (front es))) (ids es) a.apart))
    (λ x h. has-rest es x ∙ (ap (λ b. has x (ids es) && not b) (ap (has x) (front_parts es) ∙ h) ∙ none (has x (ids es)))))
  where
    none : (b : Bool) → (b && false) ≡ false
    none true = refl
    none false = refl
