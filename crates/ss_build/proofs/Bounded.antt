-- Who comes back to itself at all does so within as many steps as there are items.
use Rattle.std.proofs.Common.{◌≡◌, ◌≢◌, ℕ, zero, suc, ◌<◌, List, [], ◌∷◌, length, Bool, true, false, ◌||◌, ◌⊎◌, ◌↔◌}
use Rattle.std.proofs.Common.{inl, inr, refl, sym, ap, ◌∙◌, arith, bytes_eq}
use Rattle.std.specs.List.{list_any}
use Rattle.std.proofs.lemmas.Bool.{false≢true}
use Rattle.ss_build.specs.Built.{comes_back, ids, proposed_parents, walk}
use Rattle.ss_build.specs.declared.claims.Claim.{Claim}
use Rattle.ss_record.specs.Ids.{has, places, roots}
use Rattle.ss_record.specs.Kinds.{is_folder}
use Rattle.ss_tree.specs.Trees.{steps}
use Rattle.ss_record.proofs.IdLists.{has-nil, has-cons, has-head, has-tail}
use Rattle.ss_build.proofs.Items.{In, In_has, AreClaims, places_no_root}
use Rattle.ss_build.proofs.Walks.{top_or_circle}
use Rattle.ss_build.proofs.Valid.{proposed_cases, proposed_none, length-ids}
use Rattle.ss_build.proofs.Stand.{steps_after, walk_steps, circle_top}
use Rattle.ss_text.proofs.Basics.{same_text}

pub any_found : (p : List ℕ → Bool) (xs : List (List ℕ)) → list_any p xs ≡ true → (x : List ℕ) × (has x xs ≡ true) × (p x ≡ true)
any_found p [] h = absurd (false≢true h)
any_found p (x ∷ xs) h = go (p x) refl h (any_found p xs)
  where
    go : (b : Bool) → p x ≡ b → (b || list_any p xs) ≡ true → (list_any p xs ≡ true → (y : List ℕ) × (has y xs ≡ true) × (p y ≡ true)) → (y : List ℕ) × (has y (x ∷ xs) ≡ true) × (p y ≡ true)
    go true q e ih = (x, has-head x xs, q)
    go false q e ih = let r = ih e in (r.0, has-tail r.0 x xs r.1, r.2)

-- the id that is k steps away stands on a walk of more than k ids
steps_on_walk : (f : List ℕ → List ℕ) (k n : ℕ) (x : List ℕ) → k < n → has (steps f k x) (walk f n x) ≡ true
unfolding steps walk
steps_on_walk f k zero x lt = absurd (omega arith)
steps_on_walk f zero (suc n) x lt = has-head x (walk f n (f x))
steps_on_walk f (suc k) (suc n) x lt = has-tail (steps f k (f x)) x (walk f n (f x)) (steps_on_walk f k n (f x) (omega arith))

walk_steps_below : (f : List ℕ → List ℕ) (n : ℕ) (x z : List ℕ) → has z (walk f n x) ≡ true → (k : ℕ) × (k < n) × (steps f k x ≡ z)
unfolding walk steps
walk_steps_below f zero x z h = absurd (false≢true (sym (has-nil z) ∙ h))
walk_steps_below f (suc n) x z h = go (bytes_eq z x) refl (sym (has-cons z x (walk f n (f x))) ∙ h) (walk_steps_below f n (f x) z)
  where
    go : (b : Bool) → bytes_eq z x ≡ b → (b || has z (walk f n (f x))) ≡ true → (has z (walk f n (f x)) ≡ true → (k : ℕ) × (k < n) × (steps f k (f x) ≡ z)) → (k : ℕ) × (k < suc n) × (steps f k x ≡ z)
    go true q k ih = (zero, omega arith, sym (same_text z x q))
    go false q k ih = let r = ih k in (suc r.0, (let lt : r.0 < n = r.1 in omega arith), r.2)

-- where x comes back, it is some steps away from each id on its walk
way_back : (f : List ℕ → List ℕ) (k i : ℕ) (x : List ℕ) → steps f k (f x) ≡ x → (m : ℕ) × (steps f m (steps f i x) ≡ x)
unfolding steps
way_back f k zero x back = (zero, refl)
way_back f k (suc i) x back = go (way_back f k i x back)
  where
    go : (m : ℕ) × (steps f m (steps f i x) ≡ x) → (m : ℕ) × (steps f m (steps f i (f x)) ≡ x)
    go r = at r.0 r.1
      where
        at : (m : ℕ) → steps f m (steps f i x) ≡ x → (n : ℕ) × (steps f n (steps f i (f x)) ≡ x)
        at zero e = (k, ap (steps f k) (steps_after f i x ∙ ap f e) ∙ back)
        at (suc m) e = (m, ap (steps f m) (steps_after f i x) ∙ e)

-- an id further on comes back in as many steps
same_circle : (f : List ℕ → List ℕ) (j m : ℕ) (y : List ℕ) → steps f j (f y) ≡ y → steps f j (f (steps f m y)) ≡ steps f m y
unfolding steps
same_circle f j zero y back = back
same_circle f j (suc m) y back = same_circle f j m (f y) (steps_after f j (f y) ∙ ap f back)

pub comes_back_is : (es : List Claim) → AreClaims es → (x : List ℕ) → has x (ids es) ≡ true → (comes_back (proposed_parents es) (length es) x ≡ true) ↔ ((k : ℕ) × (steps (proposed_parents es) (suc k) x ≡ x))
unfolding comes_back steps
comes_back_is es a x hx = (λ h. walk_steps (proposed_parents es) (length es) (proposed_parents es x) x h, bounded)
  where
    closed : (z : List ℕ) → has z (ids es) ≡ true → (has (proposed_parents es z) (ids es) ≡ true) ⊎ (proposed_parents es z ≡ places)
    closed z h = pick (proposed_cases es a z h)
      where
        pick : ((has z roots ≡ true) × (proposed_parents es z ≡ places)) ⊎ ((f : Claim) × In f es × (is_folder f.item.kind ≡ true) × (proposed_parents es z ≡ f.item.id)) → (has (proposed_parents es z) (ids es) ≡ true) ⊎ (proposed_parents es z ≡ places)
        pick (inl p) = inr p.1
        pick (inr p) = inl (ap (λ w. has w (ids es)) p.3 ∙ In_has es p.0 p.1)

    top_up : proposed_parents es places ≡ places
    top_up = proposed_none es places places_no_root a.no_places

    ne : x ≢ places
    ne p = false≢true (sym a.no_places ∙ (ap (λ w. has w (ids es)) (sym p) ∙ hx))

    bounded : (k : ℕ) × (steps (proposed_parents es) k (proposed_parents es x) ≡ x) → has x (walk (proposed_parents es) (length es) (proposed_parents es x)) ≡ true
    bounded k = go (top_or_circle (ids es) (length es) (let n : length (ids es) ≡ length es = length-ids es in omega arith) places (proposed_parents es) closed x hx)
      where
        go : (has places (walk (proposed_parents es) (suc (length es)) x) ≡ true) ⊎ ((has places (walk (proposed_parents es) (suc (length es)) x) ≡ false) × (list_any (comes_back (proposed_parents es) (length es)) (walk (proposed_parents es) (suc (length es)) x) ≡ true)) → has x (walk (proposed_parents es) (length es) (proposed_parents es x)) ≡ true
        go (inl e) =
            let r = walk_steps (proposed_parents es) (suc (length es)) x places e in
            absurd (ne (circle_top (proposed_parents es) places top_up k.0 r.0 x k.1 r.1))
        go (inr e) =
            let y = any_found (comes_back (proposed_parents es) (length es)) (walk (proposed_parents es) (suc (length es)) x) e.1 in
            let i = walk_steps (proposed_parents es) (suc (length es)) x y.0 y.1 in
            let j = walk_steps_below (proposed_parents es) (length es) (proposed_parents es y.0) y.0 y.2 in
            let m = way_back (proposed_parents es) k.0 i.0 x k.1 in
            let x_at : steps (proposed_parents es) m.0 y.0 ≡ x = ap (steps (proposed_parents es) m.0) (sym i.1) ∙ m.1 in
            let around : steps (proposed_parents es) j.0 (proposed_parents es x) ≡ x = ap (λ w. steps (proposed_parents es) j.0 (proposed_parents es w)) (sym x_at) ∙ (same_circle (proposed_parents es) j.0 m.0 y.0 j.2 ∙ x_at) in
            ap (λ w. has w (walk (proposed_parents es) (length es) (proposed_parents es x))) (sym around) ∙ steps_on_walk (proposed_parents es) j.0 (length es) (proposed_parents es x) j.1
