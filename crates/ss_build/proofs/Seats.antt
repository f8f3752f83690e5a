-- Places of ids in a list, and the items there.
use Rattle.std.proofs.Common.{◌≡◌, ◌≢◌, ℕ, zero, suc, ◌+◌, ◌<◌, ◌≤◌, ◌⊎◌, inl, inr, List, [], ◌∷◌, ◌++◌, length, map}
use Rattle.std.proofs.Common.{take, get_or, Bool, true, false, cond, ◌||◌, nat_eq, nat_lt, refl, sym, ap, ap₂, ◌∙◌}
use Rattle.std.proofs.Common.{arith, eq-eqb, bytes_eq, Some, None, unwrap_or}
use Rattle.std.specs.List.{position, position_or_len, list_any}
use Rattle.std.proofs.lemmas.Bool.{false≢true, ltb-false, cases_eq, ne_eqb, or_parts}
use Rattle.std.proofs.lemmas.List.Recursion.{is_position_or_len}
use Rattle.ss_record.specs.Ids.{Apart, has, places}
use Rattle.ss_record.proofs.IdLists.{bytes_eq-refl, bytes_eq-apart, has-nil, has-cons, has-head, has-tail, has-append}
use Rattle.ss_record.proofs.IdLists.{Apart-nil, Apart-cons, Apart-head, Apart-tail}
use Rattle.ss_build.specs.declared.claims.Claim.{Claim}
use Rattle.ss_build.specs.Built.{ids}
use Rattle.ss_build.specs.Places.{at, place}
use Rattle.ss_build.proofs.Items.{In}
use Rattle.ss_text.proofs.Basics.{same_text, bytes_eq-same}

-- ---- places

place_is : (x : List ℕ) (xs : List (List ℕ)) → place x xs ≡ position_or_len (bytes_eq x) xs
place_is x = is_position_or_len (place x) (bytes_eq x) refl (λ y ys. let one : suc (place x ys) ≡ 1 + place x ys = omega arith in ap (cond (bytes_eq x y) 0) one)

pub place_le : (x : List ℕ) (xs : List (List ℕ)) → place x xs ≤ length xs
place_le x [] = omega arith
place_le x (y ∷ ys) = step (bytes_eq x y) (place_le x ys)
  where
    step : (c : Bool) → place x ys ≤ length ys → cond c 0 (suc (place x ys)) ≤ suc (length ys)
    step true h = omega arith
    step false h = omega arith

pub place_or_end : (x : List ℕ) (xs : List (List ℕ)) → unwrap_or (position (bytes_eq x) xs) (length xs) ≡ place x xs
place_or_end x xs =
    go (nat_lt (position_or_len (bytes_eq x) xs) (length xs)) refl (let le : place x xs ≤ length xs = place_le x xs in let is : place x xs ≡ position_or_len (bytes_eq x) xs = place_is x xs in omega arith) ∙ sym (place_is x xs)
  where
    go : (b : Bool) → nat_lt (position_or_len (bytes_eq x) xs) (length xs) ≡ b → position_or_len (bytes_eq x) xs ≤ length xs → unwrap_or (cond b (Some (position_or_len (bytes_eq x) xs)) None) (length xs) ≡ position_or_len (bytes_eq x) xs
    go true e h = refl
    go false e h = let far : length xs ≤ position_or_len (bytes_eq x) xs = ltb-false (position_or_len (bytes_eq x) xs) (length xs) e in omega arith

pub place_none : (x : List ℕ) (xs : List (List ℕ)) → has x xs ≡ false → place x xs ≡ length xs
place_none x [] h = refl
place_none x (y ∷ ys) h = let p = or_parts (bytes_eq x y) (has x ys) (sym (has-cons x y ys) ∙ h) in ap (λ b. cond b 0 (suc (place x ys))) p.0 ∙ ap suc (place_none x ys p.1)

pub place_lt : (x : List ℕ) (xs : List (List ℕ)) → has x xs ≡ true → place x xs < length xs
place_lt x [] h = absurd (false≢true (sym (has-nil x) ∙ h))
place_lt x (y ∷ ys) h = go (bytes_eq x y) (sym (has-cons x y ys) ∙ h) (place_lt x ys)
  where
    go : (b : Bool) → (b || has x ys) ≡ true → (has x ys ≡ true → place x ys < length ys) → cond b 0 (suc (place x ys)) < suc (length ys)
    go true e ih = omega arith
    go false e ih = let l : place x ys < length ys = ih e in omega arith

pub has_from_place : (x : List ℕ) (xs : List (List ℕ)) → place x xs < length xs → has x xs ≡ true
has_from_place x xs l = go (has x xs) refl
  where
    go : (b : Bool) → has x xs ≡ b → b ≡ true
    go true e = refl
    go false e = let far : place x xs ≡ length xs = place_none x xs e in absurd (omega arith)

pub at_place : (x : List ℕ) (xs : List (List ℕ)) (d : List ℕ) → has x xs ≡ true → get_or xs (place x xs) d ≡ x
at_place x [] d h = absurd (false≢true (sym (has-nil x) ∙ h))
at_place x (y ∷ ys) d h = go (bytes_eq x y) refl (sym (has-cons x y ys) ∙ h) (at_place x ys d)
  where
    go : (b : Bool) → bytes_eq x y ≡ b → (b || has x ys) ≡ true → (has x ys ≡ true → get_or ys (place x ys) d ≡ x) → get_or (y ∷ ys) (cond b 0 (suc (place x ys))) d ≡ x
    go true q e ih = sym (same_text x y q)
    go false q e ih = ih e

pub has_at : (xs : List (List ℕ)) (i : ℕ) (d : List ℕ) → i < length xs → has (get_or xs i d) xs ≡ true
has_at [] i d lt = absurd (omega arith)
has_at (x ∷ xs) zero d lt = has-head x xs
has_at (x ∷ xs) (suc i) d lt = has-tail (get_or xs i d) x xs (has_at xs i d (omega arith))

pub place_at : (xs : List (List ℕ)) (i : ℕ) (d : List ℕ) → Apart xs → i < length xs → place (get_or xs i d) xs ≡ i
place_at [] i d a lt = absurd (omega arith)
place_at (x ∷ xs) zero d a lt = ap (λ b. cond b 0 (suc (place x xs))) (bytes_eq-refl x)
place_at (x ∷ xs) (suc i) d a lt = ap (λ b. cond b 0 (suc (place (get_or xs i d) xs))) (bytes_eq-apart (get_or xs i d) x ne) ∙ ap suc (place_at xs i d (Apart-tail x xs a) (omega arith))
  where
    ne : get_or xs i d ≢ x
    ne q = false≢true (sym (Apart-head x xs a) ∙ (ap (λ w. has w xs) (sym q) ∙ has_at xs i d (omega arith)))

pub place_same : (x y : List ℕ) (xs : List (List ℕ)) → has y xs ≡ true → place x xs ≡ place y xs → x ≡ y
place_same x y xs h e =
    let l : place y xs < length xs = place_lt y xs h in
    sym (at_place x xs [] (has_from_place x xs (omega arith))) ∙ (ap (λ k. get_or xs k []) e ∙ at_place y xs [] h)

-- the places of some ids among which x may be
pub any_place : (xs cs : List (List ℕ)) (i : ℕ) (d : List ℕ) → Apart xs → i < length xs → list_any (nat_eq i) (map (λ c. place c xs) cs) ≡ has (get_or xs i d) cs
unfolding has
any_place xs [] i d a l = refl
any_place xs (c ∷ cs) i d a l = ap₂ (λ b e. b || e) (one (cases_eq i (place c xs))) (any_place xs cs i d a l)
  where
    one : (i ≡ place c xs) ⊎ (i ≢ place c xs) → nat_eq i (place c xs) ≡ bytes_eq (get_or xs i d) c
    one (inl e) =
        let lt : place c xs < length xs = omega arith in
        eq-eqb i (place c xs) e ∙ sym (bytes_eq-same (get_or xs i d) c (ap (λ k. get_or xs k d) e ∙ at_place c xs d (has_from_place c xs lt)))
    one (inr ne) = ne_eqb i (place c xs) ne ∙ sym (bytes_eq-apart (get_or xs i d) c (λ q. ne (sym (place_at xs i d a l) ∙ ap (λ w. place w xs) q)))

-- ---- items at places

pub id_at : (es : List Claim) (i : ℕ) → get_or (ids es) i places ≡ (at es i).item.id
unfolding ids
id_at [] i = refl
id_at (e ∷ es) zero = refl
id_at (e ∷ es) (suc i) = id_at es i

pub at_in : (es : List Claim) (i : ℕ) → i < length es → In (at es i) es
unfolding In
at_in [] i l = absurd (omega arith)
at_in (e ∷ es) zero l = inl refl
at_in (e ∷ es) (suc i) l = inr (at_in es i (omega arith))

pub ids_take : (n : ℕ) (es : List Claim) → ids (take n es) ≡ take n (ids es)
unfolding ids
ids_take zero es = refl
ids_take (suc n) [] = refl
ids_take (suc n) (e ∷ es) = ap (λ xs. e.item.id ∷ xs) (ids_take n es)

pub Apart-left : (xs ys : List (List ℕ)) → Apart (xs ++ ys) → Apart xs
Apart-left [] ys a = Apart-nil
Apart-left (x ∷ xs) ys a = Apart-cons x xs (or_parts (has x xs) (has x ys) (sym (has-append x xs ys) ∙ Apart-head x (xs ++ ys) a)).0 (Apart-left xs ys (Apart-tail x (xs ++ ys) a))
