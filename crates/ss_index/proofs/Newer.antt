-- How many rows of a collection a walk meets, by how many there are in a copy of all rows.
use Rattle.std.specs.Prelude.{◌≡◌, ◌≤◌, ◌+◌, ℕ, Bool, true, false, cond, List, [], ◌∷◌, length, filter, bytes_eq}
use Rattle.std.specs.List.{count_by}
use Rattle.std.proofs.Common.{sym, ap, ◌∙◌, subst, arith}
use Rattle.std.proofs.lemmas.List.Sums.{length-filter}
use Rattle.ss_text.specs.Texts.{IsReordering}
use Rattle.ss_bso.specs.declared.rows.Row.{Row}
use Rattle.ss_bso.specs.Limits.{rows_of}
use Rattle.ss_bso.proofs.Reordering.{reordered-filter, length-reordered}

less-both : {X : Type 0} (b : Bool) (x : X) (xs ys : List X) → length xs ≤ length ys → length (cond b (x ∷ xs) xs) ≤ length (cond b (x ∷ ys) ys)
less-both true x xs ys h = omega (arith, h)
less-both false x xs ys h = h

less-one : {X : Type 0} (b : Bool) (x : X) (xs ys : List X) → length xs ≤ length ys → length xs ≤ length (cond b (x ∷ ys) ys)
less-one true x xs ys h = omega (arith, h)
less-one false x xs ys h = h

less-step : {X : Type 0} (p : X → Bool) (b : Bool) (x : X) (some xs : List X) → length (filter p some) ≤ length (filter p xs) → length (filter p (cond b (x ∷ some) some)) ≤ length (filter p (x ∷ xs))
less-step p true x some xs h = less-both (p x) x (filter p some) (filter p xs) h
less-step p false x some xs h = less-one (p x) x (filter p some) (filter p xs) h

fewer : {X : Type 0} (p q : X → Bool) (xs : List X) → length (filter p (filter q xs)) ≤ length (filter p xs)
fewer p q [] = omega arith
fewer p q (x ∷ xs) = less-step p (q x) x (filter q xs) xs (fewer p q xs)

pub fewer_of : (p : Row → Bool) (collection : List ℕ) (rows others : List Row) → IsReordering others rows → count_by p (rows_of collection others) ≤ count_by p rows
fewer_of p collection rows others same =
    let few : length (filter p (rows_of collection others)) ≤ length (filter p others) = fewer p (λ row. bytes_eq row.collection collection) others in
    let one = length-filter p (rows_of collection others) in
    let two = length-filter p rows in
    let three = length-reordered (reordered-filter p same) in
    omega (arith, few, one, two, three)
