-- What is gathered from the last to the first.
use Rattle.std.specs.Prelude.{◌≡◌, ℕ, ◌+◌, ◌-◌, ◌<◌, ◌≤◌, Bool, true, false, not, cond, ◌&&◌, ◌||◌, List, [], ◌∷◌, ◌++◌}
use Rattle.std.specs.Prelude.{drop, take, length, filter, filter_map, refl, Some, None}
use Rattle.std.specs.List.{cons_option}
use Rattle.std.proofs.Common.{sym, ap, ◌∙◌, arith, add-one, append_assoc, drop-cons, get_or}
use Rattle.std.proofs.lemmas.List.{append-nil, take_more}
use Rattle.std.proofs.lemmas.List.Elements.{filter_map-append}
use Rattle.ss_bso.specs.declared.rows.Row.{Row}
use Rattle.ss_bso.specs.declared.account.Staged.{Staged}
use Rattle.ss_bso.specs.declared.changes.BatchChange.{BatchChange}
use Rattle.ss_bso.specs.declared.changes.RowChange.{RowChange}
use Rattle.ss_bso.specs.declared.changes.RowChange.TheVariants as row
use Rattle.ss_bso.specs.declared.changes.CollectionChange.{CollectionChange}
use Rattle.ss_bso.specs.declared.changes.CollectionChange.TheVariants as collection
use Rattle.ss_bso.specs.Changes.{begun_by}
use Rattle.ss_keeper.specs.Batches.{with_begun}
use Rattle.ss_keeper.specs.Together.{is_set, is_touched, last_puts, last_times, with_put, with_time}

-- the element before a place
pub back-one : {X : Type 0} (xs : List X) (n : ℕ) (x : X) → 0 < n → n ≤ length xs → x ≡ get_or xs (n - 1) x → drop (n - 1) xs ≡ x ∷ drop n xs
back-one xs n x some within e =
    let k : ℕ = n - 1 in
    let next : k + 1 ≡ n = omega (arith, some) in
    drop-cons xs k x (omega (arith, some, within)) ∙ (λ i. sym e i ∷ drop ((sym (add-one k) ∙ next) i) xs)

pub left-one : (a d t T : Bool) → (a && (not d && not (t || T))) ≡ (not t && (a && (not d && not T)))
left-one true true true T = refl
left-one true true false T = refl
left-one true false true T = refl
left-one true false false T = refl
left-one false d true T = refl
left-one false d false T = refl

pub both-not : (p q r : Bool) → (not p && (not q && r)) ≡ (not (p || q) && r)
both-not true q r = refl
both-not false q r = refl

one-put : {X : Type 0} (stays keep first : X → Bool) (x : X) (rest tail : List X) → stays x ≡ (keep x && first x)
    → cond (stays x) (x ∷ (filter first rest ++ tail)) (filter first rest ++ tail) ≡ filter first (cond (keep x) (x ∷ rest) rest) ++ tail
one-put stays keep first x rest tail h =
    elim (keep x) as (λ v. stays x ≡ (v && first x) → cond (stays x) (x ∷ (filter first rest ++ tail)) (filter first rest ++ tail) ≡ filter first (cond v (x ∷ rest) rest) ++ tail) [
      | true ↦ (λ e. ap (λ b. cond b (x ∷ (filter first rest ++ tail)) (filter first rest ++ tail)) e ∙ kept (first x))
      | false ↦ (λ e. ap (λ b. cond b (x ∷ (filter first rest ++ tail)) (filter first rest ++ tail)) e)
    ] h
  where
    kept : (b : Bool) → cond b (x ∷ (filter first rest ++ tail)) (filter first rest ++ tail) ≡ cond b (x ∷ filter first rest) (filter first rest) ++ tail
    kept true = refl
    kept false = refl

-- one change of rows before those that were gathered
pub put-one : (stays first : Row → Bool) (change : RowChange) (changes : List RowChange) (tail : List Row) → ((row : Row) → stays row ≡ (not (is_touched changes row) && first row))
    → with_put stays change (filter first (last_puts changes) ++ tail) ≡ filter first (last_puts (change ∷ changes)) ++ tail
put-one stays first (row.Put new) changes tail h = one-put stays (λ row. not (is_touched changes row)) first new (last_puts changes) tail (h new)
put-one stays first (row.Drop collection id) changes tail h = refl

-- one change of times before those that were gathered
pub time-one : (stays first : List ℕ → Bool) (change : CollectionChange) (changes : List CollectionChange) (tail : List (List ℕ × ℕ)) → ((name : List ℕ) → stays name ≡ (not (is_set changes name) && first name))
    → with_time stays change (filter (λ entry. first entry.0) (last_times changes) ++ tail) ≡ filter (λ entry. first entry.0) (last_times (change ∷ changes)) ++ tail
time-one stays first (collection.Set name time) changes tail h =
    one-put (λ (entry : List ℕ × ℕ). stays entry.0) (λ entry. not (is_set changes entry.0)) (λ entry. first entry.0) (name, time) (last_times changes) tail (h name)
time-one stays first (collection.Drop name) changes tail h = refl

-- one more batch that may have begun
pub begun-more : (start held new : List Staged) (changes : List BatchChange) (k : ℕ) (change : BatchChange) → k < length changes → change ≡ get_or changes k change
    → held ≡ start ++ filter_map begun_by (take k changes) → new ≡ with_begun (begun_by change) held → new ≡ start ++ filter_map begun_by (take (k + 1) changes)
begun-more start held new changes k change lt at was is =
    is
    ∙ ap (with_begun (begun_by change)) was
    ∙ with-last (start ++ filter_map begun_by (take k changes))
    ∙ append_assoc start (filter_map begun_by (take k changes)) (filter_map begun_by (change ∷ []))
    ∙ ap (λ more. start ++ more) (sym (filter_map-append begun_by (take k changes) (change ∷ [])) ∙ ap (filter_map begun_by) (sym longer))
  where
    longer : take (k + 1) changes ≡ take k changes ++ change ∷ []
    longer = take_more changes k change lt ∙ ap (λ last. take k changes ++ last ∷ []) (sym at)

    with-last : (batches : List Staged) → with_begun (begun_by change) batches ≡ batches ++ filter_map begun_by (change ∷ [])
    with-last batches =
        elim (begun_by change) as (λ o. with_begun o batches ≡ batches ++ cons_option o [])
        [ None ↦ sym (append-nil batches) | Some new ↦ refl ]
