-- One more id behind ids that stand in their order.
use Rattle.std.proofs.Common.{◌≡◌, ℕ, suc, ◌+◌, ◌-◌, true, false, List, [], ◌∷◌, ◌++◌, length, Option, Some, None, Less}
use Rattle.std.proofs.Common.{refl, sym, ap, ◌∙◌, subst, arith}
use Rattle.std.specs.List.{AllByRecursion, slice_get}
use Rattle.std.specs.List.Sorted.{IsStrictlySortedBy}
use Rattle.std.specs.Ordering.{is_lt}
use Rattle.std.proofs.lemmas.Bool.{false≢true}
use Rattle.std.proofs.lemmas.Cmp.{nat_list_cmp_total}
use Rattle.ss_text.specs.Texts.{text_cmp}
use Rattle.ss_record.specs.declared.readings.Sheet.{Sheet}
use Rattle.ss_device.specs.Device.{AreById, row_ids}
use Rattle.ss_text.proofs.Basics.{is_less, some_same}

-- each of the ids is below this one
abbrev AllBelow : List ℕ → List (List ℕ) → Type 0
AllBelow x ys = AllByRecursion (λ y. text_cmp y x ≡ Less) ys

put_last : (x : List ℕ) (ys : List (List ℕ)) → IsStrictlySortedBy text_cmp ys → AllBelow x ys → IsStrictlySortedBy text_cmp (ys ++ x ∷ [])
unfolding IsStrictlySortedBy
put_last x [] s b = (tt, tt)
put_last x (y ∷ ys) s b = (more (λ z. text_cmp y z ≡ Less) ys s.0 b.0, put_last x ys s.1 b.1)
  where
    more : (P : List ℕ → Type 0) (zs : List (List ℕ)) → AllByRecursion P zs → P x → AllByRecursion P (zs ++ x ∷ [])
    more P [] a p = (p, tt)
    more P (z ∷ zs) a p = (a.0, more P zs a.1 p)

last_above : (x : List ℕ) (ys : List (List ℕ)) → IsStrictlySortedBy text_cmp (ys ++ x ∷ []) → AllBelow x ys
unfolding IsStrictlySortedBy
last_above x [] s = tt
last_above x (y ∷ ys) s = (found (λ z. text_cmp y z ≡ Less) ys s.0, last_above x ys s.1)
  where
    found : (P : List ℕ → Type 0) (zs : List (List ℕ)) → AllByRecursion P (zs ++ x ∷ []) → P x
    found P [] a = a.0
    found P (z ∷ zs) a = found P zs a.1

-- ---- the last row

abbrev last : List Sheet → Option Sheet
last rows = slice_get rows (length rows - 1)

last_more : (p q : Sheet) (rows : List Sheet) → last (p ∷ q ∷ rows) ≡ last (q ∷ rows)
last_more p q rows =
    let n : length (p ∷ q ∷ rows) - 1 ≡ length rows + 1 = omega arith in
    let m : length (q ∷ rows) - 1 ≡ length rows = omega arith in
    ap (slice_get (p ∷ q ∷ rows)) n ∙ (step (length rows) ∙ ap (slice_get (q ∷ rows)) (sym m))
  where
    step : (k : ℕ) → slice_get (p ∷ q ∷ rows) (k + 1) ≡ slice_get (q ∷ rows) k
    step k = let e : k + 1 ≡ suc k = omega arith in ap (slice_get (p ∷ q ∷ rows)) e

-- where the last is below an id, all are
below_all : (rows : List Sheet) (q : Sheet) (x : List ℕ) → AreById (row_ids rows) → last rows ≡ Some q → text_cmp q.id x ≡ Less → AllBelow x (row_ids rows)
unfolding AreById IsStrictlySortedBy
below_all [] q x s e l = tt
below_all (p ∷ []) q x s e l = let same : p ≡ q = some_same e in (ap (λ (r : Sheet). text_cmp r.id x) same ∙ l, tt)
below_all (p ∷ r ∷ rows) q x s e l =
    let rest = below_all (r ∷ rows) q x s.1 (sym (last_more p r rows) ∙ e) l in
    (nat_list_cmp_total.trans p.id r.id x s.0.0 rest.0, rest)

below_last : (rows : List Sheet) (q : Sheet) (x : List ℕ) → last rows ≡ Some q → AllBelow x (row_ids rows) → text_cmp q.id x ≡ Less
below_last [] q x e a = cc
below_last (p ∷ []) q x e a = let same : q ≡ p = some_same (sym e) in ap (λ (r : Sheet). text_cmp r.id x) same ∙ a.0
below_last (p ∷ r ∷ rows) q x e a = below_last (r ∷ rows) q x (sym (last_more p r rows) ∙ e) a.1

none_last : (rows : List Sheet) → last rows ≡ None → row_ids rows ≡ []
none_last [] e = refl
none_last (p ∷ []) e = cc
none_last (p ∷ r ∷ rows) e = cc_no (none_last (r ∷ rows) (sym (last_more p r rows) ∙ e))
  where
    cc_no : row_ids (r ∷ rows) ≡ [] → row_ids (p ∷ r ∷ rows) ≡ []
    cc_no h = cc

ids_more : (rows : List Sheet) (r : Sheet) → row_ids (rows ++ r ∷ []) ≡ row_ids rows ++ r.id ∷ []
ids_more [] r = refl
ids_more (p ∷ rows) r = ap (λ xs. p.id ∷ xs) (ids_more rows r)

-- a row behind others, where its id is above the last one's
pub row_more : (rows : List Sheet) (q r : Sheet) → AreById (row_ids rows) → last rows ≡ Some q → is_lt (text_cmp q.id r.id) ≡ true → AreById (row_ids (rows ++ r ∷ []))
unfolding AreById
row_more rows q r s e l = subst (IsStrictlySortedBy text_cmp) (sym (ids_more rows r)) (put_last r.id (row_ids rows) s (below_all rows q r.id s e (is_less (text_cmp q.id r.id) l)))

pub row_first : (rows : List Sheet) (r : Sheet) → last rows ≡ None → AreById (row_ids (rows ++ r ∷ []))
unfolding AreById IsStrictlySortedBy
row_first rows r e = subst (IsStrictlySortedBy text_cmp) (sym (ids_more rows r ∙ ap (λ xs. xs ++ r.id ∷ []) (none_last rows e))) (tt, tt)

pub row_no_more : (rows : List Sheet) (q r : Sheet) → last rows ≡ Some q → is_lt (text_cmp q.id r.id) ≡ false → AreById (row_ids (rows ++ r ∷ [])) → ⊥
unfolding AreById
row_no_more rows q r e l s =
    let less = below_last rows q r.id e (last_above r.id (row_ids rows) (subst (IsStrictlySortedBy text_cmp) (ids_more rows r) s)) in
    false≢true (sym l ∙ ap is_lt less)
