-- Rows by their ids: filters, pages, and what a newer fetch puts together.
use Rattle.std.proofs.Common.{◌≡◌, ℕ, ◌≤◌, List, [], ◌∷◌, ◌++◌, take, drop, filter, Bool, true, false, cond, not, ◌&&◌}
use Rattle.std.proofs.Common.{◌||◌, nat_lt, bytes_eq, Option, Some, None, is_some, sym, refl, ap, ap₂, ◌∙◌, subst}
use Rattle.std.proofs.Common.{arith}
use Rattle.std.proofs.lemmas.Bool.Decides.{nat_tests}
use Rattle.std.proofs.lemmas.List.{take-append-drop}
use Rattle.ss_record.specs.declared.readings.Sheet.{Sheet}
use Rattle.ss_record.specs.Ids.{Apart, has}
use Rattle.ss_record.proofs.IdLists.{has-nil, has-cons, Apart-nil, Apart-cons, Apart-head, Apart-tail, Apart-append}
use Rattle.ss_bso.specs.declared.parts.Part.{Part}
use Rattle.ss_plan.specs.Written.{AreRowsAfter, sheet, sheet_after}
use Rattle.ss_sync.specs.Rows.{ids_of}
use Rattle.ss_sync.specs.Fetched.{kept}
use Rattle.ss_sync.proofs.Fetching.{ids-append}
use Rattle.ss_serving.specs.Serving.{AreIdsOf, newer}
use Rattle.ss_world.specs.Promises.{AreAll}
use Rattle.ss_text.proofs.Basics.{same_text}
use Rattle.ss_sync.proofs.Putting.{sheet-cons}
use Rattle.ss_build.proofs.Seats.{Apart-left}

-- ---- look-ups

pub sheet-nil : (x : List ℕ) → sheet x [] ≡ None
unfolding sheet
sheet-nil x = refl

-- one or else another
pub first : Option Sheet → Option Sheet → Option Sheet
first (Some s) other = Some s
first None other = other

pub sheet-append : (x : List ℕ) (xs ys : List Sheet) → sheet x (xs ++ ys) ≡ first (sheet x xs) (sheet x ys)
unfolding first
sheet-append x [] ys = ap (λ o. first o (sheet x ys)) (sym (sheet-nil x))
sheet-append x (s ∷ xs) ys = sheet-cons x s (xs ++ ys) ∙ (by (bytes_eq x s.id) (sheet-append x xs ys) ∙ ap (λ o. first o (sheet x ys)) (sym (sheet-cons x s xs)))
  where
    by : (b : Bool) → sheet x (xs ++ ys) ≡ first (sheet x xs) (sheet x ys) → cond b (Some s) (sheet x (xs ++ ys)) ≡ first (cond b (Some s) (sheet x xs)) (sheet x ys)
    by true ih = refl
    by false ih = ih

-- an id is among those of the rows where one of them has it
pub has-sheet : (x : List ℕ) (rows : List Sheet) → has x (ids_of rows) ≡ is_some (sheet x rows)
has-sheet x [] = has-nil x ∙ ap is_some (sym (sheet-nil x))
has-sheet x (s ∷ rows) = has-cons x s.id (ids_of rows) ∙ (by (bytes_eq x s.id) (has-sheet x rows) ∙ ap is_some (sym (sheet-cons x s rows)))
  where
    by : (b : Bool) → has x (ids_of rows) ≡ is_some (sheet x rows) → (b || has x (ids_of rows)) ≡ is_some (cond b (Some s) (sheet x rows))
    by true ih = refl
    by false ih = ih

pub sheet-none : (x : List ℕ) (rows : List Sheet) → has x (ids_of rows) ≡ false → sheet x rows ≡ None
sheet-none x rows h = by (sheet x rows) (sym (has-sheet x rows) ∙ h)
  where
    by : (o : Option Sheet) → is_some o ≡ false → o ≡ None
    by None e = refl
    by (Some s) e = cc

-- the row of an id has it
pub sheet-id : (x : List ℕ) (rows : List Sheet) (s : Sheet) → sheet x rows ≡ Some s → s.id ≡ x
sheet-id x [] s e = none (sym (sheet-nil x) ∙ e)
  where
    none : None ≡ Some s → s.id ≡ x
    none q = cc
sheet-id x (r ∷ rows) s e = by (bytes_eq x r.id) refl (sym (sheet-cons x r rows) ∙ e) (sheet-id x rows s)
  where
    by : (b : Bool) → bytes_eq x r.id ≡ b → cond b (Some r) (sheet x rows) ≡ Some s → (sheet x rows ≡ Some s → s.id ≡ x) → s.id ≡ x
    by true q f ih = let same : r ≡ s = cc in ap (λ (z : Sheet). z.id) (sym same) ∙ sym (same_text x r.id q)
    by false q f ih = ih f

-- ---- filters

-- a row that passes
pub passing : (Sheet → Bool) → Option Sheet → Option Sheet
passing test None = None
passing test (Some s) = cond (test s) (Some s) None

pub passing-none : (test : Sheet → Bool) → passing test None ≡ None
unfolding passing
passing-none test = refl

pub passing-true : (test : Sheet → Bool) (s : Sheet) → test s ≡ true → passing test (Some s) ≡ Some s
unfolding passing
passing-true test s e = ap (λ b. cond b (Some s) None) e

pub passing-false : (test : Sheet → Bool) (s : Sheet) → test s ≡ false → passing test (Some s) ≡ None
unfolding passing
passing-false test s e = ap (λ b. cond b (Some s) None) e

pub sheet-filter : (test : Sheet → Bool) (rows : List Sheet) → Apart (ids_of rows) → (x : List ℕ) → sheet x (filter test rows) ≡ passing test (sheet x rows)
sheet-filter test [] a x = sheet-nil x ∙ sym (ap (passing test) (sheet-nil x) ∙ passing-none test)
sheet-filter test (s ∷ rows) a x = by (sheet-filter test rows (Apart-tail s.id (ids_of rows) a) x) (bytes_eq x s.id) refl (test s) refl ∙ sym (ap (passing test) (sheet-cons x s rows))
  where
    gone : sheet x (filter test rows) ≡ passing test (sheet x rows) → bytes_eq x s.id ≡ true → sheet x (filter test rows) ≡ None
    gone ih q = ih ∙ (ap (passing test) (sheet-none x rows (ap (λ y. has y (ids_of rows)) (same_text x s.id q) ∙ Apart-head s.id (ids_of rows) a)) ∙ passing-none test)

    by : sheet x (filter test rows) ≡ passing test (sheet x rows) → (b : Bool) → bytes_eq x s.id ≡ b → (t : Bool) → test s ≡ t → sheet x (cond (test s) (s ∷ filter test rows) (filter test rows)) ≡ passing test (cond (bytes_eq x s.id) (Some s) (sheet x rows))
    by ih true q true t = ap (λ v. sheet x (cond v (s ∷ filter test rows) (filter test rows))) t ∙ (sheet-cons x s (filter test rows) ∙ (ap (λ b. cond b (Some s) (sheet x (filter test rows))) q ∙ sym (ap (λ b. passing test (cond b (Some s) (sheet x rows))) q ∙ passing-true test s t)))
    by ih true q false t = ap (λ v. sheet x (cond v (s ∷ filter test rows) (filter test rows))) t ∙ (gone ih q ∙ sym (ap (λ b. passing test (cond b (Some s) (sheet x rows))) q ∙ passing-false test s t))
    by ih false q true t = ap (λ v. sheet x (cond v (s ∷ filter test rows) (filter test rows))) t ∙ (sheet-cons x s (filter test rows) ∙ (ap (λ b. cond b (Some s) (sheet x (filter test rows))) q ∙ (ih ∙ sym (ap (λ b. passing test (cond b (Some s) (sheet x rows))) q))))
    by ih false q false t = ap (λ v. sheet x (cond v (s ∷ filter test rows) (filter test rows))) t ∙ (ih ∙ sym (ap (λ b. passing test (cond b (Some s) (sheet x rows))) q))

pub apart-filter : (test : Sheet → Bool) (rows : List Sheet) → Apart (ids_of rows) → Apart (ids_of (filter test rows))
apart-filter test [] a = Apart-nil
apart-filter test (s ∷ rows) a = by (apart-filter test rows (Apart-tail s.id (ids_of rows) a)) (test s)
  where
    none : has s.id (ids_of (filter test rows)) ≡ false
    none = has-sheet s.id (filter test rows) ∙ ap is_some (sheet-filter test rows (Apart-tail s.id (ids_of rows) a) s.id ∙ (ap (passing test) (sheet-none s.id rows (Apart-head s.id (ids_of rows) a)) ∙ passing-none test))

    by : Apart (ids_of (filter test rows)) → (v : Bool) → Apart (ids_of (cond v (s ∷ filter test rows) (filter test rows)))
    by rest true = Apart-cons s.id (ids_of (filter test rows)) none rest
    by rest false = rest

pub apart-take : (n : ℕ) (rows : List Sheet) → Apart (ids_of rows) → Apart (ids_of (take n rows))
apart-take n rows a = Apart-left (ids_of (take n rows)) (ids_of (drop n rows)) (subst Apart (ap ids_of (sym (take-append-drop n rows)) ∙ ids-append (take n rows) (drop n rows)) a)

pub apart-newer : (since : Option ℕ) (rows : List Sheet) → Apart (ids_of rows) → Apart (ids_of (newer since rows))
apart-newer None rows a = a
apart-newer (Some time) rows a = apart-filter (λ row. nat_lt time row.modified) rows a

-- ---- all rows

pub all-same : (fetched rows : List Sheet) → Apart (ids_of rows) → fetched ≡ rows → AreAll fetched rows
all-same fetched rows a e = record { apart = subst (λ l. Apart (ids_of l)) (sym e) a; same = λ x. ap (sheet x) e }

-- parts that are put over some rows are put over the same rows in another order
pub written-over : (fetched rows : List Sheet) (parts : List Part) (stamp : ℕ) (after : List Sheet) → AreAll fetched rows → AreRowsAfter rows parts stamp after → AreRowsAfter fetched parts stamp after
written-over fetched rows parts stamp after all w = record { apart = w.apart; each = λ x. w.each x ∙ ap (sheet_after stamp parts x) (sym (all.same x)) }

-- ---- a newer fetch

still-is : (rows mirror : List Sheet) (ids : List (List ℕ)) → kept rows ids mirror ≡ filter (λ m. has m.id ids && not (has m.id (ids_of rows))) mirror
unfolding kept
still-is rows mirror ids = refl

-- The rows that are newer than the stamp and the listed rows of a mirror that remembers the others are all rows.
pub recalls : (rows pages mirror : List Sheet) (ids : List (List ℕ)) (stamp : ℕ) → Apart (ids_of rows) → Apart (ids_of mirror) → pages ≡ newer (Some stamp) rows → AreIdsOf rows ids
    → ((x : List ℕ) (s : Sheet) → sheet x rows ≡ Some s → s.modified ≤ stamp → sheet x mirror ≡ Some s) → AreAll (pages ++ kept pages ids mirror) rows
unfolding first
recalls rows pages mirror ids stamp apart own is listed faithful = record { apart = stands; same = λ x. sheet-append x pages (kept pages ids mirror) ∙ by x (sheet x rows) refl }
  where
    late : Sheet → Bool
    late row = nat_lt stamp row.modified

    still : Sheet → Bool
    still m = has m.id ids && not (has m.id (ids_of pages))

    page : (x : List ℕ) → sheet x pages ≡ passing (λ row. nat_lt stamp row.modified) (sheet x rows)
    page x = ap (sheet x) is ∙ sheet-filter (λ row. nat_lt stamp row.modified) rows apart x

    recalled : (x : List ℕ) → sheet x (kept pages ids mirror) ≡ passing (λ m. has m.id ids && not (has m.id (ids_of pages))) (sheet x mirror)
    recalled x = ap (sheet x) (still-is pages mirror ids) ∙ sheet-filter (λ m. has m.id ids && not (has m.id (ids_of pages))) mirror own x

    tested : (x : List ℕ) (m : Sheet) → sheet x mirror ≡ Some m → (has m.id ids && not (has m.id (ids_of pages))) ≡ (is_some (sheet x rows) && not (is_some (sheet x pages)))
    tested x m e = ap (λ y. has y ids && not (has y (ids_of pages))) (sheet-id x mirror m e) ∙ ap₂ (λ p q. p && not q) (listed x) (has-sheet x pages)

    -- what a mirror has of an id that isn't listed, or that was fetched, isn't taken
    untaken : (x : List ℕ) → (is_some (sheet x rows) && not (is_some (sheet x pages))) ≡ false → sheet x (kept pages ids mirror) ≡ None
    untaken x isnt = recalled x ∙ go (sheet x mirror) refl
      where
        go : (o : Option Sheet) → sheet x mirror ≡ o → passing (λ m. has m.id ids && not (has m.id (ids_of pages))) o ≡ None
        go None e = passing-none (λ m. has m.id ids && not (has m.id (ids_of pages)))
        go (Some m) e = passing-false (λ m. has m.id ids && not (has m.id (ids_of pages))) m (tested x m e ∙ isnt)

    by : (x : List ℕ) (o : Option Sheet) → sheet x rows ≡ o → first (sheet x pages) (sheet x (kept pages ids mirror)) ≡ sheet x rows
    by x None e =
        let none : sheet x pages ≡ None = page x ∙ (ap (passing (λ row. nat_lt stamp row.modified)) e ∙ passing-none (λ row. nat_lt stamp row.modified)) in
        ap₂ first none (untaken x (ap (λ o. is_some o && not (is_some (sheet x pages))) e)) ∙ sym e
    by x (Some s) e = elim (nat_lt stamp s.modified) as (λ v. nat_lt stamp s.modified ≡ v → first (sheet x pages) (sheet x (kept pages ids mirror)) ≡ sheet x rows) [
      | true ↦ (λ t.
          let there : sheet x pages ≡ Some s = page x ∙ (ap (passing (λ row. nat_lt stamp row.modified)) e ∙ passing-true (λ row. nat_lt stamp row.modified) s t) in
          ap (λ o. first o (sheet x (kept pages ids mirror))) there ∙ sym e)
      | false ↦ (λ t.
          let none : sheet x pages ≡ None = page x ∙ (ap (passing (λ row. nat_lt stamp row.modified)) e ∙ passing-false (λ row. nat_lt stamp row.modified) s t) in
          let low : s.modified ≤ stamp = grind (arith, nat_tests) in
          let m : sheet x mirror ≡ Some s = faithful x s e low in
          let yes : (has s.id ids && not (has s.id (ids_of pages))) ≡ true = tested x s m ∙ ap₂ (λ p q. is_some p && not (is_some q)) e none in
          ap₂ first none (recalled x ∙ (ap (passing (λ m. has m.id ids && not (has m.id (ids_of pages)))) m ∙ passing-true (λ m. has m.id ids && not (has m.id (ids_of pages))) s yes)) ∙ sym e)
    ] refl

    stands : Apart (ids_of (pages ++ kept pages ids mirror))
    stands = subst Apart (sym (ids-append pages (kept pages ids mirror)))
        (Apart-append (ids_of pages) (ids_of (kept pages ids mirror)) (subst (λ l. Apart (ids_of l)) (sym is) (apart-filter (λ row. nat_lt stamp row.modified) rows apart))
        (subst (λ l. Apart (ids_of l)) (sym (still-is pages mirror ids)) (apart-filter (λ m. has m.id ids && not (has m.id (ids_of pages))) mirror own))
        (λ x h. has-sheet x (kept pages ids mirror) ∙ ap is_some (untaken x (fetched x (sym (has-sheet x pages) ∙ h)))))
      where
        fetched : (x : List ℕ) → is_some (sheet x pages) ≡ true → (is_some (sheet x rows) && not (is_some (sheet x pages))) ≡ false
        fetched x h = ap (λ q. is_some (sheet x rows) && not q) h ∙ never (is_some (sheet x rows))
          where
            never : (p : Bool) → (p && false) ≡ false
            never true = refl
            never false = refl
