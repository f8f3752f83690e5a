-- Rows that stand by id are told by their look-ups, and fetched rows are apart from those that a mirror has of other ids.
use Rattle.std.proofs.Common.{◌≡◌, ℕ, List, [], ◌∷◌, ◌++◌, filter, Bool, true, false, cond, not, ◌&&◌, ◌||◌, bytes_eq}
use Rattle.std.proofs.Common.{Option, Some, None, is_some, refl, sym, ap, ap₂, ◌∙◌, subst, Less}
use Rattle.std.specs.List.{AllByRecursion}
use Rattle.std.specs.List.Sorted.{IsStrictlySortedBy}
use Rattle.std.proofs.lemmas.Bool.{false≢true}
use Rattle.std.proofs.lemmas.Cmp.{nat_list_cmp_total}
use Rattle.std.proofs.lemmas.Option.{none-some, same_Some}
use Rattle.ss_text.specs.Texts.{text_cmp}
use Rattle.ss_text.proofs.Basics.{bytes_eq-sym, same_text}
use Rattle.ss_record.specs.declared.readings.Sheet.{Sheet}
use Rattle.ss_record.specs.Ids.{Apart, has}
use Rattle.ss_record.proofs.Below.{below_out, less_apart}
use Rattle.ss_record.proofs.IdLists.{Apart-append, bytes_eq-refl, has-cons, has-nil}
use Rattle.ss_plan.specs.Written.{sheet}
use Rattle.ss_sync.specs.Fetched.{kept}
use Rattle.ss_sync.specs.Rows.{AreById, ids_of}
use Rattle.ss_sync.proofs.Fetching.{ids-append}
use Rattle.ss_sync.proofs.Putting.{sheet-cons}
use Rattle.ss_world.proofs.Looking.{apart-filter, has-sheet, passing, passing-false, passing-none, sheet-filter}
use Rattle.ss_world.proofs.Looking.{sheet-id, sheet-nil, sheet-none}

-- ---- rows by id

sheet-here : (s : Sheet) (rows : List Sheet) → sheet s.id (s ∷ rows) ≡ Some s
sheet-here s rows = sheet-cons s.id s rows ∙ ap (λ b. cond b (Some s) (sheet s.id rows)) (bytes_eq-refl s.id)

sheet-later : (x : List ℕ) (s : Sheet) (rows : List Sheet) → bytes_eq x s.id ≡ false → sheet x (s ∷ rows) ≡ sheet x rows
sheet-later x s rows e = sheet-cons x s rows ∙ ap (λ b. cond b (Some s) (sheet x rows)) e

-- an id is below each of those that it is below
below_in : (x y : List ℕ) (ys : List (List ℕ)) → AllByRecursion (λ z. text_cmp x z ≡ Less) ys → has y ys ≡ true → text_cmp x y ≡ Less
below_in x y [] all h = absurd (false≢true (sym (has-nil y) ∙ h))
below_in x y (z ∷ zs) all h = go (bytes_eq y z) refl (sym (has-cons y z zs) ∙ h) (below_in x y zs all.1)
  where
    go : (b : Bool) → bytes_eq y z ≡ b → (b || has y zs) ≡ true → (has y zs ≡ true → text_cmp x y ≡ Less) → text_cmp x y ≡ Less
    go true e k later = subst (λ w. text_cmp x w ≡ Less) (sym (same_text y z e)) all.0
    go false e k later = later k

never_both : (x y : List ℕ) → text_cmp x y ≡ Less → text_cmp y x ≡ Less → ⊥
never_both x y h k = false≢true (sym (less_apart x x (nat_list_cmp_total.trans x y x h k)) ∙ bytes_eq-refl x)

-- a row that is found has an id that is there
found_has : (x : List ℕ) (s : Sheet) (rows : List Sheet) → sheet x rows ≡ Some s → has x (ids_of rows) ≡ true
found_has x s rows e = has-sheet x rows ∙ ap is_some e

-- the first rows are one
one_first : (s t : Sheet) (these those : List Sheet) → AllByRecursion (λ z. text_cmp s.id z ≡ Less) (ids_of these) → AllByRecursion (λ z. text_cmp t.id z ≡ Less) (ids_of those)
    → ((x : List ℕ) → sheet x (s ∷ these) ≡ sheet x (t ∷ those)) → s ≡ t
one_first s t these those a b h = go (bytes_eq s.id t.id) refl
  where
    go : (v : Bool) → bytes_eq s.id t.id ≡ v → s ≡ t
    go true e =
        let here : sheet s.id (t ∷ those) ≡ Some t = sheet-cons s.id t those ∙ ap (λ v. cond v (Some t) (sheet s.id those)) e in
        same_Some s t (sym (sheet-here s these) ∙ (h s.id ∙ here))
    go false e =
        let after : sheet s.id those ≡ Some s = sym (sheet-later s.id t those e) ∙ (sym (h s.id) ∙ sheet-here s these) in
        let before : sheet t.id these ≡ Some t = sym (sheet-later t.id s these (bytes_eq-sym t.id s.id ∙ e)) ∙ (h t.id ∙ sheet-here t those) in
        absurd (never_both s.id t.id (below_in s.id t.id (ids_of these) a (found_has t.id t these before)) (below_in t.id s.id (ids_of those) b (found_has s.id s those after)))

-- what follows the same row has the same look-ups
same_later : (s : Sheet) (these those : List Sheet) → has s.id (ids_of these) ≡ false → has s.id (ids_of those) ≡ false → ((x : List ℕ) → sheet x (s ∷ these) ≡ sheet x (s ∷ those)) → (x : List ℕ) → sheet x these ≡ sheet x those
same_later s these those a b h x = go (bytes_eq x s.id) refl
  where
    none : (rows : List Sheet) → bytes_eq x s.id ≡ true → has s.id (ids_of rows) ≡ false → sheet x rows ≡ None
    none rows e k = sheet-none x rows (ap (λ y. has y (ids_of rows)) (same_text x s.id e) ∙ k)

    go : (v : Bool) → bytes_eq x s.id ≡ v → sheet x these ≡ sheet x those
    go true e = none these e a ∙ sym (none those e b)
    go false e = sym (sheet-later x s these e) ∙ (h x ∙ sheet-later x s those e)

pub one_rows : (these those : List Sheet) → AreById these → AreById those → ((x : List ℕ) → sheet x these ≡ sheet x those) → these ≡ those
unfolding IsStrictlySortedBy
one_rows [] [] a b h = refl
one_rows [] (t ∷ those) a b h = absurd (none-some t (sym (sheet-nil t.id) ∙ (h t.id ∙ sheet-here t those)))
one_rows (s ∷ these) [] a b h = absurd (none-some s (sym (sheet-nil s.id) ∙ (sym (h s.id) ∙ sheet-here s these)))
one_rows (s ∷ these) (t ∷ those) a b h =
    let first : s ≡ t = one_first s t these those a.0 b.0 h in
    let out : has s.id (ids_of those) ≡ false = ap (λ (r : Sheet). has r.id (ids_of those)) first ∙ below_out t.id (ids_of those) b.0 in
    let later = same_later s these those (below_out s.id (ids_of these) a.0) out (λ x. h x ∙ ap (λ r. sheet x (r ∷ those)) (sym first)) in
    ap₂ (λ r rows. r ∷ rows) first (one_rows these those a.1 b.1 later)

-- ---- fetched rows and kept ones

module _ (rows mirror : List Sheet) (ids : List (List ℕ)) (fetched : Apart (ids_of rows)) (own : Apart (ids_of mirror)) where
  abbrev stays : Sheet → Bool
  stays m = has m.id ids && not (has m.id (ids_of rows))

  kept_is : kept rows ids mirror ≡ filter (λ m. has m.id ids && not (has m.id (ids_of rows))) mirror
  unfolding kept
  kept_is = refl

  not_kept : (x : List ℕ) → has x (ids_of rows) ≡ true → sheet x (kept rows ids mirror) ≡ None
  not_kept x h = ap (sheet x) kept_is ∙ (sheet-filter stays mirror own x ∙ go (sheet x mirror) refl)
    where
      never : (b : Bool) → (b && false) ≡ false
      never true = refl
      never false = refl

      go : (o : Option Sheet) → sheet x mirror ≡ o → passing stays o ≡ None
      go None e = passing-none stays
      go (Some m) e =
          passing-false stays m (ap (λ y. has y ids && not (has y (ids_of rows))) (sheet-id x mirror m e) ∙ (ap (λ b. has x ids && not b) h ∙ never (has x ids)))

  pub apart_kept : Apart (ids_of (rows ++ kept rows ids mirror))
  apart_kept = subst Apart (sym (ids-append rows (kept rows ids mirror)))
      (Apart-append (ids_of rows) (ids_of (kept rows ids mirror)) fetched (subst (λ l. Apart (ids_of l)) (sym kept_is) (apart-filter stays mirror own))
      (λ x h. has-sheet x (kept rows ids mirror) ∙ ap is_some (not_kept x h)))
