-- What changes make of rows and of collections.
use Rattle.std.specs.Prelude.{◌≡◌, ℕ, Bool, true, false, not, ◌&&◌, ◌||◌, cond, List, [], ◌∷◌, ◌++◌, fold, filter, map}
use Rattle.std.specs.Prelude.{bytes_eq, refl}
use Rattle.std.specs.List.{list_any}
use Rattle.std.proofs.Common.{sym, ap, ◌∙◌}
use Rattle.std.proofs.lemmas.List.{append-nil, append_assoc}
use Rattle.std.proofs.lemmas.List.Elements.{filter-append, filter_agree}
use Rattle.ss_bso.specs.declared.rows.Row.{Row}
use Rattle.ss_bso.specs.declared.changes.RowChange.TheVariants.{Put as PutRow, Drop as DropRow}
use Rattle.ss_bso.specs.declared.changes.CollectionChange.TheVariants.{Drop as DropName}
use Rattle.ss_bso.specs.Account.{is_at}
use Rattle.ss_bso.specs.Changes.{row_changed, time_changed}
use Rattle.ss_bso.specs.Write.{is_among, rows_without}
use Rattle.ss_bso.specs.Lists.{Each, Pairs, Apart}
use Rattle.ss_text.proofs.Basics.{and_false, and_swap, bytes_eq-sym}
use Rattle.ss_bso.proofs.Places.{apart_flip}

-- filters
pub filter-true : {X : Type 0} (xs : List X) → filter (λ x. true) xs ≡ xs
filter-true [] = refl
filter-true (x ∷ xs) = ap (λ rest. x ∷ rest) (filter-true xs)

pub filter-both : {X : Type 0} (p q : X → Bool) (xs : List X) → filter p (filter q xs) ≡ filter (λ x. q x && p x) xs
filter-both p q [] = refl
filter-both {X} p q (x ∷ xs) =
    elim (q x) as (λ v. filter p (cond v (x ∷ filter q xs) (filter q xs)) ≡ cond (v && p x) (x ∷ filter (λ y. q y && p y) xs) (filter (λ y. q y && p y) xs)) [
      | true ↦ ap (λ rest. cond (p x) (x ∷ rest) rest) (filter-both p q xs)
      | false ↦ filter-both p q xs
    ]

pub filter-swap : {X : Type 0} (p q : X → Bool) (xs : List X) → filter p (filter q xs) ≡ filter q (filter p xs)
filter-swap p q xs = filter-both p q xs ∙ filter_agree (λ x. q x && p x) (λ x. p x && q x) (λ x. and_swap (q x) (p x)) xs ∙ sym (filter-both q p xs)

absorbed : (a b : Bool) → (b ≡ true → a ≡ true) → (a && b) ≡ b
absorbed a true h = ap (λ v. v && true) (h refl)
absorbed a false h = and_false a

-- a filter that lets all pass that another one keeps
pub filter-absorb : {X : Type 0} (p q : X → Bool) (xs : List X) → ((x : X) → p x ≡ true → q x ≡ true) → filter p (filter q xs) ≡ filter p xs
filter-absorb p q xs h = filter-both p q xs ∙ filter_agree (λ x. q x && p x) p (λ x. absorbed (q x) (p x) (h x)) xs

-- whether a row has the place of one of those
abbrev pub is_covered : List Row → Row → Bool
is_covered made row = list_any (λ (new : Row). is_at new.collection new.id row) made

uncovered : (new : Row) (made : List Row) → Each (Apart new) made → is_covered made new ≡ false
uncovered new [] e = refl
uncovered new (other ∷ made) e = ap (λ v. v || is_covered made new) (apart_flip new other e.0) ∙ uncovered new made e.1

pub not_either : (a b : Bool) → (not a && not b) ≡ not (a || b)
not_either true b = refl
not_either false b = refl

-- rows that are put, no two at one place, stand at the end, and no other row stands at their places
pub puts_are : (rows made : List Row) → Pairs Apart made → fold row_changed rows (map PutRow made) ≡ filter (λ row. not (is_covered made row)) rows ++ made
puts_are rows [] places = sym (append-nil (filter (λ (row : Row). true) rows) ∙ filter-true rows)
puts_are rows (new ∷ made) places =
    let apart : Row → Bool = λ row. not (is_covered made row) in
    let here : Row → Bool = λ row. not (is_at new.collection new.id row) in
    puts_are (filter here rows ++ new ∷ []) made places.1
    ∙ ap (λ (left : List Row). left ++ made)
    (filter-append apart (filter here rows) (new ∷ [])
    ∙ ap (λ (v : Bool). filter apart (filter here rows) ++ cond (not v) (new ∷ []) []) (uncovered new made places.0)
    ∙ ap (λ (left : List Row). left ++ new ∷ []) (filter-both apart here rows ∙ filter_agree (λ row. here row && apart row) (λ row. not (is_covered (new ∷ made) row)) (λ row. not_either (is_at new.collection new.id row) (is_covered made row)) rows))
    ∙ append_assoc (filter (λ row. not (is_covered (new ∷ made) row)) rows) (new ∷ []) made

both_either : (a b d : Bool) → ((a && b) || (a && d)) ≡ (a && (b || d))
both_either true b d = refl
both_either false b d = refl

-- the places of rows of one collection are those of their ids
pub covered_is : (collection : List ℕ) (made : List Row) (row : Row) → Each (λ (new : Row). new.collection ≡ collection) made
    → is_covered made row ≡ (bytes_eq row.collection collection && is_among (map (λ new. new.id) made) row.id)
covered_is collection [] row e = sym (and_false (bytes_eq row.collection collection))
covered_is collection (new ∷ made) row e =
    (λ i. (bytes_eq row.collection (e.0 i) && bytes_eq-sym row.id new.id i) || covered_is collection made row e.1 i)
    ∙ both_either (bytes_eq row.collection collection) (bytes_eq new.id row.id) (is_among (map (λ new. new.id) made) row.id)

pub not_among : (a b d : Bool) → (not (a && b) && not (a && d)) ≡ not (a && (b || d))
not_among true true d = refl
not_among true false d = refl
not_among false b d = refl

-- rows that are dropped by their ids
pub drops_are : (collection : List ℕ) (ids : List (List ℕ)) (rows : List Row) → fold row_changed rows (map (DropRow collection) ids) ≡ rows_without collection ids rows
drops_are collection [] rows =
    sym (filter_agree (λ (row : Row). not (bytes_eq row.collection collection && false)) (λ (row : Row). true) (λ row. ap not (and_false (bytes_eq row.collection collection))) rows ∙ filter-true rows)
drops_are collection (id ∷ ids) rows =
    let rest : Row → Bool = λ row. not (bytes_eq row.collection collection && is_among ids row.id) in
    let here : Row → Bool = λ row. not (is_at collection id row) in
    drops_are collection ids (filter here rows)
    ∙ filter-both rest here rows
    ∙ filter_agree (λ row. here row && rest row) (λ row. not (bytes_eq row.collection collection && is_among (id ∷ ids) row.id))
    (λ row. ap (λ v. not (bytes_eq row.collection collection && v) && rest row) (bytes_eq-sym row.id id) ∙ not_among (bytes_eq row.collection collection) (bytes_eq id row.id) (is_among ids row.id)) rows

-- collections that are dropped get no times
pub no_times : (names times : List (List ℕ × ℕ)) → fold time_changed times (map (λ (entry : List ℕ × ℕ). DropName entry.0) names) ≡ times
no_times [] times = refl
no_times (entry ∷ names) times = no_times names times
