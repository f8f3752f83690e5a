-- Changes whose times rise, after the rows that are there.
use Rattle.std.specs.Prelude.{◌≡◌, ℕ, zero, suc, ◌+◌, ◌≤◌, ◌<◌, Bool, true, false, not, cond, List, [], ◌∷◌, ◌++◌}
use Rattle.std.specs.Prelude.{length, take, get_or, filter, Some, None, IfSome, bytes_eq, nat_eq, refl}
use Rattle.std.proofs.Common.{sym, ap, subst, ◌∙◌, arith, inl, inr}
use Rattle.std.proofs.lemmas.List.{take_more}
use Rattle.std.proofs.lemmas.Map.Views.{IfSome-lookup_from_All}
use Rattle.std.specs.Map.{keys_of, values_of}
use Rattle.ss_bso.specs.declared.rows.Row.{Row}
use Rattle.ss_bso.specs.declared.changes.RowChange.{RowChange}
use Rattle.ss_bso.specs.declared.changes.RowChange.TheVariants as row
use Rattle.ss_bso.specs.Account.{is_alive, is_at}
use Rattle.ss_bso.specs.Changes.{row_changed, rows_but}
use Rattle.ss_bso.specs.Lists.{Each, Pairs}
use Rattle.ss_bso.proofs.Lists.{All-from_Each, Each-and, Each-append, Each-filter, Each-imp, Pairs-append}
use Rattle.indexmap.specs.IndexMap.{IndexMap}
use Rattle.ss_list.specs.Chain.{Chain, places, value_of, last_of}
use Rattle.ss_index.specs.Layout.{NoLater, IsLayout}
use Rattle.ss_index.specs.Ready.{IsLast, InTime, NotEarlier, NotLater, PutsInOrder, Sooner, put_time, rows_left}
use Rattle.ss_index.specs.Shelved.{rows_without}
use Rattle.ss_index.proofs.Sweeping.{middle_value}
use Rattle.ss_index.proofs.Walks.{keys-append, last_of-push, empty_or_ends, Each-values, no_later}

-- no row of a chain is later than its last
pub all_sooner : {S : Type 0} (rooms : IndexMap (List ℕ) ℕ S) (chain : Chain Row) (bytes : ℕ) (kept : IsLayout rooms chain bytes) (here : ℕ) (row : Row) → Some here ≡ last_of (places chain) → value_of chain here ≡ Some row
    → Each (λ (other : Row). other.modified ≤ row.modified) (values_of chain.nodes)
all_sooner rooms chain bytes kept here row last v =
    elim (empty_or_ends chain.nodes) [
      | inl none ↦ (let clash : Some here ≡ None = last ∙ ap (λ l. last_of (keys_of l)) none in cc)
      | inr e ↦
          let at : Some here ≡ Some e.last.0 = last ∙ ap (λ l. last_of (keys_of l)) e.split ∙ ap last_of (keys-append e.front (e.last ∷ [])) ∙ last_of-push (keys_of e.front) e.last.0 in
          let same : here ≡ e.last.0 = cc in
          let value : Some row ≡ Some e.last.1 = sym v ∙ ap (λ p. value_of chain p) same ∙ middle_value rooms chain bytes kept e.front e.last.0 e.last.1 [] e.split in
          let same_row : row ≡ e.last.1 = cc in
          let before = no_later e.last.0 e.last.1 e.front [] (subst (λ l. Pairs NoLater (values_of l)) e.split kept.in_time) in
          let own : e.last.1.modified ≤ e.last.1.modified = omega arith in
          subst (λ (one : Row). Each (λ (other : Row). other.modified ≤ one.modified) (values_of chain.nodes)) (sym same_row)
          (subst (λ l. Each (λ (other : Row). other.modified ≤ e.last.1.modified) (values_of l)) (sym e.split)
          (Each-values (λ (other : Row). other.modified ≤ e.last.1.modified) (e.front ++ e.last ∷ [])
          (Each-append (λ (node : ℕ × Row). node.1.modified ≤ e.last.1.modified) e.front (e.last ∷ []) before (own, tt))))
    ]

-- a fact on what a filter keeps
pub filter-each : {X : Type 0} (P : X → Type 0) (p : X → Bool) (xs : List X) → Each P (filter p xs) → Each (λ (x : X). p x ≡ true → P x) xs
filter-each P p [] e = tt
filter-each {X} P p (x ∷ xs) e =
    elim (p x) as (λ v. p x ≡ v → Each P (cond v (x ∷ filter p xs) (filter p xs)) → (p x ≡ true → P x) × Each (λ (y : X). p y ≡ true → P y) xs) [
      | true ↦ (λ t h. ((λ _. h.0), filter-each P p xs h.1))
      | false ↦ (λ t h. ((λ s. let clash : true ≡ false = sym s ∙ t in cc), filter-each P p xs h))
    ] refl e

each-filter : {X : Type 0} (P : X → Type 0) (p : X → Bool) (xs : List X) → Each (λ (x : X). p x ≡ true → P x) xs → Each P (filter p xs)
each-filter P p [] e = tt
each-filter {X} P p (x ∷ xs) e =
    elim (p x) as (λ v. p x ≡ v → Each P (cond v (x ∷ filter p xs) (filter p xs))) [ true ↦ (λ t. (e.0 t, each-filter P p xs e.1)) | false ↦ (λ t. each-filter P p xs e.1) ] refl

-- fewer rows leave a change as late
last-filter : (keep : Row → Bool) (rows : List Row) (change : RowChange) → IsLast rows change → IsLast (filter keep rows) change
last-filter keep rows (row.Put new) e =
    let P : Row → Type 0 = λ other. other.modified ≤ new.modified in
    each-filter P (λ one. bytes_eq one.collection new.collection) (filter keep rows)
    (Each-filter (λ (one : Row). bytes_eq one.collection new.collection ≡ true → P one) keep rows (filter-each P (λ one. bytes_eq one.collection new.collection) rows e))
last-filter keep rows (row.Drop collection id) e = tt

last-changed : (change other : RowChange) (rows : List Row) → IsLast rows other → Sooner change other → IsLast (row_changed rows change) other
last-changed (row.Drop collection id) other rows e s = last-filter (λ one. not (is_at collection id one)) rows other e
last-changed (row.Put new) (row.Drop collection id) rows e s = tt
last-changed (row.Put new) (row.Put next) rows e s =
    let P : Row → Type 0 = λ other. other.modified ≤ next.modified in
    let kept : List Row = rows_but new.collection new.id rows in
    each-filter P (λ one. bytes_eq one.collection next.collection) (kept ++ new ∷ [])
    (Each-append (λ (one : Row). bytes_eq one.collection next.collection ≡ true → P one) kept (new ∷ [])
    (Each-filter (λ (one : Row). bytes_eq one.collection next.collection ≡ true → P one) (λ one. not (is_at new.collection new.id one)) rows (filter-each P (λ one. bytes_eq one.collection next.collection) rows e))
    ((λ _. s), tt))

in_time-from : (rows : List Row) (changes : List RowChange) → Each (λ (change : RowChange). IsLast rows change) changes → Pairs Sooner changes → InTime rows changes
in_time-from rows [] e p = tt
in_time-from rows (change ∷ changes) e p = (
  e.0,
  in_time-from (row_changed rows change) changes
      (Each-imp (λ (other : RowChange). IsLast rows other × Sooner change other) (λ (other : RowChange). IsLast (row_changed rows change) other) (λ other h. last-changed change other rows h.0 h.1) changes
      (Each-and (λ (other : RowChange). IsLast rows other) (Sooner change) changes e.1 p.0)) p.1,
)

last-left : (names : List (List ℕ)) (rows : List Row) (change : RowChange) → IsLast rows change → IsLast (rows_left names rows) change
last-left [] rows change e = e
last-left (name ∷ names) rows change e = last-left names (rows_without rows name) change (last-filter (λ one. not (bytes_eq one.collection name)) rows change e)

-- changes that are no earlier than the rows are so after some of these went
pub rising_in_time : (names : List (List ℕ)) (moment : ℕ) (rows : List Row) (changes : List RowChange) → Each (λ (change : RowChange). IsLast rows change) changes → Pairs Sooner changes
    → InTime (rows_left names (filter (is_alive moment) rows)) changes
rising_in_time names moment rows changes e p =
    in_time-from (rows_left names (filter (is_alive moment) rows)) changes
    (Each-imp (λ (change : RowChange). IsLast rows change) (λ (change : RowChange). IsLast (rows_left names (filter (is_alive moment) rows)) change)
    (λ change h. last-left names (filter (is_alive moment) rows) change (last-filter (is_alive moment) rows change h)) changes e) p

-- how far changes were looked at: the time is that of the last row that they put, so that what no change puts later than isn't
-- earlier
pub record Rising (rows : List Row) (time : ℕ) (changes : List RowChange) : Type 0 where
  pub last : Each (λ (change : RowChange). IsLast rows change) changes
  pub early : Each (NotLater time) changes
  pub order : Pairs Sooner changes
  pub reached : (other : RowChange) → Each (λ (change : RowChange). Sooner change other) changes → NotEarlier time other

not_earlier-zero : (other : RowChange) → NotEarlier 0 other
not_earlier-zero (row.Put new) = omega arith
not_earlier-zero (row.Drop collection id) = tt

-- before any change
pub rising-none : (rows : List Row) → Rising rows 0 []
rising-none rows = record { last = tt; early = tt; order = tt; reached = λ other all. not_earlier-zero other }

not_later-more : (time later : ℕ) (change : RowChange) → time ≤ later → NotLater time change → NotLater later change
not_later-more time later (row.Put new) le h = omega (arith, h)
not_later-more time later (row.Drop collection id) le h = tt

sooner-from : (time : ℕ) (change other : RowChange) → NotLater time change → NotEarlier time other → Sooner change other
sooner-from time (row.Put new) (row.Put next) h g = omega (arith, h, g)
sooner-from time (row.Put new) (row.Drop collection id) h g = tt
sooner-from time (row.Drop collection id) other h g = tt

Each-front : {X : Type 0} (P : X → Type 0) (xs ys : List X) → Each P (xs ++ ys) → Each P xs
Each-front P [] ys e = tt
Each-front P (x ∷ xs) ys e = (e.0, Each-front P xs ys e.1)

Each-back : {X : Type 0} (P : X → Type 0) (xs ys : List X) → Each P (xs ++ ys) → Each P ys
Each-back P [] ys e = e
Each-back P (x ∷ xs) ys e = Each-back P xs ys e.1

-- what isn't earlier than a change after all of these isn't earlier than its time
reached-more : (time : ℕ) (before : List RowChange) (change other : RowChange) → (Each (λ (one : RowChange). Sooner one other) before → NotEarlier time other)
    → Each (λ (one : RowChange). Sooner one other) (before ++ change ∷ []) → NotEarlier (put_time time change) other
reached-more time before (row.Put new) other so_far e = (Each-back (λ (one : RowChange). Sooner one other) before (row.Put new ∷ []) e).0
reached-more time before (row.Drop collection id) other so_far e = so_far (Each-front (λ (one : RowChange). Sooner one other) before (row.Drop collection id ∷ []) e)

pub rising-more : (rows : List Row) (time later : ℕ) (changes : List RowChange) (i : ℕ) (change : RowChange) → i < length changes → change ≡ get_or changes i change → Rising rows time (take i changes)
    → IsLast rows change → NotEarlier time change → time ≤ later → NotLater later change → later ≡ put_time time change → Rising rows later (take (i + 1) changes)
rising-more rows time later changes i change lt is so_far last after le within reached =
    let before : List RowChange = take i changes in
    let cut : take (i + 1) changes ≡ before ++ change ∷ [] = take_more changes i change lt ∙ ap (λ one. before ++ one ∷ []) (sym is) in
    subst (λ l. Rising rows later l) (sym cut) (record {
      last = Each-append (λ (one : RowChange). IsLast rows one) before (change ∷ []) so_far.last (last, tt);
      early = Each-append (NotLater later) before (change ∷ []) (Each-imp (NotLater time) (NotLater later) (λ one h. not_later-more time later one le h) before so_far.early) (within, tt);
      order = Pairs-append Sooner before (change ∷ []) so_far.order (tt, tt)
          (Each-imp (NotLater time) (λ (one : RowChange). Each (Sooner one) (change ∷ [])) (λ one h. (sooner-from time one change h after, tt)) before so_far.early);
      reached = λ other e. subst (λ t. NotEarlier t other) (sym reached) (reached-more time before change other (so_far.reached other) e);
    })

-- ---- a change that isn't in order

each-at : {X : Type 0} (P : X → Type 0) (xs : List X) (i : ℕ) (x : X) → i < length xs → x ≡ get_or xs i x → Each P xs → P x
each-at P [] i x lt is e = absurd (omega arith)
each-at P (y ∷ ys) zero x lt is e = subst P (sym is) e.0
each-at P (y ∷ ys) (suc i) x lt is e = each-at P ys i x (omega arith) is e.1

before-at : {X : Type 0} (R : X → X → Type 0) (xs : List X) (i : ℕ) (x : X) → i < length xs → x ≡ get_or xs i x → Pairs R xs → Each (λ (one : X). R one x) (take i xs)
before-at R [] i x lt is p = absurd (omega arith)
before-at R (y ∷ ys) zero x lt is p = tt
before-at R (y ∷ ys) (suc i) x lt is p = (each-at (R y) ys i x (omega arith) is p.0, before-at R ys i x (omega arith) is p.1)

-- a change that is refused shows that they aren't in order
pub out_of_order : (rows : List Row) (time : ℕ) (changes : List RowChange) (i : ℕ) (change : RowChange) → i < length changes → change ≡ get_or changes i change → Rising rows time (take i changes)
    → (IsLast rows change → NotEarlier time change → ⊥) → PutsInOrder rows changes → ⊥
out_of_order rows time changes i change lt is so_far refused order =
    refused (each-at (λ (one : RowChange). IsLast rows one) changes i change lt is order.0) (so_far.reached change (before-at Sooner changes i change lt is order.1))

-- what holds of each row of a chain holds of the one at a place
pub each_value : (P : Row → Type 0) (chain : Chain Row) (at : ℕ) (row : Row) → value_of chain at ≡ Some row → Each P (values_of chain.nodes) → P row
each_value P chain at row e all = subst (λ o. IfSome o P) e (IfSome-lookup_from_All P (nat_eq at) chain.nodes (All-from_Each P (values_of chain.nodes) all))
