-- What a shelf is asked for by a write, and what it then has.
use Rattle.std.specs.Prelude.{◌≡◌, ℕ, ◌+◌, ◌≤◌, ◌<◌, ◌^◌, ◌-◌, List, [], ◌∷◌, length, filter, map, not, bytes_eq}
use Rattle.std.specs.Prelude.{IsSomeAnd}
use Rattle.std.proofs.Common.{sym, ap, subst, ◌∙◌, arith}
use Rattle.std.proofs.lemmas.List.{length-map}
use Rattle.ss_text.specs.Texts.{IsReordering, chain}
use Rattle.ss_bso.specs.declared.rows.Row.{Row}
use Rattle.ss_bso.specs.declared.account.Plain.{Plain}
use Rattle.ss_bso.specs.declared.account.Staged.{Staged}
use Rattle.ss_bso.specs.declared.changes.Changes.{Changes}
use Rattle.ss_bso.specs.declared.changes.RowChange.{RowChange}
use Rattle.ss_bso.specs.declared.changes.RowChange.TheVariants.{Put as PutRow, Drop as DropRow}
use Rattle.ss_bso.specs.Account.{is_alive, is_at, time_of}
use Rattle.ss_bso.specs.Changes.{kept_after_changes, kept_of, row_changed}
use Rattle.ss_bso.specs.Limits.{most_rows_and_collections}
use Rattle.ss_bso.specs.Lists.{Each}
use Rattle.ss_bso.specs.Validity.{IsValid, SameAccount}
use Rattle.ss_bso.proofs.Full.{within-number}
use Rattle.ss_bso.proofs.Lists.{Each-append, Each-filter, Each-from_All, Each-imp, Each-map}
use Rattle.ss_bso.proofs.Reordering.{reordered-refl, reordered-sym}
use Rattle.ss_index.specs.Ready.{IsLast, InTime, rows_left as rows_kept}
use Rattle.ss_index.specs.Shelved.{dropped_names}
use Rattle.ss_laws.proofs.Times.{item_below}
use Rattle.ss_account.specs.Keeping.{IsSwept}
use Rattle.ss_writes.specs.declared.pending.Pending.{Pending}
use Rattle.ss_writes.specs.declared.pending.Pending.TheVariants.{Put, Cut, DropCollection, DropAll}
use Rattle.ss_writes.specs.Pending.{IsReady, account_after_pending, batches_left, changes_to, row_changes, times_left}
use Rattle.ss_account.proofs.Keeping.{beside-whole, whole-applied, whole-own}

-- a change puts a row of this time, or none
abbrev AtTime : ℕ → RowChange → Type 0
AtTime time (PutRow new) = new.modified ≡ time
AtTime time (DropRow collection id) = Unit {0}

abbrev NoLaterThan : ℕ → Row → Type 0
NoLaterThan time row = row.modified ≤ time

last-at : (time : ℕ) (rows : List Row) (change : RowChange) → Each (NoLaterThan time) rows → AtTime time change → IsLast rows change
last-at time rows (PutRow new) e at =
    subst (λ (t : ℕ). Each (λ (other : Row). other.modified ≤ t) (filter (λ row. bytes_eq row.collection new.collection) rows)) (sym at) (Each-filter (NoLaterThan time) (λ row. bytes_eq row.collection new.collection) rows e)
last-at time rows (DropRow collection id) e at = tt

sooner-changed : (time : ℕ) (rows : List Row) (change : RowChange) → Each (NoLaterThan time) rows → AtTime time change → Each (NoLaterThan time) (row_changed rows change)
sooner-changed time rows (PutRow new) e at =
    let own : new.modified ≤ time = omega (arith, at) in
    Each-append (NoLaterThan time) (filter (λ row. not (is_at new.collection new.id row)) rows) (new ∷ []) (Each-filter (NoLaterThan time) (λ row. not (is_at new.collection new.id row)) rows e) (own, tt)
sooner-changed time rows (DropRow collection id) e at = Each-filter (NoLaterThan time) (λ row. not (is_at collection id row)) rows e

in_time-at : (time : ℕ) (rows : List Row) (changes : List RowChange) → Each (NoLaterThan time) rows → Each (AtTime time) changes → InTime rows changes
in_time-at time rows [] e at = tt
in_time-at time rows (change ∷ changes) e at = (last-at time rows change e at.0, in_time-at time (row_changed rows change) changes (sooner-changed time rows change e at.0) at.1)

sooner-left : (time : ℕ) (names : List (List ℕ)) (rows : List Row) → Each (NoLaterThan time) rows → Each (NoLaterThan time) (rows_kept names rows)
sooner-left time [] rows e = e
sooner-left time (name ∷ names) rows e = sooner-left time names (filter (λ row. not (bytes_eq row.collection name)) rows) (Each-filter (NoLaterThan time) (λ row. not (bytes_eq row.collection name)) rows e)

-- the changes of a write that is ready
changes-at : (account : Plain) (time : ℕ) (pending : Pending) → IsReady account time pending → Each (AtTime time) (row_changes pending)
changes-at account time (Put collection targets made batch) ready =
    Each-map (λ (row : Row). row.modified ≡ time) (AtTime time) PutRow (λ row e. e) made.items (Each-from_All (λ (row : Row). row.modified ≡ time) made.items ready.stamped)
changes-at account time (Cut collection targets) ready = none targets
  where
    none : (ids : List (List ℕ)) → Each (AtTime time) (map (DropRow collection) ids)
    none [] = tt
    none (id ∷ ids) = (tt, none ids)
changes-at account time (DropCollection collection) ready = tt
changes-at account time DropAll ready = tt

changes-few : (account : Plain) (time : ℕ) (pending : Pending) → IsReady account time pending → length (row_changes pending) ≤ most_rows_and_collections
changes-few account time (Put collection targets made batch) ready =
    let same : length (map PutRow made.items) ≡ length made.items = length-map made.items PutRow in
    let few = ready.few in omega (arith, same, few)
changes-few account time (Cut collection targets) ready =
    let same : length (map (DropRow collection) targets) ≡ length targets = length-map targets (DropRow collection) in omega (arith, same, ready)
changes-few account time (DropCollection collection) ready = omega arith
changes-few account time DropAll ready = omega arith

-- no row is later than the store's time
rows-sooner : (account : Plain) (time : ℕ) → IsValid account → account.store < time → Each (NoLaterThan time) account.rows
rows-sooner account time valid later =
    let all = Each-from_All (λ (entry : List ℕ × ℕ). entry.1 ≤ account.store) account.collections valid.times in
    Each-imp (λ (row : Row). IsSomeAnd (time_of row.collection account.collections) (λ t. row.modified ≤ t)) (NoLaterThan time)
    (λ row item. let below : row.modified ≤ account.store = item_below account.collections row.collection row.modified account.store all item in omega (arith, below, later))
    account.rows (Each-from_All (λ (row : Row). IsSomeAnd (time_of row.collection account.collections) (λ t. row.modified ≤ t)) account.rows valid.items)

-- a shelf takes the changes of a write that is ready
pub shelf-number : (account : Plain) (ended : List ℕ) (time : ℕ) (pending : Pending) (changes : Changes) → IsValid account → IsReady account time pending → changes ≡ changes_to account ended time pending
    → length account.rows + length changes.rows < 2 ^ 32 - 1
shelf-number account ended time pending changes valid ready e =
    let all : length account.rows + length account.collections ≤ most_rows_and_collections = within-number account.rows (length account.collections) valid.limits.within in
    let few : length (row_changes pending) ≤ most_rows_and_collections = changes-few account time pending ready in
    let same : length changes.rows ≡ length (row_changes pending) = ap (λ (c : Changes). length c.rows) e in
    omega (arith, all, few, same)

pub shelf-times : (account : Plain) (ended : List ℕ) (time : ℕ) (pending : Pending) (changes : Changes) → IsValid account → IsReady account time pending → account.store < time → changes ≡ changes_to account ended time pending
    → InTime (rows_kept (dropped_names changes.collections) (filter (is_alive changes.moment) account.rows)) changes.rows
shelf-times account ended time pending changes valid ready later e =
    let with : Changes = changes_to account ended time pending in
    subst (λ (c : Changes). InTime (rows_kept (dropped_names c.collections) (filter (is_alive c.moment) account.rows)) c.rows) (sym e)
    (in_time-at time (rows_kept (dropped_names with.collections) (filter (is_alive account.moment) account.rows)) (row_changes pending)
    (sooner-left time (dropped_names with.collections) (filter (is_alive account.moment) account.rows)
    (Each-filter (NoLaterThan time) (is_alive account.moment) account.rows (rows-sooner account time valid later)))
    (changes-at account time pending ready))

-- and then has the rows after the write
pub shelf-applied : (account : Plain) (ended : List ℕ) (time : ℕ) (pending : Pending) (changes : Changes) (rows : List Row) → IsValid account → IsReady account time pending → IsSwept account → changes ≡ changes_to account ended time pending
    → IsReordering rows (kept_after_changes (kept_of account) changes).rows → IsReordering (account_after_pending account time pending).rows rows
shelf-applied account ended time pending changes rows valid ready swept e h =
    let whole = whole-applied [] (kept_of account) account time pending valid ready swept (beside-whole (kept_of account) account (whole-own account)) in
    chain whole.rows (reordered-sym (subst (λ (c : Changes). IsReordering rows (kept_after_changes (kept_of account) c).rows) e h))

-- and the account is the one after the write
pub kept-applied : (account : Plain) (ended : List ℕ) (time : ℕ) (pending : Pending) (changes : Changes) (left : Plain) → IsValid account → IsReady account time pending → IsSwept account → changes ≡ changes_to account ended time pending
    → IsReordering left.rows (kept_after_changes (kept_of account) changes).rows → left.collections ≡ times_left time pending account.collections → left.batches ≡ batches_left pending account.batches
    → left.store ≡ time → left.last_delete ≡ changes.last_delete → left.moment ≡ time → left.counter ≡ account.counter → SameAccount (account_after_pending account time pending) left
kept-applied account ended time pending changes left valid ready swept e rows collections batches store last_delete moment counter = record {
  rows = shelf-applied account ended time pending changes left.rows valid ready swept e rows;
  collections = subst (λ (times : List (List ℕ × ℕ)). IsReordering (times_left time pending account.collections) times) (sym collections) (reordered-refl (times_left time pending account.collections));
  batches = subst (λ (staged : List Staged). IsReordering (batches_left pending account.batches) staged) (sym batches) (reordered-refl (batches_left pending account.batches));
  store = sym store;
  last_delete = sym (last_delete ∙ ap (λ (c : Changes). c.last_delete) e);
  moment = sym moment;
  counter = sym counter;
}
