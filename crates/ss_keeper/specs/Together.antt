-- What the changes of several commits come to together, so that they are made in one pass: what they leave of what was there,
-- and what is left of what they bring.
use Rattle.std.specs.Prelude.{ℕ, Bool, true, false, not, ◌&&◌, List, [], ◌∷◌, ◌++◌, filter, bytes_eq, Option, Some}
use Rattle.std.specs.Prelude.{None, if◌then◌else◌}
use Rattle.std.specs.List.{list_any}
use Rattle.std.specs.Borrow.{Bor}
use Rattle.std.specs.HashSet.{HashSet}
use Rattle.ss_bso.specs.declared.rows.Row.{Row}
use Rattle.ss_bso.specs.declared.changes.Changes.{Changes}
use Rattle.ss_bso.specs.declared.changes.RowChange.{RowChange}
use Rattle.ss_bso.specs.declared.changes.RowChange.TheVariants as row
use Rattle.ss_bso.specs.declared.changes.CollectionChange.{CollectionChange}
use Rattle.ss_bso.specs.declared.changes.CollectionChange.TheVariants as collection
use Rattle.ss_bso.specs.Account.{is_alive, is_at}
use Rattle.ss_bso.specs.Changes.{drops}
use Rattle.ss_keeper.specs.declared.row_edits.Place.{Place}
use Rattle.ss_keeper.specs.declared.row_edits.RowEdits.{RowEdits}
use Rattle.ss_keeper.specs.declared.time_edits.TimeEdits.{TimeEdits}

-- the collection and the id that a change names
abbrev pub collection_of : RowChange → List ℕ
collection_of (row.Put new) = new.collection
collection_of (row.Drop collection id) = collection

abbrev pub id_of : RowChange → List ℕ
id_of (row.Put new) = new.id
id_of (row.Drop collection id) = id

-- whether a change is of a row's place
abbrev pub touches : Row → RowChange → Bool
touches row change = is_at (collection_of change) (id_of change) row

-- whether one of the changes is
abbrev pub is_touched : List RowChange → Row → Bool
is_touched changes row = list_any (touches row) changes

-- whether a commit spares a row: it is alive then, its collection isn't dropped, and no change is of its place
abbrev pub spares : Changes → Row → Bool
spares commit row = is_alive commit.moment row && (not (list_any (drops row.collection) commit.collections) && not (is_touched commit.rows row))

-- whether all of the commits do
abbrev pub is_spared : List Changes → Row → Bool
is_spared [] row = true
is_spared (commit ∷ commits) row = spares commit row && is_spared commits row

-- the rows of later changes, with the one that a change puts before them where it stays
abbrev pub with_put : (Row → Bool) → RowChange → List Row → List Row
with_put stays (row.Put new) rows = if stays new then new ∷ rows else rows
with_put stays (row.Drop collection id) rows = rows

-- the rows that are put and that no later change touches
abbrev pub last_puts : List RowChange → List Row
last_puts [] = []
last_puts (change ∷ changes) = with_put (λ row. not (is_touched changes row)) change (last_puts changes)

-- the rows that commits put and that the later ones spare
abbrev pub spared_puts : List Changes → List Row
spared_puts [] = []
spared_puts (commit ∷ commits) = filter (is_spared commits) (last_puts commit.rows) ++ spared_puts commits

-- whether a change sets the time of a collection
abbrev pub sets : List ℕ → CollectionChange → Bool
sets name (collection.Set set time) = bytes_eq name set
sets name (collection.Drop dropped) = false

-- whether one of the changes does
abbrev pub is_set : List CollectionChange → List ℕ → Bool
is_set changes name = list_any (sets name) changes

-- whether a commit spares the time of a collection: it is neither dropped nor set
abbrev pub spares_time : Changes → List ℕ → Bool
spares_time commit name = not (list_any (drops name) commit.collections) && not (is_set commit.collections name)

-- whether all of the commits do
abbrev pub is_time_spared : List Changes → List ℕ → Bool
is_time_spared [] name = true
is_time_spared (commit ∷ commits) name = spares_time commit name && is_time_spared commits name

-- the times of later changes, with the one that a change sets before them where it stays
abbrev pub with_time : (List ℕ → Bool) → CollectionChange → List (List ℕ × ℕ) → List (List ℕ × ℕ)
with_time stays (collection.Set name time) times = if stays name then (name, time) ∷ times else times
with_time stays (collection.Drop name) times = times

-- the times that are set and that no later change sets
abbrev pub last_times : List CollectionChange → List (List ℕ × ℕ)
last_times [] = []
last_times (change ∷ changes) = with_time (λ name. not (is_set changes name)) change (last_times changes)

-- the times that commits set and that the later ones spare
abbrev pub spared_times : List Changes → List (List ℕ × ℕ)
spared_times [] = []
spared_times (commit ∷ commits) = filter (λ entry. is_time_spared commits entry.0) (last_times commit.collections) ++ spared_times commits

-- whether a set of places holds a row's
abbrev pub is_held : {S : Type 0} → HashSet Place S → Row → Bool
is_held places row = list_any (λ (place : Place). is_at place.collection.now place.id.now row) places.keys

-- whether a name is among those
abbrev pub is_named : {S : Type 0} → HashSet (Bor (List ℕ)) S → List ℕ → Bool
is_named names name = list_any (λ held. bytes_eq name held.now) names.keys

-- whether a row is alive at a moment, where there is one
abbrev pub is_alive_by : Option ℕ → Row → Bool
is_alive_by None row = true
is_alive_by (Some moment) row = is_alive moment row

-- whether the edits that were gathered leave a row
abbrev pub leaves : RowEdits → Row → Bool
leaves edits row = is_alive_by edits.moment row && (not (is_named edits.dropped row.collection) && not (is_held edits.touched row))

-- whether they leave the time of a collection
abbrev pub leaves_time : TimeEdits → List ℕ → Bool
leaves_time edits name = not (is_named edits.dropped name) && not (is_named edits.set name)
