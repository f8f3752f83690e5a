-- The state of a set of rows, by greatest values over the set. A row stands in a list of rows or not: how often, and
-- where, is nothing to these definitions.
use Rattle.std.specs.Prelude.{◌≡◌, ℕ, ◌==◌, ◌&&◌, ◌++◌, List, [], Bool, true, false, Option, Some, None, bytes_eq}
use Rattle.std.specs.Prelude.{Contains}
use Rattle.std.specs.declared.cmp.Ordering.{Ordering}
use Rattle.std.specs.Ordering.{nat_cmp, ordering_then}
use Rattle.std.specs.Map.{lookup}
use Rattle.ss_text.specs.Texts.{text_cmp}
use Rattle.ss_bso.specs.Lists.{Pairs}
use Rattle.ss_bso.specs.declared.rows.Row.{Row}
use Rattle.ss_flat.specs.declared.kinds.FlatKind.{FlatKind}
use Rattle.ss_flat.specs.declared.visits.Visit.{Visit}
use Rattle.ss_flat.specs.declared.face.Face.{Face}
use Rattle.ss_flat.specs.declared.reading.Said.{Said}
use Rattle.ss_flat.specs.declared.reading.Reading.{Reading}
use Rattle.ss_flat.specs.declared.reading.Reading.TheVariants.{Record, Tombstone, Skipped}
use Rattle.ss_flat.specs.Greatest.{IsGreatestOf}
use Rattle.ss_flat.specs.Readings.{reading}

-- ---- what rows tell of an id

-- a row of the id, among the rows, that says this
pub record Tells (kind : FlatKind) (rows : List Row) (id : List ℕ) (Says : Row → Reading → Type 0) : Type 0 where
  pub row : Row
  pub among : Contains rows row
  pub named : row.id ≡ id
  pub says : Says row (reading kind row)

-- a fact on a record
abbrev pub OnRecord : (Said → Type 0) → Reading → Type 0
OnRecord P (Record said) = P said
OnRecord P Tombstone = ⊥
OnRecord P Skipped = ⊥

-- the time of a tombstone
abbrev pub IsTombstone : FlatKind → List Row → List ℕ → ℕ → Type 0
IsTombstone kind rows id time = Tells kind rows id (λ row r. (r ≡ Tombstone) × (row.modified ≡ time))

-- the time and the two texts of a record
abbrev pub IsFace : FlatKind → List Row → List ℕ → Face → Type 0
IsFace kind rows id face = Tells kind rows id (λ row r. OnRecord (λ said. face ≡ record { time = row.modified; first = said.first; second = said.second }) r)

-- the time of a record that has the visit
abbrev pub IsVisit : FlatKind → List Row → List ℕ → Visit → ℕ → Type 0
IsVisit kind rows id visit time = Tells kind rows id (λ row r. OnRecord (λ said. Contains said.visits visit × (row.modified ≡ time)) r)

-- a row of the id was skipped
abbrev pub IsSkippedId : FlatKind → List Row → List ℕ → Type 0
IsSkippedId kind rows id = Tells kind rows id (λ row r. r ≡ Skipped)

-- ---- the state

-- faces by time, then by first and second text
abbrev pub face_cmp : Face → Face → Ordering
face_cmp a b = ordering_then (nat_cmp a.time b.time) (ordering_then (text_cmp a.first b.first) (text_cmp a.second b.second))

-- what is kept of an id: the time of its last tombstone, its face, each visit with a time, and whether a row of it was skipped
pub record IdView : Type 0 where
  pub gone : Option ℕ
  pub face : Option Face
  pub visits : List (Visit × ℕ)
  pub skipped : Bool

abbrev pub nothing : IdView
nothing = record { gone = None; face = None; visits = []; skipped = false }

abbrev pub same_visit : Visit → Visit → Bool
same_visit v w = (v.date == w.date) && (v.kind == w.kind)

-- the time that is kept with a visit
abbrev pub time_of : Visit → List (Visit × ℕ) → Option ℕ
time_of visit visits = lookup (same_visit visit) visits

-- two visits are told apart
abbrev pub OtherVisit : Visit × ℕ → Visit × ℕ → Type 0
OtherVisit entry other = same_visit entry.0 other.0 ≡ false

-- The state of an id: `gone` is the greatest time of its tombstones, `face` the greatest face of its records, and each
-- visit, kept once, has the greatest time of a record that has it
pub record IsStateOf (kind : FlatKind) (rows : List Row) (id : List ℕ) (heard : IdView) : Type 0 where
  pub gone : IsGreatestOf nat_cmp (IsTombstone kind rows id) heard.gone
  pub face : IsGreatestOf face_cmp (IsFace kind rows id) heard.face
  pub visits : (visit : Visit) → IsGreatestOf nat_cmp (IsVisit kind rows id visit) (time_of visit heard.visits)
  pub once : Pairs OtherVisit heard.visits
  pub skipped : heard.skipped ≡ true → IsSkippedId kind rows id
  pub unskipped : heard.skipped ≡ false → IsSkippedId kind rows id → ⊥

-- what is kept of an id, and how many more visits fit without memory
pub record RoomedId : Type 0 where
  pub heard : IdView
  pub room : ℕ

-- a state: what is kept of each id, and how many more ids fit without memory
pub record State : Type 0 where
  pub kind : FlatKind
  pub entries : List (List ℕ × RoomedId)
  pub spare : ℕ

-- what is kept of an id
abbrev pub held_of : List ℕ → State → Option RoomedId
held_of id state = lookup (bytes_eq id) state.entries

abbrev pub heard_in : Option RoomedId → IdView
heard_in None = nothing
heard_in (Some held) = held.heard

abbrev pub heard_of : List ℕ → State → IdView
heard_of id state = heard_in (held_of id state)

-- flat_state: it is the state of this set of rows
abbrev pub IsFlatState : List Row → State → Type 0
IsFlatState rows state = (id : List ℕ) → IsStateOf state.kind rows id (heard_of id state)

-- the states keep the same of each id
pub record KeepsSame (old new : State) : Type 0 where
  pub kind : new.kind ≡ old.kind
  pub heard : (id : List ℕ) → heard_of id new ≡ heard_of id old

-- ---- joining

-- a state is that of the union of two sets of rows, whichever sets the two states are of
abbrev pub IsJoin : State → State → State → Type 0
IsJoin one other both = (rows others : List Row) → IsFlatState rows one → IsFlatState others other → IsFlatState (rows ++ others) both

-- the states tell the same of each id
pub record TellsSame (one other : State) : Type 0 where
  pub gone : (id : List ℕ) → (heard_of id one).gone ≡ (heard_of id other).gone
  pub face : (id : List ℕ) → (heard_of id one).face ≡ (heard_of id other).face
  pub visits : (id : List ℕ) (visit : Visit) → time_of visit (heard_of id one).visits ≡ time_of visit (heard_of id other).visits
  pub skipped : (id : List ℕ) → (heard_of id one).skipped ≡ (heard_of id other).skipped
