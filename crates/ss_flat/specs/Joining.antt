-- How what is kept of an id grows, row by row and state by state; for private clauses.
use Rattle.std.specs.Prelude.{◌≡◌, ℕ, ◌≤◌, List, [], true, false, if◌then◌else◌, Option, Some, None, IfSome, bytes_eq}
use Rattle.std.specs.List.{list_any}
use Rattle.std.specs.declared.cmp.Ordering.{Ordering}
use Rattle.std.specs.Ordering.{nat_cmp, is_lt}
use Rattle.std.specs.Map.{lookup}
use Rattle.ss_bso.specs.Lists.{Pairs}
use Rattle.ss_flat.specs.declared.kinds.Sight.{Sight}
use Rattle.ss_flat.specs.declared.kinds.Sight.TheVariants as sight
use Rattle.ss_flat.specs.declared.visits.Visit.{Visit}
use Rattle.ss_flat.specs.declared.reading.Said.{Said}
use Rattle.ss_flat.specs.declared.reading.Reading.{Reading}
use Rattle.ss_flat.specs.declared.reading.Reading.TheVariants.{Record, Tombstone, Skipped}
use Rattle.ss_flat.specs.States.{IdView, RoomedId, OtherVisit, State, face_cmp, heard_in, held_of, same_visit, time_of}

-- the greater of two, where there are two
abbrev pub greater : {X : Type 0} → (X → X → Ordering) → Option X → Option X → Option X
greater cmp None b = b
greater cmp (Some x) None = Some x
greater cmp (Some x) (Some y) = if is_lt (cmp x y) then Some y else Some x

abbrev pub later : Option ℕ → Option ℕ → Option ℕ
later a b = greater nat_cmp a b

-- what is kept of an id where two states are joined
pub record Joins (one other both : IdView) : Type 0 where
  pub gone : both.gone ≡ later one.gone other.gone
  pub face : both.face ≡ greater face_cmp one.face other.face
  pub visits : (visit : Visit) → time_of visit both.visits ≡ later (time_of visit one.visits) (time_of visit other.visits)
  pub once : Pairs OtherVisit one.visits → Pairs OtherVisit both.visits
  pub skipped : both.skipped ≡ (if one.skipped then true else other.skipped)

-- each of the visits is kept with this time, and no other visit
abbrev pub HasTimes : ℕ → List Visit → List (Visit × ℕ) → Type 0
HasTimes time visits times = (visit : Visit) → time_of visit times ≡ (if list_any (same_visit visit) visits then Some time else None)

-- what a record of this time makes known of its id
pub record MakesRecord (time : ℕ) (said : Said) (heard : IdView) : Type 0 where
  pub gone : heard.gone ≡ None
  pub face : heard.face ≡ Some (record { time = time; first = said.first; second = said.second })
  pub visits : HasTimes time said.visits heard.visits
  pub once : Pairs OtherVisit heard.visits
  pub skipped : heard.skipped ≡ false

-- what a row of this time makes known of its id
abbrev pub Makes : ℕ → Reading → IdView → Type 0
Makes time (Record said) heard = MakesRecord time said heard
Makes time Tombstone heard = heard ≡ record { gone = Some time; face = None; visits = []; skipped = false }
Makes time Skipped heard = heard ≡ record { gone = None; face = None; visits = []; skipped = true }

abbrev pub sight_of : Reading → Sight
sight_of (Record said) = sight.Taken
sight_of Tombstone = sight.Taken
sight_of Skipped = sight.Skipped

-- what is kept of an id is there with room for so many more visits, or isn't there
abbrev pub HasRoom : List ℕ → ℕ → State → Type 0
HasRoom id count state = IfSome (held_of id state) (λ held. count ≤ held.room)

-- what is kept of an id among entries
abbrev pub heard_among : List ℕ → List (List ℕ × RoomedId) → IdView
heard_among id entries = heard_in (lookup (bytes_eq id) entries)

-- an entry without its room
abbrev pub entry_heard : List ℕ × RoomedId → List ℕ × IdView
entry_heard entry = (entry.0, entry.1.heard)

-- two entries have different keys
abbrev pub OtherKey : List ℕ × RoomedId → List ℕ × RoomedId → Type 0
OtherKey entry other = bytes_eq entry.0 other.0 ≡ false
