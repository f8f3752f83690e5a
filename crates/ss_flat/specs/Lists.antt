-- What a set of rows comes to: its items, the ids that are gone, and those of which a row was skipped.
use Rattle.std.specs.Prelude.{◌≡◌, ℕ, ◌<◌, ◌≤◌, List}
use Rattle.std.specs.declared.cmp.Ordering.{Ordering}
use Rattle.std.specs.Ordering.{nat_cmp, ordering_then}
use Rattle.ss_text.specs.Texts.{text_cmp}
use Rattle.ss_bso.specs.declared.rows.Row.{Row}
use Rattle.ss_flat.specs.declared.kinds.FlatKind.{FlatKind}
use Rattle.ss_flat.specs.declared.visits.Visit.{Visit}
use Rattle.ss_flat.specs.declared.face.Face.{Face}
use Rattle.ss_flat.specs.declared.lists.Shown.{Shown}
use Rattle.ss_flat.specs.Greatest.{IsAllInOrder, IsGreatest}
use Rattle.ss_flat.specs.States.{IsFace, IsSkippedId, IsTombstone, IsVisit, face_cmp}
use Rattle.ss_flat.specs.Texts.{record_text}

-- the time is above that of every tombstone of the id
abbrev pub IsAlive : FlatKind → List Row → List ℕ → ℕ → Type 0
IsAlive kind rows id time = (gone : ℕ) → IsTombstone kind rows id gone → gone < time

-- visits by date downwards, then by type upwards
abbrev pub visit_cmp : Visit → Visit → Ordering
visit_cmp v w = ordering_then (nat_cmp w.date v.date) (nat_cmp v.kind w.kind)

-- the greatest time of the visit is above every tombstone
pub record IsShownVisit (kind : FlatKind) (rows : List Row) (id : List ℕ) (visit : Visit) : Type 0 where
  pub time : ℕ
  pub greatest : IsGreatest nat_cmp (IsVisit kind rows id visit) time
  pub alive : IsAlive kind rows id time

-- the id is shown with this record: the time of its greatest face is above every tombstone
pub record IsShownRecord (kind : FlatKind) (rows : List Row) (id text : List ℕ) : Type 0 where
  pub face : Face
  pub visits : List Visit
  pub greatest : IsGreatest face_cmp (IsFace kind rows id) face
  pub alive : IsAlive kind rows id face.time
  pub visits_are : IsAllInOrder visit_cmp (IsShownVisit kind rows id) visits
  pub text_is : text ≡ record_text kind id face visits

-- the id is gone since this time: it is the time of its last tombstone, and no record's is above it
pub record IsGoneId (kind : FlatKind) (rows : List Row) (id : List ℕ) (time : ℕ) : Type 0 where
  pub greatest : IsGreatest nat_cmp (IsTombstone kind rows id) time
  pub over : (face : Face) → IsFace kind rows id face → face.time ≤ time

-- ---- the lists, each by id

abbrev pub AreShownRecords : FlatKind → List Row → List Shown → Type 0
AreShownRecords kind rows items = IsAllInOrder (λ a b. text_cmp a.id b.id) (λ shown. IsShownRecord kind rows shown.id shown.text) items

abbrev pub AreGoneIds : FlatKind → List Row → List (List ℕ × ℕ) → Type 0
AreGoneIds kind rows gone = IsAllInOrder (λ a b. text_cmp a.0 b.0) (λ entry. IsGoneId kind rows entry.0 entry.1) gone

abbrev pub AreSkippedIds : FlatKind → List Row → List (List ℕ) → Type 0
AreSkippedIds kind rows ids = IsAllInOrder text_cmp (IsSkippedId kind rows) ids
