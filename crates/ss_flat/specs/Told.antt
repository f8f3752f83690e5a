-- The lists as they are read from what is kept; for private clauses.
use Rattle.std.specs.Prelude.{ℕ, nat_lt, List, Bool, true, if◌then◌else◌, Option, Some, None, option_map}
use Rattle.std.specs.Prelude.{option_and_then, filter_map}
use Rattle.std.specs.Ordering.{is_lt}
use Rattle.ss_text.specs.Texts.{sorted, text_cmp}
use Rattle.ss_flat.specs.declared.kinds.FlatKind.{FlatKind}
use Rattle.ss_flat.specs.declared.visits.Visit.{Visit}
use Rattle.ss_flat.specs.declared.face.Face.{Face}
use Rattle.ss_flat.specs.declared.lists.Shown.{Shown}
use Rattle.ss_flat.specs.States.{IdView, RoomedId}
use Rattle.ss_flat.specs.Lists.{visit_cmp}
use Rattle.ss_flat.specs.Texts.{record_text}

-- a time is above that of the last tombstone
abbrev pub is_above : Option ℕ → ℕ → Bool
is_above None time = true
is_above (Some gone) time = nat_lt gone time

-- the face that is shown
abbrev pub shown_face : IdView → Option Face
shown_face heard = option_and_then (λ face. if is_above heard.gone face.time then Some face else None) heard.face

-- a visit that is shown
abbrev pub shown_visit : Option ℕ → Visit × ℕ → Option Visit
shown_visit gone entry = if is_above gone entry.1 then Some entry.0 else None

abbrev pub shown_visits : IdView → List Visit
shown_visits heard = sorted (λ v w. is_lt (visit_cmp v w)) (filter_map (shown_visit heard.gone) heard.visits)

-- the item of an entry
unfoldable pub shown_of : FlatKind → List ℕ × RoomedId → Option Shown
shown_of kind entry =
    option_map (λ face. record { id = entry.0; text = record_text kind entry.0 face (shown_visits entry.1.heard) }) (shown_face entry.1.heard)

-- the time since which it is gone, where no face is shown
abbrev pub gone_unless : Option Face → Option ℕ → Option ℕ
gone_unless None time = time
gone_unless (Some face) time = None

-- an entry's id with the time since which it is gone
unfoldable pub gone_of : List ℕ × RoomedId → Option (List ℕ × ℕ)
gone_of entry = option_map (λ time. (entry.0, time)) (gone_unless (shown_face entry.1.heard) entry.1.heard.gone)

-- the id of an entry of which a row was skipped
unfoldable pub skipped_of : List ℕ × RoomedId → Option (List ℕ)
skipped_of entry = if entry.1.heard.skipped then Some entry.0 else None

abbrev pub shown_list : FlatKind → List (List ℕ × RoomedId) → List Shown
shown_list kind entries = sorted (λ a b. is_lt (text_cmp a.id b.id)) (filter_map (shown_of kind) entries)

abbrev pub gone_list : List (List ℕ × RoomedId) → List (List ℕ × ℕ)
gone_list entries = sorted (λ a b. is_lt (text_cmp a.0 b.0)) (filter_map gone_of entries)

abbrev pub skipped_list : List (List ℕ × RoomedId) → List (List ℕ)
skipped_list entries = sorted (λ a b. is_lt (text_cmp a b)) (filter_map skipped_of entries)
