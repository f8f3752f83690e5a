-- A record has no float.
use Rattle.std.proofs.Common.{◌≡◌, ℕ, List, [], ◌∷◌, false, ◌||◌, refl, ap}
use Rattle.serde_json.specs.Written.{has_float, items_have_float}
use Rattle.ss_flat.specs.declared.kinds.FlatKind.{FlatKind}
use Rattle.ss_flat.specs.declared.kinds.FlatKind.TheVariants.{History, Forms}
use Rattle.ss_flat.specs.declared.visits.Visit.{Visit}
use Rattle.ss_flat.specs.declared.face.Face.{Face}
use Rattle.ss_flat.specs.Texts.{record_data, visit_items}

no_float_visits : (visits : List Visit) → items_have_float (visit_items visits) ≡ false
no_float_visits [] = refl
no_float_visits (visit ∷ visits) = no_float_visits visits

pub no_float : (kind : FlatKind) (id : List ℕ) (face : Face) (visits : List Visit) → has_float (record_data kind id face visits) ≡ false
unfolding record_data
no_float History id face visits = ap (λ b. b || false) (no_float_visits visits)
no_float Forms id face visits = refl
