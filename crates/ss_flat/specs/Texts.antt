-- The record of an item that is shown: compact JSON, its members upwards by name.
use Rattle.std.specs.Prelude.{ℕ, List, map, codes}
use Rattle.serde_json.specs.Data.{Data, string, number, array, object, unsigned, Items, no_members, member}
use Rattle.serde_json.specs.View.{items_of}
use Rattle.serde_json.specs.Written.{compact_text}
use Rattle.ss_flat.specs.declared.kinds.FlatKind.{FlatKind}
use Rattle.ss_flat.specs.declared.kinds.FlatKind.TheVariants.{History, Forms}
use Rattle.ss_flat.specs.declared.visits.Visit.{Visit}
use Rattle.ss_flat.specs.declared.face.Face.{Face}

abbrev pub visit_data : Visit → Data
visit_data visit = object (member (codes "date") (number (unsigned visit.date)) (member (codes "type") (number (unsigned visit.kind)) no_members))

abbrev pub visit_items : List Visit → Items
visit_items visits = items_of (map visit_data visits)

unfoldable pub record_data : FlatKind → List ℕ → Face → List Visit → Data
record_data History id face visits =
    object (member (codes "histUri") (string face.first) (member (codes "id") (string id) (member (codes "title") (string face.second) (member (codes "visits") (array (visit_items visits)) no_members))))
record_data Forms id face visits =
    object (member (codes "id") (string id) (member (codes "name") (string face.first) (member (codes "value") (string face.second) no_members)))

unfoldable pub record_text : FlatKind → List ℕ → Face → List Visit → List ℕ
record_text kind id face visits = compact_text (record_data kind id face visits)
