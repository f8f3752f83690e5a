use Rattle.std.proofs.Common.{◌≡◌, take, map}
use Rattle.serde_json.specs.View.{view}
use Rattle.ss_flat.specs.Texts.{visit_data}
use Rattle.ss_flat.proofs.texts.visit_list.Given as goal

abbrev pub invariant-loop-visit : goal.invariant-loop-visit
invariant-loop-visit l = map view l.items.items ≡ map visit_data (take l.visit-index l.visits)
