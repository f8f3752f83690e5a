use Rattle.std.proofs.Common.{◌≡◌, take, map}
use Rattle.serde_json.specs.Data.{string}
use Rattle.serde_json.specs.View.{view}
use Rattle.ss_record.specs.Marks.{marked_string}
use Rattle.ss_record.proofs.write.list.Given as goal

abbrev pub invariant-loop-id : goal.invariant-loop-id
invariant-loop-id l = map view l.items.items ≡ map (λ s. string (marked_string s)) (take l.id-index l.ids)
