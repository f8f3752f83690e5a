use Rattle.std.proofs.Common.{◌≡◌, drop}
use Rattle.ss_record.specs.Ids.{same_list}
use Rattle.ss_plan.proofs.agreeing.same_children.Given as goal

abbrev pub invariant-loop-at : goal.invariant-loop-at
invariant-loop-at l = same_list l.words-2 l.ids ≡ same_list (drop l.at l.words-2) (drop l.at l.ids)
