use Rattle.std.proofs.Common.{◌≡◌, not, take, filter}
use Rattle.ss_dupe.specs.Looks.{is_places}
use Rattle.ss_dupe.specs.Reading.{ids_at}
use Rattle.ss_merge.proofs.telling.walk_ids.Given as goal

abbrev pub invariant-loop-node : goal.invariant-loop-node
invariant-loop-node l = l.ids.items ≡ filter (λ x. not (is_places x)) (ids_at l.tree (take l.node-index l.node-items))
