use Rattle.std.proofs.Common.{◌≡◌, ◌&&◌, not, take, map, filter}
use Rattle.ss_build.specs.Rows.{is_item}
use Rattle.ss_record.specs.Ids.{has}
use Rattle.ss_tree.specs.Entries.{tree}
use Rattle.ss_tree.specs.Trees.{node_ids}
use Rattle.ss_plan.proofs.gone.gone.Given as goal

abbrev pub invariant-loop-id : goal.invariant-loop-id
invariant-loop-id l = l.ids.items ≡ map (λ r. r.0) (filter (λ r. is_item r.1 && not (has r.0 (node_ids (tree l.tree)))) (take l.id-index l.readings))
