use Rattle.std.proofs.Common.{◌≤◌, ◌&&◌, ◌∙◌, ap, arith, filter, length, map, not, take_all}
use Rattle.ss_record.specs.Ids.{by_id, has}
use Rattle.ss_tree.specs.Entries.{tree}
use Rattle.ss_tree.specs.Trees.{node_ids}
use Rattle.ss_build.specs.Rows.{is_item}
use Rattle.ss_build.proofs.Sorting.{by_id_is}
use Rattle.ss_plan.specs.Plan.{gone}
use Rattle.ss_plan.proofs.gone.gone.Goals as goal

pub returns : goal.returns
unfolding gone
returns c =
    let rs = c.args.readings.now in
    let le : length c.args.readings.now ≤ c.loop-id.id-index = omega arith in
    by_id_is _ _ c.in_ok-sort.ensures.sorted c.in_ok-sort.ensures.stable
    ∙ ap by_id (c.loop-id.invariant ∙ ap (λ ws. map (λ r. r.0) (filter (λ r. is_item r.1 && not (has r.0 (node_ids (tree c.args.tree.now)))) ws)) (take_all c.loop-id.id-index rs le))
