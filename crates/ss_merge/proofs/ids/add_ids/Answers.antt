use Rattle.std.proofs.Common.{bytes_eq, arith}
use Rattle.std.specs.HashSet.{contains_by}
use Rattle.ss_merge.proofs.Gathering.{begun, gathered_more, gathered_all}
use Rattle.ss_merge.proofs.ids.add_ids.Goals as goal

pub loop-id-init : goal.loop-id-init
loop-id-init c = begun (λ x. contains_by (bytes_eq x) c.args.seen.now) c.args.ids.now.items c.args.from.now c.requires

pub loop-id-preserved : goal.loop-id-preserved
loop-id-preserved c =
    gathered_more (λ x. contains_by (bytes_eq x) c.loop-id.seen) (λ x. contains_by (bytes_eq x) c.add_id.new.seen) c.args.ids.now.items c.loop-id.ids.items c.add_id.new.ids.items c.args.from.now c.loop-id.id-index c.id-item.result
    c.loop-id-test.true c.id-item.is c.in_ok-add_id.ensures.ids c.in_ok-add_id.ensures.seen c.loop-id.invariant

pub returns-clause-gathered : goal.returns-clause-gathered
returns-clause-gathered c = c.loop-id.invariant.gathered

pub returns-clause-all : goal.returns-clause-all
returns-clause-all c = gathered_all (λ x. contains_by (bytes_eq x) c.loop-id.seen) c.args.ids.now.items c.loop-id.ids.items c.args.from.now c.loop-id.id-index (omega arith) c.loop-id.invariant
