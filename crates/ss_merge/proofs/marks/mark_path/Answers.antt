use Rattle.std.proofs.Common.{◌∙◌, cond, Some, ap, ap₂, bytes_eq, arith}
use Rattle.std.specs.HashMap.{get}
use Rattle.ss_merge.proofs.Marking.{none_told, more_told, all_told}
use Rattle.ss_merge.proofs.marks.mark_path.Goals as goal

pub loop-passed-init : goal.loop-passed-init
loop-passed-init c = none_told (get bytes_eq c.args.marks.now) c.args.path.now (Some c.args.goal.now)

pub loop-passed-preserved : goal.loop-passed-preserved
loop-passed-preserved c =
    more_told c.args.path.now c.loop-passed.passed-index c.passed-item.result (Some c.args.goal.now) c.loop-passed-test.true c.passed-item.is c.loop-passed.invariant
    (λ x. c.in_ok-insert.ensures.updates.0 x ∙ ap₂ (λ k g. cond (bytes_eq k x) (Some (Some g)) (get bytes_eq c.loop-passed.marks x)) c.in_ok-copy.ensures c.in_ok-copy-2.ensures)

pub returns : goal.returns
returns c = all_told c.args.path.now c.loop-passed.passed-index (Some c.args.goal.now) (omega arith) c.loop-passed.invariant
