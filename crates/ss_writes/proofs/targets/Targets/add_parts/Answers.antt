use Rattle.std.proofs.Common.{sym, ap, ◌∙◌}
use Rattle.ss_writes.specs.Parts.{with_id, with_part_id}
use Rattle.ss_writes.proofs.Made.{fold-more}
use Rattle.ss_writes.proofs.targets.Targets.add_parts.Goals as goal

pub loop-part-preserved : goal.loop-part-preserved
loop-part-preserved c =
    c.in_ok-add.ensures
    ∙ ap (λ ids. with_id ids c.part-item.result.id) c.loop-part.invariant
    ∙ sym (fold-more with_part_id c.args.self.now c.args.parts.now c.loop-part.part-index c.part-item.result c.loop-part-test.true c.part-item.is)
