use Rattle.std.proofs.Common.{arith, ap, sym, ◌∙◌}
use Rattle.std.specs.Prelude.{slice_set}
use Rattle.std.proofs.lemmas.List.Edits.{map_over_more}
use Rattle.ss_bso.specs.Batches.{grown}
use Rattle.ss_keeper.proofs.batch_edits.grow_batches.Goals as goal

pub loop-staged-preserved : goal.loop-staged-preserved
loop-staged-preserved c =
    let first = c.deref_mut-staged-items.result.now in
    let held = c.loop-staged.staged-items in
    let at = c.loop-staged.staged-index in
    ap (slice_set held at) (c.in_ok-grow.ensures ∙ ap (grown c.args.number c.args.parts.now) (sym c.staged-item.is))
    ∙ map_over_more (grown c.args.number c.args.parts.now) first held at c.staged-item.result (omega arith) c.loop-staged.invariant c.staged-item.is
