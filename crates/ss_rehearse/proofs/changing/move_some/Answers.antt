use Rattle.std.proofs.Common.{◌+◌, sym, ap₂, subst}
use Rattle.ss_world.specs.declared.events.Edit.TheVariants as edit
use Rattle.ss_rehearse.specs.Scripts.{moves}
use Rattle.ss_rehearse.proofs.Changes.{AreChanged, moved_more, moved_same}
use Rattle.ss_rehearse.proofs.changing.move_some.Goals as goal
use Rattle.ss_rehearse.proofs.changing.move_some.Goals.{then-number-eq0+in_ok-id+in_ok-parent+in_ok-change}
use Rattle.ss_rehearse.proofs.changing.move_some.Goals.{else-number-eq0}

pub loop-at-preserved : goal.loop-at-preserved
loop-at-preserved c =
    let at = c.loop-at.at in
    let so_far : AreChanged 0 c.args.now c.args.world.now (moves at) at c.loop-at.world c.loop-at.next = (c.loop-at.invariant.changed, c.loop-at.invariant.early, c.loop-at.invariant.idle) in
    let now : AreChanged 0 c.args.now c.args.world.now (moves (at + 1)) (at + 1) c.if-number-eq0.world c.if-number-eq0.next =
    elim c.if-number-eq0.branch [
      | then-number-eq0+in_ok-id+in_ok-parent+in_ok-change w ↦
          subst (λ n. AreChanged 0 c.args.now c.args.world.now (moves (at + 1)) (at + 1) c.if-number-eq0.world n) (sym w.next-is)
          (subst (λ v. AreChanged 0 c.args.now c.args.world.now (moves (at + 1)) (at + 1) v (c.loop-at.next + 100)) (sym w.world-is)
          (moved_more c.args.now c.args.world.now at c.loop-at.world c.loop-at.next _ w.change.new.world w.if-number-eq0.true (ap₂ edit.Move w.in_ok-id.ensures w.in_ok-parent.ensures) so_far w.in_ok-change.ensures))
      | else-number-eq0 w ↦
          subst (λ n. AreChanged 0 c.args.now c.args.world.now (moves (at + 1)) (at + 1) c.if-number-eq0.world n) (sym w.next-is)
          (subst (λ v. AreChanged 0 c.args.now c.args.world.now (moves (at + 1)) (at + 1) v c.loop-at.next) (sym w.world-is)
          (moved_same c.args.now c.args.world.now at c.loop-at.world c.loop-at.next w.if-number-eq0.false so_far))
    ] in
    record { changed = now.0; early = now.1; idle = now.2 }
