use Rattle.std.proofs.Common.{◌∙◌, ap, sym, ◌==◌, ◌&&◌, ◌||◌, false, nat_eq, get_or, take, arith}
use Rattle.std.specs.List.{list_any}
use Rattle.std.proofs.lemmas.List.Folds.{list_any_more}
use Rattle.ss_build.proofs.Chosen.{mark_more}
use Rattle.ss_build.proofs.proposals.mark_listed.Goals as goal

pub loop-seat-preserved : goal.loop-seat-preserved
loop-seat-preserved c = λ i l.
    mark_more c.args.kept.now c.loop-seat.kept c.mark.new.kept c.args.claimed.now c.args.folder (get_or c.args.seats.now c.loop-seat.seat-index 0) i
    (list_any (nat_eq i) (take c.loop-seat.seat-index c.args.seats.now)) (omega arith) (c.loop-seat.invariant i (omega arith)) c.mark.ensures
    ∙ ap (λ b. get_or c.args.kept.now i false || ((get_or c.args.claimed.now i 0 == c.args.folder) && b)) (sym (list_any_more (nat_eq i) c.args.seats.now c.loop-seat.seat-index 0 c.loop-seat-test.true))
