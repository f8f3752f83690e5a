use Rattle.std.proofs.Common.{◌∙◌, ◌==◌, ◌&&◌, not, false, ap, sym, get_or, length, take, arith}
use Rattle.std.specs.List.{list_any}
use Rattle.std.proofs.lemmas.List.Folds.{list_any_more}
use Rattle.ss_build.proofs.Told.{untell_more}
use Rattle.ss_build.proofs.siblings.untell.Goals as goal

pub loop-seat-preserved : goal.loop-seat-preserved
loop-seat-preserved c = λ i l.
    untell_more c.args.as_told.now c.loop-seat.as_told c.untell_one.new.as_told c.args.parents.now (get_or c.args.seats.now c.loop-seat.seat-index 0) i
    (list_any (λ s. get_or c.args.parents.now s (length c.args.as_told.now) == i) (take c.loop-seat.seat-index c.args.seats.now)) (omega arith) (omega arith) (c.loop-seat.invariant i l) c.untell_one.ensures
    ∙ ap (λ b. get_or c.args.as_told.now i false && not b) (sym (list_any_more (λ s. get_or c.args.parents.now s (length c.args.as_told.now) == i) c.args.seats.now c.loop-seat.seat-index 0 c.loop-seat-test.true))
