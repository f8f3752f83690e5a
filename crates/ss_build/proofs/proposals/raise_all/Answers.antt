use Rattle.std.proofs.Common.{◌∙◌, ap, sym, nat_eq, cond, get_or, take, arith}
use Rattle.std.specs.List.{list_any}
use Rattle.std.proofs.lemmas.List.Folds.{list_any_more}
use Rattle.ss_build.specs.Places.{better}
use Rattle.ss_build.proofs.Listers.{raise_more}
use Rattle.ss_build.proofs.proposals.raise_all.Goals as goal

pub loop-seat-preserved : goal.loop-seat-preserved
loop-seat-preserved c = λ i l.
    raise_more c.args.claims.now c.args.listers.now c.loop-seat.listers c.raise.new.listers c.args.folder (get_or c.args.seats.now c.loop-seat.seat-index 0) i
    (list_any (nat_eq i) (take c.loop-seat.seat-index c.args.seats.now)) (omega arith) (c.loop-seat.invariant i (omega arith)) c.raise.ensures
    ∙ ap (λ b. cond b (better c.args.claims.now (get_or c.args.listers.now i 0) c.args.folder) (get_or c.args.listers.now i 0)) (sym (list_any_more (nat_eq i) c.args.seats.now c.loop-seat.seat-index 0 c.loop-seat-test.true))
