use Rattle.std.proofs.Common.{sym, ap, ◌∙◌, subst, Some, arith, ◌+◌}
use Rattle.std.proofs.lemmas.List.{take_all, take_rest}
use Rattle.ss_text.proofs.Points.{CutAt, cut_at}
use Rattle.ss_text.proofs.stamps.cut_at_point.Goals as goal

pub returns-then-at-text-clause-front : goal.returns-then-at-text-clause-front
returns-then-at-text-clause-front c = sym (subst (CutAt c.args.text.now) (sym c.point_at-at.ensures) (cut_at c.args.text.now)).front

pub returns-then-at-text-clause-rest : goal.returns-then-at-text-clause-rest
returns-then-at-text-clause-rest c =
    let cut = subst (CutAt c.args.text.now) (sym c.point_at-at.ensures) (cut_at c.args.text.now) in
    ap Some (take_rest c.args.text.now (c.point_at-at.result + 1)) ∙ sym (cut.rest (omega arith))

pub returns-else-at-text-clause-front : goal.returns-else-at-text-clause-front
returns-else-at-text-clause-front c =
    let cut = subst (CutAt c.args.text.now) (sym c.point_at-at.ensures) (cut_at c.args.text.now) in
    sym (take_all c.point_at-at.result c.args.text.now (omega arith)) ∙ sym cut.front

pub returns-else-at-text-clause-rest : goal.returns-else-at-text-clause-rest
returns-else-at-text-clause-rest c =
    let cut = subst (CutAt c.args.text.now) (sym c.point_at-at.ensures) (cut_at c.args.text.now) in
    sym (cut.whole (omega arith))
