use Rattle.std.proofs.Common.{sym, subst, ◌∙◌, take}
use Rattle.std.proofs.lemmas.List.{take_all}
use Rattle.ss_text.proofs.Basics.{take_push}
use Rattle.ss_flat.specs.States.{IsFlatState}
use Rattle.ss_flat.proofs.flat.flat_of.Goals as goal

pub loop-row-preserved : goal.loop-row-preserved
loop-row-preserved c =
    let inv = c.loop-row.invariant in
    record {
      kind = c.see.ensures.kind ∙ inv.kind;
      state = subst (λ rows. IsFlatState rows c.see.new.self) (sym (take_push c.args.rows.now c.loop-row.row-index c.row-item.result c.loop-row-test.true c.row-item.is)) (c.in_ok-see.ensures.seen (take c.loop-row.row-index c.args.rows.now) inv.state);
    }

pub returns-clause-state : goal.returns-clause-state
returns-clause-state c = subst (λ rows. IsFlatState rows c.loop-row.flat) (take_all c.loop-row.row-index c.args.rows.now c.loop-row-test.false) c.loop-row.invariant.state
