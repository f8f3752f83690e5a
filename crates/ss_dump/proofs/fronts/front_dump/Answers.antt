use Rattle.std.proofs.Common.{◌≡◌, true, false, rules, sym, subst}
use Rattle.std.proofs.lemmas.Result.{err_from_is_err_and}
use Rattle.ss_dump.specs.Fronts.{IsDumpFront}
use Rattle.ss_dump.specs.Stages.{kept_in, stage_state, states}
use Rattle.ss_dump.proofs.AtFront.{fault_at_end, fault_before, front_is, wrong_states}
use Rattle.ss_dump.proofs.fronts.front_dump.Goals as goal

pub returns-in_err-closed-clause-bad : goal.returns-in_err-closed-clause-bad
returns-in_err-closed-clause-bad c =
    let p = err_from_is_err_and c.from_residual.result c.from_residual.ensures.1 in
    rw (p.1, p.2) (fault_before c.args.bytes.now c.in_err-closed.field-0.0 c.in_err-closed.ensures.bad)

pub returns-then-not-states-clause-bad : goal.returns-then-not-states-clause-bad
returns-then-not-states-clause-bad c =
    let other : states (stage_state c.in_ok-closed.closed.stage) c.in_ok-found.found ≡ false = search rules in
    wrong_states c.args.bytes.now (stage_state c.in_ok-closed.closed.stage) c.in_ok-found.found c.in_ok-closed.closed.used c.in_ok-closed.closed.body c.in_ok-closed.closed.count
    c.in_ok-closed.ensures.read c.in_ok-closed.ensures.closed c.in_ok-found.ensures other

pub returns-in_err-whole-clause-bad : goal.returns-in_err-whole-clause-bad
returns-in_err-whole-clause-bad c =
    let p = err_from_is_err_and c.from_residual-in_err-whole.result c.from_residual-in_err-whole.ensures.1 in
    let same : states (stage_state c.in_ok-closed.closed.stage) c.in_ok-found.found ≡ true = search rules in
    rw (p.1, p.2) (fault_at_end c.args.bytes.now (stage_state c.in_ok-closed.closed.stage) c.in_ok-found.found c.in_ok-closed.closed.used c.in_ok-closed.closed.body c.in_ok-closed.closed.count
    c.in_err-whole.field-0.0 c.in_ok-closed.ensures.read c.in_ok-closed.ensures.closed c.in_ok-found.ensures same c.in_err-whole.ensures.bad)

pub returns-clause-front : goal.returns-clause-front
returns-clause-front c =
    let same : states (stage_state c.in_ok-closed.closed.stage) c.in_ok-found.found ≡ true = search rules in
    subst (λ kept. IsDumpFront c.args.bytes.now kept c.in_ok-whole.whole.used c.in_ok-whole.whole.count) (sym c.into_kept.ensures)
    (front_is c.args.bytes.now (stage_state c.in_ok-closed.closed.stage) (stage_state c.in_ok-whole.whole.stage) c.in_ok-found.found (kept_in c.at_end-told.result.draft) c.at_end-told.result.digest
    c.in_ok-closed.closed.used c.in_ok-closed.closed.body c.in_ok-closed.closed.count c.in_ok-whole.whole.used c.in_ok-whole.whole.body c.in_ok-whole.whole.count
    c.in_ok-closed.ensures.read c.in_ok-found.ensures same c.in_ok-whole.ensures.next c.in_ok-whole.ensures.read c.at_end-told.ensures.told)
