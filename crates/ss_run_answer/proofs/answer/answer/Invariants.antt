use Rattle.std.proofs.Common.{◌-◌}
use Rattle.std.specs.Prelude.{IfSome, ◌≡◌}
use Rattle.ss_run_answer.specs.Turns.{Progress}
use Rattle.ss_run_answer.proofs.answer.answer.Given as goal
use Rattle.ss_run_answer.specs.declared.answer.TheConstants.{MOST}

abbrev pub invariant-turns : goal.invariant-turns
invariant-turns g l =
    Progress l.command.uid l.command.at (g.S.Told.told l.fn.input) (g.S.Told.told l.input) (g.T.Told.told l.fn.output) (g.T.Told.told l.output)
    (g.C.Clock.coming l.fn.clock) (g.C.Clock.coming l.clock) l.buffer l.account.plain l.count
    × IfSome l.command.at (λ _. l.clock ≡ l.fn.clock)

abbrev pub decreases-turns : goal.decreases-turns
decreases-turns g l = MOST - l.count
