use Rattle.std.specs.Prelude.{IfSome}
use Rattle.ss_list.specs.Chain.{IsLive}
use Rattle.cases_accounts.proofs.rows.chains.nth.Given as goal

abbrev pub invariant-loop : goal.invariant-loop
invariant-loop g l = IfSome l.at (IsLive l.chain)
