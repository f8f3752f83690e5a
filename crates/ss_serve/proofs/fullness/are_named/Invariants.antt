use Rattle.ss_serve.specs.Fullness.{ReportNames}
use Rattle.ss_serve.proofs.Fillings.{NoneBefore}
use Rattle.ss_serve.proofs.fullness.are_named.Given as goal

abbrev pub invariant-loop-j : goal.invariant-loop-j
invariant-loop-j g l = NoneBefore (λ r. ReportNames l.uid l.entries r.turns.items) l.reports l.j
