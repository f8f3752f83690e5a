use Rattle.ss_serve.specs.Fullness.{TurnNames}
use Rattle.ss_serve.proofs.Fillings.{NoneBefore}
use Rattle.ss_serve.proofs.fullness.report_names.Given as goal

abbrev pub invariant-loop-k : goal.invariant-loop-k
invariant-loop-k l = NoneBefore (λ note. TurnNames l.uid l.entries note.turn) l.turns l.k
