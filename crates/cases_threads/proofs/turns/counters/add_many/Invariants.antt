use Rattle.ss_desk.specs.Views.{CoversNoLess}
use Rattle.ss_desk.specs.Desks.{view, IsPassOf}
use Rattle.cases_threads.proofs.turns.counters.add_many.Given as goal

abbrev pub invariant-loop-k : goal.invariant-loop-k
invariant-loop-k g l = IsPassOf l.desk l.pass × CoversNoLess (view l.initial.pass) (view l.pass)
