use Rattle.ss_desk.specs.declared.counter.Counter.{Counter}
use Rattle.ss_town.specs.Opening.{AreBare}
use Rattle.cases_threads.proofs.turns.towns.counters.Given as goal

abbrev pub invariant-loop-uid : goal.invariant-loop-uid
invariant-loop-uid l = AreBare (λ (c : Counter). c.additions.items) l.accounts.items
