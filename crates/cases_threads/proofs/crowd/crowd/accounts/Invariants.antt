use Rattle.ss_booked.specs.Booked.{journal_of}
use Rattle.ss_town.specs.Opening.{AreBare}
use Rattle.cases_threads.proofs.crowd.crowd.accounts.Given as goal

abbrev pub invariant-loop-uid : goal.invariant-loop-uid
invariant-loop-uid l = AreBare (λ b. (journal_of b).entries) l.accounts.items
