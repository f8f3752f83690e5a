use Rattle.ss_desk.specs.declared.counter.Counter.{Counter}
use Rattle.ss_town.specs.Town.{uids_of, desks_of, passes_of}
use Rattle.ss_town.proofs.Covered.{town_covers}
use Rattle.cases_threads.proofs.turns.towns.open.Goals as goal

pub returns-in-Ok-clause-all : goal.returns-in-Ok-clause-all
returns-in-Ok-clause-all c = town_covers (λ (a : Counter). a.most) c.in_ok-counters.field-0.items (uids_of c.in-Ok.both.0) (desks_of c.in-Ok.both.0) (passes_of c.in-Ok.both.1) c.in-Ok.ensures.opened
