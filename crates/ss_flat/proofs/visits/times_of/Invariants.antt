use Rattle.std.proofs.Common.{take}
use Rattle.ss_bso.specs.Lists.{Pairs}
use Rattle.ss_flat.specs.Joining.{HasTimes}
use Rattle.ss_flat.specs.States.{OtherVisit}
use Rattle.ss_flat.proofs.visits.times_of.Given as goal

abbrev pub invariant-loop-visit : goal.invariant-loop-visit
invariant-loop-visit l = record { times : HasTimes l.time (take l.visit-index l.visits) l.times.entries; once : Pairs OtherVisit l.times.entries }
