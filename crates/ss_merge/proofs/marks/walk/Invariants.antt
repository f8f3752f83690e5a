use Rattle.std.proofs.Common.{bytes_eq}
use Rattle.std.specs.HashMap.{get}
use Rattle.ss_merge.proofs.Marking.{On}
use Rattle.ss_merge.proofs.marks.walk.Given as goal

abbrev pub invariant-loop-step : goal.invariant-loop-step
invariant-loop-step l = On l.way l.ids (get bytes_eq l.fn.marks) l.id (get bytes_eq l.marks) l.path.items l.at l.step
