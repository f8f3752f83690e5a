use Rattle.std.proofs.Common.{map}
use Rattle.ss_build.proofs.Meeting.{Met}
use Rattle.ss_build.proofs.distinct.are_distinct.Given as goal

abbrev pub invariant-loop-sheet : goal.invariant-loop-sheet
invariant-loop-sheet l = Met (map (λ s. s.id) l.sheets) l.ids.keys l.sheet-index
