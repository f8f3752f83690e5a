use Rattle.std.proofs.Common.{take, Some, bytes_eq}
use Rattle.std.specs.HashMap.{get}
use Rattle.ss_merge.specs.Ways.{MarksPath}
use Rattle.ss_merge.proofs.marks.mark_path.Given as goal

abbrev pub invariant-loop-passed : goal.invariant-loop-passed
invariant-loop-passed l = MarksPath (get bytes_eq l.fn.marks) (get bytes_eq l.marks) (take l.passed-index l.path) (Some l.goal)
