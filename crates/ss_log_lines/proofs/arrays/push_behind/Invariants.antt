use Rattle.std.proofs.Common.{◌≡◌, ◌++◌, take}
use Rattle.ss_log_lines.specs.Arrays.{behind}
use Rattle.ss_log_lines.proofs.arrays.push_behind.Given as goal

abbrev pub invariant-loop-value : goal.invariant-loop-value
invariant-loop-value g l = l.out.items ≡ l.initial.out.items ++ behind g.T.Written.json (take l.value-index l.values)
