use Rattle.std.proofs.Common.{◌≡◌, ◌++◌, vec_len}
use Rattle.ss_device_file.proofs.parts.as_map.Given as goal

abbrev pub invariant-deaths : goal.invariant-deaths
invariant-deaths l = l.left.items ++ l.dead.entries ≡ l.fn.deaths.items

abbrev pub decreases-deaths : goal.decreases-deaths
decreases-deaths l = vec_len l.left
