use Rattle.std.proofs.Common.{◌≡◌, ◌++◌, ◌-◌, drop, length}
use Rattle.ss_device_file.specs.Walking.{seats_on}
use Rattle.ss_device_file.proofs.Stacked.{seats_from}
use Rattle.ss_device_file.proofs.walk.push_children.Given as goal

abbrev pub invariant-loop-count : goal.invariant-loop-count
invariant-loop-count l = seats_on l.waiting.items ≡ seats_from l.line.item.id (drop (length l.line.children - l.count) l.line.children) ++ seats_on l.initial.waiting.items
