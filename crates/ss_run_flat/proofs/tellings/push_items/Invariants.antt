use Rattle.std.proofs.Common.{◌≡◌, ◌++◌, take}
use Rattle.std.specs.List.{flat_map}
use Rattle.ss_run_flat.specs.Tellings.{item_line}
use Rattle.ss_run_flat.proofs.tellings.push_items.Given as goal

abbrev pub invariant-loop-shown : goal.invariant-loop-shown
invariant-loop-shown l = l.out.items ≡ l.initial.out.items ++ flat_map item_line (take l.shown-index l.items)
