use Rattle.std.proofs.Common.{◌≡◌, ◌++◌, take}
use Rattle.std.specs.List.{flat_map}
use Rattle.ss_tree.specs.Entries.{tree}
use Rattle.ss_run_edit.specs.Tellings.{told_line}
use Rattle.ss_run_edit.proofs.tellings.push_items.Given as goal

abbrev pub invariant-loop-id : goal.invariant-loop-id
invariant-loop-id l = l.out.items ≡ l.initial.out.items ++ flat_map (told_line (tree l.tree)) (take l.id-index l.from)
