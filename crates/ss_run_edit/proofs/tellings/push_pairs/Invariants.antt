use Rattle.std.proofs.Common.{◌≡◌, ◌++◌, take}
use Rattle.std.specs.List.{flat_map}
use Rattle.ss_run_edit.specs.Tellings.{renamed_line}
use Rattle.ss_run_edit.proofs.tellings.push_pairs.Given as goal

abbrev pub invariant-loop-local : goal.invariant-loop-local
invariant-loop-local l = l.out.items ≡ l.initial.out.items ++ flat_map renamed_line (take l.local-index l.pairs)
