use Rattle.std.proofs.Common.{◌≡◌, ◌++◌, take}
use Rattle.std.specs.List.{flat_map}
use Rattle.ss_run_flat.specs.Tellings.{gone_line}
use Rattle.ss_run_flat.proofs.tellings.push_all_gone.Given as goal

abbrev pub invariant-loop-id : goal.invariant-loop-id
invariant-loop-id l = l.out.items ≡ l.initial.out.items ++ flat_map gone_line (take l.id-index l.gone)
