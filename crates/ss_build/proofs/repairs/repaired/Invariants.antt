use Rattle.std.proofs.Common.{◌≡◌, not, filter, map, take}
use Rattle.ss_build.specs.Built.{is_kept}
use Rattle.ss_build.proofs.repairs.repaired.Given as goal

abbrev pub invariant-loop-i : goal.invariant-loop-i
invariant-loop-i l = l.ids.items ≡ map (λ e. e.item.id) (filter (λ e. not (is_kept l.claims e)) (take l.i l.claims))
