use Rattle.std.proofs.Common.{◌≡◌, take, map}
use Rattle.ss_audit.proofs.going_on.by_name.Given as goal

abbrev pub invariant-loop-entry : goal.invariant-loop-entry
invariant-loop-entry l = map (λ entry. entry.now) l.ordered.items ≡ take l.entry-index l.times
