use Rattle.std.proofs.Common.{◌≡◌}
use Rattle.ss_links.proofs.served_link.ServedLink.write_in_time.Given as goal

abbrev pub invariant-loop-slice : goal.invariant-loop-slice
invariant-loop-slice g l = l.self ≡ l.initial.self
