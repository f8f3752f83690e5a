use Rattle.std.proofs.Common.{◌≡◌, length}
use Rattle.ss_links.proofs.served_link.ServedLink.read_in_time.Given as goal

abbrev pub invariant-loop-slice : goal.invariant-loop-slice
invariant-loop-slice g l = (l.self ≡ l.initial.self) × (length l.into ≡ length l.initial.into)
