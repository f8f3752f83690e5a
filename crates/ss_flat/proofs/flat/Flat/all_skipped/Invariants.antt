use Rattle.std.proofs.Common.{◌≡◌, take, filter_map}
use Rattle.ss_flat.specs.Told.{skipped_of}
use Rattle.ss_flat.proofs.flat.Flat.all_skipped.Given as goal

abbrev pub invariant-loop-i : goal.invariant-loop-i
invariant-loop-i l = l.skipped.items ≡ filter_map skipped_of (take l.i l.self.entries)
