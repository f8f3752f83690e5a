use Rattle.std.proofs.Common.{◌≡◌, take, filter_map}
use Rattle.ss_flat.specs.Told.{gone_of}
use Rattle.ss_flat.proofs.flat.Flat.all_gone.Given as goal

abbrev pub invariant-loop-i : goal.invariant-loop-i
invariant-loop-i l = l.gone.items ≡ filter_map gone_of (take l.i l.self.entries)
