use Rattle.std.proofs.Common.{◌≡◌, take, filter_map}
use Rattle.ss_flat.specs.Told.{shown_of}
use Rattle.ss_flat.proofs.flat.Flat.all_shown.Given as goal

abbrev pub invariant-loop-i : goal.invariant-loop-i
invariant-loop-i l = l.shown.items ≡ filter_map (shown_of l.self.kind) (take l.i l.self.entries)
