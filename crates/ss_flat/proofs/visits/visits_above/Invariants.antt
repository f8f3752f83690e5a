use Rattle.std.proofs.Common.{◌≡◌, take, filter_map}
use Rattle.ss_flat.specs.Told.{shown_visit}
use Rattle.ss_flat.proofs.visits.visits_above.Given as goal

abbrev pub invariant-loop-i : goal.invariant-loop-i
invariant-loop-i l = l.visits.items ≡ filter_map (shown_visit l.gone) (take l.i l.times.entries)
