use Rattle.ss_flat.specs.Told.{shown_visit}
use Rattle.ss_flat.proofs.Taking.{kept_more}
use Rattle.ss_flat.proofs.visits.visits_above.Goals as goal

pub loop-i-preserved : goal.loop-i-preserved
loop-i-preserved c = kept_more (shown_visit c.args.gone.now) c.args.times.now.entries c.loop-i.i c.loop-i.visits.items _ c.loop-i.invariant c.in_ok-note_above.ensures
