use Rattle.std.proofs.Common.{unwrap_or, ap₂, ◌∙◌}
use Rattle.ss_build.proofs.Seats.{place_or_end}
use Rattle.ss_build.proofs.places.place.Goals as goal

pub returns-clause-place : goal.returns-clause-place
returns-clause-place c = c.unwrap_or.ensures ∙ (ap₂ unwrap_or c.get_index_of.ensures.index c.len.ensures.len ∙ place_or_end c.args.id.now c.args.places.now.keys)
