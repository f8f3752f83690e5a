use Rattle.std.proofs.Common.{◌∙◌, ap₂}
use Rattle.ss_build.specs.Places.{place}
use Rattle.ss_build.proofs.Grown.{unfiled_text}
use Rattle.ss_build.proofs.building.grow.Goals as goal

pub parents_of-requires-clause-fallback : goal.parents_of-requires-clause-fallback
parents_of-requires-clause-fallback c = c.place-fallback.ensures.place ∙ ap₂ place (c.in_ok-unfiled.ensures ∙ unfiled_text) c.in_ok-places.ensures
