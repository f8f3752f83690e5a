use Rattle.std.proofs.Common.{◌∙◌, ap}
use Rattle.ss_build.specs.Places.{place}
use Rattle.ss_build.proofs.Chosen.{seat_none, named_here, named_leaf, named_nowhere}
use Rattle.ss_build.proofs.proposals.named_place.Goals as goal

pub returns-in-None-clause-named : goal.returns-in-None-clause-named
returns-in-None-clause-named c = seat_none c.args.claims.now c.args.claim.now (cc)

pub returns-then-is_folder-clause-named : goal.returns-then-is_folder-clause-named
returns-then-is_folder-clause-named c = named_here c.args.claims.now c.args.claim.now c.index-claims-at.result _ c.place-at.result (cc) c.requires.apart (c.place-at.ensures.place ∙ ap (place _) c.requires.ids) c.if-at-claims.true c.index-claims-at.is (cc)

pub returns-else-is_folder-clause-named : goal.returns-else-is_folder-clause-named
returns-else-is_folder-clause-named c = named_leaf c.args.claims.now c.args.claim.now c.index-claims-at.result _ c.place-at.result (cc) c.requires.apart (c.place-at.ensures.place ∙ ap (place _) c.requires.ids) c.if-at-claims.true c.index-claims-at.is (cc)

pub returns-else-at-claims-clause-named : goal.returns-else-at-claims-clause-named
returns-else-at-claims-clause-named c = named_nowhere c.args.claims.now c.args.claim.now _ c.place-at.result (cc) c.requires.apart (c.place-at.ensures.place ∙ ap (place _) c.requires.ids) c.if-at-claims.false
