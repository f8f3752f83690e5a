use Rattle.std.proofs.Common.{sym, ◌∙◌}
use Rattle.ss_build.proofs.Listers.{better_none, better_new, better_old}
use Rattle.ss_build.proofs.proposals.better.Goals as goal

pub returns-then-beats-clause-better : goal.returns-then-beats-clause-better
returns-then-beats-clause-better c = better_new c.args.claims.now c.args.old c.args.folder c.index-claims-folder.result c.index-claims-old.result c.if-old-claims.true c.requires c.index-claims-folder.is c.index-claims-old.is (sym c.beats.ensures ∙ c.if-beats.true)

pub returns-else-beats-clause-better : goal.returns-else-beats-clause-better
returns-else-beats-clause-better c = better_old c.args.claims.now c.args.old c.args.folder c.index-claims-folder.result c.index-claims-old.result c.if-old-claims.true c.requires c.index-claims-folder.is c.index-claims-old.is (sym c.beats.ensures ∙ c.if-beats.false)

pub returns-else-old-claims-clause-better : goal.returns-else-old-claims-clause-better
returns-else-old-claims-clause-better c = better_none c.args.claims.now c.args.old c.args.folder c.if-old-claims.false
