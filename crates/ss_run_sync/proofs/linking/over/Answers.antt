use Rattle.ss_run_sync.proofs.LinkByLink.{leg_is}
use Rattle.ss_run_sync.proofs.linking.over.Goals as goal

pub returns-clause-leg : goal.returns-clause-leg
returns-clause-leg g c = λ asked behind.
    rw c.leg_of.ensures (leg_is _ _ _ _ _ _ _ _ _ _ asked _ _ c.requires.unused c.converse-talk.ensures.talks c.hang_up.ensures.hung c.hang_up.ensures.counted behind c.hang_up.ensures.asked)
