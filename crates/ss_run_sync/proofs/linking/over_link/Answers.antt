use Rattle.std.proofs.Common.{ℕ}
use Rattle.ss_run_sync.proofs.Dialling.{dials_failed}
use Rattle.ss_run_sync.proofs.LinkByLink.{leg_dialled, undialled_is}
use Rattle.ss_run_sync.proofs.linking.over_link.Goals as goal

pub returns-in-Err-clause-leg : goal.returns-in-Err-clause-leg
returns-in-Err-clause-leg g c =
    rw c.unlinked.ensures (undialled_is ℕ _ _ _ _ _ _ _ _ _ _ c.dial.ensures.hung c.in-Err.ensures.cause (dials_failed ℕ _ _ _ _ _ _ c.as_str.ensures c.in-Err.ensures.asked))

pub returns-in-Ok-clause-leg : goal.returns-in-Ok-clause-leg
returns-in-Ok-clause-leg g c = leg_dialled _ _ _ _ _ _ _ _ _ _ _ _ _ _ _ c.as_str.ensures c.in-Ok.ensures.asked c.in-Ok.ensures.cause c.dial.ensures.hung c.over.ensures.leg
