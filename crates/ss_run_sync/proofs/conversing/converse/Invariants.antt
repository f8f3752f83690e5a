use Rattle.std.proofs.Common.{◌≡◌, ◌≤◌}
use Rattle.ss_client.specs.Asking.{ask}
use Rattle.ss_client.specs.Bounds.{to_follow}
use Rattle.ss_run_sync.specs.Turns.{Comes}
use Rattle.ss_run_sync.proofs.conversing.converse.Given as goal

abbrev pub invariant-requests : goal.invariant-requests
invariant-requests g l = record {
  comes : Comes (record { uid = l.uid; host = l.host }) l.fn.machine l.machine (g.L.Told.told l.fn.link) (g.L.Told.told l.link);
  asks : l.request ≡ ask l.machine;
  nearer : to_follow l.machine.run l.machine.stage ≤ to_follow l.fn.machine.run l.fn.machine.stage;
}

abbrev pub decreases-requests : goal.decreases-requests
decreases-requests g l = to_follow l.machine.run l.machine.stage
