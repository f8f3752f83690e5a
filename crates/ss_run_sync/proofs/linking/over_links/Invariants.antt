use Rattle.std.proofs.Common.{◌≡◌}
use Rattle.ss_client.specs.Asking.{ask}
use Rattle.ss_client.specs.Bounds.{to_follow}
use Rattle.ss_run_sync.specs.Links.{Goes}
use Rattle.ss_run_sync.proofs.linking.over_links.Given as goal

abbrev pub invariant-links : goal.invariant-links
invariant-links g l = record {
  goes : Goes (record { uid = l.server.uid; host = l.host }) l.fn.machine l.machine (g.D.Dial.dial_faults l.fn.dial) (g.D.Dial.dial_faults l.dial) (g.D.Dial.hung l.fn.dial) (g.D.Dial.hung l.dial)
      (record { host = l.server.host; port = l.server.port }) (g.D.Dial.asked l.fn.dial) (g.D.Dial.asked l.dial);
  asks : l.request ≡ ask l.machine;
}

abbrev pub decreases-links : goal.decreases-links
decreases-links g l = to_follow l.machine.run l.machine.stage
