use Rattle.ss_run_sync.proofs.LinkByLink.{no_links, goes_then, run_then}
use Rattle.ss_run_sync.proofs.linking.over_links.Goals as goal

pub links-init : goal.links-init
links-init g c = record {
  goes = no_links (record { uid = c.args.server.now.uid; host = c.args.host.now }) c.args.machine (g.D.Dial.dial_faults c.args.dial.now) (g.D.Dial.hung c.args.dial.now)
      (record { host = c.args.server.now.host; port = c.args.server.now.port }) (g.D.Dial.asked c.args.dial.now);
  asks = c.requires.asked;
}

pub links-preserved : goal.links-preserved
links-preserved g c =
    let t = c.in-On.ensures in
    record {
      goes = goes_then _ _ _ _ _ _ _ _ _ _ _ _ _ _ c.links.invariant.goes t.leg.0;
      asks = t.leg.1;
    }

pub returns-in-End : goal.returns-in-End
returns-in-End g c = run_then _ _ _ _ _ _ _ _ _ _ _ _ _ _ c.links.invariant.goes c.in-End.ensures.leg
