use Rattle.std.proofs.Common.{arith}
use Rattle.ss_run_sync.proofs.Talking.{nothing_yet, comes_then, talks_then}
use Rattle.ss_run_sync.proofs.conversing.converse.Goals as goal

pub requests-init : goal.requests-init
requests-init g c = record {
  comes = nothing_yet (record { uid = c.args.uid; host = c.args.host.now }) c.args.machine (g.L.Told.told c.args.link.now);
  asks = c.requires.asked;
  nearer = omega arith;
}

pub requests-preserved : goal.requests-preserved
requests-preserved g c =
    let t = c.in-On.ensures in
    record {
      comes = comes_then _ _ _ _ _ _ _ c.requests.invariant.comes t.turns.0;
      asks = t.turns.1;
      nearer = omega (arith, t.nearer, c.requests.invariant.nearer);
    }

pub returns-in-End-clause-talks : goal.returns-in-End-clause-talks
returns-in-End-clause-talks g c = talks_then _ _ _ _ _ _ _ c.requests.invariant.comes c.in-End.ensures.turns
