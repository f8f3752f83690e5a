use Rattle.std.proofs.Common.{arith}
use Rattle.crossbeam_channel.specs.Claims.{view}
use Rattle.ss_serve.proofs.Giving.{takes, learns}
use Rattle.ss_serve.proofs.rest.serve_rest.Goals as goal

pub try_recv_as-requires-clause-rule : goal.try_recv_as-requires-clause-rule
try_recv_as-requires-clause-rule g c = let p = c.loop.place in
    (takes g.L.Told.told p.id (view p) (let e = c.loop.invariant.whole in omega arith), learns g.L.Told.told p.id (view p))
