use Rattle.std.proofs.Common.{ap, arith}
use Rattle.ss_serve.proofs.Giving.{takes, learns}
use Rattle.ss_serve.proofs.worker.work.Goals as goal

pub recv_as-requires-clause-channel : goal.recv_as-requires-clause-channel
recv_as-requires-clause-channel g c = c.loop.invariant.ready.seat

pub recv_as-requires-clause-rule : goal.recv_as-requires-clause-rule
recv_as-requires-clause-rule g c = let i = c.loop.invariant.ready in let p = c.loop.worker.place in let v = p.me.0.client in
    (takes g.L.Told.told p.id v (let e = ap (λ t. t.parts) i.counted in omega arith), learns g.L.Told.told p.id v)
