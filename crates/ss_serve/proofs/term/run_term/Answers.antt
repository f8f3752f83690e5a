use Rattle.std.proofs.Common.{ap, length}
use Rattle.ss_serve.proofs.Gating.{nothing_gated}
use Rattle.ss_serve.proofs.term.run_term.Goals as goal

pub returns-in-Err-clause-served : goal.returns-in-Err-clause-served
returns-in-Err-clause-served g c = c.end_unserved.ensures.served c.args.manner

pub returns-in-Err-clause-gated : goal.returns-in-Err-clause-gated
returns-in-Err-clause-gated g c = nothing_gated (g.G.Gate.says c.args.gate.now) c.end_unserved.result.links.items (ap length c.end_unserved.ensures.none)
