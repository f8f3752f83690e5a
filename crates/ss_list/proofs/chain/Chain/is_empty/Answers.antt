use Rattle.std.proofs.Common.{eqb, ap}
use Rattle.ss_list.proofs.Calls.{lies_from_sound, len_seen}
use Rattle.ss_list.proofs.chain.Chain.is_empty.Goals as goal

pub returns : goal.returns
returns g c =
    rw (← c.self.view_is) (ap (λ n. eqb n 0) (len_seen (lies_from_sound c.self.inside.nodes.items c.self.inside.ends c.self.inside.free c.self.inside.len c.self.inside.spare c.self.invariant)))
