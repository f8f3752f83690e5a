use Rattle.std.proofs.Common.{arith}
use Rattle.ss_list.proofs.Calls.{live_node, next_read, next_live}
use Rattle.ss_list.proofs.chain.Chain.next.Goals as goal

pub index-requires : goal.index-requires
index-requires g c =
    let live = rw (← c.self.view_is, ← c.place.ensures) at c.requires in
    omega (arith, live_node c.self.invariant c.place.result live)

pub returns-clause-neighbour : goal.returns-clause-neighbour
returns-clause-neighbour g c =
    let live = rw (← c.self.view_is, ← c.place.ensures) at c.requires in
    rw (c.of_link.ensures, ← c.self.view_is, ← c.place.ensures) (next_read c.self.invariant c.place.result live c.index.result.now c.index.ensures)

pub returns-clause-live : goal.returns-clause-live
returns-clause-live g c =
    let live = rw (← c.self.view_is, ← c.place.ensures) at c.requires in
    rw (c.of_link.ensures, ← c.self.view_is) (next_live c.self.invariant c.place.result live c.index.result.now c.index.ensures)
