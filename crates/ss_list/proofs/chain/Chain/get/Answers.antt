use Rattle.std.proofs.Common.{arith, sym, ◌∙◌}
use Rattle.ss_list.proofs.Calls.{live_node, live_filled, live_value, value_read}
use Rattle.ss_list.proofs.chain.Chain.get.Goals as goal

pub index-requires : goal.index-requires
index-requires g c =
    let live = rw (← c.self.view_is, ← c.place.ensures) at c.requires in
    omega (arith, live_node c.self.invariant c.place.result live)

pub unreachable-requires : goal.unreachable-requires
unreachable-requires g c =
    let live = rw (← c.self.view_is, ← c.place.ensures) at c.requires in
    let read = value_read c.self.invariant c.place.result live c.index.result.now c.index.ensures in
    let some = live_filled c.self.invariant c.place.result live in
    let none = rw (← read, c.in-None.is) at some in
    absurd (cc)

pub returns : goal.returns
returns g c =
    let live = rw (← c.self.view_is, ← c.place.ensures) at c.requires in
    let read = value_read c.self.invariant c.place.result live c.index.result.now c.index.ensures in
    rw (← c.self.view_is, ← c.place.ensures) (live_value c.self.invariant c.place.result live ∙ sym read ∙ c.in-Some.is)
