use Rattle.std.proofs.Common.{refl, sym, ◌∙◌, arith}
use Rattle.ss_list.proofs.Calls.{live_node, live_filled, live_value, value_read, node_read, set_sound, set_seen}
use Rattle.ss_list.proofs.chain.Chain.get_mut.Goals as goal

pub index_mut-requires : goal.index_mut-requires
index_mut-requires g c =
    let live = rw (← c.self.view_is, ← c.place-place.ensures) at c.requires in
    omega (arith, live_node c.self.invariant c.place-place.result live)

pub value_mut-requires : goal.value_mut-requires
value_mut-requires g c =
    let live = rw (← c.self.view_is, ← c.place-place.ensures) at c.requires in
    rw (value_read c.self.invariant c.place-place.result live c.index_mut.result.now c.index_mut.ensures.value) (live_filled c.self.invariant c.place-place.result live)

pub invariant_of-self-lent : goal.invariant_of-self-lent
invariant_of-self-lent g c w =
    let live = rw (← c.self.view_is, ← c.place-place.ensures) at c.requires in
    let read = node_read c.self.inside.nodes.items c.place-place.result c.index_mut.result.now (live_node c.self.invariant c.place-place.result live) c.index_mut.ensures.value in
    set_sound c.self.invariant c.place-place.result live c.index_mut.result.now read w

pub returns : goal.returns
returns g c =
    let live = rw (← c.self.view_is, ← c.place-place.ensures) at c.requires in
    let read = node_read c.self.inside.nodes.items c.place-place.result c.index_mut.result.now (live_node c.self.invariant c.place-place.result live) c.index_mut.ensures.value in
    let value = value_read c.self.invariant c.place-place.result live c.index_mut.result.now c.index_mut.ensures.value in (
      (refl, λ w. rw (← c.self.view_is, ← c.place-place.ensures) (set_seen c.self.invariant c.place-place.result live c.index_mut.result.now read w)),
      record { writes_back = tt; value = rw (← c.self.view_is, ← c.place-place.ensures) (live_value c.self.invariant c.place-place.result live ∙ sym value ∙ c.value_mut.ensures.value) },
    )
