use Rattle.std.proofs.Common.{arith}
use Rattle.ss_list.proofs.Calls.{Moves, live_node, live_inner, live_left, live_right, unlinked_back, moved_sound}
use Rattle.ss_list.proofs.Calls.{moved_nodes, moved_free, moved_values, whole_slice}
use Rattle.ss_list.proofs.chain.Chain.move_back.Goals as goal

pub unlink-requires-clause-node : goal.unlink-requires-clause-node
unlink-requires-clause-node g c =
    let live = rw (← c.self.view_is, ← c.place-moved.ensures) at c.requires in
    rw c.as_mut_slice-nodes.ensures.value (live_node c.self.invariant c.place-moved.result live)

pub unlink-requires-clause-inner : goal.unlink-requires-clause-inner
unlink-requires-clause-inner g c =
    let live = rw (← c.self.view_is, ← c.place-moved.ensures) at c.requires in
    live_inner c.self.invariant c.place-moved.result live

pub unlink-requires-clause-left : goal.unlink-requires-clause-left
unlink-requires-clause-left g c =
    let live = rw (← c.self.view_is, ← c.place-moved.ensures) at c.requires in
    rw c.as_mut_slice-nodes.ensures.value (live_left c.self.invariant c.place-moved.result live)

pub unlink-requires-clause-right : goal.unlink-requires-clause-right
unlink-requires-clause-right g c =
    let live = rw (← c.self.view_is, ← c.place-moved.ensures) at c.requires in
    rw c.as_mut_slice-nodes.ensures.value (live_right c.self.invariant c.place-moved.result live)

pub append-requires-clause-node : goal.append-requires-clause-node
append-requires-clause-node g c =
    let live = rw (← c.self.view_is, ← c.place-moved.ensures) at c.requires in
    λ inner. omega (arith, live_node c.self.invariant c.place-moved.result live)

pub append-requires-clause-last : goal.append-requires-clause-last
append-requires-clause-last g c =
    let live = rw (← c.self.view_is, ← c.place-moved.ensures) at c.requires in
    let joins = rw c.as_mut_slice-nodes.ensures.value at c.unlink.ensures.joined in
    unlinked_back c.self.invariant c.place-moved.result live c.unlink.new.nodes c.unlink.new.self joins (omega arith)

pub invariant_of-self : goal.invariant_of-self
invariant_of-self g c =
    let live = rw (← c.self.view_is, ← c.place-moved.ensures) at c.requires in
    let joins = rw c.as_mut_slice-nodes.ensures.value at c.unlink.ensures.joined in
    let m : Moves c.self.inside.nodes.items c.self.inside.ends c.self.inside.free c.self.inside.len c.self.inside.spare c.place-moved.result c.unlink.new.nodes c.unlink.new.self c.append.new.nodes c.append.new.self = record {
      sound = c.self.invariant;
      live = live;
      joins = joins;
      length_middle = omega arith;
      appends = c.append.ensures.appended;
      length_new = omega arith;
    } in
    let whole = whole_slice c.self.inside.nodes.len c.self.inside.nodes.items c.append.new.nodes (omega arith) (omega arith) in
    rw whole (moved_sound m)

pub returns : goal.returns
returns g c =
    let live = rw (← c.self.view_is, ← c.place-moved.ensures) at c.requires in
    let joins = rw c.as_mut_slice-nodes.ensures.value at c.unlink.ensures.joined in
    let m : Moves c.self.inside.nodes.items c.self.inside.ends c.self.inside.free c.self.inside.len c.self.inside.spare c.place-moved.result c.unlink.new.nodes c.unlink.new.self c.append.new.nodes c.append.new.self = record {
      sound = c.self.invariant;
      live = live;
      joins = joins;
      length_middle = omega arith;
      appends = c.append.ensures.appended;
      length_new = omega arith;
    } in
    let whole = whole_slice c.self.inside.nodes.len c.self.inside.nodes.items c.append.new.nodes (omega arith) (omega arith) in
    record {
      nodes = rw (whole, ← c.self.view_is, ← c.place-moved.ensures) (moved_nodes m);
      free = rw (whole, ← c.self.view_is) (moved_free m);
      values = rw (whole, ← c.self.view_is) (moved_values m);
    }
