use Rattle.std.proofs.Common.{arith, sym, ◌∙◌}
use Rattle.ss_list.proofs.Calls.{Removes, live_node, live_inner, live_left, live_right, live_filled, live_value}
use Rattle.ss_list.proofs.Calls.{removed_sound, removed_nodes, removed_free, removed_gone, removed_others, total}
use Rattle.ss_list.proofs.Calls.{lies_from_sound, whole_slice}
use Rattle.ss_list.proofs.chain.Chain.remove.Goals as goal

pub unlink-requires-clause-node : goal.unlink-requires-clause-node
unlink-requires-clause-node g c =
    let live = rw (← c.self.view_is, ← c.place-place.ensures) at c.requires in
    rw c.as_mut_slice-nodes.ensures.value (live_node c.self.invariant c.place-place.result live)

pub unlink-requires-clause-inner : goal.unlink-requires-clause-inner
unlink-requires-clause-inner g c =
    let live = rw (← c.self.view_is, ← c.place-place.ensures) at c.requires in
    live_inner c.self.invariant c.place-place.result live

pub unlink-requires-clause-left : goal.unlink-requires-clause-left
unlink-requires-clause-left g c =
    let live = rw (← c.self.view_is, ← c.place-place.ensures) at c.requires in
    rw c.as_mut_slice-nodes.ensures.value (live_left c.self.invariant c.place-place.result live)

pub unlink-requires-clause-right : goal.unlink-requires-clause-right
unlink-requires-clause-right g c =
    let live = rw (← c.self.view_is, ← c.place-place.ensures) at c.requires in
    rw c.as_mut_slice-nodes.ensures.value (live_right c.self.invariant c.place-place.result live)

pub vacate-value-requires-clause-node : goal.vacate-value-requires-clause-node
vacate-value-requires-clause-node g c =
    let live = rw (← c.self.view_is, ← c.place-place.ensures) at c.requires in
    omega (arith, live_node c.self.invariant c.place-place.result live)

pub vacate-value-requires-clause-value : goal.vacate-value-requires-clause-value
vacate-value-requires-clause-value g c =
    let live = rw (← c.self.view_is, ← c.place-place.ensures) at c.requires in
    let joins = rw c.as_mut_slice-nodes.ensures.value at c.unlink.ensures.joined in
    rw (joins.value c.place-place.result) (live_filled c.self.invariant c.place-place.result live)

pub overflow_add-self : goal.overflow_add-self
overflow_add-self g c =
    let all = total (lies_from_sound c.self.inside.nodes.items c.self.inside.ends c.self.inside.free c.self.inside.len c.self.inside.spare c.self.invariant) in
    let room = c.self.invariant.room in
    omega arith

pub invariant_of-self : goal.invariant_of-self
invariant_of-self g c =
    let live = rw (← c.self.view_is, ← c.place-place.ensures) at c.requires in
    let joins = rw c.as_mut_slice-nodes.ensures.value at c.unlink.ensures.joined in
    let r : Removes c.self.inside.nodes.items c.self.inside.ends c.self.inside.free c.self.inside.len c.self.inside.spare c.place-place.result c.unlink.new.nodes c.unlink.new.self c.vacate-value.new.nodes = record {
      sound = c.self.invariant;
      live = live;
      joins = joins;
      length_middle = omega arith;
      elsewhere = c.vacate-value.ensures.elsewhere;
      length_new = omega arith;
      next = c.vacate-value.ensures.next;
      blank = c.vacate-value.ensures.blank;
    } in
    let whole = whole_slice c.self.inside.nodes.len c.self.inside.nodes.items c.vacate-value.new.nodes (omega arith) (omega arith) in
    rw whole (removed_sound r)

pub returns : goal.returns
returns g c =
    let live = rw (← c.self.view_is, ← c.place-place.ensures) at c.requires in
    let joins = rw c.as_mut_slice-nodes.ensures.value at c.unlink.ensures.joined in
    let r : Removes c.self.inside.nodes.items c.self.inside.ends c.self.inside.free c.self.inside.len c.self.inside.spare c.place-place.result c.unlink.new.nodes c.unlink.new.self c.vacate-value.new.nodes = record {
      sound = c.self.invariant;
      live = live;
      joins = joins;
      length_middle = omega arith;
      elsewhere = c.vacate-value.ensures.elsewhere;
      length_new = omega arith;
      next = c.vacate-value.ensures.next;
      blank = c.vacate-value.ensures.blank;
    } in
    let whole = whole_slice c.self.inside.nodes.len c.self.inside.nodes.items c.vacate-value.new.nodes (omega arith) (omega arith) in
    let joined = joins.value c.place-place.result in
    record {
      value = rw (← c.self.view_is, ← c.place-place.ensures) (live_value c.self.invariant c.place-place.result live ∙ sym joined ∙ c.vacate-value.ensures.value);
      nodes = rw (whole, ← c.self.view_is, ← c.place-place.ensures) (removed_nodes r);
      free = rw (whole, ← c.self.view_is, ← c.place-place.ensures) (removed_free r);
      gone = rw (whole, ← c.place-place.ensures) (removed_gone r);
      others = rw (whole, ← c.self.view_is, ← c.place-place.ensures) (removed_others r);
    }
