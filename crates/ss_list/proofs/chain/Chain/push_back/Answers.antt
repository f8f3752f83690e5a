use Rattle.std.proofs.Common.{◌<◌, arith}
use Rattle.ss_list.proofs.Calls.{Pushes, lies_from_sound, spare_seen, total, back_is_place, free_node, free_blank}
use Rattle.ss_list.proofs.Calls.{pushed_sound, pushed_nodes, pushed_free, pushed_fresh, pushed_value, pushed_others}
use Rattle.ss_list.proofs.Calls.{whole_slice}
use Rattle.ss_list.proofs.chain.Chain.push_back.Goals as goal

pub occupy-self-inside-requires-clause-node : goal.occupy-self-inside-requires-clause-node
occupy-self-inside-requires-clause-node g c =
    let lies = lies_from_sound c.self.inside.nodes.items c.self.inside.ends c.self.inside.free c.self.inside.len c.self.inside.spare c.self.invariant in
    let asked = rw (← c.self.view_is) at c.requires in
    let some_free : 0 < c.self.inside.spare = rw (spare_seen lies) asked in
    rw c.as_mut_slice-nodes.ensures.value (free_node c.self.invariant some_free)

pub occupy-self-inside-requires-clause-blank : goal.occupy-self-inside-requires-clause-blank
occupy-self-inside-requires-clause-blank g c =
    let lies = lies_from_sound c.self.inside.nodes.items c.self.inside.ends c.self.inside.free c.self.inside.len c.self.inside.spare c.self.invariant in
    let asked = rw (← c.self.view_is) at c.requires in
    let some_free : 0 < c.self.inside.spare = rw (spare_seen lies) asked in
    rw c.as_mut_slice-nodes.ensures.value (free_blank c.self.invariant some_free)

pub append-requires-clause-last : goal.append-requires-clause-last
append-requires-clause-last g c =
    let lies = lies_from_sound c.self.inside.nodes.items c.self.inside.ends c.self.inside.free c.self.inside.len c.self.inside.spare c.self.invariant in
    λ inner. omega (arith, back_is_place lies inner)

pub overflow_add-self : goal.overflow_add-self
overflow_add-self g c =
    let all = total (lies_from_sound c.self.inside.nodes.items c.self.inside.ends c.self.inside.free c.self.inside.len c.self.inside.spare c.self.invariant) in
    let room = c.self.invariant.room in
    let lies = lies_from_sound c.self.inside.nodes.items c.self.inside.ends c.self.inside.free c.self.inside.len c.self.inside.spare c.self.invariant in
    let asked = rw (← c.self.view_is) at c.requires in
    let some_free : 0 < c.self.inside.spare = rw (spare_seen lies) asked in
    omega arith

pub invariant_of-self : goal.invariant_of-self
invariant_of-self g c =
    let lies = lies_from_sound c.self.inside.nodes.items c.self.inside.ends c.self.inside.free c.self.inside.len c.self.inside.spare c.self.invariant in
    let asked = rw (← c.self.view_is) at c.requires in
    let some_free : 0 < c.self.inside.spare = rw (spare_seen lies) asked in
    let occupied = rw c.as_mut_slice-nodes.ensures.value at c.occupy-self-inside.ensures in
    let p : Pushes c.self.inside.nodes.items c.self.inside.ends c.self.inside.free c.self.inside.len c.self.inside.spare c.args.value c.occupy-self-inside.new.nodes c.occupy-self-inside.result c.append.new.nodes c.append.new.self = record {
      sound = c.self.invariant;
      some_free = some_free;
      elsewhere = occupied.elsewhere;
      has_value = occupied.value;
      next_is = occupied.next;
      length_middle = omega arith;
      appends = c.append.ensures.appended;
      length_new = omega arith;
    } in
    let whole = whole_slice c.self.inside.nodes.len c.self.inside.nodes.items c.append.new.nodes (omega arith) (omega arith) in
    rw whole (pushed_sound p)

pub returns : goal.returns
returns g c =
    let lies = lies_from_sound c.self.inside.nodes.items c.self.inside.ends c.self.inside.free c.self.inside.len c.self.inside.spare c.self.invariant in
    let asked = rw (← c.self.view_is) at c.requires in
    let some_free : 0 < c.self.inside.spare = rw (spare_seen lies) asked in
    let occupied = rw c.as_mut_slice-nodes.ensures.value at c.occupy-self-inside.ensures in
    let p : Pushes c.self.inside.nodes.items c.self.inside.ends c.self.inside.free c.self.inside.len c.self.inside.spare c.args.value c.occupy-self-inside.new.nodes c.occupy-self-inside.result c.append.new.nodes c.append.new.self = record {
      sound = c.self.invariant;
      some_free = some_free;
      elsewhere = occupied.elsewhere;
      has_value = occupied.value;
      next_is = occupied.next;
      length_middle = omega arith;
      appends = c.append.ensures.appended;
      length_new = omega arith;
    } in
    let whole = whole_slice c.self.inside.nodes.len c.self.inside.nodes.items c.append.new.nodes (omega arith) (omega arith) in
    record {
      nodes = rw (whole, ← c.self.view_is, c.new.ensures) (pushed_nodes p);
      free = rw (whole, ← c.self.view_is, c.new.ensures) (pushed_free p);
      fresh = rw (← c.self.view_is, c.new.ensures) (pushed_fresh p);
      value = rw (whole, c.new.ensures) (pushed_value p);
      others = rw (whole, ← c.self.view_is, c.new.ensures) (pushed_others p);
    }
