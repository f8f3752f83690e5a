use Rattle.std.proofs.Common.{◌≡◌, ◌+◌, ◌<◌, [], ◌∷◌, length, None, sym, ap, ◌∙◌, arith, length-append}
use Rattle.ss_list.proofs.Calls.{lies_from_sound, len_seen, spare_seen, total, grown_sound, grown_nodes, grown_free}
use Rattle.ss_list.specs.declared.node.TheConstants.{END}
use Rattle.ss_list.proofs.chain.Chain.reserve.Goals as goal

pub returns-in_err-reserve-clause-succeeds : goal.returns-in_err-reserve-clause-succeeds
returns-in_err-reserve-clause-succeeds g c enough =
    let seen = rw (← c.self.view_is) at enough in
    let spare = spare_seen (lies_from_sound c.self.inside.nodes.items c.self.inside.ends c.self.inside.free c.self.inside.len c.self.inside.spare c.self.invariant) in
    let full = c.in_err-reserve.ensures.full in
    absurd (omega (arith, seen, spare, full, c.saturating_sub-missing.ensures))

pub loop-init : goal.loop-init
loop-init g c =
    let lies = lies_from_sound c.self.inside.nodes.items c.self.inside.ends c.self.inside.free c.self.inside.len c.self.inside.spare c.self.invariant in
    let asked = rw (← c.self.view_is) at c.requires in
    let all = total lies in
    let enough = c.in_ok-reserve.ensures.ok in
    record {
      sound = rw c.reserve.ensures.items c.self.invariant;
      nodes = rw (c.reserve.ensures.items, ← c.self.view_is);
      kept = ([], rw (c.reserve.ensures.items, ← c.self.view_is));
      spare = omega arith;
      capacity = omega (arith, enough);
      room = rw c.reserve.ensures.items (omega (arith, asked, all, len_seen lies, c.self.invariant.room, c.saturating_sub-missing.ensures));
    }

pub loop-preserved : goal.loop-preserved
loop-preserved g c =
    let before = c.loop.invariant in
    let place : length c.loop.self-inside.nodes.items ≡ c.len-made.result = omega (arith, c.len-made.ensures) in
    let grown_room : length c.loop.self-inside.nodes.items + 1 < END = omega (arith, before.room) in
    record {
      sound = rw (c.push_reserved.ensures.items, ← place) (grown_sound before.sound END grown_room);
      nodes = rw c.push_reserved.ensures.items (grown_nodes before.sound END grown_room ∙ before.nodes);
      kept = (c.len-made.result ∷ before.kept.0, rw (c.push_reserved.ensures.items, ← place) (grown_free before.sound END grown_room ∙ ap (λ rest. length c.loop.self-inside.nodes.items ∷ rest) before.kept.1));
      spare = omega (arith, before.spare);
      capacity = omega (arith, before.capacity);
      room = rw c.push_reserved.ensures.items (omega (arith, before.room, length-append c.loop.self-inside.nodes.items (record { prev = END; next = c.loop.self-inside.free; value = None } ∷ [])));
    }

pub returns-clause-spare : goal.returns-clause-spare
returns-clause-spare g c =
    let before = c.loop.invariant in
    let first = spare_seen (lies_from_sound c.self.inside.nodes.items c.self.inside.ends c.self.inside.free c.self.inside.len c.self.inside.spare c.self.invariant) in
    let last = spare_seen (lies_from_sound c.loop.self-inside.nodes.items c.loop.self-inside.ends c.loop.self-inside.free c.loop.self-inside.len c.loop.self-inside.spare before.sound) in
    sym last ∙ rw (← c.self.view_is) (omega (arith, first, before.spare, c.saturating_sub-missing.ensures))
