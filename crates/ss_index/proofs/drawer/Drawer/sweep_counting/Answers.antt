use Rattle.std.proofs.Common.{sym, ap, subst, arith, length, bytes_eq, ◌∙◌}
use Rattle.indexmap.specs.IndexMap.{get}
use Rattle.ss_bso.specs.Account.{is_alive}
use Rattle.ss_index.specs.Sweep.{Outlives}
use Rattle.ss_index.proofs.Drawers.{taken_kept, taken_size}
use Rattle.ss_index.proofs.Sweeping.{stands_at, middle_place, middle_value, middle_without, sweep_on, sweep_out}
use Rattle.ss_index.proofs.Sweeping.{sweep_all, outlive_all, length-values, is_some_from, row_is}
use Rattle.ss_index.proofs.Shelves.{weaker_ends}
use Rattle.ss_index.proofs.drawer.Drawer.sweep_counting.Goals as goal

pub next-at-requires : goal.next-at-requires
next-at-requires g c =
    let inv = c.loop.invariant in
    let swept = rw c.in-Some.is at inv.swept in
    let st = stands_at c.loop.self-inside.rows.nodes c.in-Some.here swept in
    is_some_from _ st.row (middle_value c.loop.self-inside.places c.loop.self-inside.rows c.loop.self-inside.bytes inv.kept swept.before c.in-Some.here st.row st.rest st.split)

pub get-seen-requires : goal.get-seen-requires
get-seen-requires g c =
    let inv = c.loop.invariant in
    let swept = rw c.in-Some.is at inv.swept in
    let st = stands_at c.loop.self-inside.rows.nodes c.in-Some.here swept in
    is_some_from _ st.row (middle_value c.loop.self-inside.places c.loop.self-inside.rows c.loop.self-inside.bytes inv.kept swept.before c.in-Some.here st.row st.rest st.split)

pub loop-preserved-then-is_alive : goal.loop-preserved-then-is_alive
loop-preserved-then-is_alive g c =
    let inv = c.loop.invariant in
    let swept = rw c.in-Some.is at inv.swept in
    let st = stands_at c.loop.self-inside.rows.nodes c.in-Some.here swept in
    let value = middle_value c.loop.self-inside.places c.loop.self-inside.rows c.loop.self-inside.bytes inv.kept swept.before c.in-Some.here st.row st.rest st.split in
    let same = row_is _ c.get-seen.result.now st.row c.get-seen.ensures value in
    record {
      kept = inv.kept;
      swept = sweep_on c.loop.self-inside.rows.nodes c.in-Some.here c.next-at.result swept st (ap (λ row. is_alive c.args.moment row) (sym same) ∙ sym c.is_alive.ensures ∙ c.if-is_alive.true) c.next-at.ensures.neighbour
          c.min-least.result (omega (arith, c.min-least.ensures)) (weaker_ends c.end_of.result c.min-least.result st.row (omega (arith, c.min-least.ensures)) (subst (λ row. Outlives c.end_of.result row) same c.end_of.ensures));
      free = inv.free;
      room = inv.room;
    }

pub overflow_sub-self : goal.overflow_sub-self
overflow_sub-self g c =
    let inv = c.loop.invariant in
    let swept = rw c.in-Some.is at inv.swept in
    let st = stands_at c.loop.self-inside.rows.nodes c.in-Some.here swept in
    let value = middle_value c.loop.self-inside.places c.loop.self-inside.rows c.loop.self-inside.bytes inv.kept swept.before c.in-Some.here st.row st.rest st.split in
    let same = row_is _ c.remove-row.result st.row c.remove-row.ensures.value value in
    let place = middle_place c.loop.self-inside.places c.loop.self-inside.rows c.loop.self-inside.bytes inv.kept swept.before c.in-Some.here st.row st.rest st.split in
    let at = ap (λ row. get bytes_eq c.loop.self-inside.places row.id) same ∙ place in
    rw c.as_str.ensures (taken_size inv.kept c.swap_remove.new.self c.remove-row.new.self c.remove-row.result.id c.in-Some.here c.remove-row.result at c.remove-row.ensures.value
    c.remove-row.ensures.nodes c.remove-row.ensures.gone c.remove-row.ensures.others c.swap_remove.ensures.updates.0)

pub loop-preserved : goal.loop-preserved
loop-preserved g c =
    let inv = c.loop.invariant in
    let swept = rw c.in-Some.is at inv.swept in
    let st = stands_at c.loop.self-inside.rows.nodes c.in-Some.here swept in
    let value = middle_value c.loop.self-inside.places c.loop.self-inside.rows c.loop.self-inside.bytes inv.kept swept.before c.in-Some.here st.row st.rest st.split in
    let same = row_is _ c.remove-row.result st.row c.remove-row.ensures.value value in
    let seen = row_is _ c.get-seen.result.now st.row c.get-seen.ensures value in
    let place = middle_place c.loop.self-inside.places c.loop.self-inside.rows c.loop.self-inside.bytes inv.kept swept.before c.in-Some.here st.row st.rest st.split in
    let at = ap (λ row. get bytes_eq c.loop.self-inside.places row.id) same ∙ place in
    let cut = middle_without c.loop.self-inside.places c.loop.self-inside.rows c.loop.self-inside.bytes inv.kept swept.before c.in-Some.here st.row st.rest st.split in
    record {
      kept = rw c.as_str.ensures (taken_kept inv.kept c.swap_remove.new.self c.remove-row.new.self c.remove-row.result.id c.in-Some.here c.remove-row.result at c.remove-row.ensures.value
          c.remove-row.ensures.nodes c.remove-row.ensures.gone c.remove-row.ensures.others c.swap_remove.ensures.updates.0);
      swept = sweep_out c.loop.self-inside.rows.nodes c.in-Some.here c.next-at.result swept st (ap (λ row. is_alive c.args.moment row) (sym seen) ∙ sym c.is_alive.ensures ∙ c.if-is_alive.false) c.next-at.ensures.neighbour
          c.remove-row.new.self.nodes (c.remove-row.ensures.nodes ∙ cut);
      free = omega (arith, inv.free, ap (λ l. length l) c.remove-row.ensures.free);
      room = omega (arith, inv.room, c.swap_remove.ensures.room.0);
    }

pub returns-clause-rows : goal.returns-clause-rows
returns-clause-rows g c =
    rw (← c.self.view_is) (sweep_all c.loop.invariant.swept (omega (arith, c.loop-test.false, length-values c.self.inside.rows.nodes)))

pub returns-clause-ends : goal.returns-clause-ends
returns-clause-ends g c = outlive_all c.loop.invariant.swept (omega (arith, c.loop-test.false, length-values c.self.inside.rows.nodes))
