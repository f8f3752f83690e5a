use Rattle.std.proofs.Common.{◌∙◌}
use Rattle.indexmap.specs.IndexMap.{get}
use Rattle.std.specs.Prelude.{bytes_eq}
use Rattle.ss_index.proofs.Drawers.{front_at, front_rest, front_none, taken_rows, taken_size, taken_kept}
use Rattle.ss_index.proofs.drawer.Drawer.take_front.Goals as goal

pub overflow_sub-self : goal.overflow_sub-self
overflow_sub-self c =
    let at = front_at (get bytes_eq c.self.inside.places) c.self.inside.rows.nodes c.in-Some.at c.remove-row.result c.self.invariant.covers c.in-Some.ensures.first c.remove-row.ensures.value in
    rw c.as_str.ensures (taken_size c.self.invariant c.swap_remove.new.self c.remove-row.new.self c.remove-row.result.id c.in-Some.at c.remove-row.result at c.remove-row.ensures.value
    c.remove-row.ensures.nodes c.remove-row.ensures.gone c.remove-row.ensures.others c.swap_remove.ensures.updates.0)

pub invariant_of-self : goal.invariant_of-self
invariant_of-self c =
    let at = front_at (get bytes_eq c.self.inside.places) c.self.inside.rows.nodes c.in-Some.at c.remove-row.result c.self.invariant.covers c.in-Some.ensures.first c.remove-row.ensures.value in
    rw c.as_str.ensures (taken_kept c.self.invariant c.swap_remove.new.self c.remove-row.new.self c.remove-row.result.id c.in-Some.at c.remove-row.result at c.remove-row.ensures.value
    c.remove-row.ensures.nodes c.remove-row.ensures.gone c.remove-row.ensures.others c.swap_remove.ensures.updates.0)

pub returns-in-Some-clause-rows : goal.returns-in-Some-clause-rows
returns-in-Some-clause-rows c =
    let at = front_at (get bytes_eq c.self.inside.places) c.self.inside.rows.nodes c.in-Some.at c.remove-row.result c.self.invariant.covers c.in-Some.ensures.first c.remove-row.ensures.value in
    rw (← c.self.view_is) (taken_rows c.self.invariant c.swap_remove.new.self c.remove-row.new.self c.remove-row.result.id c.in-Some.at c.remove-row.result at c.remove-row.ensures.value
    c.remove-row.ensures.nodes c.remove-row.ensures.gone c.remove-row.ensures.others c.swap_remove.ensures.updates.0
    ∙ front_rest c.self.inside.rows.nodes c.in-Some.at c.remove-row.result c.self.invariant.apart c.in-Some.ensures.first c.remove-row.ensures.value)

pub returns-in-None-clause-rows : goal.returns-in-None-clause-rows
returns-in-None-clause-rows c = rw (← c.self.view_is) (front_none c.self.inside.rows.nodes c.in-None.ensures.first)
