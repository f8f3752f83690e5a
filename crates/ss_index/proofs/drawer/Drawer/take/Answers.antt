use Rattle.std.proofs.Common.{◌≡◌, refl, cond, bytes_eq, None, sym, ap, subst, IsSome, ◌∙◌}
use Rattle.std.specs.Prelude.{List, ℕ, Bool, true, false}
use Rattle.indexmap.specs.IndexMap.{get}
use Rattle.ss_index.proofs.Drawers.{find_some, find_no, but_none, live_at, kept_still, taken_rows, taken_size}
use Rattle.ss_index.proofs.Drawers.{taken_kept}
use Rattle.ss_index.proofs.drawer.Drawer.take.Goals as goal
use Rattle.ss_text.proofs.Basics.{same_text}

pub remove-row-requires : goal.remove-row-requires
remove-row-requires c =
    let there = live_at c.self.invariant c.args.id.now c.in-Some.at (sym c.in-Some.ensures.value) in
    subst (λ o. IsSome o) (sym there.1) refl

pub overflow_sub-self : goal.overflow_sub-self
overflow_sub-self c =
    rw c.as_str.ensures (taken_size c.self.invariant c.swap_remove.new.self c.remove-row.new.self c.args.id.now c.in-Some.at c.remove-row.result (sym c.in-Some.ensures.value) c.remove-row.ensures.value
    c.remove-row.ensures.nodes c.remove-row.ensures.gone c.remove-row.ensures.others c.swap_remove.ensures.updates.0)

pub invariant_of-self : goal.invariant_of-self
invariant_of-self c =
    rw c.as_str.ensures (taken_kept c.self.invariant c.swap_remove.new.self c.remove-row.new.self c.args.id.now c.in-Some.at c.remove-row.result (sym c.in-Some.ensures.value) c.remove-row.ensures.value
    c.remove-row.ensures.nodes c.remove-row.ensures.gone c.remove-row.ensures.others c.swap_remove.ensures.updates.0)

pub invariant_of-self-in-None : goal.invariant_of-self-in-None
invariant_of-self-in-None c =
    kept_still c.self.invariant (λ q. c.swap_remove.ensures.updates.0 q ∙ other q (bytes_eq c.args.id.now q) refl)
  where
    other : (q : List ℕ) (b : Bool) → bytes_eq c.args.id.now q ≡ b → cond b None (get bytes_eq c.self.inside.places q) ≡ get bytes_eq c.self.inside.places q
    other q true e = sym (ap (λ id. get bytes_eq c.self.inside.places id) (sym (same_text c.args.id.now q e)) ∙ sym c.in-None.ensures.value)
    other q false e = refl

pub returns-in-Some-clause-value : goal.returns-in-Some-clause-value
returns-in-Some-clause-value c = rw (← c.self.view_is) (sym (find_some c.self.invariant c.args.id.now c.in-Some.at c.remove-row.result (sym c.in-Some.ensures.value) c.remove-row.ensures.value))

pub returns-in-Some-clause-rows : goal.returns-in-Some-clause-rows
returns-in-Some-clause-rows c =
    rw (← c.self.view_is) (taken_rows c.self.invariant c.swap_remove.new.self c.remove-row.new.self c.args.id.now c.in-Some.at c.remove-row.result (sym c.in-Some.ensures.value) c.remove-row.ensures.value
    c.remove-row.ensures.nodes c.remove-row.ensures.gone c.remove-row.ensures.others c.swap_remove.ensures.updates.0)

pub returns-in-None-clause-value : goal.returns-in-None-clause-value
returns-in-None-clause-value c = rw (← c.self.view_is) (sym (find_no c.self.invariant c.args.id.now (sym c.in-None.ensures.value)))

pub returns-in-None-clause-rows : goal.returns-in-None-clause-rows
returns-in-None-clause-rows c = rw (← c.self.view_is) (sym (but_none c.self.invariant c.args.id.now (sym c.in-None.ensures.value)))
