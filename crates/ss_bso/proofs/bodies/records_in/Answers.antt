use Rattle.std.proofs.Common.{◌≡◌, [], Some, sym, ◌∙◌}
use Rattle.std.proofs.lemmas.List.{nil_from_length}
use Rattle.std.specs.Vec.Iter.{into_iter_items}
use Rattle.serde_json.specs.View.{view}
use Rattle.ss_bso.proofs.Elements.{left_fault, left_none, came_to, no_id}
use Rattle.ss_bso.proofs.bodies.records_in.Goals as goal

pub returns-then-not-branch : goal.returns-then-not-branch
returns-then-not-branch c =
    left_fault (λ v. Some (view v)) (into_iter_items c.loop-value.value-iterator) (into_iter_items c.next.new.self) c.args.values.items c.in-Some.value c.loop-value.place _ _ _
    c.in-Some.ensures.steps.0 (no_id _ _ _ c.in_ok-add.ensures.found c.if-not-branch.true) c.loop-value.invariant.gathered

pub returns : goal.returns
returns c =
    let none : into_iter_items c.loop-value.value-iterator ≡ [] = nil_from_length _ (sym c.loop-value.invariant.left ∙ c.in-None.ensures.steps.0) in
    came_to _ _ _ c.into_records.result
    (left_none (λ v. Some (view v)) (into_iter_items c.loop-value.value-iterator) c.args.values.items c.loop-value.place _ _ none c.loop-value.invariant.gathered)
    c.into_records.ensures.parts c.into_records.ensures.failed
