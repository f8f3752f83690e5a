use Rattle.std.proofs.Common.{◌<◌, length, arith, sym, ap, ◌∙◌, ◌+◌, option_map}
use Rattle.serde_json.specs.View.{view}
use Rattle.ss_bso.specs.Bodies.{fault_at}
use Rattle.ss_bso.specs.Members.{parsed_body}
use Rattle.ss_bso.proofs.Elements.{loop_fault_at, loop_all, came_to, no_id, not_json}
use Rattle.ss_bso.proofs.bodies.records_in_lines.Goals as goal

pub returns-in_default : goal.returns-in_default
returns-in_default c =
    let here : c.loop-line.line-index < length c.args.lines.now = omega arith in
    let none = ap (option_map view) (sym c.in_default.is) ∙ c.in_ok-value.ensures in
    loop_fault_at (λ l. parsed_body l.now) c.args.lines.now c.loop-line.line-index c.loop-line.place _ _ _ _ here (not_json _ _ none) c.loop-line.invariant.1

pub returns-then-not-branch : goal.returns-then-not-branch
returns-then-not-branch c =
    let here : c.loop-line.line-index < length c.args.lines.now = omega arith in
    let some = ap (option_map view) (sym c.in-Some.is) ∙ c.in_ok-value.ensures in
    loop_fault_at (λ l. parsed_body l.now) c.args.lines.now c.loop-line.line-index c.loop-line.place _ _ _ _ here
    (ap (fault_at (c.loop-line.place + 1)) (sym some) ∙ no_id _ _ _ c.in_ok-add.ensures.found c.if-not-branch.true) c.loop-line.invariant.1

pub returns : goal.returns
returns c =
    came_to _ _ _ c.into_records.result
    (loop_all (λ l. parsed_body l.now) c.args.lines.now c.loop-line.line-index c.loop-line.place _ _ (omega arith) c.loop-line.invariant.1)
    c.into_records.ensures.parts c.into_records.ensures.failed
