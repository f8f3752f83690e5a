use Rattle.std.proofs.Common.{◌≡◌, ◌<◌, ◌∙◌, length, Option, Some, None, option_map, sym, ap, subst, bytes_eq, arith}
use Rattle.std.specs.HashMap.{get}
use Rattle.ss_dupe.specs.Looks.{Id}
use Rattle.ss_merge.specs.Ways.{WalksPath}
use Rattle.ss_merge.proofs.Holding.{has_some}
use Rattle.ss_merge.proofs.Marking.{On, first_on, put_at, known_end, none_end, goal_end, onward, far_end}
use Rattle.ss_merge.proofs.marks.walk.Goals as goal

pub loop-step-init : goal.loop-step-init
loop-step-init c =
    let old = get bytes_eq c.args.marks.now in
    subst (λ ps. On c.args.way.now c.args.ids.now old c.args.id.now old ps c.args.id.now 0) (sym c.requires.empty) (first_on c.args.way.now c.args.ids.now c.requires.inside old c.args.id.now c.requires.one)

pub returns-in-Some : goal.returns-in-Some
returns-in-Some c =
    known_end c.args.way.now c.args.ids.now c.requires.inside (get bytes_eq c.args.marks.now) c.args.id.now c.requires.marks c.loop-step.invariant c.in_ok-copy_some.field-0
    (sym c.in-Some.ensures.value ∙ ap Some (sym c.in_ok-copy_some.ensures))

pub returns-in_default-next : goal.returns-in_default-next
returns-in_default-next c =
    none_end c.args.way.now c.args.ids.now c.requires.inside (get bytes_eq c.args.marks.now) c.args.id.now
    (put_at c.args.way.now c.args.ids.now c.requires.inside (get bytes_eq c.args.marks.now) c.args.id.now c.loop-step.invariant c.in_ok-copy.field-0 c.in_ok-copy-2.field-0 c.in_ok-copy.ensures c.in_ok-copy-2.ensures c.in_ok-insert.ensures.updates.0 c.in_ok-push.ensures.items)
    (sym c.next.ensures ∙ ap (option_map (λ p. p.now)) c.in_default-next.is)

pub returns-then-is_goal : goal.returns-then-is_goal
returns-then-is_goal c =
    subst (λ (g : Id). WalksPath c.args.way.now c.args.ids.now (get bytes_eq c.args.marks.now) (get bytes_eq c.insert.new.self) c.push.new.self.items c.args.id.now (Some g)) (sym c.in_ok-copy-3.ensures)
    (goal_end c.args.way.now c.args.ids.now c.requires.inside (get bytes_eq c.args.marks.now) c.args.id.now
    (put_at c.args.way.now c.args.ids.now c.requires.inside (get bytes_eq c.args.marks.now) c.args.id.now c.loop-step.invariant c.in_ok-copy.field-0 c.in_ok-copy-2.field-0 c.in_ok-copy.ensures c.in_ok-copy-2.ensures c.in_ok-insert.ensures.updates.0 c.in_ok-push.ensures.items)
    c.in-Some-next.reached.now (sym c.next.ensures ∙ ap (option_map (λ p. p.now)) c.in-Some-next.is) (sym c.is_goal.ensures ∙ c.if-is_goal.true))

pub loop-step-preserved : goal.loop-step-preserved
loop-step-preserved c =
    onward c.args.way.now c.args.ids.now c.requires.inside (get bytes_eq c.args.marks.now) c.args.id.now
    (put_at c.args.way.now c.args.ids.now c.requires.inside (get bytes_eq c.args.marks.now) c.args.id.now c.loop-step.invariant c.in_ok-copy.field-0 c.in_ok-copy-2.field-0 c.in_ok-copy.ensures c.in_ok-copy-2.ensures c.in_ok-insert.ensures.updates.0 c.in_ok-push.ensures.items)
    c.loop-step-test.true c.in-Some-next.reached.now (sym c.next.ensures ∙ ap (option_map (λ p. p.now)) c.in-Some-next.is) (sym c.is_goal.ensures ∙ c.if-is_goal.false)

pub returns : goal.returns
returns c =
    far_end c.args.way.now c.args.ids.now c.requires.inside (get bytes_eq c.args.marks.now) c.args.id.now c.loop-step.invariant (has_some c.args.id.now c.args.ids.now c.requires.one) c.loop-step-test.false
