use Rattle.std.proofs.Common.{rules, Some, ap, sym, subst, ◌∙◌, ◌∷◌}
use Rattle.atomic_table.specs.Table.{rest}
use Rattle.ss_desk.specs.Views.{Live, view_after_step}
use Rattle.ss_desk.specs.Journal.{Below}
use Rattle.ss_desk.specs.Steps.{IsValueAfterCall, held_entries}
use Rattle.ss_desk.specs.declared.view.Stage.TheVariants.{Idle}
use Rattle.ss_desk.proofs.Turns.{does}
use Rattle.ss_desk.proofs.Answering.{all_below, holds_it, value_is, swapped, stage_is, made, stepped, answers}
use Rattle.ss_desk.proofs.desk.Desk.serve.Goals as goal

pub exchange-requires : goal.exchange-requires
exchange-requires g c = let k = g.T.Journaled in let took = c.requires.took in let e = holds_it k.ticket_of k.pass_of k.fixed k.entries k.legal took.0 c.args.ticket c.args.seat.now.me took.1 in
    (search rules, (Some took.1.value, e ∙ ap (λ l. (0, Some took.1.value) ∷ rest l) (sym e)))

pub step-answer-requires-clause-above : goal.step-answer-requires-clause-above
step-answer-requires-clause-above g c = let k = g.T.Journaled in let took = c.requires.took in
    let is = value_is k.ticket_of k.pass_of k.fixed k.entries k.legal took.0 c.args.ticket c.args.seat.now.me took.1 c.exchange.result c.unwrap-value.result c.exchange.ensures.2 c.unwrap-value.ensures in
    all_below k.ticket_of c.args.ticket (k.entries c.unwrap-value.result) (subst (λ z. Below k.ticket_of c.args.ticket (k.entries z)) (sym is) took.1.below)

pub fetch_add-requires : goal.fetch_add-requires
fetch_add-requires g c = let k = g.T.Journaled in let took = c.requires.took in let s = c.args.self.now.table.shared in let m = c.args.seat.now.me in let seat = c.exchange-2.new.seat in
    let x = c.unwrap-value.result in let y = c.step-answer.new.self in
    let held = holds_it k.ticket_of k.pass_of k.fixed k.entries k.legal took.0 c.args.ticket m took.1 in
    let is = value_is k.ticket_of k.pass_of k.fixed k.entries k.legal took.0 c.args.ticket m took.1 c.exchange.result x c.exchange.ensures.2 c.unwrap-value.ensures in
    let now = swapped k.ticket_of k.pass_of k.fixed k.entries k.legal m c.exchange.new.seat.me seat.me took.1.value y held c.exchange.ensures.3 c.exchange-2.ensures.3 in (
      search rules,
      search rules,
      does k.ticket_of k.pass_of k.fixed k.entries k.legal (k.fixed s.key.value) s.table_id.slots seat.id c.args.ticket seat.me y
          (ap (λ z. z.1) now)
          (ap (λ z. z.0.stage) now ∙ stage_is k.ticket_of k.pass_of k.fixed k.entries k.legal k.ask_of k.replies k.full took.0 c.args.ticket m took.1)
          (subst (λ z. Live z.0) (sym now) c.requires.live)
          (subst (λ z. IsValueAfterCall k.ticket_of k.pass_of k.fixed k.entries k.legal z.0 c.args.ticket y) (sym now)
          (made k.ticket_of k.pass_of k.fixed k.entries k.legal k.ask_of k.replies k.full took.0 c.args.ticket m took.1 x y c.args.number c.args.ask c.step-answer.result is c.step-answer.ensures.fixed c.step-answer.ensures.legal c.requires.number (stepped k.ticket_of k.pass_of k.fixed k.entries k.legal k.ask_of k.replies k.full x y c.args.ticket c.args.number c.args.ask c.step-answer.result c.step-answer.ensures.entered c.step-answer.ensures.reply c.step-answer.ensures.had_room c.step-answer.ensures.unchanged c.step-answer.ensures.full))),
    )

pub returns-clause-done : goal.returns-clause-done
returns-clause-done g c = let k = g.T.Journaled in let took = c.requires.took in let m = c.args.seat.now.me in let seat = c.exchange-2.new.seat in
    let x = c.unwrap-value.result in let y = c.step-answer.new.self in
    let held = holds_it k.ticket_of k.pass_of k.fixed k.entries k.legal took.0 c.args.ticket m took.1 in
    let is = value_is k.ticket_of k.pass_of k.fixed k.entries k.legal took.0 c.args.ticket m took.1 c.exchange.result x c.exchange.ensures.2 c.unwrap-value.ensures in
    let now = swapped k.ticket_of k.pass_of k.fixed k.entries k.legal m c.exchange.new.seat.me seat.me took.1.value y held c.exchange.ensures.3 c.exchange-2.ensures.3 in
    answers k.ticket_of k.pass_of k.fixed k.entries k.legal k.ask_of k.replies k.full took.0 c.args.ticket m took.1 x y c.args.number c.args.ask c.step-answer.result c.fetch_add.new.seat.me.0 is c.step-answer.ensures.fixed c.step-answer.ensures.legal c.requires.number (stepped k.ticket_of k.pass_of k.fixed k.entries k.legal k.ask_of k.replies k.full x y c.args.ticket c.args.number c.args.ask c.step-answer.result c.step-answer.ensures.entered c.step-answer.ensures.reply c.step-answer.ensures.had_room c.step-answer.ensures.unchanged c.step-answer.ensures.full)
    (ap (λ z. z.0) c.fetch_add.ensures.2 ∙ ap (λ z. view_after_step z.0 Idle (held_entries k.entries z.1)) now)
