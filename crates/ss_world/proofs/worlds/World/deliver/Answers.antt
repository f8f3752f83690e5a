use Rattle.std.proofs.Common.{◌≡◌, ◌⊎◌, true, ap, subst, ◌∙◌}
use Rattle.ss_query.specs.Api.{api}
use Rattle.ss_client.specs.Asking.{ask as asked, awaits}
use Rattle.ss_client.specs.Told.{TakesMemory, leads_on}
use Rattle.ss_hearing.specs.Hearing.{status_of}
use Rattle.ss_serving.specs.Asking.{told_by}
use Rattle.ss_serving.specs.Steps.{Answers}
use Rattle.ss_world.specs.declared.events.Event.TheVariants.{Deliver}
use Rattle.ss_world.specs.Worlds.{Syncs, server_of}
use Rattle.ss_world.specs.Stepping.{Hears}
use Rattle.ss_world.proofs.Stepping.{delivered, unanswered, unasked, undelivered, wanted, world}
use Rattle.ss_world.proofs.worlds.World.deliver.Goals as goal

pub returns-in_err-request-clause-refused : goal.returns-in_err-request-clause-refused
returns-in_err-request-clause-refused c =
    let before = server_of c.self.inside.account in
    let seats = c.self.inside.seats.items in
    wanted c.from_residual-in_err-request.result c.args.self.now (Deliver c.args.n c.args.now) c.args.self.now
    (unasked c.args.self.now before seats c.args.n c.args.now c.in_ok-machine.machine.now c.self.view_is (rw c.as_slice.ensures.value at c.in_ok-machine.ensures.there)) c.from_residual-in_err-request.ensures.1

pub returns-in_err-reply-clause-refused : goal.returns-in_err-reply-clause-refused
returns-in_err-reply-clause-refused c =
    let before = server_of c.self.inside.account in
    let after = server_of c.ask.new.account in
    let seats = c.self.inside.seats.items in
    wanted c.from_residual-in_err-reply.result c.args.self.now (Deliver c.args.n c.args.now) (world after seats)
    (unanswered c.args.self.now before seats c.args.n c.args.now c.in_ok-machine.machine.now c.self.view_is (rw c.as_slice.ensures.value at c.in_ok-machine.ensures.there) after c.in_err-reply.ensures.ticks) c.from_residual-in_err-reply.ensures.1

pub returns-in_err-answer_at-clause-refused : goal.returns-in_err-answer_at-clause-refused
returns-in_err-answer_at-clause-refused c =
    let m = c.in_ok-machine.machine.now in
    let before = server_of c.self.inside.account in
    let after = server_of c.ask.new.account in
    let seats = c.self.inside.seats.items in
    let new = c.answer_at.new.seats.items in
    let there = rw c.as_slice.ensures.value at c.in_ok-machine.ensures.there in
    let reply : c.in_ok-reply.reply ≡ (api before.account c.args.now (asked m)).reply = c.in_ok-reply.ensures.reply ∙ ap (λ q. (api before.account c.args.now q).reply) c.in_ok-request.ensures.asked in
    let takes : TakesMemory m (api before.account c.args.now (asked m)).reply.status (told_by (awaits m.stage) (api before.account c.args.now (asked m)).reply) =
    subst (λ r. TakesMemory m r.status (told_by (awaits m.stage) r)) reply
    (subst (λ a. (c.in_ok-reply.reply.status ≡ status_of a) ⊎ (leads_on m.run m.stage (told_by a c.in_ok-reply.reply) ≡ true)) c.awaits-awaited.ensures (c.in_err-answer_at.ensures.wanting (Syncs m) there)) in
    wanted c.from_residual-in_err-answer_at.result c.args.self.now (Deliver c.args.n c.args.now) (world after new)
    (undelivered c.args.self.now before seats c.args.n c.args.now m c.self.view_is there after new
    (subst (λ x. Answers before c.args.now x after) c.in_ok-request.ensures.asked c.in_ok-reply.ensures.answers) c.in_err-answer_at.ensures.lost takes) c.from_residual-in_err-answer_at.ensures.1

pub returns-clause-happens : goal.returns-clause-happens
returns-clause-happens c =
    let reply : c.in_ok-reply.reply ≡ (api c.self.inside.account.plain c.args.now (asked c.in_ok-machine.machine.now)).reply = c.in_ok-reply.ensures.reply ∙ ap (λ q. (api c.self.inside.account.plain c.args.now q).reply) c.in_ok-request.ensures.asked in
    delivered c.args.self.now (server_of c.self.inside.account) (server_of c.ask.new.account) c.self.inside.seats.items c.answer_at.new.seats.items c.args.n c.args.now c.in_ok-machine.machine.now c.self.view_is
    (rw c.as_slice.ensures.value at c.in_ok-machine.ensures.there)
    (subst (λ x. Answers (server_of c.self.inside.account) c.args.now x (server_of c.ask.new.account)) c.in_ok-request.ensures.asked c.in_ok-reply.ensures.answers)
    (subst (λ r. Hears (told_by (awaits c.in_ok-machine.machine.now.stage) r) c.self.inside.seats.items c.args.n c.answer_at.new.seats.items) reply
    (subst (λ a. Hears (told_by a c.in_ok-reply.reply) c.self.inside.seats.items c.args.n c.answer_at.new.seats.items) c.awaits-awaited.ensures c.in_ok-answer_at.ensures.heard))
