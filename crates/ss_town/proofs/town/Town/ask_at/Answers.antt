use Rattle.ss_desk.proofs.Beside.{same_set, view_is, view_here}
use Rattle.std.proofs.Common.{rules, subst, sym, ap, set, ◌∙◌, ◌<◌, ◌≡◌, arith, length}
use Rattle.std.specs.Prelude.{IfOk, IfErr}
use Rattle.ss_desk.specs.declared.view.View.{View}
use Rattle.ss_desk.specs.Calls.{EntersCall, DeniesCall}
use Rattle.ss_desk.specs.Desks.{view}
use Rattle.ss_desk.specs.Passes.{view_at}
use Rattle.ss_town.proofs.town.Town.ask_at.Goals as goal

pub returns-clause-same : goal.returns-clause-same
returns-clause-same g c = same_set c.args.passes.now.passes.items c.args.i c.call.new.pass

pub returns-clause-reply : goal.returns-clause-reply
returns-clause-reply g c = let k = g.T.Journaled in let l = c.args.passes.now.passes.items in let i = c.args.i in let old = c.index_mut.result.now in let p = c.call.new.pass in
    let lt : i < length l = search rules in
    let was : view_at l i ≡ view old = view_is l i old lt ∙ ap (λ q. view q) (sym c.index_mut.ensures.value) in
    subst (λ v. IfOk c.call.result (λ r. EntersCall k.ticket_of k.pass_of k.ask_of k.legal k.replies k.full v (view_at (set l i p) i) r.0 c.args.ask r.1)) (sym was)
    (subst (λ w. IfOk c.call.result (λ r. EntersCall k.ticket_of k.pass_of k.ask_of k.legal k.replies k.full (view old) w r.0 c.args.ask r.1)) (sym (view_here l i p lt)) c.call.ensures.entered)

pub returns-clause-full : goal.returns-clause-full
returns-clause-full g c = let k = g.T.Journaled in let l = c.args.passes.now.passes.items in let i = c.args.i in let old = c.index_mut.result.now in let p = c.call.new.pass in
    let lt : i < length l = search rules in
    let was : view_at l i ≡ view old = view_is l i old lt ∙ ap (λ q. view q) (sym c.index_mut.ensures.value) in
    subst (λ v. IfErr c.call.result (λ f. DeniesCall k.ticket_of k.pass_of k.legal k.full v (view_at (set l i p) i) f)) (sym was)
    (subst (λ w. IfErr c.call.result (λ f. DeniesCall k.ticket_of k.pass_of k.legal k.full (view old) w f)) (sym (view_here l i p lt)) c.call.ensures.full)
