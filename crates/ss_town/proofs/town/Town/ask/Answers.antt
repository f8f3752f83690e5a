use Rattle.ss_desk.proofs.Lists.{at_get, at_length}
use Rattle.std.proofs.Common.{rules, ap, ◌∙◌, sym, subst, get_or, ◌≡◌}
use mathlib.Core.Option.{some}
use mathlib.Core.Logic.{dite}
use native.Mathlib.Decide.{dec_lt}
use Rattle.ss_town.specs.Places.{At}
use Rattle.ss_town.specs.Answers.{AnswerSays}
use Rattle.ss_town.specs.declared.town.Answer.TheVariants.{Reply, Full}
use Rattle.ss_town.proofs.town.Town.ask.Goals as goal

pub returns-in-Ok-clause-says : goal.returns-in-Ok-clause-says
returns-in-Ok-clause-says g c =
    let k = g.T.Journaled in let uids = c.args.self.now.uids.items in let u = c.index.result.now in let i = c.loop-i.i in
    let at : At uids i c.args.uid = at_get uids i u (search rules) ∙ ap some (sym c.index.ensures ∙ c.if-index-uid.true) in
    let e = c.in-Ok.ensures in
    subst (λ ps. AnswerSays k.ticket_of k.pass_of k.ask_of k.legal k.replies k.full uids ps.passes.items c.ask_at.new.passes.passes.items c.args.uid c.args.ask (Reply c.in-Ok.ticket c.in-Ok.reply)) c.loop-i.invariant.same (i, at, e.same, e.reply)

pub returns-in-Err-clause-says : goal.returns-in-Err-clause-says
returns-in-Err-clause-says g c =
    let k = g.T.Journaled in let uids = c.args.self.now.uids.items in let u = c.index.result.now in let i = c.loop-i.i in
    let at : At uids i c.args.uid = at_get uids i u (search rules) ∙ ap some (sym c.index.ensures ∙ c.if-index-uid.true) in
    let e = c.in-Err.ensures in
    subst (λ ps. AnswerSays k.ticket_of k.pass_of k.ask_of k.legal k.replies k.full uids ps.passes.items c.ask_at.new.passes.passes.items c.args.uid c.args.ask (Full c.in-Err.full)) c.loop-i.invariant.same (i, at, e.same, e.full)

pub returns-clause-says : goal.returns-clause-says
returns-clause-says g c =
    let uids = c.args.self.now.uids.items in (
      ap (λ p. p.passes.items) c.loop-i.invariant.same,
      λ j at. dite (dec_lt j c.loop-i.i)
          (λ less. c.loop-i.invariant.unlisted j less at)
          (λ more. absurd (search (c.loop-i-test.false, c.len-i-end.ensures, more, at_length uids j c.args.uid at, rules))),
    )
