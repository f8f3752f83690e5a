use Rattle.std.proofs.Common.{◌≡◌, subst, sym, ap, ◌∙◌}
use Rattle.std.specs.Prelude.{IfOk, OnOk}
use Rattle.std.proofs.lemmas.Result.{on_ok_weaker}
use Rattle.ss_bso.specs.Validity.{SameAccount}
use Rattle.ss_query.specs.Api.{Outcome}
use Rattle.ss_account.proofs.Alike.{read-as, staged-as, written-as, written-for_keeper}
use Rattle.ss_account.proofs.Stepping.{same-from}
use Rattle.ss_account.proofs.state.State.answer.Goals as goal

pub returns-in-Err-clause-account : goal.returns-in-Err-clause-account
returns-in-Err-clause-account g c = same-from _ _ (sym c.in-Err.ensures.account)

pub returns-in_ok-read-in-Read-clause-account : goal.returns-in_ok-read-in-Read-clause-account
returns-in_ok-read-in-Read-clause-account g c = same-from _ _ (sym (read-as c.args.self.now c.args.request.now c.in-Read.read c.in-Read.ensures c.in-Ok.ensures.passes))

pub returns-in-Write-clause-reply : goal.returns-in-Write-clause-reply
returns-in-Write-clause-reply g c =
    let same = written-as c.args.self.now c.args.request.now c.in-Write.write c.in-Write.ensures c.in-Ok.ensures.passes in
    subst (λ (out : Outcome). IfOk c.write.result (λ reply. reply ≡ out.reply)) (sym same) c.write.ensures.reply

pub returns-in-Write-clause-account : goal.returns-in-Write-clause-account
returns-in-Write-clause-account g c =
    let same = written-as c.args.self.now c.args.request.now c.in-Write.write c.in-Write.ensures c.in-Ok.ensures.passes in
    subst (λ (out : Outcome). OnOk c.write.result (SameAccount out.account c.write.new.self)) (sym same) c.write.ensures.account

pub returns-in-Write-clause-cleared : goal.returns-in-Write-clause-cleared
returns-in-Write-clause-cleared g c = λ h. c.write.ensures.cleared (written-for_keeper c.args.self.now c.args.request.now c.in-Write.write c.in-Write.ensures c.in-Ok.ensures.passes ∙ h)

pub returns-in-Write-clause-called : goal.returns-in-Write-clause-called
returns-in-Write-clause-called g c = λ h. c.write.ensures.called (written-for_keeper c.args.self.now c.args.request.now c.in-Write.write c.in-Write.ensures c.in-Ok.ensures.passes ∙ h)

pub returns-in-Write-clause-own : goal.returns-in-Write-clause-own
returns-in-Write-clause-own g c = λ h. c.write.ensures.own (written-for_keeper c.args.self.now c.args.request.now c.in-Write.write c.in-Write.ensures c.in-Ok.ensures.passes ∙ h)

pub returns-in-Write-clause-unasked : goal.returns-in-Write-clause-unasked
returns-in-Write-clause-unasked g c = λ h. c.write.ensures.unasked (written-for_keeper c.args.self.now c.args.request.now c.in-Write.write c.in-Write.ensures c.in-Ok.ensures.passes ∙ h)

pub returns-in-Write-clause-quiet : goal.returns-in-Write-clause-quiet
returns-in-Write-clause-quiet g c = λ h. c.write.ensures.quiet (written-for_keeper c.args.self.now c.args.request.now c.in-Write.write c.in-Write.ensures c.in-Ok.ensures.passes ∙ h)

pub returns-in-Write-clause-held : goal.returns-in-Write-clause-held
returns-in-Write-clause-held g c = λ h. c.write.ensures.held (written-for_keeper c.args.self.now c.args.request.now c.in-Write.write c.in-Write.ensures c.in-Ok.ensures.passes ∙ h)

pub returns-in-Stage-clause-account : goal.returns-in-Stage-clause-account
returns-in-Stage-clause-account g c =
    let same = staged-as c.args.self.now c.args.request.now c.in-Stage.stage c.in-Stage.ensures c.in-Ok.ensures.passes in
    on_ok_weaker c.stage_parts.result (λ e. same-from _ _ (e ∙ ap (λ (out : Outcome). out.account) (sym same))) c.stage_parts.ensures.account
