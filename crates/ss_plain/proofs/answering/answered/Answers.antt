use Rattle.std.proofs.Common.{◌≡◌, sym, subst, ◌∙◌}
use Rattle.std.specs.Result.{IfOk}
use Rattle.ss_bso.specs.declared.account.Plain.{Plain}
use Rattle.ss_plain.proofs.Refusals.{write-left}
use Rattle.ss_plain.proofs.answering.answered.Goals as goal

pub returns-then-is_write : goal.returns-then-is_write
returns-then-is_write c =
    subst (λ (left : Plain). IfOk c.write_in_time.result (λ after. after ≡ left))
    (sym (write-left c.args.account c.args.request.now (sym c.is_stopped.ensures ∙ c.if-is_stopped.false) (sym c.is_write.ensures ∙ c.if-is_write.true)))
    c.write_in_time.ensures
