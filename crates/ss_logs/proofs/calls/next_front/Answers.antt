use Rattle.std.proofs.Common.{◌≢◌, subst}
use Rattle.ss_lines.specs.declared.lines.Line.TheVariants.{End}
use Rattle.ss_dump.proofs.Undumped.{present}
use Rattle.ss_log_lines.specs.LogLines.{IsLogFront}
use Rattle.ss_logs.proofs.InParts.{head_behind, other_account}
use Rattle.ss_logs.proofs.calls.next_front.Goals as goal

pub returns-in-Account-clause-none : goal.returns-in-Account-clause-none
returns-in-Account-clause-none c =
    let front = present (λ f. IsLogFront c.args.text.now f.line f.used) c.in_ok-front.field-0 c.in-Some.front c.in-Some.is c.in_ok-front.ensures.front in
    other_account c.args.text.now c.in-Account.line c.in-Some.front.used (subst (λ l. IsLogFront c.args.text.now l c.in-Some.front.used) c.in-Account.is front)
    (subst (λ l. l ≢ End) c.in-Account.line-is (c.is_end.ensures.other c.if-is_end.false))

pub returns-clause-none : goal.returns-clause-none
returns-clause-none c =
    let front = present (λ f. IsLogFront c.args.text.now f.line f.used) c.in_ok-front.field-0 c.in-Some.front c.in-Some.is c.in_ok-front.ensures.front in
    head_behind c.args.text.now c.in-Log.moment c.in-Log.most c.in-Some.front.used (subst (λ l. IsLogFront c.args.text.now l c.in-Some.front.used) c.in-Log.is front)
