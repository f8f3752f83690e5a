use Rattle.std.proofs.Common.{◌≡◌, ◌+◌, ◌-◌, ◌^◌, All, length, min, refl, subst, sym, ap, ◌∙◌, arith}
use Rattle.ss_query.specs.Fit.{IsFitRequest}
use Rattle.ss_laws.specs.declared.journal.Entry.{Entry}
use Rattle.ss_laws.specs.Journal.{Journal}
use Rattle.ss_laws.specs.Journals.{account_after}
use Rattle.ss_audit.specs.declared.entries.Fault.{Fault}
use Rattle.ss_audit.specs.Verdicts.{FailsAt}
use Rattle.ss_audit.proofs.Lists.{found_none, found_some, never}
use Rattle.ss_audit.proofs.Verdicts.{fault_not, passed_fault, passed_more}
use Rattle.ss_audit.proofs.auditing.audit.Goals as goal

pub returns-in-Some-clause-verdict : goal.returns-in-Some-clause-verdict
returns-in-Some-clause-verdict c =
    passed_fault c.args.logs.now c.loop-log.log-index c.log-item.result c.loop-log-test.true c.log-item.is c.loop-log.n c.loop-log.entries c.loop-log.last (c.loop-log.n + 1) c.in-Some.fault.entry
    c.in-Some.fault.why c.loop-log.invariant refl
    (found_some _ (λ (fault : Fault). FailsAt c.loop-log.last c.log-item.result fault.entry fault.why) c.in_ok-fault.field-0 c.in-Some.fault c.in-Some.is c.in_ok-fault.ensures)

pub returns-in-Some-clause-yes : goal.returns-in-Some-clause-yes
returns-in-Some-clause-yes c =
    never (fault_not c.args.logs.now (c.loop-log.n + 1) c.in-Some.fault.entry c.in-Some.fault.why (returns-in-Some-clause-verdict c))

pub loop-log-preserved : goal.loop-log-preserved
loop-log-preserved c =
    let log : Journal = c.log-item.result in
    let sound = found_none (λ (fault : Fault). FailsAt c.loop-log.last c.log-item.result fault.entry fault.why) c.in_ok-fault.field-0 c.in_default.not-Some c.in_ok-fault.ensures in
    let long : length c.entries.result.now ≡ length c.log-item.result.entries = ap length c.entries.ensures in
    let all : c.saturating_add-entries.result ≡ min (c.loop-log.entries + length c.log-item.result.entries) (2 ^ 64 - 1) = omega (arith, c.saturating_add-entries.ensures, long) in
    let opening : c.in_ok-copy.field-0 ≡ c.log-item.result.opening = c.in_ok-copy.ensures ∙ ap (λ (j : Journal). j.opening) c.log.view_is in
    passed_more c.args.logs.now c.loop-log.log-index c.log-item.result c.loop-log-test.true c.log-item.is c.loop-log.n c.loop-log.entries c.loop-log.last (c.loop-log.n + 1) c.saturating_add-entries.result
    c.in_ok-closing.field-0 c.loop-log.invariant sound.0 sound.1
    (subst (λ (j : Journal). All (λ (entry : Entry). IsFitRequest entry.request) j.entries) (sym c.log-item.is) (c.requires.fits c.loop-log.log-index c.log-item.result c.loop-log-test.true))
    refl all (c.in_ok-closing.ensures ∙ (λ i. account_after (opening i) (c.entries-in-loop-log.ensures i)))
