use Rattle.std.proofs.Common.{rules, ◌<◌, ◌≤◌, length, subst}
use Rattle.ss_serve.specs.Fullness.{ReportNames, IsTestOf}
use Rattle.ss_serve.proofs.Fillings.{yes, not, found, none_next, none_at_all}
use Rattle.ss_serve.proofs.fullness.are_named.Goals as goal

pub returns-then-report_names : goal.returns-then-report_names
returns-then-report_names g c = let l = c.args.reports.now in let lt : c.loop-j.j < length l = search rules in
    let d = subst (λ ts. IsTestOf c.report_names.result (ReportNames c.args.uid c.args.entries ts)) c.as_slice.ensures.value c.report_names.ensures in
    found (λ r. ReportNames c.args.uid c.args.entries r.turns.items) l c.loop-j.j c.index-reports-j.result lt (yes c.report_names.result _ c.if-report_names.true d)

pub loop-j-preserved : goal.loop-j-preserved
loop-j-preserved g c = let l = c.args.reports.now in let lt : c.loop-j.j < length l = search rules in
    let d = subst (λ ts. IsTestOf c.report_names.result (ReportNames c.args.uid c.args.entries ts)) c.as_slice.ensures.value c.report_names.ensures in
    none_next (λ r. ReportNames c.args.uid c.args.entries r.turns.items) l c.loop-j.j c.index-reports-j.result lt (not c.report_names.result _ c.if-report_names.false d) c.loop-j.invariant

pub returns : goal.returns
returns g c = let l = c.args.reports.now in let le : length l ≤ c.loop-j.j = search rules in none_at_all (λ r. ReportNames c.args.uid c.args.entries r.turns.items) l c.loop-j.j le c.loop-j.invariant
