use Rattle.std.proofs.Common.{ap, subst, ◌∙◌, ◌≡◌, List, length}
use Rattle.ss_booked.specs.Booked.{journal_of}
use Rattle.ss_laws.specs.Journal.{Journal}
use Rattle.ss_laws.specs.declared.journal.Entry.{Entry}
use Rattle.ss_serve.specs.Fullness.{IsTestOf, SomeReportNames}
use Rattle.ss_serve.proofs.fullness.is_named.Goals as goal

pub returns : goal.returns
returns g c = let a = c.args.account.now in
    let entries : c.entries.result.now ≡ (journal_of a.1).entries = c.entries.ensures ∙ ap (λ (j : Journal). j.entries) c.journal.ensures.journal in
    subst (λ (es : List Entry). IsTestOf c.are_named.result (SomeReportNames a.0 (length es) c.args.reports.now)) entries c.are_named.ensures
