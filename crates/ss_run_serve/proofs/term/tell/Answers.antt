use Rattle.std.specs.Prelude.{◌≡◌, ℕ, List, map}
use Rattle.std.specs.Borrow.{Bor}
use Rattle.std.proofs.Common.{sym, ap, subst, ◌∙◌}
use Rattle.ss_laws.specs.Journal.{Journal}
use Rattle.ss_booked.specs.Booked.{journal_of}
use Rattle.ss_site.specs.Sites.{HasAdded}
use Rattle.ss_run_serve.proofs.term.tell.Goals as goal

pub returns-in-Ok-ended-clause-told : goal.returns-in-Ok-ended-clause-told
returns-in-Ok-ended-clause-told g c =
    let same = ap (λ (js : List (ℕ × Bor Journal)). map {B = ℕ × Journal} (λ j. (j.0, j.1.now)) js) c.as_slice.ensures.value ∙ c.in-Ok.ensures in
    subst (λ (js : List (ℕ × Journal)). HasAdded (record { reports = c.args.reports.items; journals = js }) (g.X.Site.terms c.args.site.now) (g.X.Site.terms c.ended.new.self)) same c.in-Ok-ended.ensures.added
