use Rattle.std.specs.Prelude.{Option}
use Rattle.std.proofs.Common.{sym, subst}
use Rattle.ss_bso.specs.declared.changes.Kept.{Kept}
use Rattle.ss_site.specs.Sites.{IsEntry}
use Rattle.ss_run_serve.specs.Refusals.{IsRefusedAs}
use Rattle.ss_run_serve.specs.declared.stop.Stop.{Stop}
use Rattle.ss_run_serve.proofs.Retired.{kept_refused, retired_as_before}
use Rattle.ss_run_serve.proofs.opening.open_kept.Goals as goal

pub returns-in-Err-clause-as_before : goal.returns-in-Err-clause-as_before
returns-in-Err-clause-as_before g c =
    retired_as_before c.args.folder.now c.args.uid (g.X.Keeper.Keeper.told c.in-Err.keeper) (g.X.Site.kept c.args.site.now) (g.X.Site.kept c.retire.new.self)
    (subst (λ (t : Option Kept). IsEntry c.args.folder.now c.args.uid t (g.X.Site.kept c.args.site.now)) (sym c.in-Err.ensures.left_refused) c.requires.entry) c.retire.ensures.entry

pub returns-in-Err-clause-refused_as : goal.returns-in-Err-clause-refused_as
returns-in-Err-clause-refused_as g c =
    subst (λ (stop : Stop). IsRefusedAs stop (g.X.Site.counts c.args.site.now).refused (g.X.Site.counts c.retire.new.self).refused) (sym c.stop_at.ensures)
    (kept_refused c.args.uid c.in-Err.fault (g.X.Site.counts c.args.site.now).refused (g.X.Site.counts c.retire.new.self).refused c.retire.ensures.counted.refused)

pub returns-in-Err-clause-stays : goal.returns-in-Err-clause-stays
returns-in-Err-clause-stays g c = c.retire.ensures.stays c.requires.given
