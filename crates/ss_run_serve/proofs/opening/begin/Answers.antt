use Rattle.std.proofs.Common.{sym, ap, subst, ◌∙◌}
use Rattle.ss_account.specs.Held.{AccountWithKeeper}
use Rattle.ss_site.specs.Sites.{IsEntry}
use Rattle.ss_run_serve.proofs.Retired.{retired_as_before}
use Rattle.ss_run_serve.proofs.opening.begin.Goals as goal

pub returns-in-Err-clause-as_before : goal.returns-in-Err-clause-as_before
returns-in-Err-clause-as_before g c =
    let same = c.into_keeper.ensures ∙ ap (λ (a : AccountWithKeeper g.row.X-Keeper.Denot). a.keeper) c.in-Err.ensures.returned in
    retired_as_before c.args.folder.now c.args.uid (g.X.Keeper.Keeper.told c.into_keeper.result) (g.X.Site.kept c.args.site.now) (g.X.Site.kept c.retire.new.self)
    (subst (λ (k : g.row.X-Keeper.Denot). IsEntry c.args.folder.now c.args.uid (g.X.Keeper.Keeper.told k) (g.X.Site.kept c.args.site.now)) (sym same) c.requires.entry) c.retire.ensures.entry

pub returns-in-Err-clause-stays : goal.returns-in-Err-clause-stays
returns-in-Err-clause-stays g c = c.retire.ensures.stays c.requires.given
