use Rattle.std.specs.Prelude.{ℕ, List, Contains}
use Rattle.std.proofs.Common.{sym, subst, ◌∙◌}
use Rattle.ss_site.specs.Sites.{LentParts}
use Rattle.ss_run_serve.proofs.Given.{was_given}
use Rattle.ss_run_serve.proofs.Opened.{opened_account}
use Rattle.ss_run_serve.proofs.opening.open_account.Goals as goal

pub returns-in-Ok-open_kept-clause-opened : goal.returns-in-Ok-open_kept-clause-opened
returns-in-Ok-open_kept-clause-opened g c =
    opened_account g.X.Keeper.Keeper.told g.X.Keeper.Keeper.keep_faults c.args.folder.now c.args.uid (g.X.Site.kept c.args.site.now) (g.X.Site.kept c.keeper.new.self) c.in-Ok-open_kept.account c.begin.result
    c.keeper.ensures.kept c.in-Ok-open_kept.ensures.opened c.in-Ok-open_kept.ensures.entry c.in-Ok-open_kept.ensures.fresh c.begin.ensures.uid c.begin.ensures.account c.begin.ensures.opening c.begin.ensures.begun c.begin.ensures.most

pub open_kept-requires-clause-given : goal.open_kept-requires-clause-given
open_kept-requires-clause-given g c = was_given (g.X.Site.lent c.args.site.now).keepers (g.X.Site.lent c.keeper.new.self).keepers c.args.folder.now c.args.uid c.in-Ok.ensures.lent.3

pub begin-requires-clause-given : goal.begin-requires-clause-given
begin-requires-clause-given g c =
    subst (λ (l : LentParts). Contains l.keepers (c.args.folder.now, c.args.uid)) (sym c.in-Ok-open_kept.ensures.lent)
    (was_given (g.X.Site.lent c.args.site.now).keepers (g.X.Site.lent c.keeper.new.self).keepers c.args.folder.now c.args.uid c.in-Ok.ensures.lent.3)
