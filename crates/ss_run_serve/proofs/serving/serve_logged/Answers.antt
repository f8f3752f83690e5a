use Rattle.std.specs.Prelude.{◌≡◌, ◌≤◌, ℕ, List, Option, map, replicate, refl}
use Rattle.std.proofs.Common.{ap, subst, inl}
use Rattle.ss_site.specs.Sites.{LentParts}
use Rattle.ss_run_serve.specs.Hosted.{hosted_at}
use Rattle.ss_run_serve.specs.Course.{CameTo}
use Rattle.ss_run_serve.specs.Logs.{logs_of, AreLoggedUntil, AreLoggedAt}
use Rattle.ss_run_serve.specs.Logbooks.{number_in, is_kept, files_in, failures_in}
use Rattle.ss_run_serve.proofs.Lent.{none_out}
use Rattle.ss_run_serve.proofs.Saving.{none_logged_still}
use Rattle.ss_run_serve.proofs.Shutting.{came_to_unserved}
use Rattle.ss_run_serve.proofs.Closing.{all_returned, came_logged, closed_failed, readings_lent, same_keepers}
use Rattle.ss_run_serve.proofs.Closing.{still_listens, unkept_none, untold_failed}
use Rattle.ss_run_serve.proofs.serving.serve_logged.Goals as goal

pub returns-in-Err-clause-came : goal.returns-in-Err-clause-came
returns-in-Err-clause-came g c =
    came_to_unserved c.args.command.now.manner g.X.Port.Link.Told.told g.X.Port.Link.Closable.closed (g.G.Gate.says c.args.gate.now) (map (hosted_at g.X.Keeper.Keeper.told g.X.Keeper.Keeper.keep_faults) c.args.accounts.items) (replicate c.args.command.now.workers (g.X.Site.lent c.args.site.now).readings) c.args.command.now.connections c.args.command.now.terms
    (g.X.Site.terms c.args.site.now) (g.X.Site.terms c.open_book.new.site) (g.X.Site.counts c.args.site.now) (g.X.Site.counts c.args.site.now) (g.X.Site.counts c.open_book.new.site) c.in-Err.stop
    (λ told. AreLoggedAt c.args.command.now.logs c.in-Err.stop told (g.X.Site.logs c.args.site.now) (g.X.Site.logs c.open_book.new.site))
    (none_logged_still _ c.args.command.now.logs c.in-Err.stop (g.X.Site.logs c.args.site.now) (g.X.Site.logs c.open_book.new.site) c.in-Err.ensures.unlogged)
    c.open_book.ensures.terms refl c.in-Err.ensures.refused

pub returns-clause-came : goal.returns-clause-came
returns-clause-came g c =
    came_logged c.args.command.now.manner g.X.Port.Link.Told.told g.X.Port.Link.Closable.closed (g.G.Gate.says c.args.gate.now) c.args.command.now.logs (map (hosted_at g.X.Keeper.Keeper.told g.X.Keeper.Keeper.keep_faults) c.args.accounts.items) (replicate c.args.command.now.workers (g.X.Site.lent c.args.site.now).readings) c.args.command.now.connections c.args.command.now.terms
    (g.X.Site.terms c.args.site.now) (g.X.Site.terms c.open_book.new.site) (g.X.Site.terms c.serve_opened-accounts.new.site) (g.X.Site.terms c.close_book.new.site)
    (g.X.Site.counts c.args.site.now) (g.X.Site.counts c.open_book.new.site) (g.X.Site.counts c.serve_opened-accounts.new.site) (g.X.Site.counts c.close_book.new.site)
    (map (hosted_at g.X.Keeper.Keeper.told g.X.Keeper.Keeper.keep_faults) c.serve_opened-accounts.result.0.items) c.serve_opened-accounts.result.1
    (is_kept c.in-Ok.book) (is_kept c.serve_opened-accounts.new.book) (number_in c.in-Ok.book) (files_in g.X.Log.Store.held c.in-Ok.book) (files_in g.X.Log.Store.held c.serve_opened-accounts.new.book) (failures_in g.X.Log.Store.store_faults c.serve_opened-accounts.new.book)
    (g.X.Site.logs c.args.site.now) (g.X.Site.logs c.open_book.new.site) (g.X.Site.logs c.serve_opened-accounts.new.site) (g.X.Site.logs c.close_book.new.site) (g.X.Site.lent c.serve_opened-accounts.new.site) (g.X.Site.lent c.close_book.new.site)
    c.in-Ok.ensures.counts c.open_book.ensures.terms c.close_book.ensures.terms c.serve_opened-accounts.ensures.same c.in-Ok.ensures.book c.in-Ok.ensures.left c.serve_opened-accounts.ensures.logs c.close_book.ensures.closed
    (subst (λ (r : Option (List ℕ)). CameTo c.args.command.now.manner g.X.Port.Link.Told.told g.X.Port.Link.Closable.closed (g.G.Gate.says c.args.gate.now) (map (hosted_at g.X.Keeper.Keeper.told g.X.Keeper.Keeper.keep_faults) c.args.accounts.items) (replicate c.args.command.now.workers r) c.args.command.now.connections c.args.command.now.terms
    (g.X.Site.terms c.open_book.new.site) (g.X.Site.terms c.serve_opened-accounts.new.site) (g.X.Site.counts c.open_book.new.site) (g.X.Site.counts c.serve_opened-accounts.new.site)
    (map (hosted_at g.X.Keeper.Keeper.told g.X.Keeper.Keeper.keep_faults) c.serve_opened-accounts.result.0.items) c.serve_opened-accounts.result.1
    (λ told. AreLoggedUntil c.serve_opened-accounts.result.1 (logs_of (number_in c.in-Ok.book) told) (files_in g.X.Log.Store.held c.in-Ok.book) (files_in g.X.Log.Store.held c.serve_opened-accounts.new.book)))
    (readings_lent (is_kept c.in-Ok.book) (g.X.Site.lent c.args.site.now) (g.X.Site.lent c.open_book.new.site) c.in-Ok.ensures.lent) c.serve_opened-accounts.ensures.came)

pub returns-in-Err-clause-failed : goal.returns-in-Err-clause-failed
returns-in-Err-clause-failed g c = untold_failed (g.X.Site.counts c.args.site.now) (g.X.Site.counts c.open_book.new.site) c.in-Err.stop c.in-Err.ensures.refused

pub returns-clause-failed : goal.returns-clause-failed
returns-clause-failed g c =
    closed_failed (is_kept c.serve_opened-accounts.new.book) (files_in g.X.Log.Store.held c.serve_opened-accounts.new.book) (failures_in g.X.Log.Store.store_faults c.serve_opened-accounts.new.book)
    (g.X.Site.counts c.args.site.now) (g.X.Site.counts c.serve_opened-accounts.new.site) (g.X.Site.counts c.close_book.new.site) (g.X.Site.logs c.serve_opened-accounts.new.site) (g.X.Site.logs c.close_book.new.site) (g.X.Site.lent c.serve_opened-accounts.new.site) (g.X.Site.lent c.close_book.new.site)
    c.serve_opened-accounts.result.1 (unkept_none g.X.Log.Store.store_faults c.serve_opened-accounts.new.book) c.close_book.ensures.closed
    (subst (λ (n : _). n.faults ≤ (g.X.Site.counts c.serve_opened-accounts.new.site).faults) c.in-Ok.ensures.counts c.serve_opened-accounts.ensures.came.faults) c.serve_opened-accounts.ensures.cut

pub returns-in-Err-clause-returned : goal.returns-in-Err-clause-returned
returns-in-Err-clause-returned g c = none_out (g.X.Site.lent c.args.site.now) (g.X.Site.lent c.open_book.new.site) c.in-Err.ensures.unlent

pub returns-clause-returned : goal.returns-clause-returned
returns-clause-returned g c =
    all_returned (is_kept c.in-Ok.book) (is_kept c.serve_opened-accounts.new.book) (g.X.Site.lent c.args.site.now) (g.X.Site.lent c.open_book.new.site) (files_in g.X.Log.Store.held c.serve_opened-accounts.new.book) (failures_in g.X.Log.Store.store_faults c.serve_opened-accounts.new.book)
    (g.X.Site.counts c.serve_opened-accounts.new.site) (g.X.Site.counts c.close_book.new.site) (g.X.Site.logs c.serve_opened-accounts.new.site) (g.X.Site.logs c.close_book.new.site) (g.X.Site.lent c.serve_opened-accounts.new.site) (g.X.Site.lent c.close_book.new.site)
    c.serve_opened-accounts.ensures.same c.in-Ok.ensures.lent c.close_book.ensures.closed c.serve_opened-accounts.ensures.returned

pub returns-in-Err-clause-listens : goal.returns-in-Err-clause-listens
returns-in-Err-clause-listens g c = inl (ap (λ (l : LentParts). l.addresses) c.in-Err.ensures.unlent)

pub returns-clause-listens : goal.returns-clause-listens
returns-clause-listens g c =
    still_listens c.args.command.now.address (is_kept c.in-Ok.book) (is_kept c.serve_opened-accounts.new.book) (g.X.Site.lent c.args.site.now) (g.X.Site.lent c.open_book.new.site) (files_in g.X.Log.Store.held c.serve_opened-accounts.new.book) (failures_in g.X.Log.Store.store_faults c.serve_opened-accounts.new.book)
    (g.X.Site.counts c.serve_opened-accounts.new.site) (g.X.Site.counts c.close_book.new.site) (g.X.Site.logs c.serve_opened-accounts.new.site) (g.X.Site.logs c.close_book.new.site) (g.X.Site.lent c.serve_opened-accounts.new.site) (g.X.Site.lent c.close_book.new.site)
    c.in-Ok.ensures.lent c.close_book.ensures.closed c.serve_opened-accounts.ensures.listens

pub returns-in-Err-clause-keepers : goal.returns-in-Err-clause-keepers
returns-in-Err-clause-keepers g c = ap (λ (l : LentParts). l.keepers) c.in-Err.ensures.unlent

pub returns-clause-keepers : goal.returns-clause-keepers
returns-clause-keepers g c =
    same_keepers (is_kept c.in-Ok.book) (is_kept c.serve_opened-accounts.new.book) (g.X.Site.lent c.args.site.now) (g.X.Site.lent c.open_book.new.site) (files_in g.X.Log.Store.held c.serve_opened-accounts.new.book) (failures_in g.X.Log.Store.store_faults c.serve_opened-accounts.new.book)
    (g.X.Site.counts c.serve_opened-accounts.new.site) (g.X.Site.counts c.close_book.new.site) (g.X.Site.logs c.serve_opened-accounts.new.site) (g.X.Site.logs c.close_book.new.site) (g.X.Site.lent c.serve_opened-accounts.new.site) (g.X.Site.lent c.close_book.new.site)
    c.in-Ok.ensures.lent c.close_book.ensures.closed c.serve_opened-accounts.ensures.keepers
