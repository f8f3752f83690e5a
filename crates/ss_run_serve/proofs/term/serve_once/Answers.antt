use Rattle.std.specs.Prelude.{ℕ, List, map}
use Rattle.std.proofs.Common.{subst}
use Rattle.ss_laws.specs.Journal.{Journal}
use Rattle.ss_booked.specs.declared.booked.Booked.{Booked}
use Rattle.ss_booked.specs.Booked.{journal_of}
use Rattle.ss_site.specs.Sites.{HasAdded}
use Rattle.ss_run_serve.specs.Logs.{logs_of_term, ArePartlySaved, AreSavedLogs}
use Rattle.ss_run_serve.specs.Logbooks.{number_in, files_in, failures_in}
use Rattle.ss_run_serve.specs.Watched.{port_in}
use Rattle.ss_run_serve.proofs.OneTerm.{follows_has, once_cut, once_done, once_refused, once_untold}
use Rattle.ss_run_serve.proofs.Saving.{cut_has, if_none, untold_has}
use Rattle.ss_run_serve.proofs.term.serve_once.Goals as goal

pub returns-in-Town-clause-once : goal.returns-in-Town-clause-once
returns-in-Town-clause-once g c =
    once_refused g.X.Keeper.Keeper.told g.X.Keeper.Keeper.keep_faults c.args.manner g.X.Port.Link.Told.told g.X.Port.Link.Closable.closed (g.G.Gate.says c.args.gate.now) c.args.crew.accounts.items c.serve_term-accounts.result.accounts.items c.serve_term-accounts.result.links.items
    (map g.X.Clock.Clock.coming c.args.crew.clocks.items) (map g.X.Clock.Clock.coming c.serve_term-accounts.result.clocks.items) c.serve_term-accounts.result.ended c.in-Town.field-0 (g.X.Site.terms c.args.site.now) (g.X.Site.counts c.args.site.now)
    c.args.connections (g.X.Port.Port.counts (port_in c.args.port.now)) (g.X.Port.Port.counts (port_in c.serve_term-accounts.new.port)) (number_in c.args.book.now) (files_in g.X.Log.Store.held c.args.book.now) c.in-Town.is c.requires.begun c.serve_term-accounts.ensures.says c.serve_term-accounts.ensures.cause

pub returns-in-Ok-save_term-clause-once : goal.returns-in-Ok-save_term-clause-once
returns-in-Ok-save_term-clause-once g c =
    once_done g.X.Keeper.Keeper.told g.X.Keeper.Keeper.keep_faults c.args.manner g.X.Port.Link.Told.told g.X.Port.Link.Closable.closed (g.G.Gate.says c.args.gate.now) c.args.crew.accounts.items c.serve_term-accounts.result.accounts.items c.serve_term-accounts.result.links.items
    (map g.X.Clock.Clock.coming c.args.crew.clocks.items) (map g.X.Clock.Clock.coming c.serve_term-accounts.result.clocks.items) c.serve_term-accounts.result.ended (g.X.Site.terms c.args.site.now) (g.X.Site.terms c.tell.new.site)
    (g.X.Site.counts c.args.site.now) (g.X.Site.counts c.tell.new.site) c.args.connections (g.X.Port.Port.counts (port_in c.args.port.now)) (g.X.Port.Port.counts (port_in c.serve_term-accounts.new.port)) c.stop_after-last.result (number_in c.args.book.now) (files_in g.X.Log.Store.held c.args.book.now) (files_in g.X.Log.Store.held c.save_term.new.self)
    c.in_default.not-Town c.serve_term-accounts.ensures.says
    (subst (λ (accounts : List (ℕ × Booked g.row.X-Keeper.Denot g.X.Keeper.Keeper)). HasAdded (record { reports = c.serve_term-accounts.result.links.items; journals = map {B = ℕ × Journal} (λ (a : ℕ × Booked g.row.X-Keeper.Denot g.X.Keeper.Keeper). (a.0, journal_of a.1)) accounts }) (g.X.Site.terms c.args.site.now) (g.X.Site.terms c.tell.new.site)) c.as_slice-in_default.ensures.value c.in-Ok.ensures.told)
    c.in-Ok.ensures.counts c.serve_term-accounts.ensures.given c.serve_term-accounts.ensures.few c.serve_term-accounts.ensures.gated c.serve_term-accounts.ensures.cause c.stop_after-last.ensures
    (subst (λ (accounts : List (ℕ × Booked g.row.X-Keeper.Denot g.X.Keeper.Keeper)). AreSavedLogs (logs_of_term (number_in c.args.book.now) (map {B = ℕ × Journal} (λ (a : ℕ × Booked g.row.X-Keeper.Denot g.X.Keeper.Keeper). (a.0, journal_of a.1)) accounts)) (files_in g.X.Log.Store.held c.args.book.now) (files_in g.X.Log.Store.held c.save_term.new.self)) c.as_slice-in-Ok.ensures.value c.in-Ok-save_term.ensures.saved)

pub returns-in-Err-save_term-clause-once : goal.returns-in-Err-save_term-clause-once
returns-in-Err-save_term-clause-once g c =
    once_cut g.X.Keeper.Keeper.told g.X.Keeper.Keeper.keep_faults c.args.manner g.X.Port.Link.Told.told g.X.Port.Link.Closable.closed (g.G.Gate.says c.args.gate.now) c.args.crew.accounts.items c.serve_term-accounts.result.accounts.items c.serve_term-accounts.result.links.items
    (map g.X.Clock.Clock.coming c.args.crew.clocks.items) (map g.X.Clock.Clock.coming c.serve_term-accounts.result.clocks.items) c.serve_term-accounts.result.ended (g.X.Site.terms c.args.site.now) (g.X.Site.terms c.tell.new.site)
    (g.X.Site.counts c.args.site.now) (g.X.Site.counts c.tell.new.site) c.args.connections (g.X.Port.Port.counts (port_in c.args.port.now)) (g.X.Port.Port.counts (port_in c.serve_term-accounts.new.port)) (failures_in g.X.Log.Store.store_faults c.save_term.new.self) c.in-Err-save_term.stop (number_in c.args.book.now) (files_in g.X.Log.Store.held c.args.book.now) (files_in g.X.Log.Store.held c.save_term.new.self)
    c.in_default.not-Town c.serve_term-accounts.ensures.says
    (subst (λ (accounts : List (ℕ × Booked g.row.X-Keeper.Denot g.X.Keeper.Keeper)). HasAdded (record { reports = c.serve_term-accounts.result.links.items; journals = map {B = ℕ × Journal} (λ (a : ℕ × Booked g.row.X-Keeper.Denot g.X.Keeper.Keeper). (a.0, journal_of a.1)) accounts }) (g.X.Site.terms c.args.site.now) (g.X.Site.terms c.tell.new.site)) c.as_slice-in_default.ensures.value c.in-Ok.ensures.told)
    c.in-Ok.ensures.counts c.serve_term-accounts.ensures.given c.serve_term-accounts.ensures.few c.serve_term-accounts.ensures.gated c.in-Err-save_term.ensures.cause
    (subst (λ (accounts : List (ℕ × Booked g.row.X-Keeper.Denot g.X.Keeper.Keeper)). ArePartlySaved (logs_of_term (number_in c.args.book.now) (map {B = ℕ × Journal} (λ (a : ℕ × Booked g.row.X-Keeper.Denot g.X.Keeper.Keeper). (a.0, journal_of a.1)) accounts)) (files_in g.X.Log.Store.held c.args.book.now) (files_in g.X.Log.Store.held c.save_term.new.self)) c.as_slice-in-Ok.ensures.value c.in-Err-save_term.ensures.partly)

pub returns-in-Err-clause-once : goal.returns-in-Err-clause-once
returns-in-Err-clause-once g c =
    once_untold g.X.Keeper.Keeper.told g.X.Keeper.Keeper.keep_faults c.args.manner g.X.Port.Link.Told.told g.X.Port.Link.Closable.closed (g.G.Gate.says c.args.gate.now) c.args.crew.accounts.items c.serve_term-accounts.result.accounts.items c.serve_term-accounts.result.links.items
    (map g.X.Clock.Clock.coming c.args.crew.clocks.items) (map g.X.Clock.Clock.coming c.serve_term-accounts.result.clocks.items) c.serve_term-accounts.result.ended (g.X.Site.terms c.args.site.now) (g.X.Site.terms c.tell.new.site)
    (g.X.Site.counts c.args.site.now) (g.X.Site.counts c.tell.new.site) c.args.connections (g.X.Port.Port.counts (port_in c.args.port.now)) (g.X.Port.Port.counts (port_in c.serve_term-accounts.new.port)) c.in-Err.stop (number_in c.args.book.now) (files_in g.X.Log.Store.held c.args.book.now)
    c.in_default.not-Town c.serve_term-accounts.ensures.says c.in-Err.ensures.terms c.in-Err.ensures.untold c.serve_term-accounts.ensures.given c.serve_term-accounts.ensures.few c.serve_term-accounts.ensures.gated

pub returns-in-Ok-save_term-clause-number : goal.returns-in-Ok-save_term-clause-number
returns-in-Ok-save_term-clause-number g c = if_none c.stop_after-last.result _ c.in-Ok-save_term.ensures.number

pub returns-in-Ok-save_term-clause-cut : goal.returns-in-Ok-save_term-clause-cut
returns-in-Ok-save_term-clause-cut g c = follows_has (failures_in g.X.Log.Store.store_faults c.save_term.new.self) c.serve_term-accounts.result.ended (g.X.Port.Port.counts (port_in c.serve_term-accounts.new.port)) c.stop_after-last.result c.stop_after-last.ensures

pub returns-in-Err-save_term-clause-cut : goal.returns-in-Err-save_term-clause-cut
returns-in-Err-save_term-clause-cut g c = cut_has (failures_in g.X.Log.Store.store_faults c.save_term.new.self) c.in-Err-save_term.stop c.in-Err-save_term.ensures.cause

pub returns-in-Err-clause-cut : goal.returns-in-Err-clause-cut
returns-in-Err-clause-cut g c = untold_has (g.X.Site.counts c.args.site.now) (g.X.Site.counts c.tell.new.site) (failures_in g.X.Log.Store.store_faults c.args.book.now) c.in-Err.stop c.in-Err.ensures.untold
