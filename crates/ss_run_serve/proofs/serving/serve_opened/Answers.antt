use Rattle.std.specs.Prelude.{◌≡◌, ◌∷◌, [], ◌++◌, ℕ, List, map, replicate, Err, refl}
use Rattle.std.proofs.Common.{arith, sym, ap, inl, inr, subst, ◌∙◌}
use Rattle.ss_site.specs.declared.site.SiteFault.{SiteFault}
use Rattle.ss_site.specs.Sites.{CountsPort, HasCause, LentParts}
use Rattle.ss_run_serve.specs.declared.stop.Stop.TheVariants as stops
use Rattle.ss_run_serve.specs.Logbooks.{number_in, files_in}
use Rattle.ss_run_serve.specs.Watched.{port_in}
use Rattle.ss_run_serve.specs.Hosted.{hosted_at}
use Rattle.ss_run_serve.proofs.Lent.{none_out}
use Rattle.ss_run_serve.proofs.Saving.{logged_of, none_saved}
use Rattle.ss_run_serve.proofs.Shutting.{came_to_shut, came_to_unserved, Kept}
use Rattle.ss_run_serve.proofs.serving.serve_opened.Goals as goal

pub returns-in_default-clause-came : goal.returns-in_default-clause-came
returns-in_default-clause-came g c =
    came_to_unserved c.args.command.now.manner g.X.Port.Link.Told.told g.X.Port.Link.Closable.closed (g.G.Gate.says c.args.gate.now) (map (hosted_at g.X.Keeper.Keeper.told g.X.Keeper.Keeper.keep_faults) c.args.accounts.items) (replicate c.args.command.now.workers (g.X.Site.lent c.args.site.now).readings) c.args.command.now.connections c.args.command.now.terms
    (g.X.Site.terms c.args.site.now) (g.X.Site.terms c.clocks_of.new.site) (g.X.Site.counts c.args.site.now) (g.X.Site.counts c.args.site.now) (g.X.Site.counts c.clocks_of.new.site) stops.Memory
    (Kept stops.Memory (number_in c.args.book.now) (files_in g.X.Log.Store.held c.args.book.now) (files_in g.X.Log.Store.held c.args.book.now)) (logged_of stops.Memory [] (files_in g.X.Log.Store.held c.args.book.now) (files_in g.X.Log.Store.held c.args.book.now) (none_saved (files_in g.X.Log.Store.held c.args.book.now)))
    c.clocks_of.ensures.terms refl c.clocks_of.ensures.counts

pub returns-in-Err-Fault-clause-came : goal.returns-in-Err-Fault-clause-came
returns-in-Err-Fault-clause-came g c =
    came_to_unserved c.args.command.now.manner g.X.Port.Link.Told.told g.X.Port.Link.Closable.closed (g.G.Gate.says c.args.gate.now) (map (hosted_at g.X.Keeper.Keeper.told g.X.Keeper.Keeper.keep_faults) c.args.accounts.items) (replicate c.args.command.now.workers (g.X.Site.lent c.args.site.now).readings) c.args.command.now.connections c.args.command.now.terms
    (g.X.Site.terms c.args.site.now) (g.X.Site.terms c.listen.new.self) (g.X.Site.counts c.args.site.now) (g.X.Site.counts c.clocks_of.new.site) (g.X.Site.counts c.listen.new.self) stops.Site
    (Kept stops.Site (number_in c.args.book.now) (files_in g.X.Log.Store.held c.args.book.now) (files_in g.X.Log.Store.held c.args.book.now)) (logged_of stops.Site [] (files_in g.X.Log.Store.held c.args.book.now) (files_in g.X.Log.Store.held c.args.book.now) (none_saved (files_in g.X.Log.Store.held c.args.book.now)))
    (c.listen.ensures.terms ∙ c.clocks_of.ensures.terms) c.clocks_of.ensures.counts
    (subst (λ (fault : SiteFault). HasCause {T = g.row.X-Port.Denot} (Err fault) (g.X.Site.counts c.clocks_of.new.site) (g.X.Site.counts c.listen.new.self)) c.in-Err-Fault.field-0-is c.in-Err-Fault.ensures.cause)

pub returns-in-Err-Memory-clause-came : goal.returns-in-Err-Memory-clause-came
returns-in-Err-Memory-clause-came g c =
    came_to_unserved c.args.command.now.manner g.X.Port.Link.Told.told g.X.Port.Link.Closable.closed (g.G.Gate.says c.args.gate.now) (map (hosted_at g.X.Keeper.Keeper.told g.X.Keeper.Keeper.keep_faults) c.args.accounts.items) (replicate c.args.command.now.workers (g.X.Site.lent c.args.site.now).readings) c.args.command.now.connections c.args.command.now.terms
    (g.X.Site.terms c.args.site.now) (g.X.Site.terms c.listen.new.self) (g.X.Site.counts c.args.site.now) (g.X.Site.counts c.clocks_of.new.site) (g.X.Site.counts c.listen.new.self) stops.Memory
    (Kept stops.Memory (number_in c.args.book.now) (files_in g.X.Log.Store.held c.args.book.now) (files_in g.X.Log.Store.held c.args.book.now)) (logged_of stops.Memory [] (files_in g.X.Log.Store.held c.args.book.now) (files_in g.X.Log.Store.held c.args.book.now) (none_saved (files_in g.X.Log.Store.held c.args.book.now)))
    (c.listen.ensures.terms ∙ c.clocks_of.ensures.terms) c.clocks_of.ensures.counts
    (subst (λ (fault : SiteFault). HasCause {T = g.row.X-Port.Denot} (Err fault) (g.X.Site.counts c.clocks_of.new.site) (g.X.Site.counts c.listen.new.self)) c.in-Err-Memory.field-0-is c.in-Err-Memory.ensures.cause)

pub returns-clause-came : goal.returns-clause-came
returns-clause-came g c =
    came_to_shut c.args.command.now.manner g.X.Port.Link.Told.told g.X.Port.Link.Closable.closed (g.G.Gate.says c.args.gate.now) (map (hosted_at g.X.Keeper.Keeper.told g.X.Keeper.Keeper.keep_faults) c.args.accounts.items) (map g.X.Clock.Clock.coming c.in-Ok.clocks.items) (replicate c.args.command.now.workers (g.X.Site.lent c.args.site.now).readings) c.args.command.now.connections c.args.command.now.terms
    (g.X.Site.terms c.args.site.now) (g.X.Site.terms c.listen.new.self) (g.X.Site.terms c.serve_terms-accounts.new.site) (g.X.Site.terms c.shut.new.self)
    (g.X.Site.counts c.args.site.now) (g.X.Site.counts c.listen.new.self) (g.X.Site.counts c.serve_terms-accounts.new.site) (g.X.Site.counts c.shut.new.self) (g.X.Port.Port.counts (port_in c.serve_terms-accounts.new.port))
    (map (hosted_at g.X.Keeper.Keeper.told g.X.Keeper.Keeper.keep_faults) c.serve_terms-accounts.result.0.items) c.serve_terms-accounts.result.1 (number_in c.args.book.now) (files_in g.X.Log.Store.held c.args.book.now) (files_in g.X.Log.Store.held c.serve_terms-accounts.new.book)
    (c.listen.ensures.terms ∙ c.clocks_of.ensures.terms) c.shut.ensures.terms (c.in-Ok-listen.ensures.cause ∙ c.clocks_of.ensures.counts)
    c.in-Ok.ensures.unread c.serve_terms-accounts.ensures.course
    (subst (λ (port : g.row.X-Port.Denot). CountsPort (g.X.Port.Port.counts port) (g.X.Site.counts c.serve_terms-accounts.new.site) (g.X.Site.counts c.shut.new.self)) c.into_port.ensures c.shut.ensures.counted)

pub returns-in_default-clause-returned : goal.returns-in_default-clause-returned
returns-in_default-clause-returned g c = none_out (g.X.Site.lent c.args.site.now) (g.X.Site.lent c.clocks_of.new.site) c.clocks_of.ensures.lent

pub returns-in-Err-Fault-clause-returned : goal.returns-in-Err-Fault-clause-returned
returns-in-Err-Fault-clause-returned g c = none_out (g.X.Site.lent c.args.site.now) (g.X.Site.lent c.listen.new.self) (c.in-Err-Fault.ensures.lent ∙ c.clocks_of.ensures.lent)

pub returns-in-Err-Memory-clause-returned : goal.returns-in-Err-Memory-clause-returned
returns-in-Err-Memory-clause-returned g c = none_out (g.X.Site.lent c.args.site.now) (g.X.Site.lent c.listen.new.self) (c.in-Err-Memory.ensures.lent ∙ c.clocks_of.ensures.lent)

pub returns-in_default-clause-listens : goal.returns-in_default-clause-listens
returns-in_default-clause-listens g c = inl (ap (λ (l : LentParts). l.addresses) c.clocks_of.ensures.lent)

pub returns-in-Err-Fault-clause-listens : goal.returns-in-Err-Fault-clause-listens
returns-in-Err-Fault-clause-listens g c = inl (ap (λ (l : LentParts). l.addresses) (c.in-Err-Fault.ensures.lent ∙ c.clocks_of.ensures.lent))

pub returns-in-Err-Memory-clause-listens : goal.returns-in-Err-Memory-clause-listens
returns-in-Err-Memory-clause-listens g c = inl (ap (λ (l : LentParts). l.addresses) (c.in-Err-Memory.ensures.lent ∙ c.clocks_of.ensures.lent))

-- the port was given at the address of the command, and the later calls gave none
pub returns-clause-listens : goal.returns-clause-listens
returns-clause-listens g c =
    inr (c.shut.ensures.back.addresses ∙ ap (λ (l : LentParts). l.addresses) c.serve_terms-accounts.ensures.lent ∙ c.in-Ok-listen.ensures.lent.2
    ∙ ap (λ (l : LentParts). l.addresses ++ c.as_str.result.now ∷ []) c.clocks_of.ensures.lent
    ∙ ap (λ (address : List ℕ). (g.X.Site.lent c.args.site.now).addresses ++ address ∷ []) c.as_str.ensures)

pub returns-clause-keepers : goal.returns-clause-keepers
returns-clause-keepers g c =
    c.shut.ensures.back.keepers ∙ ap (λ (l : LentParts). l.keepers) c.serve_terms-accounts.ensures.lent ∙ c.in-Ok-listen.ensures.lent.3 ∙ ap (λ (l : LentParts). l.keepers) c.clocks_of.ensures.lent

pub returns-in_default-clause-keepers : goal.returns-in_default-clause-keepers
returns-in_default-clause-keepers g c = ap (λ (l : LentParts). l.keepers) c.clocks_of.ensures.lent

pub returns-in-Err-Fault-clause-keepers : goal.returns-in-Err-Fault-clause-keepers
returns-in-Err-Fault-clause-keepers g c = ap (λ (l : LentParts). l.keepers) (c.in-Err-Fault.ensures.lent ∙ c.clocks_of.ensures.lent)

pub returns-in-Err-Memory-clause-keepers : goal.returns-in-Err-Memory-clause-keepers
returns-in-Err-Memory-clause-keepers g c = ap (λ (l : LentParts). l.keepers) (c.in-Err-Memory.ensures.lent ∙ c.clocks_of.ensures.lent)
