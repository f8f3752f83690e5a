use Rattle.std.specs.Prelude.{◌≡◌, ℕ, Option, map, take}
use Rattle.std.proofs.Common.{sym, subst, ◌∙◌}
use Rattle.ss_laws.specs.Journal.{Journal}
use Rattle.ss_links.specs.Stores.{Files}
use Rattle.ss_booked.specs.declared.booked.Booked.{Booked}
use Rattle.ss_booked.specs.Booked.{journal_of}
use Rattle.ss_run_serve.specs.Logs.{logs_of_term, saved_of, AreSavedLogs}
use Rattle.ss_run_serve.specs.Logbooks.{number_in, files_in}
use Rattle.ss_run_serve.proofs.Saving.{partly_at, saved_at}
use Rattle.ss_run_serve.proofs.logbook.Logbook.save_each.Goals as goal

pub returns-in-Err-clause-partly : goal.returns-in-Err-clause-partly
returns-in-Err-clause-partly g c =
    let view : ℕ × Booked g.row.K.Denot g.K.Keeper → ℕ × Journal = λ a. (a.0, journal_of a.1) in
    partly_at view (number_in c.args.self.now) c.args.accounts.now c.loop-uid.uid-index (files_in g.S.Store.held c.args.self.now) (files_in g.S.Store.held c.save.new.self)
    (subst (λ (files : Option Files). AreSavedLogs (logs_of_term (number_in c.args.self.now) (map view (take c.loop-uid.uid-index c.args.accounts.now))) (files_in g.S.Store.held c.args.self.now) files) (sym c.in-Err.ensures.refused) c.loop-uid.invariant.saved)

pub loop-uid-preserved : goal.loop-uid-preserved
loop-uid-preserved g c =
    let item : ℕ × Booked g.row.K.Denot g.K.Keeper = c.loop-uid-item.result in
    record {
      saved = saved_at (λ (a : ℕ × Booked g.row.K.Denot g.K.Keeper). (a.0, journal_of a.1)) (number_in c.args.self.now) c.args.accounts.now c.loop-uid.uid-index item (files_in g.S.Store.held c.args.self.now) (files_in g.S.Store.held c.loop-uid.self) (files_in g.S.Store.held c.save.new.self)
          c.loop-uid-test.true c.loop-uid-item.is c.loop-uid.invariant.saved
          (subst (λ (j : Journal). AreSavedLogs (saved_of (number_in c.args.self.now) (item.0, j)) (files_in g.S.Store.held c.loop-uid.self) (files_in g.S.Store.held c.save.new.self)) c.journal.ensures.journal
          (subst (λ (n : ℕ). AreSavedLogs (saved_of n (item.0, c.journal.result.now)) (files_in g.S.Store.held c.loop-uid.self) (files_in g.S.Store.held c.save.new.self)) c.loop-uid.invariant.number c.in_default.ensures.saved));
      number = c.save.ensures.number ∙ c.loop-uid.invariant.number;
      same = c.save.ensures.same ∙ c.loop-uid.invariant.same;
    }
