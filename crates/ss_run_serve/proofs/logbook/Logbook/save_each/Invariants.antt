use Rattle.std.specs.Prelude.{◌≡◌, ℕ, map, take}
use Rattle.ss_laws.specs.Journal.{Journal}
use Rattle.ss_booked.specs.Booked.{journal_of}
use Rattle.ss_run_serve.specs.Logs.{logs_of_term, AreSavedLogs}
use Rattle.ss_run_serve.specs.Logbooks.{number_in, is_kept, files_in}
use Rattle.ss_run_serve.proofs.logbook.Logbook.save_each.Given as goal

-- the logs of the accounts so far are saved
abbrev pub invariant-loop-uid : goal.invariant-loop-uid
invariant-loop-uid g l = record {
  saved : AreSavedLogs (logs_of_term (number_in l.initial.self) (map {B = ℕ × Journal} (λ account. (account.0, journal_of account.1)) (take l.uid-index l.accounts))) (files_in g.S.Store.held l.initial.self) (files_in g.S.Store.held l.self);
  number : number_in l.self ≡ number_in l.initial.self;
  same : is_kept l.self ≡ is_kept l.initial.self;
}
