use Rattle.std.specs.Prelude.{◌≡◌, ℕ, map, take}
use Rattle.ss_laws.specs.Journal.{Journal}
use Rattle.ss_booked.specs.Booked.{journal_of}
use Rattle.ss_run_serve.proofs.term.journals_of.Given as goal

-- the journals so far
abbrev pub invariant-loop-uid : goal.invariant-loop-uid
invariant-loop-uid g l = map {B = ℕ × Journal} (λ journal. (journal.0, journal.1.now)) l.journals.items ≡ map {B = ℕ × Journal} (λ account. (account.0, journal_of account.1)) (take l.uid-index l.accounts)
