-- What callers see of an account with its journal.
use Rattle.std.specs.Prelude.{ℕ}
use Rattle.ss_keeper.specs.declared.keeper.Keeper.{Ghosts}
use Rattle.ss_account.specs.Held.{AccountWithKeeper}
use Rattle.ss_laws.specs.Journal.{Journal}
use Rattle.ss_booked.specs.declared.booked.Booked.{Booked}
use Rattle.ss_booked.specs.declared.booked.Terms.{Terms}

module _ {K : Type 0} {G : Ghosts K} where
  -- whose it is
  abbrev pub uid_of : Booked K G → ℕ
  uid_of b = b.bound.uid

  -- the account, with its keeper
  abbrev pub account_of : Booked K G → AccountWithKeeper K
  account_of b = b.bound.account

  -- its journal
  abbrev pub journal_of : Booked K G → Journal
  journal_of b = b.bound.journal

  -- the keeper as it was when the journal was opened
  abbrev pub keeper_before : Booked K G → K
  keeper_before b = b.bound.before

  -- what no call changes
  abbrev pub terms_of : (K → ℕ) → Booked K G → Terms
  terms_of keep_faults b = record {
    uid = b.bound.uid;
    opening = b.bound.journal.opening;
    most = b.bound.journal.most;
    faults = keep_faults b.bound.before;
  }
