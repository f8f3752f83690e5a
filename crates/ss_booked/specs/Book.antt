-- What contracts see of an account bound to its journal.
use Rattle.std.specs.Prelude.{ℕ}
use Rattle.ss_account.specs.Held.{AccountWithKeeper}
use Rattle.ss_laws.specs.Journal.{Journal}

-- the uid, the account with its keeper, its journal, and the keeper as it was when the journal was opened
pub record Book (K : Type 0) : Type 0 where
  pub uid : ℕ
  pub account : AccountWithKeeper K
  pub journal : Journal
  pub before : K
