-- An account as a server has it.
use Rattle.std.specs.Prelude.{◌≡◌, ℕ, List, [], Option}
use Rattle.ss_bso.specs.declared.account.Plain.{Plain}
use Rattle.ss_bso.specs.declared.changes.Kept.{Kept}
use Rattle.ss_bso.specs.Validity.{SameAccount}
use Rattle.ss_keeper.specs.declared.keeper.Keeper.{Ghosts}
use Rattle.ss_laws.specs.declared.journal.Entry.{Entry}
use Rattle.ss_laws.specs.Journal.{Journal}
use Rattle.ss_laws.specs.Journals.{account_after}
use Rattle.ss_account.specs.Keeping.{IsKeptBy}
use Rattle.ss_booked.specs.declared.booked.Booked.{Booked}
use Rattle.ss_booked.specs.declared.booked.Terms.{Terms}
use Rattle.ss_booked.specs.Booked.{account_of, journal_of, terms_of}
use Rattle.ss_booked.specs.Sound.{RoseBy, keeper_marks}
use Rattle.ss_booked.specs.Turns.{journal_on}

-- an account with its journal and its keeper: what no call of its term changes, what was entered in the term, the account now,
-- what its keeper tells, and how often that has failed
pub record HostedAccount : Type 0 where
  pub fixed : Terms
  pub entries : List Entry
  pub plain : Plain
  pub told : Option Kept
  pub faults : ℕ

module _ {K : Type 0} {G : Ghosts K} (told : K → Option Kept) (faults : K → ℕ) where
  -- the same of a value of the program
  abbrev pub hosted_account : Booked K G → HostedAccount
  hosted_account b = record {
    fixed = terms_of faults b;
    entries = (journal_of b).entries;
    plain = (account_of b).plain;
    told = told (account_of b).keeper;
    faults = faults (account_of b).keeper;
  }

  -- and with its uid
  abbrev pub hosted_at : ℕ × Booked K G → ℕ × HostedAccount
  hosted_at account = (account.0, hosted_account account.1)

-- its journal
abbrev pub journal_in : HostedAccount → Journal
journal_in h = journal_on h.fixed h.entries

-- the account that its journal leaves
abbrev pub left_by : HostedAccount → Plain
left_by h = account_after h.fixed.opening h.entries

-- what always holds of it: its journal leaves the account, whatever the order of its rows, collections and batches; its keeper
-- holds it, where that is told; and since the journal began the keeper failed at least as often as the journal says
pub record Stands (h : HostedAccount) : Type 0 where
  pub leaves : SameAccount (left_by h) h.plain
  pub kept : IsKeptBy h.told h.plain
  pub rose : RoseBy (keeper_marks h.entries) h.fixed.faults h.faults

-- its journal has no entries yet
pub record HasEmptyJournal (h : HostedAccount) : Type 0 where
  pub entries : h.entries ≡ []
  pub counted : h.fixed.faults ≡ h.faults
