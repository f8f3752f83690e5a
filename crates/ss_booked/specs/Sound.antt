-- What always holds of an account and its journal.
use Rattle.std.specs.Prelude.{◌≡◌, ◌≤◌, ◌+◌, ◌-◌, ◌^◌, ℕ, min, Bool, true, false, List, count_by, Option, IfSome}
use Rattle.ss_bso.specs.declared.account.Plain.{Plain}
use Rattle.ss_bso.specs.declared.changes.Kept.{Kept}
use Rattle.ss_bso.specs.Validity.{IsValid, SameAccount}
use Rattle.ss_query.specs.declared.replies.Mark.{Mark}
use Rattle.ss_query.specs.declared.replies.Mark.TheVariants.{Keeper}
use Rattle.ss_laws.specs.declared.journal.Entry.{Entry}
use Rattle.ss_laws.specs.Journal.{Journal}
use Rattle.ss_laws.specs.Journals.{account_after, IsLegal}
use Rattle.ss_account.specs.Keeping.{IsKeptBy}
use Rattle.ss_account.specs.Opening.{IsGood}
use Rattle.ss_booked.specs.Sizes.{journal_bytes, HadRoom}

-- the count rose by at least so many; one that stands at the greatest u64 counts as risen
pub record RoseBy (times before now : ℕ) : Type 0 where
  pub later : before ≤ now
  pub risen : min (before + times) (2 ^ 64 - 1) ≤ now

-- whether a mark says that the keeper failed
abbrev pub is_keeper : Mark → Bool
is_keeper Keeper = true
is_keeper _ = false

-- how many entries say that the keeper failed
abbrev pub keeper_marks : List Entry → ℕ
keeper_marks entries = count_by (λ entry. is_keeper entry.mark) entries

-- the journal is legal, each of its entries was made while it had room, and it leaves the account, whatever the order of its rows, collections and batches; the account is valid and
-- kept, and can be opened again; the count of bytes is that of the entries; since the journal was opened the keeper's count of
-- faults rose by at least the number of entries that say so
pub record IsSound (told : Option Kept) (account : Plain) (journal : Journal) (bytes before faults : ℕ) : Type 0 where
  pub legal : IsLegal journal
  pub had_room : HadRoom journal
  pub leaves : SameAccount (account_after journal.opening journal.entries) account
  pub valid : IsValid account
  pub kept : IsKeptBy told account
  pub again : IfSome told IsGood
  pub counted : bytes ≡ journal_bytes journal.entries
  pub rose : RoseBy (keeper_marks journal.entries) before faults
