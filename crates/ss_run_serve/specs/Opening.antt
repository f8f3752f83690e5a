-- How the accounts of a server are opened, and why they are not.
use Rattle.std.specs.Prelude.{◌≡◌, ◌≤◌, ◌⊎◌, ℕ, List, Option, Some, Any, ⊤}
use Rattle.ss_outside.specs.Causes.{Rose}
use Rattle.ss_bso.specs.Changes.{account_at_opening}
use Rattle.ss_bso.specs.Validity.{SameAccount}
use Rattle.ss_account.specs.declared.faults.OpenFault.{OpenFault}
use Rattle.ss_account.specs.declared.faults.OpenFault.TheVariants.{Keeper, BadRow, BadCollection, BadBatch, Memory}
use Rattle.ss_account.specs.Opening.{IsFaultOf}
use Rattle.ss_booked.specs.Sizes.{most_entries}
use Rattle.ss_site.specs.Sites.{Counts, Entries, IsEntry}
use Rattle.ss_run_serve.specs.declared.stop.Stop.{Stop}
use Rattle.ss_run_serve.specs.declared.stop.Stop.TheVariants as stops
use Rattle.ss_run_serve.specs.Hosted.{HostedAccount, HasEmptyJournal}

-- an account that was opened under its uid from its entry, where the entries are told, with room for as many entries as a journal
-- may have, over a keeper that tells the entry of the site and has not failed
pub record OpensAccount (folder : List ℕ) (kept : Option Entries) (account : ℕ × HostedAccount) : Type 0 where
  pub own : account.1.fixed.uid ≡ account.0
  pub opening : (entries : Entries) → kept ≡ Some entries → SameAccount (account_at_opening (entries folder account.0)) account.1.fixed.opening
  pub entry : IsEntry folder account.0 account.1.told kept
  pub begun : HasEmptyJournal account.1
  pub most : account.1.fixed.most ≡ most_entries
  pub faults : account.1.faults ≡ 0

-- a collection, a row or a batch is bad
abbrev pub IsBad : OpenFault → Type 0
IsBad (BadCollection n) = ⊤
IsBad (BadRow n) = ⊤
IsBad (BadBatch n) = ⊤
IsBad Keeper = ⊥
IsBad Memory = ⊥

-- why a server stops that found this fault in an account
abbrev pub stop_at : ℕ → OpenFault → Stop
stop_at uid Keeper = stops.Keeper uid
stop_at uid Memory = stops.Memory
stop_at uid (BadCollection n) = stops.Account uid (BadCollection n)
stop_at uid (BadRow n) = stops.Account uid (BadRow n)
stop_at uid (BadBatch n) = stops.Account uid (BadBatch n)

-- Why the account with this uid isn't opened: a call of the site or the keeper failed, or the site found no account, and it has counted
-- that; or its entry is bad, where the entries are told. Want of memory has no cause here
abbrev pub IsWhyUnopened : List ℕ → Option Entries → Counts → Counts → ℕ → Stop → Type 0
IsWhyUnopened folder kept old new uid stops.Site = Rose old.faults new.faults
IsWhyUnopened folder kept old new uid (stops.Damaged u) = (u ≡ uid) × Rose old.faults new.faults
IsWhyUnopened folder kept old new uid (stops.Keeper u) = (u ≡ uid) × Rose old.faults new.faults
IsWhyUnopened folder kept old new uid (stops.Account u fault) = (u ≡ uid) × IsBad fault × ((entries : Entries) → kept ≡ Some entries → IsFaultOf (entries folder uid) fault)
IsWhyUnopened folder kept old new uid stops.Memory = ⊤
IsWhyUnopened folder kept old new uid _ = ⊥

-- one of the accounts with these uids isn't opened, or no memory was found for all of them
abbrev pub RefusesOne : List ℕ → Option Entries → Counts → Counts → List ℕ → Stop → Type 0
RefusesOne folder kept old new uids stop = (stop ≡ stops.Memory) ⊎ Any (λ uid. IsWhyUnopened folder kept old new uid stop) uids

-- no links, ends and rests were counted
pub record CountsFaults (old new : Counts) : Type 0 where
  pub faults : old.faults ≤ new.faults
  pub links : new.links ≡ old.links
  pub ends : new.ends ≡ old.ends
  pub rests : new.rests ≡ old.rests

-- where the entries are told afterwards they were told before, and each is as it was
abbrev pub AreAsBefore : Option Entries → Option Entries → Type 0
AreAsBefore old new = (after : Entries) → new ≡ Some after → (before : Entries) × (old ≡ Some before) × ((folder : List ℕ) (uid : ℕ) → after folder uid ≡ before folder uid)
