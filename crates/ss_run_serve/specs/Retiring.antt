-- What becomes of a site's entries and counts once the keepers of accounts came back.
use Rattle.std.specs.Prelude.{◌≡◌, ◌≢◌, ◌≤◌, ◌⊎◌, ℕ, List, map, Option, Some, All, Any, Contains}
use Rattle.ss_outside.specs.Causes.{Rose}
use Rattle.ss_site.specs.Sites.{Counts, Entries}
use Rattle.ss_run_serve.specs.Hosted.{HostedAccount}

-- the uids of accounts
abbrev pub uids_in : List (ℕ × HostedAccount) → List ℕ
uids_in accounts = map (λ account. account.0) accounts

-- the entry of each of these accounts is what a keeper with its uid told, and all others are as before
pub record ComeBack (folder : List ℕ) (accounts : List (ℕ × HostedAccount)) (before after : Entries) : Type 0 where
  pub listed : (uid : ℕ) → Contains (uids_in accounts) uid → Any (λ account. (account.0 ≡ uid) × (account.1.told ≡ Some (after folder uid))) accounts
  pub others : (f : List ℕ) (uid : ℕ) → ((f ≢ folder) ⊎ ¬ Contains (uids_in accounts) uid) → after f uid ≡ before f uid

-- the same, where the entries are told afterwards; then they were told before
abbrev pub HaveRetired : List ℕ → List (ℕ × HostedAccount) → Option Entries → Option Entries → Type 0
HaveRetired folder accounts old new = (after : Entries) → new ≡ Some after → (before : Entries) × (old ≡ Some before) × ComeBack folder accounts before after

-- the count of faults rises where one of these keepers has failed, and stays where none has; nothing else was counted
pub record CountsKeepers (accounts : List (ℕ × HostedAccount)) (old new : Counts) : Type 0 where
  pub some : Any (λ account. account.1.faults ≢ 0) accounts → Rose old.faults new.faults
  pub none : All (λ account. account.1.faults ≡ 0) accounts → new.faults ≡ old.faults
  pub later : old.faults ≤ new.faults
  pub refused : new.refused ≡ old.refused
  pub links : new.links ≡ old.links
  pub ends : new.ends ≡ old.ends
  pub rests : new.rests ≡ old.rests
