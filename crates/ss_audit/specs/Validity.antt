-- The parts of an account's validity, each by cases on its list, for private clauses.
use Rattle.std.specs.Prelude.{◌≢◌, ◌≤◌, ℕ, Bool, ◌&&◌, List, bytes_eq, length, IsFalse, IsSomeAnd}
use Rattle.std.specs.List.{list_any}
use Rattle.ss_text.specs.Time.{last_stamp}
use Rattle.ss_bso.specs.declared.rows.Row.{Row}
use Rattle.ss_bso.specs.declared.account.Plain.{Plain}
use Rattle.ss_bso.specs.declared.account.Staged.{Staged}
use Rattle.ss_bso.specs.Account.{time_of}
use Rattle.ss_bso.specs.Limits.{most_live_batches}
use Rattle.ss_bso.specs.Lists.{Each, Pairs}
use Rattle.ss_bso.specs.Validity.{IsValidBatch, IsWithinLimits}
use Rattle.ss_audit.specs.declared.validity.Place.{Place}

-- whether a collection and id are among places
abbrev pub is_placed : List Place → List ℕ → List ℕ → Bool
is_placed places collection id = list_any (λ (place : Place). bytes_eq collection place.collection.now && bytes_eq id place.id.now) places

-- two collections have different names
abbrev pub NamedApart : List ℕ × ℕ → List ℕ × ℕ → Type 0
NamedApart entry other = IsFalse (bytes_eq other.0 entry.0)

-- two batches have different numbers
abbrev pub NumberedApart : Staged → Staged → Type 0
NumberedApart batch other = batch.number ≢ other.number

-- a row's collection is there, and isn't older than the row
abbrev pub IsItem : List (List ℕ × ℕ) → Row → Type 0
IsItem collections row = IsSomeAnd (time_of row.collection collections) (λ time. row.modified ≤ time)

-- collection time ≤ store ≤ moment ≤ the last time
pub record HasValidTimes (account : Plain) : Type 0 where
  pub times : Each (λ (entry : List ℕ × ℕ). entry.1 ≤ account.store) account.collections
  pub store : account.store ≤ account.moment
  pub moment : account.moment ≤ last_stamp

-- few batches, no two of one number, each valid
pub record HasValidBatches (account : Plain) : Type 0 where
  pub few : length account.batches ≤ most_live_batches
  pub numbers : Pairs NumberedApart account.batches
  pub batches : Each (IsValidBatch account) account.batches

-- all of its validity but that its rows and collections are apart, and that each row's collection is there
pub record HasValidParts (account : Plain) : Type 0 where
  pub times : HasValidTimes account
  pub limits : IsWithinLimits account
  pub batches : HasValidBatches account
