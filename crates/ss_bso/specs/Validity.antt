-- When an account is valid, and when two accounts are the same.
use Rattle.std.specs.Prelude.{◌≡◌, ◌≢◌, ◌≤◌, length, bytes_eq, IsSomeAnd, IsFalse, All, AllPairs}
use Rattle.ss_text.specs.Texts.{IsReordering}
use Rattle.ss_text.specs.Time.{last_stamp}
use Rattle.ss_bso.specs.declared.account.Plain.{Plain}
use Rattle.ss_bso.specs.declared.account.Staged.{Staged}
use Rattle.ss_bso.specs.Account.{is_at, time_of}
use Rattle.ss_bso.specs.Limits.{most_batch_records, most_batch_bytes, most_live_batches, is_too_much, part_bytes}

-- an account's rows and collections are within the limits
pub record IsWithinLimits (account : Plain) : Type 0 where
  pub within : IsFalse (is_too_much account.rows (length account.collections))

-- a batch's number was given out, it began by now, and it is within the limits of a batch
pub record IsValidBatch (account : Plain) (batch : Staged) : Type 0 where
  pub given : 1 ≤ batch.number
  pub counted : batch.number ≤ account.counter
  pub begun : batch.begun ≤ account.moment
  pub records : length batch.parts ≤ most_batch_records
  pub bytes : part_bytes batch.parts ≤ most_batch_bytes

-- an account is valid: no two rows have one place, no two collections one name; the limits hold; each row's collection is there;
-- item time ≤ collection time ≤ store ≤ moment ≤ the last time; few batches, no two of one number, each valid
pub record IsValid (account : Plain) : Type 0 where
  pub places : AllPairs (λ row other. IsFalse (is_at row.collection row.id other)) account.rows
  pub names : AllPairs (λ entry other. IsFalse (bytes_eq other.0 entry.0)) account.collections
  pub limits : IsWithinLimits account
  pub items : All (λ row. IsSomeAnd (time_of row.collection account.collections) (λ time. row.modified ≤ time)) account.rows
  pub times : All (λ entry. entry.1 ≤ account.store) account.collections
  pub store : account.store ≤ account.moment
  pub moment : account.moment ≤ last_stamp
  pub few : length account.batches ≤ most_live_batches
  pub numbers : AllPairs (λ batch other. batch.number ≢ other.number) account.batches
  pub batches : All (IsValidBatch account) account.batches

-- the same account, whatever the order of its rows, collections and batches
pub record SameAccount (account other : Plain) : Type 0 where
  pub rows : IsReordering account.rows other.rows
  pub collections : IsReordering account.collections other.collections
  pub batches : IsReordering account.batches other.batches
  pub store : account.store ≡ other.store
  pub last_delete : account.last_delete ≡ other.last_delete
  pub moment : account.moment ≡ other.moment
  pub counter : account.counter ≡ other.counter
