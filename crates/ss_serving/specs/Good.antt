-- What holds of every account that bookmarks are synced with.
use Rattle.std.specs.Prelude.{◌≡◌, ◌≢◌, ℕ, ◌<◌, ◌≤◌, true, length, bytes_eq, Some, None}
use Rattle.ss_route.specs.Sending.{IsUpload}
use Rattle.ss_bso.specs.declared.rows.Row.{Row}
use Rattle.ss_bso.specs.declared.account.Plain.{Plain}
use Rattle.ss_bso.specs.declared.account.Staged.{Staged}
use Rattle.ss_bso.specs.Batches.{batch_in}
use Rattle.ss_bso.specs.Changes.{account_at_opening}
use Rattle.ss_bso.specs.Limits.{most_rows_and_collections}
use Rattle.ss_bso.specs.Lists.{Each, Pairs, Apart}
use Rattle.ss_bso.specs.Validity.{IsValid}
use Rattle.ss_query.specs.Refused.{collection_time}
use Rattle.ss_serving.specs.Bookmarks.{bookmarks, sheets_of, Server}

-- a bookmark doesn't end
abbrev pub Lasts : Row → Type 0
Lasts row = bytes_eq row.collection bookmarks ≡ true → row.expires ≡ None

-- a batch of the bookmarks puts payloads and no more
abbrev pub PutsPayloads : Staged → Type 0
PutsPayloads batch = bytes_eq batch.collection bookmarks ≡ true → Each IsUpload batch.parts

-- two batches have different numbers
abbrev pub OtherNumber : Staged → Staged → Type 0
OtherNumber batch other = batch.number ≢ other.number

-- a batch's number was given out, and a later one than `first` puts payloads alone
pub record IsGoodBatch (first counter : ℕ) (batch : Staged) : Type 0 where
  pub counted : batch.number ≤ counter
  pub plain : first < batch.number → PutsPayloads batch

-- no two rows have one place, and they are few; no bookmark ends; the collection's time isn't above the store's; no two batches
-- have one number, each number was given out, and those of the bookmarks that began after `first` put payloads alone
pub record IsGood (first : ℕ) (account : Plain) : Type 0 where
  pub places : Pairs Apart account.rows
  pub number : length account.rows ≤ most_rows_and_collections
  pub lasting : Each Lasts account.rows
  pub below : collection_time account bookmarks ≤ account.store
  pub since : first ≤ account.counter
  pub numbers : Pairs OtherNumber account.batches
  pub batches : Each (IsGoodBatch first account.counter) account.batches

-- An account with its keeper: it is valid and good; the one that would be opened from what the keeper tells is good too, and has
-- the same bookmarks and times; no two batches that are told have one number, and each batch that is there is told.
pub record IsSteady (first : ℕ) (server : Server) : Type 0 where
  pub valid : IsValid server.account
  pub good : IsGood first server.account
  pub opens : IsGood first (account_at_opening server.kept)
  pub rows : sheets_of (account_at_opening server.kept).rows ≡ sheets_of server.account.rows
  pub time : collection_time (account_at_opening server.kept) bookmarks ≡ collection_time server.account bookmarks
  pub store : server.kept.store ≡ server.account.store
  pub counter : server.kept.counter ≡ server.account.counter
  pub numbers : Pairs OtherNumber server.kept.batches
  pub batches : Each (IsGoodBatch first server.kept.counter) server.kept.batches
  pub live : (n : ℕ) (batch : Staged) → batch_in bookmarks n server.account.batches ≡ Some batch → batch_in bookmarks n server.kept.batches ≡ Some batch
