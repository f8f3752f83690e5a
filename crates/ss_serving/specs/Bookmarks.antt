-- What an account shows of its bookmarks: the rows as a client reads them, the times that conditions are compared with, and the
-- batches that are kept of them.
use Rattle.std.specs.Prelude.{ℕ, List, map, Option, option_map, codes}
use Rattle.ss_text.specs.Texts.{sorted}
use Rattle.ss_record.specs.declared.readings.Sheet.{Sheet}
use Rattle.ss_bso.specs.declared.rows.Row.{Row}
use Rattle.ss_bso.specs.declared.parts.Part.{Part}
use Rattle.ss_bso.specs.declared.account.Plain.{Plain}
use Rattle.ss_bso.specs.declared.account.Staged.{Staged}
use Rattle.ss_bso.specs.declared.changes.Kept.{Kept}
use Rattle.ss_bso.specs.Batches.{batch_in}
use Rattle.ss_bso.specs.Limits.{rows_of}
use Rattle.ss_query.specs.declared.requests.Sort.TheVariants.{Oldest}
use Rattle.ss_query.specs.Answer.{comes_before}
use Rattle.ss_query.specs.Refused.{collection_time}

-- the collection of the bookmarks
abbrev pub bookmarks : List ℕ
bookmarks = codes "bookmarks"

-- a row as a sync client sees it
abbrev pub sheet_of : Row → Sheet
sheet_of row = record { id = row.id; modified = row.modified; payload = row.payload }

-- the rows of the bookmarks in the order of pages: the oldest first, of one time by id
abbrev pub sheets_of : List Row → List Sheet
sheets_of rows = map sheet_of (sorted (comes_before Oldest) (rows_of bookmarks rows))

-- the parts of the batch of the bookmarks that has this number
abbrev pub staged_in : List Staged → ℕ → Option (List Part)
staged_in batches number = option_map (λ batch. batch.parts) (batch_in bookmarks number batches)

-- what is seen of an account: the rows; the store's time; the collection's time, or the last deletion's where it is absent; the
-- number of the last batch that began; and the parts of the batch of a number
pub record ShownAccount : Type 0 where
  pub rows : List Sheet
  pub store : ℕ
  pub target : ℕ
  pub counter : ℕ
  pub staged : ℕ → Option (List Part)

-- an account by itself
abbrev pub shown_account : Plain → ShownAccount
shown_account account = record {
  rows = sheets_of account.rows;
  store = account.store;
  target = collection_time account bookmarks;
  counter = account.counter;
  staged = staged_in account.batches;
}

-- an account, and what its keeper tells
pub record Server : Type 0 where
  pub account : Plain
  pub kept : Kept

-- an account with its keeper: its batches are those that the keeper tells, also where they have ended, since they may be there
-- again once the account is opened anew
abbrev pub shown_by : Server → ShownAccount
shown_by server = record {
  rows = sheets_of server.account.rows;
  store = server.account.store;
  target = collection_time server.account bookmarks;
  counter = server.account.counter;
  staged = staged_in server.kept.batches;
}
