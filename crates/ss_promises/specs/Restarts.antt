-- An account that was given up to its keeper and opened again from what this tells (this project).
use Rattle.std.specs.Prelude.{◌≡◌, ℕ, ◌≤◌, filter}
use Rattle.ss_text.specs.Texts.{IsReordering}
use Rattle.ss_bso.specs.declared.account.Plain.{Plain}
use Rattle.ss_bso.specs.Account.{is_alive, is_open, tick}
use Rattle.ss_bso.specs.Validity.{SameAccount}
use Rattle.ss_query.specs.declared.requests.Request.{Request}
use Rattle.ss_query.specs.Api.{api}
use Rattle.ss_laws.specs.Laws.{SameOutcome}

-- The account that was opened again goes on as the one before: it has the same collections, times and counter, whatever their order,
-- its moment isn't later, and at each moment from the old one's on the same rows and batches are alive. So at each reading of the clock
-- from that moment on both are the same account, and a request is answered alike.
pub record GoesOn (account again : Plain) : Type 0 where
  pub collections : IsReordering account.collections again.collections
  pub store : account.store ≡ again.store
  pub last_delete : account.last_delete ≡ again.last_delete
  pub counter : account.counter ≡ again.counter
  pub moment : again.moment ≤ account.moment
  pub rows : (moment : ℕ) → account.moment ≤ moment → IsReordering (filter (is_alive moment) account.rows) (filter (is_alive moment) again.rows)
  pub batches : (moment : ℕ) → account.moment ≤ moment → IsReordering (filter (is_open moment) account.batches) (filter (is_open moment) again.batches)
  pub ticks : (now : ℕ) → account.moment ≤ now → SameAccount (tick account now) (tick again now)
  pub answers : (now : ℕ) (request : Request) → account.moment ≤ now → SameOutcome (api account now request) (api again now request)
