-- What a keeper tells of an account, and when a step asks it.
use Rattle.std.specs.Prelude.{◌≡◌, ◌≢◌, ℕ, ◌+◌, ◌≤◌, Bool, true, false, not, ◌&&◌, ◌||◌, ◌==◌, List, length, filter}
use Rattle.std.specs.Prelude.{Option, IfSome, is_none, All}
use Rattle.std.specs.List.{list_any}
use Rattle.ss_text.specs.Texts.{IsReordering}
use Rattle.ss_bso.specs.declared.account.Plain.{Plain}
use Rattle.ss_bso.specs.declared.account.Staged.{Staged}
use Rattle.ss_bso.specs.declared.changes.Kept.{Kept}
use Rattle.ss_bso.specs.Account.{is_alive, is_open}
use Rattle.ss_bso.specs.Changes.{kept_of, account_at_opening}
use Rattle.ss_bso.specs.Limits.{most_live_batches}
use Rattle.ss_bso.specs.Validity.{IsValid, SameAccount}
use Rattle.ss_keeper.specs.declared.calls.KeeperCalls.{KeeperCalls}
use Rattle.ss_keeper.specs.Calls.{with_commit}
use Rattle.ss_query.specs.declared.requests.Request.{Request}
use Rattle.ss_query.specs.declared.replies.Mark.{Mark}
use Rattle.ss_query.specs.declared.replies.Mark.TheVariants.{Keeper, Memory}
use Rattle.ss_query.specs.Effect.{is_write}
use Rattle.ss_query.specs.Api.{refusal}
use Rattle.ss_laws.specs.Laws.{is_of_batch}
use Rattle.ss_account.specs.Opening.{IsGood}

-- an account's collections, times and counter are the kept ones, and so are its rows and its batches at each moment from its
-- own on: what has ended by then may still be kept
pub record IsKeptAccount (kept : Kept) (account : Plain) : Type 0 where
  pub rows : (moment : ℕ) → account.moment ≤ moment → IsReordering (filter (is_alive moment) account.rows) (filter (is_alive moment) kept.rows)
  pub batches : (moment : ℕ) → account.moment ≤ moment → IsReordering (filter (is_open moment) account.batches) (filter (is_open moment) kept.batches)
  pub collections : IsReordering account.collections kept.collections
  pub store : account.store ≡ kept.store
  pub last_delete : account.last_delete ≡ kept.last_delete
  pub counter : account.counter ≡ kept.counter

-- kept rows: where a keeper tells what it holds, it holds the account
abbrev pub IsKeptBy : Option Kept → Plain → Type 0
IsKeptBy told account = IfSome told (λ kept. IsKeptAccount kept account)

-- what is kept is the account and nothing else, whatever the order of rows, collections and batches
pub record IsWhole (kept : Kept) (account : Plain) : Type 0 where
  pub rows : IsReordering account.rows kept.rows
  pub collections : IsReordering account.collections kept.collections
  pub batches : IsReordering account.batches kept.batches
  pub store : account.store ≡ kept.store
  pub last_delete : account.last_delete ≡ kept.last_delete
  pub counter : account.counter ≡ kept.counter

-- where a keeper tells what it holds, it holds the account and nothing else
abbrev pub IsHeldBy : Option Kept → Plain → Type 0
IsHeldBy told account = IfSome told (λ kept. IsWhole kept account)

-- whether a batch's number is among those that ended
abbrev pub has_ended : List ℕ → Staged → Bool
has_ended ended batch = list_any (λ number. number == batch.number) ended

-- what is kept is the account beside rows and batches that have ended, and these batches are noted
pub record IsKeptBeside (ended : List ℕ) (kept : Kept) (account : Plain) : Type 0 where
  pub rows : (moment : ℕ) → account.moment ≤ moment → IsReordering (filter (is_alive moment) account.rows) (filter (is_alive moment) kept.rows)
  pub batches : IsReordering account.batches (filter (λ batch. not (has_ended ended batch)) kept.batches)
  pub over : All (λ batch. has_ended ended batch ≡ true → is_open account.moment batch ≡ false) kept.batches
  pub collections : IsReordering account.collections kept.collections
  pub store : account.store ≡ kept.store
  pub last_delete : account.last_delete ≡ kept.last_delete
  pub counter : account.counter ≡ kept.counter

abbrev pub IsKeptBesideBy : List ℕ → Option Kept → Plain → Type 0
IsKeptBesideBy ended told account = IfSome told (λ kept. IsKeptBeside ended kept account)

-- no row of an account has ended by its moment
abbrev pub IsSwept : Plain → Type 0
IsSwept account = filter (is_alive account.moment) account.rows ≡ account.rows

-- an account over what its keeper tells, with the numbers of the batches that ended since the keeper was asked: it is valid and
-- kept, it can be opened again from what is told, and there is room for the numbers of all its batches
pub record IsSound (told : Option Kept) (account : Plain) (ended : List ℕ) : Type 0 where
  pub valid : IsValid account
  pub kept : IsKeptBesideBy ended told account
  pub again : IfSome told IsGood
  pub few : length ended + length account.batches ≤ most_live_batches

-- an account that is opened: it is sound, it is what is told when the clock reads 0, whatever the order of the rows, and opened
-- once more it is the same
pub record IsOpenedAccount (told : Option Kept) (account : Plain) (ended : List ℕ) : Type 0 where
  pub sound : IsSound told account ended
  pub kept : IsKeptBy told account
  pub stands : IfSome told (λ kept. SameAccount (account_at_opening kept) account)
  pub begins : account ≡ account_at_opening (kept_of account)

-- whether a step asks the keeper: for a write, a begin, an append and a commit, where no rule refuses it
abbrev pub is_for_keeper : Plain → Request → Bool
is_for_keeper account request = (is_write account request || is_of_batch request) && is_none (refusal account request)

-- how often a keeper was called before and after a step: never for a request that isn't for it; else once, to make changes,
-- whether that was done or the keeper failed. Memory may be wanting before that call or in it, and 503 "keeper" comes for no
-- other request
pub record AsksOnce (account : Plain) (request : Request) (mark : Mark) (before now : KeeperCalls) : Type 0 where
  pub never : is_for_keeper account request ≡ false → now ≡ before
  pub once : is_for_keeper account request ≡ true → mark ≢ Memory → now ≡ with_commit before
  pub most : now ≢ before → now ≡ with_commit before
  pub failed : mark ≡ Keeper → is_for_keeper account request ≡ true
