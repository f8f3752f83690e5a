-- The steps of an account with its keeper, whatever the order of the account's lists; as every account it is valid then.
use Rattle.std.specs.Prelude.{◌≡◌, ℕ, true, false}
use Rattle.ss_bso.specs.Account.{tick}
use Rattle.ss_bso.specs.Changes.{account_at_opening}
use Rattle.ss_bso.specs.Validity.{IsValid, SameAccount}
use Rattle.ss_query.specs.declared.requests.Request.{Request}
use Rattle.ss_query.specs.Api.{api}
use Rattle.ss_account.specs.Keeping.{IsWhole, is_for_keeper}
use Rattle.ss_serving.specs.Bookmarks.{Server}

-- a request is answered by the API, and where the keeper is asked, it tells the account then
pub record Answers (before : Server) (now : ℕ) (request : Request) (after : Server) : Type 0 where
  pub account : SameAccount (api before.account now request).account after.account
  pub valid : IsValid after.account
  pub kept : is_for_keeper (tick before.account now) request ≡ true → IsWhole after.kept after.account
  pub left : is_for_keeper (tick before.account now) request ≡ false → after.kept ≡ before.kept

-- the clock is read
pub record Ticks (before : Server) (now : ℕ) (after : Server) : Type 0 where
  pub account : SameAccount (tick before.account now) after.account
  pub valid : IsValid after.account
  pub left : after.kept ≡ before.kept

-- the account is opened anew with what its keeper tells
pub record Reopens (before after : Server) : Type 0 where
  pub account : SameAccount (account_at_opening before.kept) after.account
  pub valid : IsValid after.account
  pub left : after.kept ≡ before.kept
