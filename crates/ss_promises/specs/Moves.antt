-- Accounts that answer alike (this project).
use Rattle.std.specs.Prelude.{◌≡◌, ℕ, ◌≤◌, List, ◌∷◌, IfSome}
use Rattle.std.specs.List.{AllByRecursion}
use Rattle.ss_bso.specs.declared.account.Plain.{Plain}
use Rattle.ss_bso.specs.Validity.{SameAccount}
use Rattle.ss_query.specs.Fit.{IsFitRequest}
use Rattle.ss_query.specs.Flat.{Ask, after_all, turns}

-- each request of a list of readings and requests is such as routing may give
abbrev pub AreFit : List Ask → Type 0
AreFit asks = AllByRecursion (λ (ask : Ask). IfSome ask.request IsFitRequest) asks

-- two accounts have equal replies to each such list, and are the same then, whatever the order of their lists
pub record AnswerAlike (account other : Plain) : Type 0 where
  pub replies : (asks : List Ask) → AreFit asks → turns account asks ≡ turns other asks
  pub accounts : (asks : List Ask) → AreFit asks → SameAccount (after_all account asks) (after_all other asks)

-- the same of lists whose first reading isn't before a moment
pub record AnswerAlikeFrom (moment : ℕ) (account other : Plain) : Type 0 where
  pub replies : (ask : Ask) (asks : List Ask) → moment ≤ ask.now → AreFit (ask ∷ asks) → turns account (ask ∷ asks) ≡ turns other (ask ∷ asks)
  pub accounts : (ask : Ask) (asks : List Ask) → moment ≤ ask.now → AreFit (ask ∷ asks)
      → SameAccount (after_all account (ask ∷ asks)) (after_all other (ask ∷ asks))
