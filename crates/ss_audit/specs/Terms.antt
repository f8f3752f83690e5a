-- The journals of an account's terms, as the contracts of the calls that make them give them.
use Rattle.std.specs.Prelude.{◌≤◌, List, length, All}
use Rattle.std.specs.List.{AllAdjacentBelow}
use Rattle.ss_bso.specs.Validity.{SameAccount}
use Rattle.ss_laws.specs.Journal.{Journal}
use Rattle.ss_laws.specs.Journals.{account_after}
use Rattle.ss_booked.specs.Sizes.{most_entries}
use Rattle.ss_booked.specs.Turns.{IsMadeByCalls}

-- the journal of a term: calls made it, and it had room for no more entries than a journal may have
pub record IsOfTerm (journal : Journal) : Type 0 where
  pub made : IsMadeByCalls journal
  pub room : journal.most ≤ most_entries

-- the journals of an account's terms, one after the other: each after the first opens with the account that the one before leaves,
-- whatever the order of its rows, collections and batches
pub record AreOfTerms (journals : List Journal) : Type 0 where
  pub each : All IsOfTerm journals
  pub go_on : AllAdjacentBelow (λ journal next. SameAccount (account_after journal.opening journal.entries) next.opening) journals (length journals)
