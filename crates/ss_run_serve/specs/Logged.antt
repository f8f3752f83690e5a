-- The journals of one account of a server, term by term.
use Rattle.std.specs.Prelude.{ℕ, List, Contains}
use Rattle.std.specs.List.{AllZip}
use Rattle.ss_laws.specs.Journal.{Journal}
use Rattle.ss_site.specs.Sites.{Term}

module _ {R : Type 0} where
  -- each term tells the journal beside it as that of the account with this uid
  abbrev pub AreJournalsOf : ℕ → List (Term R) → List Journal → Type 0
  AreJournalsOf uid terms journals = AllZip (λ term journal. Contains term.journals (uid, journal)) terms journals
