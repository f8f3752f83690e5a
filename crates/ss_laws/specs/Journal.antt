-- What contracts see of a journal.
use Rattle.std.specs.Prelude.{ℕ, List}
use Rattle.ss_bso.specs.declared.account.Plain.{Plain}
use Rattle.ss_laws.specs.declared.journal.Entry.{Entry}

-- a journal: an opening account, the most entries that it may have, and its entries, oldest first
pub record Journal : Type 0 where
  pub opening : Plain
  pub most : ℕ
  pub entries : List Entry
