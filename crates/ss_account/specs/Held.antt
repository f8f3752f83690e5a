-- What contracts see of an account over a keeper.
use Rattle.ss_bso.specs.declared.account.Plain.{Plain}

-- an account, and what holds it beyond its process
pub record AccountWithKeeper (K : Type 0) : Type 0 where
  pub plain : Plain
  pub keeper : K
