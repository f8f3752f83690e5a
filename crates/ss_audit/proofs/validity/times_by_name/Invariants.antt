use Rattle.std.proofs.Common.{◌≡◌, ℕ, List, bytes_eq, take}
use Rattle.std.specs.HashMap.{get}
use Rattle.ss_bso.specs.Account.{time_of}
use Rattle.ss_bso.specs.Lists.{Pairs}
use Rattle.ss_audit.specs.Validity.{NamedApart}
use Rattle.ss_audit.proofs.validity.times_by_name.Given as goal

abbrev pub invariant-loop-entry : goal.invariant-loop-entry
invariant-loop-entry l = record {
  times : (name : List ℕ) → get bytes_eq l.times name ≡ time_of name (take l.entry-index l.collections);
  apart : Pairs NamedApart (take l.entry-index l.collections);
}
