-- Keepers in memory.
use Rattle.std.specs.Prelude.{List, Option, fold}
use Rattle.ss_outside.specs.Plans.{Plan}
use Rattle.ss_bso.specs.declared.changes.Kept.{Kept}
use Rattle.ss_bso.specs.declared.changes.Changes.{Changes}
use Rattle.ss_bso.specs.Changes.{kept_after_changes}
use Rattle.ss_keeper.specs.declared.calls.KeeperCalls.{KeeperCalls}

-- what a keeper in memory is: what it keeps, which it tells, which of its calls fail, and how often it was called
pub record Holding : Type 0 where
  pub kept : Kept
  pub plan : Option Plan
  pub calls : KeeperCalls

-- what is kept after the changes of commits, one after the other
abbrev pub after_commits : Kept → List Changes → Kept
after_commits kept commits = fold kept_after_changes kept commits
