-- What a keeper over SQLite counts.
use Rattle.std.specs.Prelude.{ℕ}
use Rattle.ss_keeper.specs.declared.calls.KeeperCalls.{KeeperCalls}

-- its refused statements, and its calls
pub record Counts : Type 0 where
  pub faults : ℕ
  pub calls : KeeperCalls
