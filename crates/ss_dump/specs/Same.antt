-- What is kept the same, whatever its order.
use Rattle.std.specs.Prelude.{◌≡◌}
use Rattle.ss_text.specs.Texts.{IsReordering}
use Rattle.ss_bso.specs.declared.changes.Kept.{Kept}

-- the same is kept of an account, whatever the order of its rows, collections and batches
pub record SameKept (kept other : Kept) : Type 0 where
  pub rows : IsReordering kept.rows other.rows
  pub collections : IsReordering kept.collections other.collections
  pub batches : IsReordering kept.batches other.batches
  pub store : kept.store ≡ other.store
  pub last_delete : kept.last_delete ≡ other.last_delete
  pub counter : kept.counter ≡ other.counter
