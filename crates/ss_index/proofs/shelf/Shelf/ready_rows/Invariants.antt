use Rattle.std.proofs.Common.{◌≡◌, ◌<◌, ◌≤◌, ℕ, List, take}
use Rattle.ss_bso.specs.Lists.{Each}
use Rattle.ss_index.specs.Shelved.{rows_in}
use Rattle.ss_index.specs.Ready.{changes_of, puts_in, spare_of, HasKey}
use Rattle.ss_index.proofs.shelf.Shelf.ready_rows.Given as goal

abbrev pub invariant-loop-change : goal.invariant-loop-change
invariant-loop-change l = record {
  rows : rows_in l.self ≡ rows_in l.initial.self;
  changes : changes_of l.ready.items ≡ take l.change-index l.changes;
  keys : Each HasKey l.ready.items;
  room : (name : List ℕ) → 0 < puts_in name (take l.change-index l.changes) → l.n ≤ spare_of name l.self;
}
