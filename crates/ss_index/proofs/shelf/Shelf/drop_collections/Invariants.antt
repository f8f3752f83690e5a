use Rattle.std.proofs.Common.{◌≡◌, ◌≤◌, ℕ, List, take}
use Rattle.ss_index.specs.Shelved.{rows_in}
use Rattle.ss_index.specs.Ready.{rows_left, spare_of}
use Rattle.ss_index.proofs.shelf.Shelf.drop_collections.Given as goal

abbrev pub invariant-loop-name : goal.invariant-loop-name
invariant-loop-name l = record {
  rows : rows_in l.self ≡ rows_left (take l.name-index l.names) (rows_in l.initial.self);
  room : (other : List ℕ) → spare_of other l.initial.self ≤ spare_of other l.self;
}
