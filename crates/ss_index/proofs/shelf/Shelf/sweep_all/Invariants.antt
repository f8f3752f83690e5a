use Rattle.std.specs.Prelude.{◌≡◌, ◌≤◌, ℕ, List, filter, length}
use Rattle.ss_bso.specs.Account.{is_alive}
use Rattle.ss_index.specs.Shelved.{rows_in}
use Rattle.ss_index.specs.Sweep.{AliveTo, HoldsTo, Outlives}
use Rattle.ss_index.specs.Ready.{spare_of}
use Rattle.ss_index.proofs.shelf.Shelf.sweep_all.Given as goal

abbrev pub invariant-loop-i : goal.invariant-loop-i
invariant-loop-i l = record {
  rows : filter (is_alive l.moment) (rows_in l.self) ≡ filter (is_alive l.moment) (rows_in l.initial.self);
  alive : AliveTo l.moment l.i l.self;
  ends : HoldsTo (Outlives l.least) l.i l.self;
  number : length l.self ≡ length l.initial.self;
  room : (name : List ℕ) → spare_of name l.initial.self ≤ spare_of name l.self;
}
