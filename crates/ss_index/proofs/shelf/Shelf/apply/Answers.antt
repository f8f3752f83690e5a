use Rattle.std.proofs.Common.{arith, filter}
use Rattle.ss_bso.specs.Account.{is_alive}
use Rattle.ss_index.specs.Shelved.{rows_in}
use Rattle.ss_index.proofs.Dropping.{left_number, applied_is}
use Rattle.ss_index.proofs.shelf.Shelf.apply.Goals as goal
use Rattle.ss_text.proofs.Basics.{length-filter_le}

pub change_rows-requires-clause-can : goal.change_rows-requires-clause-can
change_rows-requires-clause-can c =
    let can = c.requires in
    let names = c.args.ready.dropped.items in
    let old = rows_in c.args.self.now in
    let alive = filter (is_alive c.args.ready.moment) old in
    let left = rw (c.as_slice.ensures.value, c.sweep.ensures.rows) at c.drop_collections.ensures.rows in
    record {
      room = λ collection. omega (arith, can.room collection, c.sweep.ensures.room collection, c.drop_collections.ensures.room collection);
      times = rw left can.times;
      number = rw left (omega (arith, can.number, left_number names alive, length-filter_le (is_alive c.args.ready.moment) old));
    }

pub returns-clause-applied : goal.returns-clause-applied
returns-clause-applied c =
    let left = rw (c.as_slice.ensures.value, c.sweep.ensures.rows) at c.drop_collections.ensures.rows in
    rw c.tidy_dropped.ensures.rows (rw left at c.change_rows.ensures)

pub returns-clause-changed : goal.returns-clause-changed
returns-clause-changed c = λ kept changes is same.
    let left = rw (c.as_slice.ensures.value, c.sweep.ensures.rows) at c.drop_collections.ensures.rows in
    rw (← applied_is c.args.ready changes kept c.args.self.now is same, c.tidy_dropped.ensures.rows) (rw left at c.change_rows.ensures)
