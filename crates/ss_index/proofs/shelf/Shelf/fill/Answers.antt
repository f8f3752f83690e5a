use Rattle.std.proofs.Common.{arith}
use Rattle.ss_index.specs.Shelved.{rows_in}
use Rattle.ss_index.proofs.Filling.{fill_begun, fill_more, fill_number, next_last}
use Rattle.ss_index.proofs.shelf.Shelf.fill.Goals as goal

pub loop-row-init : goal.loop-row-init
loop-row-init c =
    let e = c.into_iter-row-iterator.ensures.into_iter_gives in
    fill_begun c.into_iter-row-iterator.result.rest.items (rows_in c.args.self.now) c.requires.empty (rw e.0 c.requires.times)

pub enter-requires : goal.enter-requires
enter-requires c =
    let e = c.into_iter-row-iterator.ensures.into_iter_gives in
    let f = rw c.in-Some.ensures.steps.0 at c.loop-row.invariant in
    let bound = rw (← e.0) at c.requires.number in
    omega (arith, fill_number f, bound)

pub put_row-requires-clause-last : goal.put_row-requires-clause-last
put_row-requires-clause-last c =
    let f = rw c.in-Some.ensures.steps.0 at c.loop-row.invariant in
    rw c.enter.ensures.rows (next_last f)

pub put_row-requires-clause-len : goal.put_row-requires-clause-len
put_row-requires-clause-len c =
    let e = c.into_iter-row-iterator.ensures.into_iter_gives in
    let f = rw c.in-Some.ensures.steps.0 at c.loop-row.invariant in
    let bound = rw (← e.0) at c.requires.number in
    rw c.enter.ensures.rows (omega (arith, fill_number f, bound))

pub loop-row-preserved : goal.loop-row-preserved
loop-row-preserved c =
    let e = c.into_iter-row-iterator.ensures.into_iter_gives in
    let f = rw c.in-Some.ensures.steps.0 at c.loop-row.invariant in
    fill_more f (rows_in c.put_row.new.self) (rw e.0 c.requires.places) (rw c.enter.ensures.rows at c.put_row.ensures.rows)
