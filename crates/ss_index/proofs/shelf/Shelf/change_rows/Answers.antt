use Rattle.std.specs.Prelude.{fold}
use Rattle.ss_bso.specs.Changes.{row_changed}
use Rattle.ss_index.specs.Shelved.{rows_in}
use Rattle.ss_text.specs.Texts.{chain}
use Rattle.ss_index.specs.Ready.{change_of, changes_of}
use Rattle.ss_index.proofs.Changing.{fold-reordered, can_rest}
use Rattle.ss_bso.proofs.Reordering.{reordered-refl}
use Rattle.ss_index.proofs.shelf.Shelf.change_rows.Goals as goal

pub loop-change-init : goal.loop-change-init
loop-change-init c =
    let e = c.into_iter-change-iterator.ensures.into_iter_gives in
    record {
      keys = rw e.0 c.requires.keys;
      can = rw e.0 c.requires.can;
      rows = reordered-refl (fold row_changed (rows_in c.args.self.now) (changes_of c.into_iter-change-iterator.result.rest.items));
    }

pub loop-change-preserved : goal.loop-change-preserved
loop-change-preserved c =
    let before = c.loop-change.invariant in
    let next = changes_of c.next.new.self.rest.items in
    let change = change_of c.in-Some.change in
    record {
      keys = (rw c.in-Some.ensures.steps.0 at before.keys).1;
      can = can_rest c.change_row.new.self change next (rw c.in-Some.ensures.steps.0 at before.can) c.change_row.ensures.rows c.change_row.ensures.room;
      rows = chain (fold-reordered next c.change_row.ensures.rows) (rw c.in-Some.ensures.steps.0 at before.rows);
    }
