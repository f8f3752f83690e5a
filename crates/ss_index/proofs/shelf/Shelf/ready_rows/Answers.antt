use Rattle.std.proofs.Common.{◌∙◌}
use Rattle.ss_index.specs.Ready.{HasKey}
use Rattle.ss_bso.proofs.Lists.{Each-append}
use Rattle.ss_index.proofs.Changing.{ready_more, room_more, room_all}
use Rattle.ss_index.proofs.shelf.Shelf.ready_rows.Goals as goal

pub loop-change-preserved : goal.loop-change-preserved
loop-change-preserved c =
    let before = c.loop-change.invariant in
    record {
      rows = c.ready_row.ensures.rows ∙ before.rows;
      changes = rw c.in_ok-push.ensures.items (ready_more c.args.changes.now c.loop-change.change-index c.loop-change.ready.items c.in_ok-ready_row.field-0 c.change-item.result c.loop-change-test.true c.change-item.is before.changes c.in_ok-ready_row.ensures.change);
      keys = rw c.in_ok-push.ensures.items (Each-append HasKey c.loop-change.ready.items _ before.keys (c.in_ok-ready_row.ensures.key, tt));
      room = room_more c.args.changes.now c.loop-change.change-index _ c.change-item.result c.loop-change.self c.ready_row.new.self c.loop-change-test.true c.change-item.is before.room c.in_ok-ready_row.ensures.room c.ready_row.ensures.others;
    }

pub returns-clause-room : goal.returns-clause-room
returns-clause-room c = room_all c.args.changes.now c.loop-change.change-index c.loop-change.self c.loop-change-test.false c.loop-change.invariant.room
