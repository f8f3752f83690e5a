use Rattle.std.proofs.Common.{◌++◌}
use Rattle.ss_bso.specs.Write.{rows_without}
use Rattle.ss_index.specs.Shelved.{rows_in}
use Rattle.ss_writes.proofs.Replacing.{gone-bytes, gone-rows, size-replaced}
use Rattle.ss_writes.proofs.sizes.would_be_full.Goals as goal

pub overflow_sub-len : goal.overflow_sub-len
overflow_sub-len c =
    gone-rows c.args.collection.now c.args.targets.now (rows_in c.args.shelf.now) c.named-gone.result c.len.result c.requires.places c.requires.targets c.named-gone.ensures c.len.ensures

pub overflow_sub-total : goal.overflow_sub-total
overflow_sub-total c =
    gone-bytes c.args.collection.now c.args.targets.now (rows_in c.args.shelf.now) c.named-gone.result c.total.result c.requires.places c.requires.targets c.requires.bytes c.named-gone.ensures c.total.ensures

pub returns : goal.returns
returns c =
    let rows = rows_in c.args.shelf.now in
    c.is_full.ensures (rows_without c.args.collection.now c.args.targets.now rows ++ c.args.made.now)
    (size-replaced c.args.collection.now c.args.targets.now rows c.args.made.now c.named-gone.result c.of-added.result (record { rows = c.saturating_add-rows.result; bytes = c.saturating_add-bytes.result }) c.len.result c.total.result
    c.requires.places c.requires.targets c.requires.bytes c.requires.number c.named-gone.ensures c.of-added.ensures c.len.ensures c.total.ensures c.saturating_add-rows.ensures c.saturating_add-bytes.ensures)
