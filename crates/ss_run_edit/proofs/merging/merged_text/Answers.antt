use Rattle.std.proofs.Common.{List, subst, ◌∙◌}
use Rattle.std.proofs.lemmas.Result.{IfOk-weaker}
use Rattle.ss_record.specs.declared.readings.Sheet.{Sheet}
use Rattle.ss_tree.specs.Entries.{tree}
use Rattle.ss_tree.specs.Trees.{IsSame}
use Rattle.ss_build.specs.Rows.{rows_of}
use Rattle.ss_build.specs.Built.{built}
use Rattle.ss_device.specs.Device.{row_ids}
use Rattle.ss_device.proofs.Known.{by_id_apart}
use Rattle.ss_run_edit.proofs.Told.{merged_of}
use Rattle.ss_run_edit.proofs.merging.merged_text.Goals as goal

pub build-requires-2 : goal.build-requires-2
build-requires-2 c = record { distinct = by_id_apart (row_ids c.args.rows.now) c.requires }

pub returns : goal.returns
returns c =
    IfOk-weaker c.telling.result _ _
    (λ out h. merged_of c.args.device.now c.args.rows.now _ c.deref.result.now out.items c.tree.ensures.tree
    (subst (λ (rows : List Sheet). IsSame (tree c.in_ok-mirror.mirror.tree) (built (rows_of rows))) c.mirror.ensures.rows c.in_ok-mirror.ensures.tree)
    c.in_ok-remote.ensures.tree c.in_ok-dead.ensures c.in_ok-remote.ensures.dead (c.deref.ensures.value ∙ c.in_ok-remote.ensures.readings) h)
    c.telling.ensures
