use Rattle.std.proofs.Common.{List, ap, sym, subst, ◌∙◌}
use Rattle.ss_record.specs.declared.readings.Sheet.{Sheet}
use Rattle.ss_tree.specs.Entries.{tree}
use Rattle.ss_tree.specs.Trees.{IsSame}
use Rattle.ss_device.specs.Device.{AreById, Dead, dead_ids, row_ids}
use Rattle.ss_device_file.specs.declared.lines.ItemLine.{ItemLine}
use Rattle.ss_device_file.specs.Files.{stamp_in}
use Rattle.ss_device_file.specs.Lines.{version_in}
use Rattle.ss_device_file.specs.Places.{AreItemLines, IsWhole, tree_of}
use Rattle.ss_device_file.proofs.Joined.{items_formed, roots_same, told_by, untold_by, whole_roots}
use Rattle.ss_device_file.proofs.Ordered.{deaths_by_id, rows_by_id}
use Rattle.ss_device_file.proofs.devices.device_of.Goals as goal

pub plant-requires-clause-form : goal.plant-requires-clause-form
plant-requires-clause-form c = subst AreItemLines (sym (c.deref-4.ensures.value ∙ c.in_ok-rows.ensures.items)) (items_formed c.args.lines.items c.requires.lines)

pub put_together-requires-clause-rows : goal.put_together-requires-clause-rows
put_together-requires-clause-rows c = subst (λ (rs : List Sheet). AreById (row_ids rs)) (sym c.in_ok-rows.ensures.rows) (rows_by_id c.args.lines.items c.requires.lines)

pub put_together-requires-clause-deaths : goal.put_together-requires-clause-deaths
put_together-requires-clause-deaths c = subst (λ (d : Dead). AreById (dead_ids d)) (sym c.in_ok-rows.ensures.deaths) (deaths_by_id c.args.lines.items c.requires.lines)

pub put_together-requires-clause-tree : goal.put_together-requires-clause-tree
put_together-requires-clause-tree c =
    roots_same (tree c.in_ok-tree.tree) (tree_of c.deref-4.result.now) c.in_ok-tree.ensures
    (whole_roots c.deref-4.result.now (subst IsWhole (c.deref-3.ensures.value ∙ sym c.deref-4.ensures.value) c.in_ok-check_places.ensures.whole)
    (subst AreItemLines (sym (c.deref-4.ensures.value ∙ c.in_ok-rows.ensures.items)) (items_formed c.args.lines.items c.requires.lines)))

pub returns-clause-told : goal.returns-clause-told
returns-clause-told c =
    told_by c.put_together.result c.args.lines.items c.version_in-version.result c.in_ok-rows.field-0.rows.items c.in_ok-rows.field-0.deaths.items c.stamp_in-stamp.result c.in_ok-tree.tree
    (record {
      version = c.version_in-version.ensures ∙ ap version_in c.deref.ensures.value;
      rows_are = c.in_ok-rows.ensures.rows;
      dead_are = c.in_ok-rows.ensures.deaths;
      time_is = c.stamp_in-stamp.ensures ∙ ap stamp_in c.deref-2.ensures.value;
    })
    (subst IsWhole (c.deref-3.ensures.value ∙ c.in_ok-rows.ensures.items) c.in_ok-check_places.ensures.whole)
    (subst (λ (is : List ItemLine). IsSame (tree c.in_ok-tree.tree) (tree_of is)) (c.deref-4.ensures.value ∙ c.in_ok-rows.ensures.items) c.in_ok-tree.ensures)
    c.put_together.ensures.joined
    c.put_together.ensures.found

pub returns-clause-unseated : goal.returns-clause-unseated
returns-clause-unseated c =
    untold_by c.put_together.result c.args.lines.items c.version_in-version.result c.in_ok-rows.field-0.rows.items c.in_ok-rows.field-0.deaths.items c.stamp_in-stamp.result c.in_ok-tree.tree
    (record {
      version = c.version_in-version.ensures ∙ ap version_in c.deref.ensures.value;
      rows_are = c.in_ok-rows.ensures.rows;
      dead_are = c.in_ok-rows.ensures.deaths;
      time_is = c.stamp_in-stamp.ensures ∙ ap stamp_in c.deref-2.ensures.value;
    })
    (subst IsWhole (c.deref-3.ensures.value ∙ c.in_ok-rows.ensures.items) c.in_ok-check_places.ensures.whole)
    (subst (λ (is : List ItemLine). IsSame (tree c.in_ok-tree.tree) (tree_of is)) (c.deref-4.ensures.value ∙ c.in_ok-rows.ensures.items) c.in_ok-tree.ensures)
    c.put_together.ensures.lost
