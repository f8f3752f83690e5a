-- What is told of a merge.
use Rattle.std.proofs.Common.{◌≡◌, List, ℕ, subst}
use Rattle.ss_record.specs.declared.readings.Sheet.{Sheet}
use Rattle.ss_tree.specs.declared.sides.Sides.{Sides as Asked}
use Rattle.ss_tree.specs.Trees.{IsSame}
use Rattle.ss_tree.specs.Entries.{tree}
use Rattle.ss_build.specs.Rows.{dead, readings, rows_of}
use Rattle.ss_build.specs.Built.{built}
use Rattle.ss_plan.specs.Plan.{Readings}
use Rattle.ss_device.specs.Device.{DeviceView, dead_ids}
use Rattle.ss_run_edit.specs.Merging.{TellsMerging, IsTelling}

pub merged_of : (d : DeviceView) (rows : List Sheet) (sides : Asked) (read : Readings) (out : List ℕ) → sides.local.now ≡ d.tree → IsSame (tree sides.mirror.now) (built (rows_of d.mirror))
    → IsSame (tree sides.remote.now) (built (rows_of rows)) → sides.local_dead.now ≡ dead_ids d.dead → sides.remote_dead.now ≡ dead (rows_of rows) → read ≡ readings (rows_of rows) → IsTelling sides read out → TellsMerging d rows out
merged_of d rows sides read out l m r x y e t = record {
  sides = sides;
  local_is = l;
  mirror_is = m;
  remote_is = r;
  local_dead_is = x;
  remote_dead_is = y;
  telling = subst (λ (rs : Readings). IsTelling sides rs out) e t;
}
