-- What `merge` makes of a text (this project's).
use Rattle.std.specs.Prelude.{◌≡◌, ◌≢◌, ◌⊎◌, ◌+◌, ℕ, List, [], ◌++◌, length, ⊤}
use Rattle.ss_record.specs.declared.readings.Sheet.{Sheet}
use Rattle.ss_tree.specs.declared.entries.Entry.{Entry}
use Rattle.ss_tree.specs.declared.sides.Sides.{Sides as Asked}
use Rattle.ss_tree.specs.Trees.{IsSame, IsValidTree}
use Rattle.ss_tree.specs.Entries.{tree}
use Rattle.ss_build.specs.Rows.{dead, readings, rows_of}
use Rattle.ss_build.specs.Built.{built}
use Rattle.ss_dupe.specs.Pairs.{ArePairs}
use Rattle.ss_dupe.specs.Renaming.{renamed_sides}
use Rattle.ss_dupe.specs.Sides.{sides_asked}
use Rattle.ss_merge.specs.Merged.{all_ids, gone_of, merged_tree, origins}
use Rattle.ss_plan.specs.Plan.{Readings, plan}
use Rattle.ss_device.specs.Device.{DeviceView, dead_ids}
use Rattle.ss_device.specs.Writing.{end_line}
use Rattle.ss_device_file.specs.declared.lines.Line.{Line}
use Rattle.ss_device_file.specs.declared.faults.LinesFault.TheVariants as lines
use Rattle.ss_device_file.specs.Files.{IsWhyNoFront, TellsDevice, HasUnseatedItem}
use Rattle.ss_run_edit.specs.declared.endings.Ending.{Ending}
use Rattle.ss_run_edit.specs.declared.endings.Ending.TheVariants.{Cut, BadLine, BadTree, Memory}
use Rattle.ss_run_edit.specs.Files.{BeginsWith}
use Rattle.ss_run_edit.specs.Remotes.{AreRemotes, IsStuckAt, remote_lines}
use Rattle.ss_run_edit.specs.Tellings.{merge_text}

-- ---- the text: a device's file, remote rows by id, and a further end

-- the text is a file of this device with these remote rows behind it
pub record IsMergeFile (text : List ℕ) (d : DeviceView) (rows : List Sheet) : Type 0 where
  pub lines : List Line
  pub back : List ℕ
  pub begins : BeginsWith text lines back
  pub told : TellsDevice lines d
  pub rows_are : AreRemotes rows
  pub back_is : back ≡ remote_lines rows ++ end_line

-- the text begins with the file of a device, and is stuck in the rows behind it
pub record HasBadRows (text : List ℕ) (ending : Ending) : Type 0 where
  pub lines : List Line
  pub back : List ℕ
  pub device : DeviceView
  pub begins : BeginsWith text lines back
  pub told : TellsDevice lines device
  pub stuck : IsStuckAt back (length lines) ending

-- the text goes on behind the last end, in this line
pub record HasExcess (text : List ℕ) (n : ℕ) : Type 0 where
  pub lines : List Line
  pub back : List ℕ
  pub device : DeviceView
  pub rows : List Sheet
  pub rest : List ℕ
  pub begins : BeginsWith text lines back
  pub told : TellsDevice lines device
  pub rows_are : AreRemotes rows
  pub back_is : back ≡ (remote_lines rows ++ end_line) ++ rest
  pub more : rest ≢ []
  pub number : n ≡ length lines + length rows + 2

-- the text begins with a device's file, whose items have not their places, or have lost one of the mirror
pub record HasBadTree (text id : List ℕ) : Type 0 where
  pub lines : List Line
  pub back : List ℕ
  pub begins : BeginsWith text lines back
  pub unseated : HasUnseatedItem lines id

-- Why nothing is made of a text: the first cause from its front. Where a line is still awaited at its end it is cut
abbrev pub RefusesMerge : List ℕ → Ending → Type 0
RefusesMerge text (Cut n) = IsWhyNoFront text (lines.Cut n) ⊎ HasBadRows text (Cut n)
RefusesMerge text (BadLine n) = IsWhyNoFront text (lines.Refused n) ⊎ (HasBadRows text (BadLine n) ⊎ HasExcess text n)
RefusesMerge text (BadTree id) = HasBadTree text id
RefusesMerge text Memory = ⊤
RefusesMerge text ending = ⊥

-- ---- what is written

-- what is told of merging sides: the merged tree, the duplicate pairs and what is gone, and the plan of putting that tree on rows of
-- which this was read
pub record IsTelling (sides : Asked) (read : Readings) (out : List ℕ) : Type 0 where
  pub joined : List Entry
  pub pairs : List (List ℕ × List ℕ)
  pub are_pairs : ArePairs (sides_asked sides) pairs
  pub joined_is : IsSame (tree joined) (merged_tree pairs sides)
  pub valid : IsValidTree (tree joined)
  pub out_is : out ≡ merge_text (tree joined) (origins (renamed_sides pairs sides) joined) pairs (gone_of (renamed_sides pairs sides) (all_ids pairs sides)) (length (plan joined read))

-- What is told of merging a device with remote rows: the sides are the tree of the device and the one that the rows are built to,
-- both against the one that the mirror is built to, with what either side deleted
pub record TellsMerging (d : DeviceView) (rows : List Sheet) (out : List ℕ) : Type 0 where
  pub sides : Asked
  pub local_is : sides.local.now ≡ d.tree
  pub mirror_is : IsSame (tree sides.mirror.now) (built (rows_of d.mirror))
  pub remote_is : IsSame (tree sides.remote.now) (built (rows_of rows))
  pub local_dead_is : sides.local_dead.now ≡ dead_ids d.dead
  pub remote_dead_is : sides.remote_dead.now ≡ dead (rows_of rows)
  pub telling : IsTelling sides (readings (rows_of rows)) out

-- the text is a device's file with remote rows, and what is written tells their merge
pub record IsMergeOf (text out : List ℕ) : Type 0 where
  pub device : DeviceView
  pub rows : List Sheet
  pub file : IsMergeFile text device rows
  pub merged : TellsMerging device rows out
