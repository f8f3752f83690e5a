-- What a sync leaves: the rows, and the items that the device knows.
use Rattle.std.specs.Prelude.{ℕ, ◌+◌, ◌≤◌, List, [], length, Option}
use Rattle.ss_record.specs.declared.readings.Sheet.{Sheet}
use Rattle.ss_tree.specs.declared.entries.Entry.{Entry}
use Rattle.ss_tree.specs.Entries.{tree}
use Rattle.ss_build.specs.Rows.{rows_of}
use Rattle.ss_build.specs.Stand.{HasItsRows}
use Rattle.ss_bso.specs.declared.parts.Part.{Part}
use Rattle.ss_plan.specs.Written.{AreRowsAfter}
use Rattle.ss_device.specs.Device.{KnowsMirrorItems}
use Rattle.ss_sync.specs.Rows.{AreById}

-- each item of the tree that is built from the rows after these parts is in the merged tree
abbrev pub LeavesKnown : List Sheet → List Part → List Entry → Type 0
LeavesKnown rows parts merged = (after : List Sheet) (stamp : ℕ) → AreRowsAfter rows parts stamp after → KnowsMirrorItems after merged []

-- the rows after these parts stand for the merged tree
abbrev pub LeavesStanding : List Sheet → List Part → List Entry → Type 0
LeavesStanding rows parts merged = (after : List Sheet) (stamp : ℕ) → AreRowsAfter rows parts stamp after → HasItsRows (tree merged) (rows_of after)

-- what a device has after a sync
pub record SyncedView : Type 0 where
  pub tree : List Entry
  pub mirror : List Sheet
  pub stamp : ℕ

-- a device can have it: its rows are by id, and each of their items is in the tree
pub record IsReady (s : SyncedView) : Type 0 where
  pub by_id : AreById s.mirror
  pub known : KnowsMirrorItems s.mirror s.tree []

-- a plan that is sent: the collection's time at the fetch, the rows that were fetched, the merged tree, the parts, the batch
-- once it was begun, how many parts are in it, and how many the POST under way has
pub record UploadView : Type 0 where
  pub time : ℕ
  pub rows : List Sheet
  pub merged : List Entry
  pub parts : List Part
  pub batch : Option ℕ
  pub sent : ℕ
  pub count : ℕ

-- the parts of the POST are there, and the sync leaves no item unknown
pub record IsUpload (u : UploadView) : Type 0 where
  pub within : u.sent + u.count ≤ length u.parts
  pub known : LeavesKnown u.rows u.parts u.merged

-- what is fetched page by page: the collection's time at the first page, where the next one begins, the pages and rows that came
pub record PagingView : Type 0 where
  pub time : ℕ
  pub offset : ℕ
  pub pages : ℕ
  pub rows : List Sheet
