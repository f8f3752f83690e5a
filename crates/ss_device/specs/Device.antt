-- A device: its bookmarks, and what it remembers of its last sync.
use Rattle.std.specs.Prelude.{◌≡◌, ◌||◌, ℕ, List, [], Option, true, map, bytes_eq}
use Rattle.std.specs.Map.{lookup}
use Rattle.std.specs.List.Sorted.{IsStrictlySortedBy}
use Rattle.ss_text.specs.Texts.{text_cmp}
use Rattle.ss_record.specs.declared.readings.Sheet.{Sheet}
use Rattle.ss_record.specs.Ids.{has}
use Rattle.ss_tree.specs.declared.entries.Entry.{Entry}
use Rattle.ss_tree.specs.Entries.{tree}
use Rattle.ss_tree.specs.Trees.{IsSame, empty_tree, node_ids}
use Rattle.ss_build.specs.Rows.{rows_of}
use Rattle.ss_build.specs.Built.{built}

-- ids that were deleted, each with the time of its deletion
abbrev pub Dead : Type 0
Dead = List (List ℕ × ℕ)

-- what contracts see of a device: its tree, whose times are those of changes since the last sync, 0 for none; the ids
-- that were deleted since; the rows as they stood at the last sync; and the time of that sync
pub record DeviceView : Type 0 where
  pub tree : List Entry
  pub dead : Dead
  pub mirror : List Sheet
  pub stamp : ℕ

-- texts stand by id, each once
unfoldable pub AreById : List (List ℕ) → Type 0
AreById xs = IsStrictlySortedBy text_cmp xs

-- the ids that were deleted
abbrev pub dead_ids : Dead → List (List ℕ)
dead_ids dead = map (λ d. d.0) dead

-- when an id was deleted
abbrev pub dead_at : List ℕ → Dead → Option ℕ
dead_at x dead = lookup (bytes_eq x) dead

-- the ids of the rows
abbrev pub row_ids : List Sheet → List (List ℕ)
row_ids sheets = map (λ s. s.id) sheets

-- each item that the rows are built to is in the tree, or was deleted
abbrev pub KnowsMirrorItems : List Sheet → List Entry → Dead → Type 0
KnowsMirrorItems mirror entries dead =
    (x : List ℕ) → has x (node_ids (built (rows_of mirror))) ≡ true → (has x (node_ids (tree entries)) || has x (dead_ids dead)) ≡ true

-- what holds of every device
pub record IsDevice (d : DeviceView) : Type 0 where
  pub dead_by_id : AreById (dead_ids d.dead)
  pub mirror_by_id : AreById (row_ids d.mirror)
  pub known : KnowsMirrorItems d.mirror d.tree d.dead

-- the same items in the same places with the same times, the same deleted ids, the same rows and the same stamp
pub record IsSameDevice (d e : DeviceView) : Type 0 where
  pub tree : IsSame (Rattle.ss_tree.specs.Entries.tree d.tree) (Rattle.ss_tree.specs.Entries.tree e.tree)
  pub dead : d.dead ≡ e.dead
  pub mirror : d.mirror ≡ e.mirror
  pub stamp : d.stamp ≡ e.stamp

-- a device that was never synced and has nothing but the four empty roots
pub record IsNew (d : DeviceView) : Type 0 where
  pub tree : IsSame (Rattle.ss_tree.specs.Entries.tree d.tree) empty_tree
  pub dead : d.dead ≡ []
  pub mirror : d.mirror ≡ []
  pub stamp : d.stamp ≡ 0
