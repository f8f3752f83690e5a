-- What `edit` does to the device of a text (this project's).
use Rattle.std.specs.Prelude.{◌≡◌, ℕ, List, Bool, true, false, Option, Some, None, codes, ⊤}
use Rattle.serde_json.specs.Data.{string, object, no_members, member}
use Rattle.serde_json.specs.Written.{compact_text}
use Rattle.ss_record.specs.declared.kinds.Kind.TheVariants.{Bookmark as BookmarkKind, Folder as FolderKind}
use Rattle.ss_record.specs.declared.kinds.Kind.TheVariants.{Separator as SeparatorKind}
use Rattle.ss_record.specs.Items.{ItemView, is_fit}
use Rattle.ss_tree.specs.Trees.{PlacedItem}
use Rattle.ss_tree.specs.Entries.{tree}
use Rattle.ss_device.specs.Device.{DeviceView}
use Rattle.ss_device.specs.Edits.{AddsItem, DeletesItem, MovesItem, RenamesItem, add_fault, change_fault, move_fault}
use Rattle.ss_device.specs.Forms.{HasDeviceForm}
use Rattle.ss_device.specs.Writing.{device_text}
use Rattle.ss_device.specs.declared.faults.EditFault.{EditFault}
use Rattle.ss_device_file.specs.Files.{IsFileOf}
use Rattle.ss_words.specs.declared.actions.Action.{Action}
use Rattle.ss_words.specs.declared.actions.Action.TheVariants as action
use Rattle.ss_run_edit.specs.declared.changes.Change.{Change}
use Rattle.ss_run_edit.specs.declared.changes.Change.TheVariants.{Add, Rename, Move, Delete}
use Rattle.ss_run_edit.specs.declared.endings.Ending.{Ending}
use Rattle.ss_run_edit.specs.declared.endings.Ending.TheVariants.{Unfit, Cut, BadLine, BadTree, Refused, Memory}
use Rattle.ss_run_edit.specs.Files.{IsNoDevice}

-- ---- new items

-- a new bookmark has an address and a title
abbrev pub new_bookmark : List ℕ → List ℕ → List ℕ → ItemView
new_bookmark id title uri = record {
  id = id;
  kind = BookmarkKind;
  content = compact_text (object (member (codes "bmkUri") (string uri) (member (codes "title") (string title) no_members)));
}

-- a new folder has a title
abbrev pub new_folder : List ℕ → List ℕ → ItemView
new_folder id title = record { id = id; kind = FolderKind; content = compact_text (object (member (codes "title") (string title) no_members)) }

abbrev pub new_separator : List ℕ → ItemView
new_separator id = record { id = id; kind = SeparatorKind; content = codes "{}" }

-- ---- changes

-- what an action does to a device that is there; a new device is made from nothing
abbrev pub change_of : Action → Option Change
change_of action.New = None
change_of (action.Bookmark parent id title uri) = Some (Add parent (new_bookmark id title uri))
change_of (action.Folder parent id title) = Some (Add parent (new_folder id title))
change_of (action.Separator parent id) = Some (Add parent (new_separator id))
change_of (action.Rename id title) = Some (Rename id title)
change_of (action.Move id parent) = Some (Move id parent)
change_of (action.Delete id) = Some (Delete id)

-- an item that is added is fit: its record reads back as it
abbrev pub fits : Option Change → Bool
fits (Some (Add parent item)) = is_fit item
fits (Some (Rename id title)) = true
fits (Some (Move id parent)) = true
fits (Some (Delete id)) = true
fits None = true

-- what a change makes of a device at this time
abbrev pub MakesChange : ℕ → Change → DeviceView → DeviceView → Type 0
MakesChange now (Add parent item) old new = AddsItem now parent item old new
MakesChange now (Rename id title) old new = RenamesItem now id title old new
MakesChange now (Move id parent) old new = MovesItem now id parent old new
MakesChange now (Delete id) old new = DeletesItem now id old new

-- why a device's tree refuses a change
abbrev pub fault_in : Change → List PlacedItem → Option EditFault
fault_in (Add parent item) t = add_fault t parent item.id
fault_in (Rename id title) t = change_fault t id
fault_in (Move id parent) t = move_fault t id parent
fault_in (Delete id) t = change_fault t id

-- why an action is no change
abbrev pub IsNoChange : Option Change → Ending → Type 0
IsNoChange change Unfit = fits change ≡ false
IsNoChange change Memory = ⊤
IsNoChange change ending = ⊥

-- ---- texts

-- the text is a device's file, and what is written is that of the device as the change makes it, which has one text alone
pub record IsEditOf (change : Change) (now : ℕ) (text out : List ℕ) : Type 0 where
  pub old : DeviceView
  pub new : DeviceView
  pub file : IsFileOf text old
  pub allowed : fault_in change (tree old.tree) ≡ None
  pub changed : MakesChange now change old new
  pub formed : HasDeviceForm new
  pub out_is : out ≡ device_text new

-- why nothing is made of a text: it is no device's file, or its device refuses the change
abbrev pub RefusesEdit : Change → List ℕ → Ending → Type 0
RefusesEdit change text (Cut n) = IsNoDevice text (Cut n)
RefusesEdit change text (BadLine n) = IsNoDevice text (BadLine n)
RefusesEdit change text (BadTree id) = IsNoDevice text (BadTree id)
RefusesEdit change text (Refused fault) = (d : DeviceView) × IsFileOf text d × (fault_in change (tree d.tree) ≡ Some fault)
RefusesEdit change text Memory = ⊤
RefusesEdit change text ending = ⊥
