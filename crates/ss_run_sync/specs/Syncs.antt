-- What a sync of a device's file does (this project's).
use Rattle.std.specs.Prelude.{◌≡◌, ◌≢◌, ℕ, List, Option, Some, None, Result, Ok, Err, MatchOption, if◌then◌else◌, ⊤}
use Rattle.std.specs.Global.{Vec}
use Rattle.ss_outside.specs.Causes.{Rose}
use Rattle.ss_links.specs.Dials.{Address, HungLink}
use Rattle.ss_links.specs.Stores.{Files, HasSaved}
use Rattle.ss_device.specs.Device.{DeviceView, IsNew}
use Rattle.ss_device.specs.Writing.{device_text}
use Rattle.ss_device_file.specs.declared.faults.DeviceFault.{DeviceFault}
use Rattle.ss_device_file.specs.declared.faults.DeviceFault.TheVariants as refused
use Rattle.ss_device_file.specs.Files.{IsFileOf, IsWhyNoDevice}
use Rattle.ss_client.specs.declared.summaries.Fetch.{Fetch}
use Rattle.ss_client.specs.declared.summaries.Fetch.TheVariants.{Whole, Newer}
use Rattle.ss_client.specs.declared.summaries.Summary.{Summary}
use Rattle.ss_client.specs.declared.runs.Stage.TheVariants.{Asks}
use Rattle.ss_client.specs.Runs.{MachineView, first_run, is_newer}
use Rattle.ss_run_sync.specs.Course.{Account}
use Rattle.ss_words.specs.declared.commands.SyncCommand.{SyncCommand}
use Rattle.ss_run_sync.specs.declared.linking.Came.{Came}
use Rattle.ss_run_sync.specs.declared.linking.Came.TheVariants as came
use Rattle.ss_run_sync.specs.declared.endings.Ending.{Ending}
use Rattle.ss_run_sync.specs.declared.endings.Ending.TheVariants.{Synced, Stopped, Failed}
use Rattle.ss_run_sync.specs.declared.endings.Trouble.{Trouble}
use Rattle.ss_run_sync.specs.declared.endings.Trouble.TheVariants as trouble
use Rattle.ss_run_sync.specs.declared.reports.Report.{Report}
use Rattle.ss_run_sync.specs.declared.reports.Report.TheVariants.{Line, Short}
use Rattle.ss_run_sync.specs.Naming.{host_named}
use Rattle.ss_run_sync.specs.Endings.{Tells, synced_line}
use Rattle.ss_run_sync.specs.Links.{IsRunOverLinks}

-- what a sync's dial and store tell and count: the addresses that were asked for, the links that were hung up, the files, and how many
-- calls failed
pub record Outside : Type 0 where
  pub asked : Option (List Address)
  pub hung : Option (List HungLink)
  pub dial_faults : ℕ
  pub held : Option Files
  pub store_faults : ℕ

-- the same, of a dial and a store of any kinds that tell and count it so
abbrev pub outside_of : {D S : Type 0} → (D → Option (List Address)) → (D → Option (List HungLink)) → (D → ℕ) → (S → Option Files) → (S → ℕ) → D → S → Outside
outside_of asked hung dial_faults held store_faults dial store =
    record { asked = asked dial; hung = hung dial; dial_faults = dial_faults dial; held = held store; store_faults = store_faults store }

-- ---- the device

-- bytes that are no device's file, for a cause of the format's
pub record IsNoFile (bytes : List ℕ) : Type 0 where
  pub fault : DeviceFault
  pub of_bytes : fault ≢ refused.Memory
  pub cause : IsWhyNoDevice bytes fault

-- the device of a file, a new one where there is none, or why there is none
abbrev pub IsDeviceIn : Option (Vec ℕ) → Result DeviceView Trouble → Type 0
IsDeviceIn None (Ok d) = IsNew d
IsDeviceIn (Some bytes) (Ok d) = IsFileOf bytes.items d
IsDeviceIn (Some bytes) (Err trouble.Device) = IsNoFile bytes.items
IsDeviceIn file (Err trouble.Memory) = ⊤
IsDeviceIn file (Err what) = ⊥

-- the device is the one of the file with this name, or a new one where there is none
abbrev pub Starts : Option Files → List ℕ → DeviceView → Type 0
Starts None name d = ⊤
Starts (Some files) name d = MatchOption (files name) (IsNew d) (λ bytes. IsFileOf bytes d)

-- the file with this name is no device's file
abbrev pub HasNoDevice : Option Files → List ℕ → Type 0
HasNoDevice None name = ⊤
HasNoDevice (Some files) name = (bytes : List ℕ) × (files name ≡ Some bytes) × IsNoFile bytes

-- a load gave the device, or this is why not; it leaves the files
abbrev pub Loads : List ℕ → Result DeviceView Trouble → Option Files → Option Files → ℕ → ℕ → Type 0
Loads name (Ok d) held held' faults faults' = Starts held name d × (held' ≡ held) × (faults' ≡ faults)
Loads name (Err trouble.Device) held held' faults faults' = HasNoDevice held name × (held' ≡ held) × (faults' ≡ faults)
Loads name (Err trouble.Store) held held' faults faults' = (held' ≡ held) × Rose faults faults'
Loads name (Err trouble.Memory) held held' faults faults' = (held' ≡ held) × (faults' ≡ faults)
Loads name (Err trouble.Wire) held held' faults faults' = ⊥

-- ---- the end

-- what is told of a device that is done, which was saved with all other files as before; or why not, with all files as before
abbrev pub Saves : List ℕ → DeviceView → Summary → Report → Option Files → Option Files → ℕ → ℕ → Type 0
Saves name d summary (Line told line) held held' faults faults' = (told ≡ Synced summary) × (line.items ≡ synced_line summary) × HasSaved name (device_text d) held held' × (faults' ≡ faults)
Saves name d summary (Short trouble.Store) held held' faults faults' = (held' ≡ held) × Rose faults faults'
Saves name d summary (Short trouble.Memory) held held' faults faults' = (held' ≡ held) × (faults' ≡ faults)
Saves name d summary (Short what) held held' faults faults' = ⊥

-- the files and the store's count are as before
abbrev pub KeepsFiles : Outside → Outside → Type 0
KeepsFiles old new = (new.held ≡ old.held) × (new.store_faults ≡ old.store_faults)

-- How a sync ends by what its run came to: one that is done is saved, unless the store fails or memory is wanting; one that stopped is
-- told so, unless no memory is found for its line; and unless it is saved the files are as before
abbrev pub Closes : List ℕ → Came → Ending → Outside → Outside → Type 0
Closes file (came.Done d summary) (Synced s) old new = (s ≡ summary) × HasSaved file (device_text d) old.held new.held × (new.store_faults ≡ old.store_faults)
Closes file (came.Done d summary) (Failed trouble.Store) old new = (new.held ≡ old.held) × Rose old.store_faults new.store_faults
Closes file (came.Done d summary) (Failed trouble.Memory) old new = KeepsFiles old new
Closes file (came.Stop f) (Stopped g) old new = (g ≡ f) × KeepsFiles old new
Closes file (came.Stop f) (Failed trouble.Memory) old new = KeepsFiles old new
Closes file came.Wire (Failed trouble.Wire) old new = KeepsFiles old new
Closes file came.Memory (Failed trouble.Memory) old new = KeepsFiles old new
Closes file what ending old new = ⊥

-- ---- the sync

abbrev pub fetch_of : SyncCommand → Fetch
fetch_of command = if command.newer then Newer else Whole

-- the account that a command names
abbrev pub account_of : SyncCommand → Account
account_of command = record { uid = command.server.uid; host = host_named command.server }

-- the address that a command names
abbrev pub address_of : SyncCommand → Address
address_of command = record { host = command.server.host; port = command.server.port }

-- the machine that is started for a device
abbrev pub machine_of : SyncCommand → DeviceView → MachineView
machine_of command d = record { device = d; run = first_run (is_newer d (fetch_of command)); stage = Asks }

-- A sync of the file that a command names, with the account that it names. It ends before anything is dialled, where the file gives no
-- device; or the machine that is started for the device runs over links, each dialled once at the address that the command names, and
-- the sync ends by what that came to
pub data Syncs (command : SyncCommand) (ending : Ending) (old new : Outside) : Type 0 where
  undialled : (what : Trouble) → ending ≡ Failed what → Loads command.file (Err what) old.held new.held old.store_faults new.store_faults → new.asked ≡ old.asked → new.hung ≡ old.hung
      → new.dial_faults ≡ old.dial_faults → Syncs command ending old new
  dialled : (d : DeviceView) (what : Came) → Starts old.held command.file d
      → IsRunOverLinks (account_of command) (machine_of command d) what old.dial_faults new.dial_faults old.hung new.hung (address_of command) old.asked new.asked → Closes command.file what ending old new
      → Syncs command ending old new

-- a report tells how a sync ended
pub record Went (command : SyncCommand) (report : Report) (old new : Outside) : Type 0 where
  pub ending : Ending
  pub tells : Tells ending report
  pub syncs : Syncs command ending old new
