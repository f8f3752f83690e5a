-- What is promised of a world.
use Rattle.std.specs.Prelude.{◌≡◌, ◌⊎◌, ℕ, ◌≤◌, ◌==◌, List, [], ◌∷◌, ◌++◌, slice_get, map, Option, Some, None, Bool}
use Rattle.std.specs.Prelude.{true, if◌then◌else◌, ⊤}
use Rattle.ss_record.specs.declared.readings.Sheet.{Sheet}
use Rattle.ss_record.specs.Ids.{Apart}
use Rattle.ss_tree.specs.Trees.{PlacedItem, IsValidTree}
use Rattle.ss_tree.specs.Entries.{tree}
use Rattle.ss_build.specs.Rows.{rows_of}
use Rattle.ss_build.specs.Stand.{HasItsRows, StandFor}
use Rattle.ss_bso.specs.Lists.{Each}
use Rattle.ss_bso.specs.Validity.{IsValid, SameAccount}
use Rattle.ss_bso.specs.Changes.{account_at_opening}
use Rattle.ss_plan.specs.Written.{sheet}
use Rattle.ss_query.specs.Refused.{collection_time}
use Rattle.ss_query.specs.Api.{api}
use Rattle.ss_account.specs.Opening.{IsGood}
use Rattle.ss_sync.specs.Joined.{IsJoinedTree}
use Rattle.ss_sync.specs.Fetched.{are_known, kept}
use Rattle.ss_hearing.specs.declared.answer.Answer.{Answer}
use Rattle.ss_hearing.specs.declared.answer.Answer.TheVariants.{Paged, Listed, Written}
use Rattle.ss_device.specs.Device.{DeviceView, IsDevice, dead_ids}
use Rattle.ss_client.specs.declared.summaries.Fetch.TheVariants.{Newer}
use Rattle.ss_client.specs.declared.summaries.SyncFault.{SyncFault}
use Rattle.ss_client.specs.declared.summaries.SyncFault.TheVariants as fault
use Rattle.ss_client.specs.declared.runs.Stage.{Stage}
use Rattle.ss_client.specs.declared.runs.Stage.TheVariants.{Opens, Pages, Lists, Uploads}
use Rattle.ss_client.specs.Leaves.{UploadView}
use Rattle.ss_client.specs.Runs.{MachineView, rest_of}
use Rattle.ss_client.specs.Asking.{ask, awaits}
use Rattle.ss_client.specs.Machine.{Next, Send, Done, Stop}
use Rattle.ss_serving.specs.Bookmarks.{bookmarks, sheets_of, Server}
use Rattle.ss_serving.specs.Asking.{told_by}
use Rattle.ss_serving.specs.Good.{Lasts}
use Rattle.ss_world.specs.declared.events.Event.{Event}
use Rattle.ss_world.specs.declared.events.Event.TheVariants.{Start, Deliver, LoseReply}
use Rattle.ss_world.specs.Worlds.{Seat, Idle, Syncs, WorldView}
use Rattle.ss_world.specs.Happening.{Step}

-- the rows of the bookmarks, in the order of pages
abbrev pub rows : WorldView → List Sheet
rows w = sheets_of w.server.account.rows

-- rows that are read in one order and in another: each id once, with the same row
pub record AreAll (fetched all : List Sheet) : Type 0 where
  pub apart : Apart (map (λ s. s.id) fetched)
  pub same : (x : List ℕ) → sheet x fetched ≡ sheet x all

-- ---- faithful devices

-- a device remembers the rows that are no newer than its last sync
abbrev pub IsFaithful : DeviceView → Server → Type 0
IsFaithful d server =
    (d.stamp ≡ 0) ⊎ ((d.stamp ≤ server.account.store) × ((x : List ℕ) (s : Sheet) → sheet x (sheets_of server.account.rows) ≡ Some s → s.modified ≤ d.stamp → sheet x d.mirror ≡ Some s))

-- ---- openings

-- a valid tree for which the rows stand
pub record StandsForOne (sheets : List Sheet) : Type 0 where
  pub tree : List PlacedItem
  pub valid : IsValidTree tree
  pub stands : StandFor tree (rows_of sheets)

-- An opening: the account is valid and opened from what its keeper tells; the bookmarks stand for a valid tree and none of them
-- ends; the collection's time isn't above the store's; and the devices are idle, the trusted ones faithful.
pub record IsOpening (trusts : ℕ → Bool) (w : WorldView) : Type 0 where
  pub valid : IsValid w.server.account
  pub opened : SameAccount (account_at_opening w.server.kept) w.server.account
  pub kept : IsGood w.server.kept
  pub lasts : Each Lasts w.server.account.rows
  pub below : collection_time w.server.account bookmarks ≤ w.server.account.store
  pub stands : StandsForOne (sheets_of w.server.account.rows)
  pub idle : (n : ℕ) (s : Seat) → slice_get w.seats n ≡ Some s → (d : DeviceView) × (s ≡ Idle d) × IsDevice d × (trusts n ≡ true → IsFaithful d w.server)

-- a newer fetch is begun by trusted devices alone
abbrev pub IsTrustedEvent : (ℕ → Bool) → Event → Type 0
IsTrustedEvent trusts (Start n Newer) = trusts n ≡ true
IsTrustedEvent trusts _ = ⊤

-- each step of a run is such
abbrev pub AreTrustedSteps : (ℕ → Bool) → List Step → Type 0
AreTrustedSteps trusts [] = ⊤
AreTrustedSteps trusts (step ∷ steps) = IsTrustedEvent trusts step.event × AreTrustedSteps trusts steps

-- ---- one tree

-- The last POST of a device comes to the account, which writes it; the device hears it or not. The rows were all those that the
-- device had fetched, and stand for the merged tree then.
pub record IsLastUpload (w : WorldView) (event : Event) (v : WorldView) : Type 0 where
  pub device : ℕ
  pub now : ℕ
  pub machine : MachineView
  pub upload : UploadView
  pub stamp : ℕ
  pub there : slice_get w.seats device ≡ Some (Syncs machine)
  pub stage : machine.stage ≡ Uploads upload
  pub last : rest_of upload ≡ []
  pub event_is : (event ≡ Deliver device now) ⊎ (event ≡ LoseReply device now)
  pub written : told_by (awaits machine.stage) (api w.server.account now (ask machine)).reply ≡ Written stamp
  pub all : AreAll upload.rows (sheets_of w.server.account.rows)
  pub joined : IsJoinedTree machine.device.mirror machine.device.tree (dead_ids machine.device.dead) upload.rows upload.merged
  pub stands : HasItsRows (tree upload.merged) (rows_of (sheets_of v.server.account.rows))

-- one tree: the rows stay; or an upload takes them to the tree that merging its device with these rows gives
abbrev pub OneTree : WorldView → Event → WorldView → Type 0
OneTree w event v = (sheets_of v.server.account.rows ≡ sheets_of w.server.account.rows) ⊎ IsLastUpload w event v

-- ---- a fetch

-- the rows of a fetch that this answer finishes: a last page of a whole fetch, or ids that are all known
abbrev pub fetched_at : MachineView → Answer → Stage → Option (List Sheet)
fetched_at m (Paged page None time) Opens = if m.run.newer then None else Some page
fetched_at m (Paged page None time) (Pages p) = if m.run.newer then None else Some (p.rows ++ page)
fetched_at m (Listed ids) (Lists l) = if are_known l.rows m.device.mirror ids then Some (l.rows ++ kept l.rows ids m.device.mirror) else None
fetched_at m answer stage = None

-- what a device's first page notes of the rows; what was noted stays else
abbrev pub noted_at : Stage → List Sheet → List Sheet → List Sheet
noted_at Opens now old = now
noted_at _ now old = old

abbrev pub noted_in : Option Seat → List Sheet → List Sheet → List Sheet
noted_in (Some (Syncs m)) now old = noted_at m.stage now old
noted_in _ now old = old

abbrev pub noted_by : ℕ → WorldView → Event → WorldView → List Sheet → List Sheet
noted_by n w (Deliver m now) v old = if m == n then noted_in (slice_get w.seats m) (sheets_of v.server.account.rows) old else old
noted_by n w _ v old = old

-- the rows that were there at the first page of a device's last fetch
abbrev pub first_rows : ℕ → WorldView → List Step → List Sheet → List Sheet
first_rows n w [] old = old
first_rows n w (step ∷ steps) old = first_rows n step.world steps (noted_by n w step.event step.world old)

-- ---- replies

-- no run stops since a reply isn't understood, or since a record failed
abbrev pub IsUnderstood : SyncFault → Type 0
IsUnderstood (fault.BadReply number) = ⊥
IsUnderstood (fault.Refused status None) = ⊤
IsUnderstood (fault.Refused status (Some id)) = ⊥
IsUnderstood _ = ⊤

-- After a sync that is done the device is valid and faithful, and the rows stand for its tree: that of merging the device as it
-- was with all rows.
pub record IsFinishedSync (w : WorldView) (m : MachineView) (device : DeviceView) (v : WorldView) : Type 0 where
  pub valid : IsDevice device
  pub fetched : List Sheet
  pub all : AreAll fetched (sheets_of w.server.account.rows)
  pub joined : IsJoinedTree m.device.mirror m.device.tree (dead_ids m.device.dead) fetched device.tree
  pub stands : HasItsRows (tree device.tree) (rows_of (sheets_of v.server.account.rows))
  pub faithful : IsFaithful device v.server

abbrev pub EndsWell : WorldView → MachineView → Next → WorldView → Type 0
EndsWell w m (Send run stage) v = ⊤
EndsWell w m (Done device summary) v = IsFinishedSync w m device v
EndsWell w m (Stop f) v = IsUnderstood f
