-- Worlds that events lead to from an opening, and what is promised of each step there.
use Rattle.std.specs.Prelude.{◌≡◌, ℕ, ◌≤◌, List, [], ◌∷◌, ◌++◌, slice_get, Some, Bool, true}
use Rattle.ss_record.specs.declared.readings.Sheet.{Sheet}
use Rattle.ss_bso.specs.Lists.{Each}
use Rattle.ss_query.specs.Api.{api}
use Rattle.ss_query.specs.Refused.{collection_time}
use Rattle.ss_device.specs.Device.{DeviceView}
use Rattle.ss_client.specs.Asking.{ask, awaits}
use Rattle.ss_client.specs.Runs.{MachineView}
use Rattle.ss_serving.specs.Asking.{told_by}
use Rattle.ss_serving.specs.Bookmarks.{bookmarks, sheets_of}
use Rattle.ss_serving.specs.Good.{Lasts}
use Rattle.ss_world.specs.declared.events.Event.{Event}
use Rattle.ss_world.specs.declared.events.Event.TheVariants.{Deliver}
use Rattle.ss_world.specs.Worlds.{Idle, Syncs, WorldView}
use Rattle.ss_world.specs.Happening.{Delivers, Runs, Step, last}
use Rattle.ss_world.specs.Promises.{AreAll, AreTrustedSteps, EndsWell, IsFaithful, IsOpening, OneTree, StandsForOne}
use Rattle.ss_world.specs.Promises.{fetched_at, first_rows, rows}

-- The premises on a world that was opened: no bookmark ends, the collection's time isn't above the store's, the bookmarks stand for
-- a valid tree, and the trusted devices are faithful.
pub record IsOpenable (trusts : ℕ → Bool) (w : WorldView) : Type 0 where
  pub lasts : Each Lasts w.server.account.rows
  pub below : collection_time w.server.account bookmarks ≤ w.server.account.store
  pub stands : StandsForOne (sheets_of w.server.account.rows)
  pub faithful : (n : ℕ) (d : DeviceView) → slice_get w.seats n ≡ Some (Idle d) → trusts n ≡ true → IsFaithful d w.server

-- events led here from an opening, with newer fetches of trusted devices alone
pub record IsReachedWorld (trusts : ℕ → Bool) (w : WorldView) : Type 0 where
  pub opening : WorldView
  pub steps : List Step
  pub opens : IsOpening trusts opening
  pub runs : Runs opening steps
  pub trusted : AreTrustedSteps trusts steps
  pub here : last opening steps ≡ w

-- What is promised of a step from a reached world: it leads to a reached one, whose bookmarks stand for one valid tree; and they
-- are as before, or the event was a last POST that came to the account, and they stand for the merged tree.
pub record KeepsPromises (trusts : ℕ → Bool) (old : WorldView) (event : Event) (new : WorldView) : Type 0 where
  pub reached : IsReachedWorld trusts new
  pub stands : StandsForOne (rows new)
  pub turns : OneTree old event new

-- what a delivery leads to: a run that goes on, the end with the merged tree, or a stop for another cause than a reply that isn't
-- understood
abbrev pub IsWellDelivered : WorldView → Event → WorldView → Type 0
IsWellDelivered old event new =
    (n now : ℕ) (m : MachineView) → event ≡ Deliver n now → slice_get old.seats n ≡ Some (Syncs m) → (e : Delivers old n now m new) → EndsWell old m e.next new

-- the rows of a fetch that a delivery finishes are all that were there at its first page, and are there now
abbrev pub IsWholeFetch : (trusts : ℕ → Bool) (old : WorldView) → IsReachedWorld trusts old → Event → WorldView → Type 0
IsWholeFetch trusts old r event new =
    (n now : ℕ) (m : MachineView) (fetched : List Sheet) → event ≡ Deliver n now → slice_get old.seats n ≡ Some (Syncs m)
    → fetched_at m (told_by (awaits m.stage) (api old.server.account now (ask m)).reply) m.stage ≡ Some fetched
    → AreAll fetched (rows new) × (first_rows n r.opening (r.steps ++ record { event = event; world = new } ∷ []) [] ≡ rows new)
