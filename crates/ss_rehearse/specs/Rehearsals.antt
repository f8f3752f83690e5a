-- A rehearsal: what is written of it, and what is promised of each of its steps (this project's).
use Rattle.std.specs.Prelude.{◌≡◌, ℕ, List, [], ◌∷◌, Bool, true, slice_get, option_map, unwrap_or, ⊤}
use Rattle.ss_bso.specs.Changes.{fresh_kept, account_at_opening}
use Rattle.ss_bso.specs.Validity.{SameAccount}
use Rattle.ss_tree.specs.declared.entries.Entry.{Entry}
use Rattle.ss_tree.specs.Entries.{IsTree}
use Rattle.ss_device.specs.Device.{DeviceView, IsNew}
use Rattle.ss_world.specs.Seats.{device_of}
use Rattle.ss_world.specs.Worlds.{WorldView}
use Rattle.ss_world.specs.declared.seats.Seat.TheVariants.{Idle}
use Rattle.ss_world.specs.Happening.{Step}
use Rattle.ss_world.specs.Reaching.{IsReachedWorld, IsWellDelivered, IsWholeFetch, KeepsPromises}
use Rattle.ss_rehearse.specs.Summaries.{summary_of, summary_text}
use Rattle.ss_rehearse.specs.Scripts.{script}
use Rattle.ss_rehearse.specs.Plays.{PlayView, Plays}

-- each device of a rehearsal is trusted: it was new at the opening
abbrev pub all_trusted : ℕ → Bool
all_trusted n = true

-- ---- the opening

-- an account that nothing was asked of, and two devices that were never synced; the entries of each one's tree are a tree
pub record IsFresh (w : WorldView) : Type 0 where
  pub account : SameAccount (account_at_opening fresh_kept) w.server.account
  pub kept : w.server.kept ≡ fresh_kept
  pub first : DeviceView
  pub second : DeviceView
  pub first_new : IsNew first
  pub second_new : IsNew second
  pub first_tree : IsTree first.tree
  pub second_tree : IsTree second.tree
  pub seats : w.seats ≡ Idle first ∷ Idle second ∷ []

-- the opening of a rehearsal: no sync was counted, and the clock reads 100 first
pub record IsOpen (p : PlayView) : Type 0 where
  pub fresh : IsFresh p.world
  pub now : p.now ≡ 100
  pub posts : p.posts ≡ []

-- ---- what is promised

-- What is promised of a world's steps holds of each: the bookmarks stand for one valid tree, which turns to the merged one alone; a
-- delivery leads on, to the merged tree, or to a stop for another cause than a reply that isn't understood; and a fetch that it finishes
-- is whole.
pub record IsPromisedStep (old : WorldView) (step : Step) : Type 0 where
  pub promised : KeepsPromises all_trusted old step.event step.world
  pub understood : IsWellDelivered old step.event step.world
  pub whole : (r : IsReachedWorld all_trusted old) → IsWholeFetch all_trusted old r step.event step.world

abbrev pub ArePromisedSteps : WorldView → List Step → Type 0
ArePromisedSteps w [] = ⊤
ArePromisedSteps w (step ∷ steps) = IsPromisedStep w step × ArePromisedSteps step.world steps

-- ---- the rehearsal

-- the tree of a device
abbrev pub tree_at : ℕ → WorldView → List Entry
tree_at n w = unwrap_or (option_map (λ s. (device_of s).tree) (slice_get w.seats n)) []

-- a rehearsal: the script is played from the opening
pub record IsRehearsal (items seed : ℕ) (opening : PlayView) (steps : List Step) (end : PlayView) : Type 0 where
  pub opens : IsOpen opening
  pub reached : IsReachedWorld all_trusted opening.world
  pub plays : Plays opening (script items seed) steps end
  pub promised : ArePromisedSteps opening.world steps

-- the summary of a rehearsal with so many items: what became of the devices' trees, and the POSTs of each sync
pub record IsSummary (items seed : ℕ) (text : List ℕ) : Type 0 where
  pub opening : PlayView
  pub steps : List Step
  pub end : PlayView
  pub rehearsal : IsRehearsal items seed opening steps end
  pub text_is : text ≡ summary_text end.posts (summary_of (tree_at 0 end.world) (tree_at 1 end.world))
