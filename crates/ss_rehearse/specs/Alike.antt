-- Devices that are told alike, and what is then the same (this project).
use Rattle.std.specs.Prelude.{◌≡◌, ℕ, List}
use Rattle.ss_tree.specs.Trees.{IsSame}
use Rattle.ss_tree.specs.Entries.{tree}
use Rattle.ss_device.specs.Device.{DeviceView, dead_at}
use Rattle.ss_world.specs.declared.events.Edit.{Edit}
use Rattle.ss_world.specs.Happening.{ChangesDevice, edit_fault}

-- The same items in the same places with the same times, the same deleted ids with their times, the same rows and the same stamp. In
-- which order the entries of the trees and the deleted ids lie, and which nodes items have, means nothing.
pub record AreAlike (d e : DeviceView) : Type 0 where
  pub tree : IsSame (Rattle.ss_tree.specs.Entries.tree d.tree) (Rattle.ss_tree.specs.Entries.tree e.tree)
  pub dead : (x : List ℕ) → dead_at x d.dead ≡ dead_at x e.dead
  pub mirror : d.mirror ≡ e.mirror
  pub stamp : d.stamp ≡ e.stamp

-- an edit is refused alike, or makes of them devices that are told alike
pub record AreEditedAlike (now : ℕ) (edit : Edit) (d e : DeviceView) : Type 0 where
  pub refused : edit_fault d edit ≡ edit_fault e edit
  pub changed : (v w : DeviceView) → ChangesDevice now edit d v → ChangesDevice now edit e w → AreAlike v w
