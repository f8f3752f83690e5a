use Rattle.std.proofs.Common.{◌≡◌, ◌||◌, ℕ, List, take}
use Rattle.std.specs.List.{list_any}
use Rattle.ss_bso.specs.Changes.{drops}
use Rattle.ss_keeper.specs.Together.{is_named}
use Rattle.ss_keeper.proofs.names.note_drops.Given as goal

abbrev pub invariant-loop-change : goal.invariant-loop-change
invariant-loop-change l = (name : List ℕ) → is_named l.names name ≡ (list_any (drops name) (take l.change-index l.changes) || is_named l.initial.names name)
