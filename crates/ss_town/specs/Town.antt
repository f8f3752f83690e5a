-- What callers see of a town and of passes to it.
use Rattle.std.specs.Prelude.{ℕ, List}
use Rattle.ss_desk.specs.declared.desk.Desk.{Desk}
use Rattle.ss_desk.specs.declared.journaled.Journaled.{Ghosts}
use Rattle.ss_desk.specs.declared.pass.RawPass.{RawPass}
use Rattle.ss_town.specs.declared.town.Town.{Town}
use Rattle.ss_town.specs.declared.passes.Passes.{Passes}

module _ {T F E A R : Type 0} {J : Ghosts T F E A R} where
  -- the uids of a town's accounts, in their order
  abbrev pub uids_of : Town T F E A R J → List ℕ
  uids_of t = t.uids.items

  -- their desks, in the same order
  abbrev pub desks_of : Town T F E A R J → List (Desk T F E A R)
  desks_of t = t.desks.items

  -- the passes, in the order of the accounts
  abbrev pub passes_of : Passes T F E A R J → List (RawPass T F E)
  passes_of p = p.passes.items
