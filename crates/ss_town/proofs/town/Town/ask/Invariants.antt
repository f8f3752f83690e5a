use Rattle.std.proofs.Common.{◌≡◌, ◌<◌, ℕ}
use Rattle.ss_desk.specs.Passes.{AreOf}
use Rattle.ss_town.specs.Places.{At}
use Rattle.ss_town.proofs.town.Town.ask.Given as goal

abbrev pub invariant-loop-i : goal.invariant-loop-i
invariant-loop-i g l = record {
  of : AreOf l.self.desks.items l.passes.passes.items;
  same : l.passes ≡ l.fn.passes;
  unlisted : (j : ℕ) → j < l.i → At l.self.uids.items j l.uid → ⊥;
}
