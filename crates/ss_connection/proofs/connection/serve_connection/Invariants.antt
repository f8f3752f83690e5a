use Rattle.ss_desk.specs.Passes.{AreOf}
use Rattle.ss_connection.specs.Known.{known_by, SeeMore}
use Rattle.ss_connection.specs.Calls.{turns_added, Enters}
use Rattle.ss_connection.specs.Progress.{Progress}
use Rattle.ss_connection.specs.Turns.{AreGatedTurns}
use Rattle.ss_connection.proofs.connection.serve_connection.Given as goal

abbrev pub invariant-messages : goal.invariant-messages
invariant-messages g l = record {
  of : AreOf l.town.desks.items l.passes.passes.items;
  more : SeeMore l.fn.passes.passes.items l.passes.passes.items;
  progress : Progress l.manner l.town.uids.items (known_by l.passes.passes.items) (g.L.Told.told l.fn.link) (g.L.Told.told l.link) (g.C.Clock.coming l.fn.clock) (g.C.Clock.coming l.clock) l.buffer l.fn.turns.items
      l.turns.items l.count;
  gated : AreGatedTurns (g.G.Gate.says l.gate l.worker) (turns_added l.fn.turns.items l.turns.items);
  enters : Enters l.town.uids.items l.fn.passes.passes.items l.passes.passes.items (turns_added l.fn.turns.items l.turns.items);
}
