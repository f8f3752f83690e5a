use Rattle.std.proofs.Common.{◌≡◌, ◌≤◌, ◌+◌, ◌*◌, List}
use Rattle.ss_rehearse.specs.Draws.{drawn_number}
use Rattle.ss_world.specs.Happening.{Step}
use Rattle.ss_rehearse.specs.Scripts.{additions}
use Rattle.ss_rehearse.specs.Plays.{PlaysChanges}
use Rattle.ss_rehearse.specs.Syncing.{AreIdle}
use Rattle.ss_rehearse.proofs.changing.add_all.Given as goal

abbrev pub invariant-loop-at : goal.invariant-loop-at
invariant-loop-at l = record {
  last : l.drawn ≡ drawn_number l.fn.seed l.at;
  changed : (steps : List Step) × PlaysChanges 0 l.fn.now l.initial.world (additions l.at l.fn.seed) steps l.world l.next;
  early : l.next ≤ l.fn.now + 100 * l.at;
  idle : AreIdle l.world;
}
