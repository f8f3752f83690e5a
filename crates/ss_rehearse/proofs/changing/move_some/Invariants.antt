use Rattle.std.proofs.Common.{◌≤◌, ◌+◌, ◌*◌, List}
use Rattle.ss_world.specs.Happening.{Step}
use Rattle.ss_rehearse.specs.Scripts.{moves}
use Rattle.ss_rehearse.specs.Plays.{PlaysChanges}
use Rattle.ss_rehearse.specs.Syncing.{AreIdle}
use Rattle.ss_rehearse.proofs.changing.move_some.Given as goal

abbrev pub invariant-loop-at : goal.invariant-loop-at
invariant-loop-at l = record {
  changed : (steps : List Step) × PlaysChanges 0 l.fn.now l.initial.world (moves l.at) steps l.world l.next;
  early : l.next ≤ l.fn.now + 100 * l.at;
  idle : AreIdle l.world;
}
