use Rattle.std.proofs.Common.{◌≡◌, ◌++◌}
use Rattle.std.specs.List.{AllByRecursion, flat_map}
use Rattle.ss_device.specs.Forms.{IsDeath}
use Rattle.ss_device.specs.Writing.{dead_line}
use Rattle.ss_device.proofs.writing.push_deaths.Given as goal

abbrev pub invariant-loop-id : goal.invariant-loop-id
invariant-loop-id l = record {
  lines : l.initial.out.items ++ flat_map dead_line l.dead.entries ≡ l.out.items ++ flat_map dead_line l.id-iterator;
  formed : AllByRecursion IsDeath l.id-iterator → AllByRecursion IsDeath l.dead.entries;
}
