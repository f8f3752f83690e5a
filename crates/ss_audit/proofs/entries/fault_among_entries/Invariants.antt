use Rattle.std.proofs.Common.{◌≡◌, min}
use Rattle.ss_booked.specs.Sizes.{most_entries}
use Rattle.ss_audit.proofs.Rising.{Seen}
use Rattle.ss_audit.proofs.entries.fault_among_entries.Given as goal

abbrev pub invariant-loop-entry : goal.invariant-loop-entry
invariant-loop-entry l = record {
  number : l.n ≡ l.entry-index;
  most : l.most ≡ min l.fn.log.most most_entries;
  seen : Seen l.fn.log l.entry-index l.last l.bytes;
}
