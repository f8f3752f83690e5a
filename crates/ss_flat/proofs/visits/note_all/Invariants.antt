use Rattle.std.proofs.Common.{◌≡◌, ◌+◌, ◌≤◌, take}
use Rattle.indexmap.specs.IndexMap.{index_map_len, spare}
use Rattle.ss_bso.specs.Lists.{Pairs}
use Rattle.ss_flat.specs.declared.visits.Visit.{Visit}
use Rattle.ss_flat.specs.Joining.{later}
use Rattle.ss_flat.specs.States.{OtherVisit, time_of}
use Rattle.ss_flat.proofs.visits.note_all.Given as goal

abbrev pub invariant-loop-i : goal.invariant-loop-i
invariant-loop-i l = record {
  times : (v : Visit) → time_of v l.times.entries ≡ later (time_of v l.initial.times.entries) (time_of v (take l.i l.more.entries));
  room : index_map_len l.more ≤ spare l.times + l.i;
  once : Pairs OtherVisit l.times.entries;
}
