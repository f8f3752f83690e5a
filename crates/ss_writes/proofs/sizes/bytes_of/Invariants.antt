use Rattle.std.proofs.Common.{◌≡◌, min, take}
use Rattle.ss_bso.specs.Limits.{part_bytes}
use Rattle.ss_batch.specs.Stage.{most_counted}
use Rattle.ss_writes.proofs.sizes.bytes_of.Given as goal

abbrev pub invariant-loop-part : goal.invariant-loop-part
invariant-loop-part l = l.bytes ≡ min (part_bytes (take l.part-index l.parts)) most_counted
