use Rattle.std.proofs.Common.{◌≡◌, ◌+◌, ◌-◌, ◌^◌, min, take}
use Rattle.ss_bso.specs.Limits.{part_bytes}
use Rattle.ss_plain.proofs.refusing.bytes_with.Given as goal

abbrev pub invariant-loop-part : goal.invariant-loop-part
invariant-loop-part l = l.total ≡ min (l.fn.bytes + part_bytes (take l.part-index l.parts)) (2 ^ 64 - 1)
