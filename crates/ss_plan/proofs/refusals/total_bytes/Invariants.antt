use Rattle.std.proofs.Common.{◌≡◌, min, take}
use Rattle.std.specs.Prelude.{sum_by}
use Rattle.ss_plan.specs.Refusals.{payload_bytes}
use Rattle.ss_plan.proofs.refusals.total_bytes.Given as goal

abbrev pub invariant-loop-part : goal.invariant-loop-part
invariant-loop-part l = l.total ≡ min (sum_by payload_bytes (take l.part-index l.parts)) 18446744073709551615
