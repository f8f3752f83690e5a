use Rattle.std.proofs.Common.{◌≡◌, None, take}
use Rattle.ss_plan.specs.Refusals.{first_over, payload_bytes}
use Rattle.ss_plan.proofs.refusals.large_record.Given as goal

abbrev pub invariant-loop-part : goal.invariant-loop-part
invariant-loop-part l = first_over payload_bytes l.most (take l.part-index l.parts) ≡ None
