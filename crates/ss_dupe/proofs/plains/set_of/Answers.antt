use Rattle.std.proofs.Common.{arith, length, ◌<◌, bytes_eq}
use Rattle.std.specs.HashSet.{contains_by}
use Rattle.ss_dupe.proofs.ReadOut.{set_more}
use Rattle.ss_dupe.proofs.plains.set_of.Goals as goal

pub loop-id-preserved : goal.loop-id-preserved
loop-id-preserved c =
    let lt : c.loop-id.id-index < length c.as_slice-id-items.result.now = omega arith in
    set_more (λ x. contains_by (bytes_eq x) c.loop-id.set) (λ x. contains_by (bytes_eq x) c.insert.new.self) c.as_slice-id-items.result.now c.loop-id.id-index c.id-item.result c.in_ok-copy.field-0 lt c.id-item.is c.in_ok-copy.ensures c.loop-id.invariant c.in_ok-insert.ensures.updates.0
