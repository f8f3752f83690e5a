use Rattle.std.proofs.Common.{◌<◌, arith, length}
use Rattle.ss_device.proofs.Buried.{none_yet, one_more}
use Rattle.ss_device.proofs.burials.graves.Goals as goal

pub loop-id-init : goal.loop-id-init
loop-id-init c = record { told = none_yet c.new-graves.result.entries c.args.time c.new-graves.ensures.empty; ordered = c.new-graves.ensures.ordered }

pub loop-id-preserved : goal.loop-id-preserved
loop-id-preserved c =
    let lt : c.loop-id.id-index < length c.args.ids.now = omega arith in
    record {
      told = one_more c.args.ids.now c.loop-id.id-index c.id-item.result c.in_ok-copy.field-0 c.args.time c.loop-id.graves.entries c.insert.new.self.entries lt c.id-item.is c.in_ok-copy.ensures c.in_ok-insert.ensures.updates.0 c.loop-id.invariant.told;
      ordered = c.in_ok-insert.ensures.ordered;
    }
