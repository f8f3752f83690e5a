use Rattle.std.proofs.Common.{bytes_eq}
use Rattle.std.specs.HashMap.{get}
use Rattle.ss_merge.proofs.Naming.{names_more}
use Rattle.ss_merge.proofs.paired.names_of.Goals as goal

pub loop-pair-preserved : goal.loop-pair-preserved
loop-pair-preserved c =
    names_more (get bytes_eq c.loop-pair.names) (get bytes_eq c.insert.new.self) c.args.pairs.now c.loop-pair.pair-index c.pair-item.result c.in_ok-copy.field-0 c.in_ok-copy-2.field-0
    c.requires c.loop-pair-test.true c.pair-item.is c.in_ok-copy.ensures c.in_ok-copy-2.ensures c.loop-pair.invariant c.in_ok-insert.ensures.updates.0
