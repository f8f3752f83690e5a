use Rattle.std.proofs.Common.{arith}
use Rattle.ss_index.specs.Shelved.{rows_in}
use Rattle.ss_index.proofs.Dropping.{left_more}
use Rattle.ss_index.proofs.shelf.Shelf.drop_collections.Goals as goal

pub loop-name-preserved : goal.loop-name-preserved
loop-name-preserved c = record {
  rows = left_more c.args.names.now c.loop-name.name-index c.name-item.result (rows_in c.args.self.now) (rows_in c.loop-name.self) (rows_in c.drop_collection.new.self) c.loop-name-test.true c.name-item.is c.loop-name.invariant.rows c.drop_collection.ensures.rows;
  room = λ other. omega (arith, c.loop-name.invariant.room other, c.drop_collection.ensures.room other);
}
