use Rattle.ss_bso.proofs.Lists.{Each-from_All, Pairs-from_AllPairs}
use Rattle.ss_batch.specs.Stage.{HasGivenNumber, IsOther}
use Rattle.ss_batch.proofs.stage.Stage.from_staged.Goals as goal

pub invariant_of-result : goal.invariant_of-result
invariant_of-result c = record {
  given = Each-from_All (HasGivenNumber c.args.counter) c.args.batches.items c.requires.given;
  apart = Pairs-from_AllPairs IsOther c.args.batches.items c.requires.apart;
}
