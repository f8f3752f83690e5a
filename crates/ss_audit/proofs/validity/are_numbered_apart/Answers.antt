use Rattle.std.proofs.Common.{◌∙◌, sym}
use Rattle.ss_audit.proofs.Lists.{never}
use Rattle.ss_audit.proofs.Valid.{numbers_more, numbers_not}
use Rattle.ss_audit.proofs.validity.are_numbered_apart.Goals as goal

pub returns-then-is_numbered : goal.returns-then-is_numbered
returns-then-is_numbered c =
    never (numbers_not c.args.batches.now c.loop-place.place c.index-batches-place.result c.loop-place-test.true c.index-batches-place.is (sym c.is_numbered.ensures ∙ c.if-is_numbered.true))

pub loop-place-preserved : goal.loop-place-preserved
loop-place-preserved c =
    numbers_more c.args.batches.now c.loop-place.place c.index-batches-place.result c.loop-place-test.true c.index-batches-place.is (sym c.is_numbered.ensures ∙ c.if-is_numbered.false) c.loop-place.invariant
