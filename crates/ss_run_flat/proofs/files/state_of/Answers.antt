use Rattle.std.proofs.Common.{inr, arith}
use Rattle.ss_run_flat.proofs.SeenRows.{excess}
use Rattle.ss_run_flat.proofs.files.state_of.Goals as goal

pub overflow_add-result : goal.overflow_add-result
overflow_add-result c = let few = c.in-Ok.ensures.seen.few in let number = c.in-Ok.ensures.seen.number in let less = c.if-used-text.true in omega arith

pub returns-then-used-text-clause-refused : goal.returns-then-used-text-clause-refused
returns-then-used-text-clause-refused c = inr (excess c.args.kind c.args.text.now c.in-Ok.seen c.in-Ok.ensures.seen c.if-used-text.true)
