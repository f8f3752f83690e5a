use Rattle.ss_promises.proofs.Replying.{replies_typed}
use Rattle.ss_promises.proofs.values.replies_are_typed.Goals as goal

pub returns : goal.returns
returns c = replies_typed
