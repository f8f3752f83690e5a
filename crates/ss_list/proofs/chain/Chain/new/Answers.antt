use Rattle.ss_list.proofs.Calls.{sound_from_nothing}
use Rattle.ss_list.proofs.chain.Chain.new.Goals as goal

pub invariant_of-result : goal.invariant_of-result
invariant_of-result g c = rw c.new.ensures.items sound_from_nothing
