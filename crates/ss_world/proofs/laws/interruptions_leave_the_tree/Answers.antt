use Rattle.ss_world.proofs.Promised.{interrupted, given_up, reopened}
use Rattle.ss_world.proofs.laws.interruptions_leave_the_tree.Goals as goal

pub returns-clause-quiet : goal.returns-clause-quiet
returns-clause-quiet c = λ trusts w steps event v o r ok h none. interrupted trusts w steps o r ok event v h none

pub returns-clause-lost : goal.returns-clause-lost
returns-clause-lost c = λ w v n h. given_up w v n h

pub returns-clause-anew : goal.returns-clause-anew
returns-clause-anew c = λ w v n h. given_up w v n h

pub returns-clause-reopened : goal.returns-clause-reopened
returns-clause-reopened c = λ w v h. reopened w v h
