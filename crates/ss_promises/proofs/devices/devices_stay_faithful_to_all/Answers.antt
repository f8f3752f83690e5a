use Rattle.ss_serving.proofs.Keeping.{reopens-steady}
use Rattle.ss_world.proofs.Fitting.{faithful_later}
use Rattle.ss_promises.proofs.Aging.{answers-aged, ticks-aged}
use Rattle.ss_promises.proofs.devices.devices_stay_faithful_to_all.Goals as goal

pub returns-clause-ages : goal.returns-clause-ages
returns-clause-ages c = answers-aged

pub returns-clause-asked : goal.returns-clause-asked
returns-clause-asked c = λ device before after now request valid a f. faithful_later device before after (answers-aged before after now request valid a) f

pub returns-clause-read : goal.returns-clause-read
returns-clause-read c = λ device before after now valid t f. faithful_later device before after (ticks-aged before after now valid t) f

pub returns-clause-reopened : goal.returns-clause-reopened
returns-clause-reopened c = λ first device before after steady r f. faithful_later device before after (reopens-steady before steady after r).2 f
