use Rattle.ss_world.proofs.Ending.{ends_once, nears}
use Rattle.ss_world.proofs.laws.machines_end.Goals as goal

pub returns-clause-nears : goal.returns-clause-nears
returns-clause-nears c = λ device run stage answer next a f. nears device run stage answer next a f

pub returns-clause-ends : goal.returns-clause-ends
returns-clause-ends c = λ device g. ends_once device g
