use Rattle.ss_client.specs.Asking.{ask, awaits}
use Rattle.ss_query.specs.Api.{api}
use Rattle.ss_serving.specs.Asking.{told_by}
use Rattle.ss_world.specs.Ending.{rank}
use Rattle.ss_world.specs.Happening.{last}
use Rattle.ss_world.proofs.Ending.{nears, planned}
use Rattle.ss_world.proofs.Promised.{ends}
use Rattle.ss_world.proofs.laws.replies_are_understood.Goals as goal

pub returns-clause-ends : goal.returns-clause-ends
returns-clause-ends c = λ trusts w steps n now m v o r ok there e. ends trusts w steps o r ok n now m v there e

pub returns-clause-awaited : goal.returns-clause-awaited
returns-clause-awaited c = λ trusts w steps n now m v o r ok there e a.
    planned (last w steps) m (rank m.run.newer m.stage) e.next v
    (nears m.device m.run m.stage (told_by (awaits m.stage) (api (last w steps).server.account now (ask m)).reply) e.next a e.follows)
    (ends trusts w steps o r ok n now m v there e)
