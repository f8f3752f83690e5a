use Rattle.std.proofs.Common.{rules}
use Rattle.ss_town.proofs.Openings.{refused}
use Rattle.ss_town.proofs.town.Town.open.Goals as goal

pub returns-in-Some-clause-fault : goal.returns-in-Some-clause-fault
returns-in-Some-clause-fault g c = refused c.args.accounts.items c.in-Some.fault (search rules)
