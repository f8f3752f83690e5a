use Rattle.std.proofs.Common.{arith}
use Rattle.ss_promises.proofs.Numbers.{tells_readable}
use Rattle.ss_promises.proofs.Sending.{asked_readable, follows_readable}
use Rattle.ss_promises.proofs.runs.requests_stay_readable.Goals as goal

pub returns-clause-first : goal.returns-clause-first
returns-clause-first c = λ newer. (omega arith, tt)

pub returns-clause-heard : goal.returns-clause-heard
returns-clause-heard c = tells_readable

pub returns-clause-kept : goal.returns-clause-kept
returns-clause-kept c = follows_readable

pub returns-clause-sent : goal.returns-clause-sent
returns-clause-sent c = λ machine r. asked_readable machine machine.stage r.1
