use Rattle.std.proofs.Common.{arith}
use Rattle.ss_client.proofs.Sound.{follows_sound}
use Rattle.ss_client.proofs.Told.{tells_ours}
use Rattle.ss_client.proofs.Asked.{asked_sent}
use Rattle.ss_client.proofs.laws.requests_can_be_sent.Goals as goal

pub returns-clause-first : goal.returns-clause-first
returns-clause-first c = λ newer. (record { records = omega arith; bytes = omega arith; payload = omega arith; total = omega arith }, tt)

pub returns-clause-heard : goal.returns-clause-heard
returns-clause-heard c = tells_ours

pub returns-clause-kept : goal.returns-clause-kept
returns-clause-kept c = follows_sound

pub returns-clause-sent : goal.returns-clause-sent
returns-clause-sent c = λ machine s. asked_sent machine machine.stage s.1
