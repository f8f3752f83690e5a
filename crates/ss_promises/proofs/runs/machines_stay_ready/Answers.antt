use Rattle.ss_hearing.specs.Hearing.{answer_of}
use Rattle.ss_client.specs.Asking.{awaits}
use Rattle.ss_client.specs.Machine.{Send}
use Rattle.ss_promises.proofs.runs.machines_stay_ready.Goals as goal

pub returns-clause-starts : goal.returns-clause-starts
returns-clause-starts c = λ newer. (c.requests_can_be_sent.ensures.first newer, c.requests_stay_readable.ensures.first newer)

pub returns-clause-goes_on : goal.returns-clause-goes_on
returns-clause-goes_on c = λ machine heard run stage sound readable f.
    let answer = answer_of (awaits machine.stage) heard in (
      c.requests_can_be_sent.ensures.kept machine.device machine.run machine.stage answer (Send run stage) sound (c.requests_can_be_sent.ensures.heard (awaits machine.stage) heard) f,
      c.requests_stay_readable.ensures.kept machine.device machine.run machine.stage answer (Send run stage) readable (c.requests_stay_readable.ensures.heard (awaits machine.stage) heard) f,
    )
