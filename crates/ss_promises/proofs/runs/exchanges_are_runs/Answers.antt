use Rattle.ss_promises.proofs.Coursing.{run}
use Rattle.ss_promises.proofs.runs.exchanges_are_runs.Goals as goal

pub returns : goal.returns
returns c = λ manner address world steps a all h.
    run manner address
    (λ n w now v x ready. (c.exchanges_are_deliveries.ensures.delivers manner address w n now x.asked.machine x.asked.server x.asked.output x.asked.behind x.more x.next a ready x.asked.there x.asked.alike x.tellable x.asked.responds x.proceeds).0)
    (λ n w now v x ready. (c.exchanges_are_deliveries.ensures.loses manner address w n now x.asked.machine x.asked.server x.asked.output x.asked.behind a ready x.asked.there x.asked.alike x.asked.responds).0)
    world steps all h
