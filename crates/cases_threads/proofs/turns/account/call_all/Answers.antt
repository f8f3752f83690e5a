use Rattle.cases_threads.proofs.turns.account.call_all.Goals as goal

pub returns-clause-covers : goal.returns-clause-covers
returns-clause-covers g c n h = c.call-pass-2.ensures.covers n (c.call-pass.ensures.covers n (c.call_both-pass.ensures.covers n h))
