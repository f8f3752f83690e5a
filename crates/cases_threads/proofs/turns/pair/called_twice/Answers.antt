use Rattle.cases_threads.proofs.turns.pair.called_twice.Goals as goal

pub close-booked-requires-clause-all : goal.close-booked-requires-clause-all
close-booked-requires-clause-all g c n h = c.call-pass-2.ensures.covers n (c.call-pass.ensures.covers n (c.in_ok-desk.ensures.all n h))
