use Rattle.cases_threads.proofs.turns.pair.called_both.Goals as goal

pub close-booked-requires-clause-all : goal.close-booked-requires-clause-all
close-booked-requires-clause-all g c n h = c.call_both-pass.ensures.covers n (c.in_ok-desk.ensures.all n h)
