use Rattle.ss_run_move.proofs.OneRequest.{none_asked}
use Rattle.ss_run_move.proofs.words.read_move.Goals as goal

pub returns-in-Some-clause-none : goal.returns-in-Some-clause-none
returns-in-Some-clause-none c = none_asked _ c.args.words.now c.with_verb.result c.in-len1-up.len_at_least c.with_verb.ensures.none
