use Rattle.std.specs.HashMap.{get}
use Rattle.ss_dupe.specs.News.{same_mark}
use Rattle.ss_dupe.proofs.Alike.{Indexed}
use Rattle.ss_dupe.proofs.rounds.index_of.Given as goal

abbrev pub invariant-loop-new : goal.invariant-loop-new
invariant-loop-new l = Indexed l.yielded (get same_mark l.index)
