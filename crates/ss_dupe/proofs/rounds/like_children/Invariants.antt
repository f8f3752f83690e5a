use Rattle.std.specs.HashMap.{get}
use Rattle.ss_dupe.specs.News.{same_mark}
use Rattle.ss_dupe.proofs.Alike.{Matched}
use Rattle.ss_dupe.proofs.rounds.like_children.Given as goal

abbrev pub invariant-loop-new : goal.invariant-loop-new
invariant-loop-new l = Matched l.yielded (get same_mark l.index) l.pairs.items
