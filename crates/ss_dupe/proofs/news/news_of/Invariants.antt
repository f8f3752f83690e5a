use Rattle.std.proofs.Common.{take, bytes_eq}
use Rattle.std.specs.HashMap.{get}
use Rattle.ss_dupe.specs.Plains.{view}
use Rattle.ss_dupe.proofs.Newness.{Met}
use Rattle.ss_dupe.proofs.news.news_of.Given as goal

abbrev pub invariant-loop-child : goal.invariant-loop-child
invariant-loop-child l = Met (view l.plains) l.side l.parent (take l.child-index l.child-items) l.news.items (get bytes_eq l.counts)
