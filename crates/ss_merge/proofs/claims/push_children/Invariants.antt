use Rattle.std.proofs.Common.{◌≡◌, ◌++◌, take, filter, bytes_eq}
use Rattle.std.specs.HashMap.{get}
use Rattle.ss_dupe.specs.Plains.{view}
use Rattle.ss_merge.specs.Links.{is_under}
use Rattle.ss_merge.proofs.claims.push_children.Given as goal

abbrev pub invariant-loop-id : goal.invariant-loop-id
invariant-loop-id l = l.children.items ≡ l.initial.children.items ++ filter (is_under (view l.plains) (get bytes_eq l.finals) l.parent) (take l.id-index l.from)
