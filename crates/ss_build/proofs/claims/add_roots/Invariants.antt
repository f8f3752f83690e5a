use Rattle.std.proofs.Common.{◌≡◌, ◌++◌, take, map, filter, not}
use Rattle.ss_record.specs.Ids.{has}
use Rattle.ss_build.specs.Built.{empty_root, ids}
use Rattle.ss_build.proofs.claims.add_roots.Given as goal

abbrev pub invariant-loop-root : goal.invariant-loop-root
invariant-loop-root l = l.claims.items ≡ l.initial.claims.items ++ map empty_root (filter (λ r. not (has r (ids l.initial.claims.items))) (take l.root-index l.root-items))
