use Rattle.std.proofs.Common.{◌≡◌, take, map}
use Rattle.ss_dupe.specs.Plains.{view}
use Rattle.ss_merge.specs.Survivors.{same_content, taken}
use Rattle.ss_merge.specs.Merged.{origin_of}
use Rattle.ss_merge.proofs.telling.origins.Given as goal

abbrev pub invariant-loop-id : goal.invariant-loop-id
invariant-loop-id l = l.from.items ≡ map (λ x. (x, origin_of (taken (view l.plains) same_content x))) (take l.id-index l.id-items)
