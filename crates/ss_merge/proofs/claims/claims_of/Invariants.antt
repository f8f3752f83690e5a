use Rattle.std.proofs.Common.{◌≡◌, take, map, filter, bytes_eq}
use Rattle.std.specs.HashMap.{get}
use Rattle.ss_dupe.specs.Plains.{view}
use Rattle.ss_merge.specs.Survivors.{survives}
use Rattle.ss_merge.specs.Links.{claim_by}
use Rattle.ss_merge.proofs.claims.claims_of.Given as goal

abbrev pub invariant-loop-id : goal.invariant-loop-id
invariant-loop-id l = l.claims.items ≡ map (claim_by (view l.plains) (get bytes_eq l.finals)) (filter (survives (view l.plains)) (take l.id-index l.ids))
