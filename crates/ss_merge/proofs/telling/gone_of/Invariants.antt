use Rattle.std.proofs.Common.{◌≡◌, ◌&&◌, ◌||◌, not, take, filter}
use Rattle.ss_dupe.specs.Looks.{is_in, is_places}
use Rattle.ss_dupe.specs.Plains.{view}
use Rattle.ss_merge.specs.Survivors.{survives}
use Rattle.ss_merge.proofs.telling.gone_of.Given as goal

abbrev pub invariant-loop-id : goal.invariant-loop-id
invariant-loop-id l = l.gone.items ≡ filter (λ x. is_in (view l.plains).remote x && not (is_places x || survives (view l.plains) x)) (take l.id-index l.ids)
