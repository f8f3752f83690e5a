use Rattle.std.proofs.Common.{◌≡◌, ◌&&◌, take, bytes_eq}
use Rattle.ss_record.specs.Ids.{has}
use Rattle.ss_dupe.specs.Looks.{Id, is_in}
use Rattle.ss_dupe.specs.Plains.{view}
use Rattle.ss_dupe.specs.News.{has_pair}
use Rattle.ss_dupe.proofs.rounds.shared.Given as goal

abbrev pub invariant-loop-id : goal.invariant-loop-id
invariant-loop-id l = (x : Id) (y : Id) → has_pair x y l.pairs.items ≡ (bytes_eq x y && (has x (take l.id-index l.id-items) && is_in (view l.plains).remote x))
