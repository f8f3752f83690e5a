use Rattle.std.proofs.Common.{◌≡◌, take, bytes_eq}
use Rattle.std.specs.HashMap.{get}
use Rattle.std.specs.Map.{lookup}
use Rattle.ss_dupe.specs.Looks.{Id}
use Rattle.ss_merge.proofs.paired.names_of.Given as goal

abbrev pub invariant-loop-pair : goal.invariant-loop-pair
invariant-loop-pair l = (x : Id) → get bytes_eq l.names x ≡ lookup (bytes_eq x) (take l.pair-index l.pairs)
