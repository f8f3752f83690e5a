use Rattle.std.proofs.Common.{◌≡◌, map, bytes_eq}
use Rattle.std.specs.HashMap.{get}
use Rattle.ss_merge.specs.Links.{by_map}
use Rattle.ss_merge.proofs.paired.names_of_all.Given as goal

abbrev pub invariant-loop-id : goal.invariant-loop-id
invariant-loop-id l = l.found.items ≡ map (by_map (get bytes_eq l.names)) l.yielded
