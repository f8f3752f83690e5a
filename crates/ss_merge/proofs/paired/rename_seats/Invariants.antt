use Rattle.std.proofs.Common.{take, bytes_eq}
use Rattle.std.specs.HashMap.{get}
use Rattle.ss_merge.specs.Links.{by_map, look_by}
use Rattle.ss_merge.proofs.Naming.{Moved}
use Rattle.ss_merge.proofs.paired.rename_seats.Given as goal

abbrev pub invariant-loop-id : goal.invariant-loop-id
invariant-loop-id l = Moved (by_map (get bytes_eq l.names)) (get bytes_eq l.initial.rest) (get bytes_eq l.rest) (look_by (get bytes_eq l.named)) (take l.id-index l.ids)
