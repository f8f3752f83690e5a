use Rattle.std.proofs.Common.{◌≡◌, ◌++◌, map, take}
use Rattle.std.specs.List.{flat_map}
use Rattle.ss_record.specs.Ids.{roots}
use Rattle.ss_build.specs.Built.{ids}
use Rattle.ss_build.specs.Places.{IsTakenSoFar, lists_as_told, claimed_children, names}
use Rattle.ss_build.proofs.siblings.take_front.Given as goal

abbrev pub invariant-loop-folder : goal.invariant-loop-folder
invariant-loop-folder l = record {
  names_are : names (ids l.claims) l.order.items ≡ roots ++ flat_map (claimed_children l.claims) (take l.folder l.claims);
  is_taken : IsTakenSoFar (ids l.claims) l.order.items l.taken;
  told : l.as_told.items ≡ map (lists_as_told l.claims) (take l.folder l.claims);
}
