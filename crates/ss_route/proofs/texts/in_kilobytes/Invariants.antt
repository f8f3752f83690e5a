use Rattle.std.proofs.Common.{◌≡◌, map, take}
use Rattle.ss_route.proofs.texts.in_kilobytes.Given as goal

abbrev pub invariant-loop-entry : goal.invariant-loop-entry
invariant-loop-entry l = map (λ member. member.entry.now) l.members.items ≡ take l.entry-index l.usage
