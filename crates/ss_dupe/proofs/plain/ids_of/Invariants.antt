use Rattle.std.proofs.Common.{◌≡◌, take}
use Rattle.ss_dupe.specs.Reading.{ids_at}
use Rattle.ss_dupe.proofs.plain.ids_of.Given as goal

abbrev pub invariant-loop-node : goal.invariant-loop-node
invariant-loop-node l = l.ids.items ≡ ids_at l.source (take l.node-index l.nodes)
