use Rattle.std.proofs.Common.{take}
use Rattle.ss_dupe.proofs.ReadOut.{SoFar}
use Rattle.ss_dupe.proofs.plain.PlainTree.read.Given as goal

abbrev pub invariant-loop-node : goal.invariant-loop-node
invariant-loop-node l = SoFar l.source (take l.node-index l.node-items) l.plain
