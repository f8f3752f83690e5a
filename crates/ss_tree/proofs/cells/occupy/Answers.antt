use Rattle.std.proofs.Common.{arith}
use Rattle.ss_tree.proofs.Grown.{seats_more}
use Rattle.ss_tree.proofs.cells.occupy.Goals as goal

pub returns-else-node-len : goal.returns-else-node-len
returns-else-node-len c = seats_more c.args.cells.now.items c.args.entry c.push_reserved.new.self.items (omega (arith, c.if-node-len.false, c.requires.place, c.number-node.ensures, c.len.ensures)) c.push_reserved.ensures.items
