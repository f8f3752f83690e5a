use Rattle.std.proofs.Common.{◌≡◌, ◌≢◌, ◌++◌, ℕ, Some, take}
use Rattle.ss_tree.specs.declared.entries.Entry.{Entry}
use Rattle.ss_tree.specs.Entries.{entry}
use Rattle.ss_tree.proofs.Valid.{In}
use Rattle.ss_device.specs.Forms.{IsItem}
use Rattle.ss_device.specs.Writing.{node_lines}
use Rattle.ss_device.proofs.writing.push_nodes.Given as goal

abbrev pub invariant-loop-node : goal.invariant-loop-node
invariant-loop-node l = record {
  lines : l.out.items ≡ l.initial.out.items ++ node_lines l.tree (take l.node-index l.node-items);
  formed : (k : ℕ) (e : Entry) → In k (take l.node-index l.node-items) → k ≢ 0 → entry k l.tree ≡ Some e → IsItem l.tree e;
}
