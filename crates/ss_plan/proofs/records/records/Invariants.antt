use Rattle.std.proofs.Common.{◌≡◌, ℕ, Some, true, map, take}
use Rattle.ss_record.specs.Items.{is_fit}
use Rattle.ss_tree.specs.declared.entries.Entry.{Entry}
use Rattle.ss_tree.specs.Entries.{entry, tree}
use Rattle.ss_tree.proofs.Valid.{In}
use Rattle.ss_plan.specs.Plan.{puts, record_for}
use Rattle.ss_tree.specs.Entries.{id_at}
use Rattle.ss_plan.proofs.records.records.Given as goal

abbrev pub invariant-loop-node : goal.invariant-loop-node
invariant-loop-node l = record {
  parts : l.parts.items ≡ puts (record_for (tree l.tree) l.readings) (map (id_at l.tree) (take l.node-index l.node-items));
  fit : (k : ℕ) (e : Entry) → In k (take l.node-index l.node-items) → entry k l.tree ≡ Some e → is_fit e.item ≡ true;
}
