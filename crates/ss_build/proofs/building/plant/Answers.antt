use Rattle.ss_tree.specs.Trees.{IsSame}
use Rattle.ss_tree.specs.Entries.{tree}
use Rattle.ss_tree.proofs.Valid.{valid_tree}
use Rattle.ss_build.specs.Built.{tree_of}
use Rattle.std.proofs.Common.{◌∙◌, ◌<◌, length, arith}
use Rattle.ss_build.proofs.Taking.{parents_length}
use Rattle.ss_build.proofs.Grown.{same_planted, valid_planted, tree_planted, numbered_planted}
use Rattle.ss_build.proofs.building.plant.Goals as goal

pub entries_of-requires-clause-same_length : goal.entries_of-requires-clause-same_length
entries_of-requires-clause-same_length c = parents_length c.args.claims.now c.args.parents.now c.requires.parents

pub from_entries-requires-clause-tree : goal.from_entries-requires-clause-tree
from_entries-requires-clause-tree c = tree_planted c.args.claims.now c.args.parents.now c.args.order.now c.in_ok-entries.entries.items c.requires.items c.requires.parents c.requires.order c.requires.bounded c.in_ok-entries.ensures

pub from_entries-requires-clause-numbered : goal.from_entries-requires-clause-numbered
from_entries-requires-clause-numbered c = λ k h.
    let l : k < length c.in_ok-entries.entries.items = numbered_planted c.args.claims.now c.args.parents.now c.args.order.now c.in_ok-entries.entries.items c.requires.items c.requires.parents c.requires.order c.requires.bounded c.in_ok-entries.ensures k h in
    omega arith

pub returns : goal.returns
returns c =
    let es = c.args.claims.now in
    let made = c.in_ok-tree.ensures in
    let same : IsSame (tree c.in_ok-entries.entries.items) (tree_of es) = same_planted es c.args.parents.now c.args.order.now _ c.requires.items c.requires.parents c.requires.order c.requires.bounded c.in_ok-entries.ensures in
    record {
      same = λ x. made.same x ∙ same x;
      valid = valid_tree c.in_ok-tree.tree made.valid;
    }
