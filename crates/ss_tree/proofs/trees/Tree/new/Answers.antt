use Rattle.std.proofs.Common.{sym, ap, ◌∙◌, subst}
use Rattle.ss_tree.specs.Entries.{entry, kids, IsTree}
use Rattle.ss_tree.proofs.Kept.{new_tree}
use Rattle.ss_tree.proofs.Alike.{new_is_same}
use Rattle.ss_tree.proofs.trees.Tree.new.Goals as goal

pub from_placed-requires-clause-tree : goal.from_placed-requires-clause-tree
from_placed-requires-clause-tree c = subst IsTree (sym c.in_ok-new_entries.ensures.entries) new_tree

pub returns : goal.returns
returns c =
    let e = c.in_ok-made.ensures in
    new_is_same c.in_ok-made.made e.valid (λ k. e.entries k ∙ ap (entry k) c.in_ok-new_entries.ensures.entries) (λ k. e.kids k ∙ ap (kids k) c.in_ok-new_entries.ensures.entries)
