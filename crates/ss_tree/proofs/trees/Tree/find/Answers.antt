use Rattle.std.proofs.Common.{◌≡◌, ◌∙◌, subst}
use Rattle.ss_tree.specs.Trees.{IsValidTree}
use Rattle.ss_tree.specs.Entries.{tree, node_of}
use Rattle.ss_tree.proofs.Valid.{valid_tree}
use Rattle.ss_tree.proofs.Live.{live_node_of}
use Rattle.ss_tree.specs.Cells.{listing}
use Rattle.ss_tree.proofs.trees.Tree.find.Goals as goal

pub returns-clause-valid : goal.returns-clause-valid
returns-clause-valid c = subst (λ es. IsValidTree (tree es)) c.self.view_is (valid_tree (listing c.self.inside.cells.items) c.self.invariant.0.kept.is_tree)

pub returns-clause-live : goal.returns-clause-live
returns-clause-live c =
    let es = listing c.self.inside.cells.items in
    let is : c.copied.result ≡ node_of c.args.id.now es = c.copied.ensures ∙ (c.get.ensures.value ∙ c.self.invariant.1 c.args.id.now) in
    rw (← c.self.view_is, is) (live_node_of c.args.id.now es c.self.invariant.0.kept.is_tree)
