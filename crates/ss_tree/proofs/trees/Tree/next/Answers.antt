use Rattle.std.proofs.Common.{◌≡◌, Some, sym, ◌∙◌}
use Rattle.ss_tree.specs.Entries.{above}
use Rattle.ss_tree.proofs.Seen.{next_is}
use Rattle.ss_tree.proofs.Live.{live_next}
use Rattle.ss_tree.specs.Cells.{listing}
use Rattle.ss_tree.proofs.trees.Tree.next.Goals as goal

pub returns-in-Some-clause-node : goal.returns-in-Some-clause-node
returns-in-Some-clause-node c =
    let up : above c.args.self.now c.args.node ≡ Some c.in-Some.field-0 = sym c.parent.ensures.node ∙ c.in-Some.is in
    let up_in : above (listing c.self.inside.cells.items) c.args.node ≡ Some c.in-Some.field-0 = rw c.self.view_is up in
    rw (up, ← c.self.view_is, c.of_link.ensures, c.next_at.ensures, c.deref.ensures.value, c.number.ensures) (next_is c.self.inside.cells.items c.self.invariant.0 c.args.node c.in-Some.field-0 up_in)

pub returns-in-Some-clause-live : goal.returns-in-Some-clause-live
returns-in-Some-clause-live c =
    let up : above c.args.self.now c.args.node ≡ Some c.in-Some.field-0 = sym c.parent.ensures.node ∙ c.in-Some.is in
    let up_in : above (listing c.self.inside.cells.items) c.args.node ≡ Some c.in-Some.field-0 = rw c.self.view_is up in
    rw (← c.self.view_is, c.of_link.ensures, c.next_at.ensures, c.deref.ensures.value, c.number.ensures, next_is c.self.inside.cells.items c.self.invariant.0 c.args.node c.in-Some.field-0 up_in) (live_next (listing c.self.inside.cells.items) c.args.node c.in-Some.field-0 c.self.invariant.0.kept.is_tree)
