use Rattle.std.proofs.Common.{◌≡◌, true}
use Rattle.ss_record.specs.Items.{is_fit}
use Rattle.ss_tree.specs.Trees.{node}
use Rattle.ss_tree.specs.Entries.{tree}
use Rattle.ss_device.specs.Edits.{left_node}
use Rattle.ss_tree.specs.Trees.{item_of}
use Rattle.ss_device.proofs.Composed.{delete_same, left_change, still, through}
use Rattle.ss_device.proofs.deletions.take_out.Goals as goal

pub touch-requires-clause-there : goal.touch-requires-clause-there
touch-requires-clause-there c =
    let x = c.args.doomed.from in
    still (left_node c.args.id.now) (node x (tree c.args.tree.now)) (node x (tree c.remove_all.new.tree)) (left_change (tree c.args.tree.now) (tree c.remove_all.new.tree) c.args.id.now x c.requires.folder_outside c.remove_all.ensures.nodes) c.requires.folder_there

pub touch-requires-clause-content : goal.touch-requires-clause-content
touch-requires-clause-content c =
    let x = c.args.doomed.from in
    through (left_node c.args.id.now) (node x (tree c.args.tree.now)) (node x (tree c.remove_all.new.tree)) (λ n. n.content ≡ c.args.doomed.content) (left_change (tree c.args.tree.now) (tree c.remove_all.new.tree) c.args.id.now x c.requires.folder_outside c.remove_all.ensures.nodes) c.requires.content_is

pub touch-requires-clause-fit : goal.touch-requires-clause-fit
touch-requires-clause-fit c =
    let x = c.args.doomed.from in
    through (left_node c.args.id.now) (node x (tree c.args.tree.now)) (node x (tree c.remove_all.new.tree)) (λ n. is_fit (item_of n) ≡ true) (left_change (tree c.args.tree.now) (tree c.remove_all.new.tree) c.args.id.now x c.requires.folder_outside c.remove_all.ensures.nodes) c.requires.content_fit

pub returns : goal.returns
returns c =
    delete_same (tree c.args.tree.now) (tree c.remove_all.new.tree) (tree c.touch.new.tree) c.args.time c.args.id.now c.args.doomed.from c.requires.valid c.requires.folder c.remove_all.ensures.nodes c.touch.ensures.nodes
