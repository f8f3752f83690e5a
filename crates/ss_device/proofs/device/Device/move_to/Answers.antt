use Rattle.std.proofs.Common.{◌∙◌}
use Rattle.ss_tree.specs.Entries.{tree}
use Rattle.ss_device.specs.Edits.{tree_after_move}
use Rattle.ss_device.proofs.Deaths.{moved_ids, same_device}
use Rattle.ss_device.proofs.Known.{same_ids}
use Rattle.ss_device.proofs.device.Device.move_to.Goals as goal

pub invariant_of-self-2 : goal.invariant_of-self-2
invariant_of-self-2 c =
    same_device c.self.inside.tree c.move_in.new.tree _ _ _ c.self.invariant
    (λ x. same_ids x (tree c.move_in.new.tree) (tree_after_move c.clamp.result c.args.id.now c.args.parent.now (tree c.self.inside.tree)) c.in_ok-move_in.ensures.same ∙ moved_ids c.clamp.result c.args.id.now c.args.parent.now (tree c.self.inside.tree) x)
