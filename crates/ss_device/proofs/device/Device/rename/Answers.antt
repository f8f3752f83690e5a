use Rattle.std.proofs.Common.{◌∙◌}
use Rattle.ss_tree.specs.Entries.{tree}
use Rattle.ss_device.specs.Edits.{tree_after_rename}
use Rattle.ss_device.proofs.Deaths.{renamed_ids, same_device}
use Rattle.ss_device.proofs.Known.{same_ids}
use Rattle.ss_device.proofs.device.Device.rename.Goals as goal

pub invariant_of-self-2 : goal.invariant_of-self-2
invariant_of-self-2 c =
    same_device c.self.inside.tree c.rename_in.new.tree _ _ _ c.self.invariant
    (λ x. same_ids x (tree c.rename_in.new.tree) (tree_after_rename c.clamp.result c.args.id.now c.args.title.now (tree c.self.inside.tree)) c.in_ok-rename_in.ensures.same ∙ renamed_ids c.clamp.result c.args.id.now c.args.title.now (tree c.self.inside.tree) x)
