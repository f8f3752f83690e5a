use Rattle.std.proofs.Common.{Some, cond, ap, ◌∙◌, subst}
use Rattle.ss_tree.specs.Trees.{IsSame}
use Rattle.ss_tree.specs.Entries.{tree}
use Rattle.ss_device.specs.Device.{AreById, dead_at}
use Rattle.ss_device.specs.Edits.{tree_after_delete, edit_time, is_within}
use Rattle.ss_device.proofs.Deaths.{within_told, deleted_device, edited_from}
use Rattle.ss_device.proofs.device.Device.delete.Goals as goal

pub invariant_of-self : goal.invariant_of-self
unfolding AreById
invariant_of-self c =
    let told = within_told c.self.inside.dead.entries c.in_ok-dead.dead.entries c.clamp-time.result (is_within (tree c.self.inside.tree) c.args.id.now) c.in_ok-dead.ensures.told in
    deleted_device c.self.inside.tree c.take_out.new.tree c.self.inside.dead.entries c.in_ok-dead.dead.entries _ _ c.clamp-time.result c.args.id.now c.self.invariant c.in_ok-dead.ensures.ordered c.take_out.ensures told

pub returns-clause-deleted : goal.returns-clause-deleted
returns-clause-deleted c =
    let told = within_told c.self.inside.dead.entries c.in_ok-dead.dead.entries c.clamp-time.result (is_within (tree c.self.inside.tree) c.args.id.now) c.in_ok-dead.ensures.told in
    edited_from c.args.self.now c.self.inside.tree _ _ _ c.self.view_is c.take_out.new.tree c.in_ok-dead.dead.entries (λ t. tree_after_delete (edit_time c.args.now) c.args.id.now t) (λ t dead y. cond (is_within t c.args.id.now y) (Some (edit_time c.args.now)) (dead_at y dead))
    (subst (λ time. IsSame (tree c.take_out.new.tree) (tree_after_delete time c.args.id.now (tree c.self.inside.tree))) c.clamp-time.ensures c.take_out.ensures)
    (λ y. told y ∙ ap (λ time. cond (is_within (tree c.self.inside.tree) c.args.id.now y) (Some time) (dead_at y c.self.inside.dead.entries)) c.clamp-time.ensures)
