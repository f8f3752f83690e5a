use Rattle.std.proofs.Common.{◌≡◌, ℕ, List, None, cond, bytes_eq, ap, ◌∙◌, subst}
use Rattle.ss_tree.specs.Trees.{IsSame}
use Rattle.ss_tree.specs.Entries.{tree}
use Rattle.ss_device.specs.Device.{AreById, dead_at}
use Rattle.ss_device.specs.Edits.{tree_after_add, edit_time}
use Rattle.ss_device.proofs.Deaths.{added_device, edited_from, taken_told}
use Rattle.ss_device.proofs.device.Device.add.Goals as goal

pub invariant_of-self-2 : goal.invariant_of-self-2
unfolding AreById
invariant_of-self-2 c =
    let told : (y : List ℕ) → dead_at y c.remove.new.self.entries ≡ cond (bytes_eq y c.args.item.id) None (dead_at y c.self.inside.dead.entries) =
    λ y. taken_told _ _ c.in_ok-id.id c.remove.ensures.updates.0 y ∙ ap (λ x. cond (bytes_eq y x) None (dead_at y c.self.inside.dead.entries)) (c.in_ok-id.ensures ∙ c.id.ensures.id) in
    added_device c.self.inside.tree c.add_to.new.tree _ _ _ _ c.clamp.result c.args.parent.now c.args.item c.self.invariant c.remove.ensures.ordered c.in_ok-add_to.ensures.same told

pub returns-clause-added : goal.returns-clause-added
returns-clause-added c =
    let told : (y : List ℕ) → dead_at y c.remove.new.self.entries ≡ cond (bytes_eq y c.args.item.id) None (dead_at y c.self.inside.dead.entries) =
    λ y. taken_told _ _ c.in_ok-id.id c.remove.ensures.updates.0 y ∙ ap (λ x. cond (bytes_eq y x) None (dead_at y c.self.inside.dead.entries)) (c.in_ok-id.ensures ∙ c.id.ensures.id) in
    edited_from c.args.self.now c.self.inside.tree _ _ _ c.self.view_is c.add_to.new.tree _ (λ t. tree_after_add (edit_time c.args.now) c.args.parent.now c.args.item t) (λ t dead y. cond (bytes_eq y c.args.item.id) None (dead_at y dead))
    (subst (λ time. IsSame (tree c.add_to.new.tree) (tree_after_add time c.args.parent.now c.args.item (tree c.self.inside.tree))) c.clamp.ensures c.in_ok-add_to.ensures.same) told
