use Rattle.std.proofs.Common.{◌∙◌, ◌++◌, ◌∷◌, [], ap, ap₂, sym}
use Rattle.std.proofs.lemmas.List.{map_more}
use Rattle.ss_tree.specs.Entries.{top_entry}
use Rattle.ss_build.specs.Planted.{planted_entry}
use Rattle.ss_build.proofs.plants.entries_of.Goals as goal

pub loop-at-preserved : goal.loop-at-preserved
loop-at-preserved c =
    c.in_ok-push-2.ensures.items
    ∙ (ap₂ (λ x y. x ++ y ∷ []) c.loop-at.invariant c.in_ok-plant.ensures
    ∙ ap (λ w. top_entry ∷ w) (sym (map_more (planted_entry c.args.claims.now c.args.parents.now) c.args.order.now c.loop-at.at-index 0 c.loop-at-test.true)))
