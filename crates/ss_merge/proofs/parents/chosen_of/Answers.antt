use Rattle.std.proofs.Common.{◌∙◌, cond, ap, length, bytes_eq}
use Rattle.std.specs.Map.{lookup}
use Rattle.std.specs.HashMap.{get}
use Rattle.ss_dupe.specs.Plains.{view}
use Rattle.ss_merge.specs.Parents.{chosen}
use Rattle.ss_merge.specs.Links.{or_else}
use Rattle.ss_merge.proofs.Holding.{holds_none, holds_more}
use Rattle.ss_merge.proofs.Folding.{chosen_by}
use Rattle.ss_merge.proofs.parents.chosen_of.Goals as goal
use Rattle.ss_dupe.proofs.Newness.{has-at}

pub loop-id-init : goal.loop-id-init
loop-id-init c = holds_none (get bytes_eq c.with_hasher-found.result) (chosen (view c.args.plains.now) (length c.args.ids.now)) c.args.ids.now (λ x. ap (lookup (bytes_eq x)) c.with_hasher-found.ensures.empty)

pub loop-id-preserved : goal.loop-id-preserved
loop-id-preserved c =
    let s = view c.args.plains.now in
    let ids = c.args.ids.now in
    let y = c.id-item.result in
    let old = get bytes_eq c.loop-id.found in
    let is = chosen_by s ids c.args.folders.now c.requires y (has-at ids c.loop-id.id-index y c.loop-id-test.true c.id-item.is) in
    holds_more old (get bytes_eq c.link.new.found) (chosen s (length ids)) ids c.loop-id.id-index y
    c.loop-id-test.true c.id-item.is c.loop-id.invariant
    (λ x. c.in_ok-link.ensures x ∙ ap (λ o. cond (bytes_eq y x) (or_else o (old x)) (old x)) (c.chosen.ensures ∙ is))
