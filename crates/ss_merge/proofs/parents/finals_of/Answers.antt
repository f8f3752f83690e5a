use Rattle.std.proofs.Common.{◌∙◌, cond, ap, length, bytes_eq, arith}
use Rattle.std.specs.Map.{lookup}
use Rattle.std.specs.HashMap.{get}
use Rattle.ss_dupe.specs.Plains.{view}
use Rattle.ss_merge.specs.Parents.{final}
use Rattle.ss_merge.specs.Links.{or_else}
use Rattle.ss_merge.proofs.Holding.{holds_none, holds_more, holds_all}
use Rattle.ss_merge.proofs.Folding.{chosen_stays, final_is}
use Rattle.ss_merge.proofs.parents.finals_of.Goals as goal
use Rattle.ss_dupe.proofs.Newness.{has-at}

pub nearest_of-requires-clause-inside : goal.nearest_of-requires-clause-inside
nearest_of-requires-clause-inside c = chosen_stays (view c.args.plains.now) c.args.ids.now c.requires (get bytes_eq c.in_ok-chosen.chosen) c.in_ok-chosen.ensures

pub loop-id-init : goal.loop-id-init
loop-id-init c = holds_none (get bytes_eq c.with_hasher-found.result) (final (view c.args.plains.now) (length c.args.ids.now)) c.args.ids.now (λ x. ap (lookup (bytes_eq x)) c.with_hasher-found.ensures.empty)

pub loop-id-preserved : goal.loop-id-preserved
loop-id-preserved c =
    let s = view c.args.plains.now in
    let ids = c.args.ids.now in
    let y = c.id-item.result in
    let old = get bytes_eq c.loop-id.found in
    let inside = has-at ids c.loop-id.id-index y c.loop-id-test.true c.id-item.is in
    let is = final_is s ids c.requires c.in_ok-folders.folders c.in_ok-folders.ensures (get bytes_eq c.in_ok-chosen.chosen) c.in_ok-chosen.ensures (get bytes_eq c.in_ok-roots.roots y) y inside (c.in_ok-roots.ensures y inside) in
    holds_more old (get bytes_eq c.link.new.found) (final s (length ids)) ids c.loop-id.id-index y
    c.loop-id-test.true c.id-item.is c.loop-id.invariant
    (λ x. c.in_ok-link.ensures x ∙ ap (λ o. cond (bytes_eq y x) (or_else o (old x)) (old x)) (c.final_of-parent.ensures ∙ is))

pub returns : goal.returns
returns c = holds_all (get bytes_eq c.loop-id.found) (final (view c.args.plains.now) (length c.args.ids.now)) c.args.ids.now c.loop-id.id-index (omega arith) c.loop-id.invariant
