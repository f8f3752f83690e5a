use Rattle.std.proofs.Common.{◌∙◌, ap, sym}
use Rattle.ss_record.specs.Ids.{has, roots}
use Rattle.ss_build.proofs.Chosen.{next_more, next_all}
use Rattle.ss_build.proofs.proposals.next_of.Goals as goal

pub loop-i-preserved : goal.loop-i-preserved
loop-i-preserved c =
    c.in_ok-push.ensures.items
    ∙ next_more c.args.claims.now c.loop-i.next.items c.in_ok-listed.listed.items c.in_ok-claimed.claimed.items c.in_ok-listers.listers.items c.args.fallback c.loop-i.i c.choose-chosen.result c.is_root-root.result
    c.index.result.now c.index-in-loop-i.result.now c.index-in-loop-i-2.result.now c.index-claims-i.result c.requires.items c.loop-i-test.true c.in_ok-listed.ensures c.in_ok-claimed.ensures c.in_ok-listers.ensures c.requires.fallback c.index-claims-i.is
    (c.is_root-root.ensures ∙ (ap (λ x. has x roots) c.id.ensures.id ∙ ap (λ e. has e.item.id roots) (sym c.index-claims-i.is))) c.index.ensures c.index-in-loop-i.ensures c.index-in-loop-i-2.ensures c.loop-i.invariant c.choose-chosen.ensures

pub returns : goal.returns
returns c = next_all c.args.claims.now c.loop-i.next.items c.loop-i.i c.loop-i-test.false c.loop-i.invariant
