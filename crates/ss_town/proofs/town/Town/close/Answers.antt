use Rattle.std.proofs.Common.{rules, subst, sym, ap, ◌∙◌, arith}
use Rattle.ss_town.specs.Places.{HandsBack}
use Rattle.ss_town.proofs.Sorting.{handed_rise}
use Rattle.ss_town.proofs.town.Town.close.Goals as goal

pub returns-clause-handed : goal.returns-clause-handed
returns-clause-handed g c = let k = g.T.Journaled in subst (λ u. HandsBack k.ticket_of k.pass_of k.fixed k.entries k.legal u c.args.passes.passes.items c.close_from.result.items) c.as_slice.ensures.value c.close_from.ensures.handed

pub returns-clause-sorted : goal.returns-clause-sorted
returns-clause-sorted g c = let k = g.T.Journaled in let t = c.args.self in let bs = c.close_from.result.items in
    let handed = subst (λ u. HandsBack k.ticket_of k.pass_of k.fixed k.entries k.legal u c.args.passes.passes.items bs) c.as_slice.ensures.value c.close_from.ensures.handed in
    handed_rise t.uids.items bs t.rise (omega (arith, handed.0, c.requires.of.0, t.alike, t.uids.ok.0, t.desks.ok.0)) (λ i u x at. (handed.1 i u x at).0)
