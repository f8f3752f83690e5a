use Rattle.std.proofs.Common.{rules, subst, ap, sym, ◌∙◌}
use Rattle.ss_town.specs.Steps.{Joining}
use Rattle.ss_town.proofs.Desks.{joins_first, joins_next, joins_in, joins_of}
use Rattle.ss_town.proofs.town.Town.back.Goals as goal

pub loop-pass-preserved : goal.loop-pass-preserved
loop-pass-preserved g c = let ds = c.args.self.now.desks.items in let ps = c.args.into.now.passes.items in let os = c.args.other.passes.items in let qs = c.loop-pass.into.passes.items in
    joins_next ds ps os qs c.pop.new.self.items c.len-i.result c.in-Some.pass c.index_mut.result.now c.back.new.into
    (subst (λ l. Joining ds ps os qs l) c.in-Some.ensures.items c.loop-pass.invariant) (search rules) c.requires.into.0 c.index_mut.ensures.value c.back.ensures.same c.back.ensures.joined

pub back-requires : goal.back-requires
back-requires g c = let ds = c.args.self.now.desks.items in let ps = c.args.into.now.passes.items in let os = c.args.other.passes.items in let qs = c.loop-pass.into.passes.items in
    let rest = c.pop.new.self.items in let x = c.in-Some.pass in let i = c.len-i.result in let d = c.index.result.now in let p = c.index_mut.result.now in
    let h = subst (λ l. Joining ds ps os qs l) c.in-Some.ensures.items c.loop-pass.invariant in
    let lt = joins_in ds ps os qs rest i x h (search rules) in
    let there = ap (λ e. e.table.shared.table_id) (sym c.index.ensures) in
    record { into = ap (λ q. q.seat.table_id) c.index_mut.ensures.value ∙ (h.of.1 i d p lt ∙ there); other = joins_of ds ps os qs rest i x p d h (search rules) ∙ there }

pub loop-pass-init : goal.loop-pass-init
loop-pass-init g c = joins_first c.args.self.now.desks.items c.args.into.now.passes.items c.args.other.passes.items c.requires.into c.requires.other
