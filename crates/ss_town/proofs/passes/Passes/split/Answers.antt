use Rattle.std.proofs.Common.{rules, subst, sym, ◌+◌, set}
use Rattle.ss_town.specs.Steps.{Halving}
use Rattle.ss_town.proofs.Desks.{halves_next, halves_many}
use Rattle.ss_town.proofs.passes.Passes.split.Goals as goal

pub split-requires-clause-many : goal.split-requires-clause-many
split-requires-clause-many g c = let i = c.loop-i.invariant in let ps = c.args.self.now.passes.items in
    halves_many c.args.town.now.desks.items ps c.loop-i.self.passes.items c.loop-i.others.items c.loop-i.i c.index_mut.result.now i.halves (search rules) c.index_mut.ensures.value (c.requires.many c.loop-i.i (search rules))

pub loop-i-preserved : goal.loop-i-preserved
loop-i-preserved g c = let i = c.loop-i.invariant in let ps = c.args.self.now.passes.items in record {
  halves = subst (λ l. Halving c.args.town.now.desks.items ps (set c.loop-i.self.passes.items c.loop-i.i c.split.new.self) l (c.loop-i.i + 1)) (sym c.push_reserved.ensures.items)
      (halves_next c.args.town.now.desks.items ps c.loop-i.self.passes.items c.loop-i.others.items c.loop-i.i c.index_mut.result.now c.split.new.self c.split.result i.halves (search rules) c.index_mut.ensures.value (c.split.ensures.same, c.split.ensures.new) c.split.ensures.lower c.split.ensures.upper);
  room = search rules;
  end = i.end;
}
