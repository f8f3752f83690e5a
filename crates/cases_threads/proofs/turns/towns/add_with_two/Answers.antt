use Rattle.ss_town.specs.Town.{passes_of}
use Rattle.ss_town.proofs.Covered.{covers_then, covers_halves}
use Rattle.cases_threads.proofs.turns.towns.add_with_two.Goals as goal

pub returns-clause-covers : goal.returns-clause-covers
returns-clause-covers g c =
    covers_halves (passes_of c.args.passes.now) (passes_of c.split.new.self) (passes_of c.in_ok-others.others) (passes_of c.add-unlisted.new.passes) (passes_of c.add-third.new.passes) (passes_of c.back.new.into)
    c.in_ok-others.ensures.halves
    (covers_then _ _ _ c.add-first.ensures.covers (covers_then _ _ _ c.add-full.ensures.covers c.add-unlisted.ensures.covers))
    (covers_then _ _ _ c.add-second.ensures.covers c.add-third.ensures.covers) c.back.ensures.joined
