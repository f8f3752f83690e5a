use Rattle.ss_desk.specs.Desks.{view}
use Rattle.ss_desk.proofs.Covering.{covers_again}
use Rattle.cases_threads.proofs.turns.threads.add_in_four.Goals as goal

pub returns-clause-covers : goal.returns-clause-covers
returns-clause-covers g c = let left = c.join-pass.result.0.0 in let right = c.join-pass.result.1.0 in
    covers_again (view c.args.pass) (view c.split-other.new.self) (view c.split-other.result) (view left) (view right) (view c.back.new.into) c.split-other.ensures.lower c.split-other.ensures.upper c.back.ensures.joined
    c.join-pass.ensures.first.1 c.join-pass.ensures.second.1
