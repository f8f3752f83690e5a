use Rattle.crossbeam_channel.specs.Claims.{view}
use Rattle.ss_serve.proofs.Giving.{forks_none, merges}
use Rattle.ss_serve.proofs.crew.lay_down.Goals as goal

pub another-bare-requires-clause-rule : goal.another-bare-requires-clause-rule
another-bare-requires-clause-rule g c = forks_none g.L.Told.told c.args.place.now.id (view c.args.place.now)

pub absorb-requires-clause-rule : goal.absorb-requires-clause-rule
absorb-requires-clause-rule g c = let p = c.another-bare.new.pass in let q = c.replace-theirs.result in merges g.L.Told.told p.id (view p) q.id (view q)
