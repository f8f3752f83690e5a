use Rattle.crossbeam_channel.specs.Claims.{view}
use Rattle.crossbeam_channel.specs.Ends.{sends_on, ruled_capacity}
use Rattle.ss_serve.specs.declared.channel.Job.TheVariants.{Link}
use Rattle.ss_serve.proofs.Giving.{puts, learns_none}
use Rattle.ss_serve.proofs.accept.offer.Goals as goal

pub send_as-requires-clause-rule : goal.send_as-requires-clause-rule
send_as-requires-clause-rule g c = let p = c.args.place.now in let t = g.L.Told.told in
    (puts t (ruled_capacity (sends_on c.args.sender.now)) p.id (view p) (Link c.args.link) c.requires.parts c.requires.new, learns_none t p.id (view p))
