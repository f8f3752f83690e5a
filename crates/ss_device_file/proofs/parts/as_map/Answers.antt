use Rattle.ss_device_file.proofs.Apart.{map_on}
use Rattle.ss_device_file.proofs.parts.as_map.Goals as goal

pub deaths-preserved : goal.deaths-preserved
deaths-preserved c = map_on c.deaths.left.items c.pop.new.self.items c.in-Some.id c.in-Some.time c.deaths.dead.entries c.insert.new.self.entries c.args.deaths.items c.requires c.in-Some.ensures.items c.deaths.invariant c.in_ok-insert.ensures.entries
