use Rattle.ss_site.proofs.Tables.{added_or_not, keeps_pushed, knows_pushed}
use Rattle.ss_site.proofs.table.Table.add.Goals as goal

pub returns-clause-same : goal.returns-clause-same
returns-clause-same c = added_or_not c.push.result c.args.self.now c.push.new.self _ c.fresh.ensures c.push.ensures.added c.push.ensures.refused

pub returns-clause-place : goal.returns-clause-place
returns-clause-place c = knows_pushed c.push.result c.args.folder.now c.args.self.now c.push.new.self _ c.in_ok-folder.ensures.ok c.push.ensures.added

pub returns-clause-places : goal.returns-clause-places
returns-clause-places c = keeps_pushed c.push.result c.args.self.now c.push.new.self _ c.push.ensures.added c.push.ensures.refused
