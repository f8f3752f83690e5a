use Rattle.ss_dump.specs.Stages.{kept_in}
use Rattle.ss_dump.proofs.Told.{part_added}
use Rattle.ss_dump.proofs.telling.with_part.Goals as goal

pub returns-in_ok-push-in-Some : goal.returns-in_ok-push-in-Some
returns-in_ok-push-in-Some c =
    part_added (kept_in c.args.draft) c.pop.new.self.items c.push.new.self.items c.in-Some.batch c.in_ok-grown-in-Some.field-0 c.args.part
    c.in-Some.ensures.items c.in_ok-push-in-Some.ensures.items c.in_ok-grown-in-Some.ensures
