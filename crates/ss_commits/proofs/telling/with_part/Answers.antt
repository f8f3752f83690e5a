use Rattle.std.proofs.Common.{sym, ◌∙◌}
use Rattle.ss_commits.specs.Drafts.{changes_in}
use Rattle.ss_commits.proofs.Told.{part_added, part_refused}
use Rattle.ss_commits.proofs.telling.with_part.Goals as goal

pub returns-in_ok-push-in-Some-2 : goal.returns-in_ok-push-in-Some-2
returns-in_ok-push-in-Some-2 c =
    part_added (changes_in c.args.draft) c.pop.new.self.items c.push.new.self.items c.in-Some.last c.in-Some-2.change c.args.part
    c.in-Some.ensures.items c.in_ok-push-in-Some-2.ensures.items (sym c.in_ok-change.ensures ∙ c.in-Some-2.is)

pub returns-in-None : goal.returns-in-None
returns-in-None c =
    part_refused (changes_in c.args.draft) c.pop.new.self.items c.in-Some.last c.args.part c.in-Some.ensures.items (sym c.in_ok-change.ensures ∙ c.in-None.is)
