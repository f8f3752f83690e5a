use Rattle.std.proofs.Common.{ap, ◌∙◌, ◌++◌}
use Rattle.std.specs.Option.{option_to_list}
use Rattle.ss_flat.proofs.Putting.{put_more}
use Rattle.ss_flat.proofs.flat.Flat.put_all.Goals as goal

pub entries-preserved : goal.entries-preserved
entries-preserved c =
    put_more c.entries.invariant c.requires.apart c.pop.new.self.items (c.in-Some.id, c.in-Some.entry) (c.pop.ensures.items ∙ ap (λ o. c.pop.new.self.items ++ option_to_list o) c.in-Some.is)
    c.put.new.self c.put.ensures.kind c.put.ensures.joins c.put.ensures.others c.put.ensures.spare
