use Rattle.std.proofs.Common.{rules}
use Rattle.std.proofs.lemmas.Fn.{filter_same}
use Rattle.ss_keeper.specs.Together.{leaves_time}
use Rattle.ss_keeper.proofs.making.cut_times.Goals as goal

pub returns-clause-times : goal.returns-clause-times
returns-clause-times c =
    filter_same _ (λ entry. leaves_time c.args.edits.now entry.0) _ (λ x b f h. search rules) c.args.times.now.items c.retain.new.self.items c.retain.ensures.filtered
