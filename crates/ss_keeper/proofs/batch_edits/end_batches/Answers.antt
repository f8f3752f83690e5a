use Rattle.std.proofs.Common.{rules, not}
use Rattle.std.proofs.lemmas.Fn.{filter_same}
use Rattle.std.specs.List.{list_any}
use Rattle.ss_bso.specs.Changes.{ends}
use Rattle.ss_keeper.proofs.batch_edits.end_batches.Goals as goal

pub returns : goal.returns
returns c =
    filter_same _ (λ staged. not (list_any (ends staged.number) c.args.changes.now)) _ (λ x b f h. search rules) c.args.held.now.items c.retain.new.self.items c.retain.ensures.filtered
