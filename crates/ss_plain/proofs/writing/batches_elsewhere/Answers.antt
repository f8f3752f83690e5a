use Rattle.std.proofs.Common.{rules, not, bytes_eq}
use Rattle.std.proofs.lemmas.Fn.{filter_same}
use Rattle.ss_bso.specs.declared.account.Staged.{Staged}
use Rattle.ss_plain.proofs.writing.batches_elsewhere.Goals as goal

pub returns : goal.returns
returns c = filter_same _ (λ (batch : Staged). not (bytes_eq batch.collection c.args.collection.now)) _ (λ x b f h. search rules) _ _ c.retain.ensures.filtered
