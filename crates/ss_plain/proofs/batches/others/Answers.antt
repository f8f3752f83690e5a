use Rattle.std.proofs.Common.{rules, not, ◌==◌}
use Rattle.std.proofs.lemmas.Fn.{filter_same}
use Rattle.ss_bso.specs.declared.account.Staged.{Staged}
use Rattle.ss_plain.proofs.batches.others.Goals as goal

pub returns : goal.returns
returns c = filter_same _ (λ (batch : Staged). not (batch.number == c.args.number)) _ (λ x b f h. search rules) _ _ c.retain.ensures.filtered
