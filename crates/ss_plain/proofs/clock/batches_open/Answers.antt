use Rattle.std.proofs.Common.{rules}
use Rattle.std.proofs.lemmas.Fn.{filter_same}
use Rattle.ss_bso.specs.Account.{is_open}
use Rattle.ss_plain.proofs.clock.batches_open.Goals as goal

pub returns : goal.returns
returns c = filter_same _ (is_open c.args.moment) _ (λ x b f h. search rules) _ _ c.retain.ensures.filtered
