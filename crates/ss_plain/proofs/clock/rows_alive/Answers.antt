use Rattle.std.proofs.Common.{rules}
use Rattle.std.proofs.lemmas.Fn.{filter_same}
use Rattle.ss_bso.specs.Account.{is_alive}
use Rattle.ss_plain.proofs.clock.rows_alive.Goals as goal

pub returns : goal.returns
returns c = filter_same _ (is_alive c.args.moment) _ (λ x b f h. search rules) _ _ c.retain.ensures.filtered
