use Rattle.std.proofs.Common.{ap, ◌∙◌}
use Rattle.ss_bso.specs.declared.account.Plain.{Plain}
use Rattle.ss_bso.specs.Limits.{row_bytes}
use Rattle.ss_index.specs.Numbers.{capped_number}
use Rattle.ss_account.proofs.Stepping.{used-exact}
use Rattle.ss_account.proofs.state.State.used.Goals as goal

pub returns : goal.returns
returns c = used-exact c.args.self.now c.total.result c.requires (c.total.ensures ∙ ap (λ (a : Plain). capped_number (row_bytes a.rows)) c.self.view_is)
