use Rattle.std.proofs.Common.{map, ap, ◌∙◌}
use Rattle.ss_bso.specs.declared.account.Plain.{Plain}
use Rattle.ss_bso.specs.Limits.{rows_of}
use Rattle.ss_query.specs.Told.{by_name}
use Rattle.ss_account.specs.Steps.{counted_rows}
use Rattle.ss_account.proofs.Stepping.{numbers-exact}
use Rattle.ss_account.proofs.state.State.numbers.Goals as goal

pub returns : goal.returns
returns c =
    let rows = ap (λ (a : Plain). a.rows) c.self.view_is in
    let times = c.as_slice.ensures.value ∙ ap (λ (a : Plain). a.collections) c.self.view_is in
    c.new.ensures
    ∙ c.in_ok-numbers.ensures
    ∙ (λ i. map (λ entry. (entry.0, counted_rows c.args.measure (rows_of entry.0 (rows i)))) (by_name (times i)))
    ∙ numbers-exact c.args.measure c.args.self.now c.requires
