use Rattle.std.proofs.Common.{rules, ap, ◌∙◌}
use Rattle.std.specs.Borrow.{Bor}
use Rattle.std.specs.Cmp.{nat_cmp_total, on_total}
use Rattle.ss_text.specs.Texts.{sorted}
use Rattle.ss_query.proofs.Sorting.{sorted_by_closure}
use Rattle.ss_bso.specs.declared.account.Staged.{Staged}
use Rattle.ss_dump.specs.Dumps.{comes_before, number_cmp}
use Rattle.ss_audit.proofs.going_on.by_number.Goals as goal

pub returns : goal.returns
returns c =
    sorted_by_closure number_cmp (on_total (λ (batch : Staged). batch.number) nat_cmp_total) (λ (batch : Bor Staged). batch.now) _ _
    c.in_ok-sort_by.ensures.sorted c.in_ok-sort_by.ensures.stable (λ a r q k. search rules)
    ∙ ap (sorted (comes_before number_cmp)) c.in_ok-ordered.ensures
