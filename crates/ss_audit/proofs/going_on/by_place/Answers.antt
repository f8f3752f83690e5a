use Rattle.std.proofs.Common.{rules, ap, ◌∙◌}
use Rattle.std.specs.Borrow.{Bor}
use Rattle.std.specs.Cmp.{on_total, then_total}
use Rattle.std.specs.Cmp.Lexicographic.{nat_list_cmp_total}
use Rattle.ss_text.specs.Texts.{sorted}
use Rattle.ss_query.proofs.Sorting.{sorted_by_closure}
use Rattle.ss_bso.specs.declared.rows.Row.{Row}
use Rattle.ss_dump.specs.Dumps.{comes_before, place_cmp}
use Rattle.ss_audit.proofs.going_on.by_place.Goals as goal

pub returns : goal.returns
returns c =
    sorted_by_closure place_cmp (then_total (on_total (λ (row : Row). row.collection) nat_list_cmp_total) (on_total (λ (row : Row). row.id) nat_list_cmp_total)) (λ (row : Bor Row). row.now) _ _
    c.in_ok-sort_by.ensures.sorted c.in_ok-sort_by.ensures.stable (λ a r q k. search rules)
    ∙ ap (sorted (comes_before place_cmp)) c.in_ok-ordered.ensures
