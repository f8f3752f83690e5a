use Rattle.std.proofs.Common.{rules, ℕ, List, ap, ◌∙◌}
use Rattle.std.proofs.lemmas.List.{take_all}
use Rattle.std.specs.Borrow.{Bor}
use Rattle.std.specs.Cmp.{on_total}
use Rattle.std.specs.Cmp.Lexicographic.{nat_list_cmp_total}
use Rattle.ss_text.specs.Texts.{sorted}
use Rattle.ss_query.proofs.Sorting.{sorted_by_closure}
use Rattle.ss_dump.specs.Dumps.{comes_before, name_cmp}
use Rattle.ss_audit.proofs.going_on.by_name.Goals as goal

pub returns : goal.returns
returns c =
    sorted_by_closure name_cmp (on_total (λ (entry : List ℕ × ℕ). entry.0) nat_list_cmp_total) (λ (entry : Bor (List ℕ × ℕ)). entry.now) _ _
    c.in_ok-sort_by.ensures.sorted c.in_ok-sort_by.ensures.stable (λ a r q k. search rules)
    ∙ ap (sorted (comes_before name_cmp)) (c.loop-entry.invariant ∙ take_all c.loop-entry.entry-index c.args.times.now c.loop-entry-test.false)
