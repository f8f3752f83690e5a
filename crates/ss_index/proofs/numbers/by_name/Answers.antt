use Rattle.std.proofs.Common.{rules, List, ℕ, ◌∙◌}
use Rattle.std.specs.Cmp.{on_total}
use Rattle.std.specs.Cmp.Lexicographic.{nat_list_cmp_total}
use Rattle.ss_text.specs.Texts.{text_cmp}
use Rattle.ss_query.proofs.Sorting.{sorted_by_closure}
use Rattle.ss_index.proofs.Counting.{by_name_is}
use Rattle.ss_index.proofs.numbers.by_name.Goals as goal

pub returns : goal.returns
returns c =
    c.new.ensures
    ∙ by_name_is c.args.numbers.items c.sort_by.new.self.items (sorted_by_closure (λ entry other. text_cmp entry.0 other.0) (on_total (λ (entry : List ℕ × ℕ). entry.0) nat_list_cmp_total) (λ entry. entry) _ _
    c.in_ok-sort_by.ensures.sorted c.in_ok-sort_by.ensures.stable (λ a r q k. search rules))
