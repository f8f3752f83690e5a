use Rattle.std.proofs.Common.{List, ℕ, rules}
use Rattle.std.specs.Cmp.{on_total}
use Rattle.std.specs.Cmp.Lexicographic.{nat_list_cmp_total}
use Rattle.ss_text.specs.Texts.{text_cmp}
use Rattle.ss_flat.proofs.SortedBy.{sorted_by}
use Rattle.ss_flat.proofs.lists.gone_by_id.Goals as goal

pub returns : goal.returns
returns c = sorted_by (λ (a b : List ℕ × ℕ). text_cmp a.0 b.0) (on_total (λ (g : List ℕ × ℕ). g.0) nat_list_cmp_total) _ _ c.in_ok-sort_by.ensures.sorted c.in_ok-sort_by.ensures.stable (λ a r q k. search rules)
