use Rattle.std.proofs.Common.{rules}
use Rattle.std.specs.Cmp.{on_total}
use Rattle.std.specs.Cmp.Lexicographic.{nat_list_cmp_total}
use Rattle.ss_text.specs.Texts.{text_cmp}
use Rattle.ss_flat.specs.declared.lists.Shown.{Shown}
use Rattle.ss_flat.proofs.SortedBy.{sorted_by}
use Rattle.ss_flat.proofs.lists.shown_by_id.Goals as goal

pub returns : goal.returns
returns c = sorted_by (λ (a b : Shown). text_cmp a.id b.id) (on_total (λ (s : Shown). s.id) nat_list_cmp_total) _ _ c.in_ok-sort_by.ensures.sorted c.in_ok-sort_by.ensures.stable (λ a r q k. search rules)
