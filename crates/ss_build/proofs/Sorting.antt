-- What a stable sort of ids leaves.
use Rattle.std.proofs.Common.{◌≡◌, ℕ, List}
use Rattle.std.proofs.lemmas.List.Sorted.{ranks_by}
use Rattle.std.specs.Cmp.Lexicographic.{slice_cmp, nat_list_cmp_total}
use Rattle.std.specs.List.Sorted.{IsSortedBy, IsStableBy}
use Rattle.std.specs.Ordering.{is_lt, nat_cmp}
use Rattle.ss_record.specs.Ids.{before, by_id}
use Rattle.ss_text.proofs.Sorting.{sorted_is}

-- what a stable sort of ids leaves
pub by_id_is : (xs ys : List (List ℕ)) → IsSortedBy (λ x y. is_lt (slice_cmp nat_cmp x y)) ys → IsStableBy (λ x y. is_lt (slice_cmp nat_cmp x y)) xs ys → ys ≡ by_id xs
unfolding before
by_id_is xs ys up stable = sorted_is (λ x y. is_lt (slice_cmp nat_cmp x y)) (ranks_by nat_list_cmp_total (λ (x : List ℕ). x)) xs ys up stable
