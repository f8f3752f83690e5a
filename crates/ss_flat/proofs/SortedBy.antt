-- What a sort by an order leaves is the sorted list.
use Rattle.std.proofs.Common.{◌≡◌, List, ap}
use Rattle.std.proofs.lemmas.Fn.{always_returns_same}
use Rattle.std.proofs.lemmas.List.Sorted.{ranks_by}
use Rattle.std.specs.declared.cmp.Ordering.{Ordering}
use Rattle.std.specs.Cmp.{IsTotalOrder}
use Rattle.std.specs.Fn.{Called}
use Rattle.std.specs.List.Sorted.{IsSortedByClosure, IsStableByClosure}
use Rattle.std.specs.Ordering.{is_lt}
use denote.Ref.{Bor}
use denote.Param.Members.{Mut}
use Rattle.ss_text.specs.Texts.{sorted}
use Rattle.ss_text.proofs.Sorting.{sorted_is}

pub sorted_by : {F X : Type 0} {g : Mut F (Bor X × (Bor X × Unit {0})) Ordering} {f : F} (cmp : X → X → Ordering) (total : IsTotalOrder cmp) (xs ys : List X)
    → IsSortedByClosure g f ys → IsStableByClosure g f xs ys
    → ((a : Bor X × (Bor X × Unit {0})) (r : Ordering) (f' : F) → Called g f a r f' → (r ≡ cmp a.0.now a.1.0.now) × (f' ≡ f))
    → ys ≡ sorted (λ a b. is_lt (cmp a b)) xs
sorted_by {F} {X} {g = g} {f = f} cmp total xs ys up stable calls =
    let order = ranks_by total (λ (x : X). x) in
    let answers = always_returns_same g (λ a r. is_lt r ≡ is_lt (cmp a.0.now a.1.0.now)) f (λ a r f' k. (ap is_lt (calls a r f' k).0, (calls a r f' k).1)) in
    sorted_is (λ a b. is_lt (cmp a b)) order xs ys (up (λ a b. is_lt (cmp a b)) order answers) (stable (λ a b. is_lt (cmp a b)) order answers)
