-- The greater of one and nothing.
use Rattle.std.proofs.Common.{◌≡◌, Option, Some, None, refl}
use Rattle.std.specs.declared.cmp.Ordering.{Ordering}
use Rattle.ss_flat.specs.Joining.{greater}

pub greater-none : {X : Type 0} (cmp : X → X → Ordering) (a : Option X) → a ≡ greater cmp a None
greater-none cmp None = refl
greater-none cmp (Some x) = refl
