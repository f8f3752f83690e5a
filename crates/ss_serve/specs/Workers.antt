-- The numbers of the passes of a term's workers.
use Rattle.std.specs.Prelude.{ℕ, zero, suc, ◌/◌, ◌^◌}
use Rattle.ss_desk.specs.declared.view.Range.{Range}
use Rattle.ss_desk.specs.Views.{range_of}

-- how many of all numbers are left after so many halvings
abbrev pub half : ℕ → ℕ
half zero = 2 ^ 32
half (suc k) = half k / 2

-- the numbers of worker k at every account: the upper half of those that the workers before it left
abbrev pub share : ℕ → Range
share k = range_of (half (suc k)) (half k)

-- the number that worker k's entries bear
abbrev pub number_of : ℕ → ℕ
number_of k = half (suc k)
