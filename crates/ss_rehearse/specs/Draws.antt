-- The numbers that a rehearsal draws: a linear congruential sequence of 64 bits, with Knuth's multiplier for MMIX.
use Rattle.std.specs.Prelude.{ℕ, zero, suc, ◌+◌, ◌*◌, ◌^◌, ◌%◌}

-- the number that follows another one
unfoldable pub drawn_after : ℕ → ℕ
drawn_after x = (x * 6364136223846793005 + 1442695040888963407) % 2 ^ 64

-- the number of a place: the seed at place 0
abbrev pub drawn_number : ℕ → ℕ → ℕ
drawn_number seed zero = seed
drawn_number seed (suc k) = drawn_after (drawn_number seed k)
