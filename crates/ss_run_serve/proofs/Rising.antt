-- Counts that rise, one after the other.
use Rattle.std.specs.Prelude.{◌≡◌, ◌≢◌, ◌<◌, ◌≤◌, ◌+◌, ◌*◌, ◌-◌, ◌^◌, ℕ, min}
use Rattle.std.proofs.Common.{arith}
use Rattle.ss_links.specs.Counts.{RoseBy}
use Rattle.ss_outside.specs.Causes.{Rose}

-- a count that rose by n and then by m
pub rose_then : (n m a b c : ℕ) → RoseBy n a b → RoseBy m b c → RoseBy (n + m) a c
rose_then n m a b c one two = record { later = omega (arith, one.later, two.later); risen = omega (arith, one.risen, two.risen); most = omega (arith, one.most, two.most) }

-- a count that rose by what another one counted from 0 on
pub rose_by_count : (n p a b : ℕ) → RoseBy n 0 p → RoseBy p a b → RoseBy n a b
rose_by_count n p a b one two = record { later = two.later; risen = omega (arith, one.risen, two.risen, one.most); most = omega (arith, one.most, two.most) }

-- a count that rose by two numbers, and is far from its greatest value
pub rose_once : (n m a b t : ℕ) → RoseBy t 0 a → RoseBy n a b → RoseBy m a b → m ≤ n → t + n < 2 ^ 64 - 1 → m ≡ n
rose_once n m a b t first one other few small = omega (arith, first.most, one.risen, other.most, few, small)

-- a count that rose by less than what it may, by both numbers, and is far from its greatest value
pub rose_less : (n k m a b t : ℕ) → RoseBy t 0 a → RoseBy k a b → RoseBy m a b → k < n → t + n < 2 ^ 64 - 1 → m < n
rose_less n k m a b t first one other few small = omega (arith, first.most, one.most, other.risen, few, small)

pub rose_none : (a b : ℕ) → b ≡ a → RoseBy 0 a b
rose_none a b same = record { later = omega (arith, same); risen = omega (arith, same); most = omega (arith, same) }

pub rose_some : (a b : ℕ) → Rose a b → b ≢ 0
rose_some a b rose = λ none. omega (arith, rose.risen, none)

pub rose_on : (a b c : ℕ) → Rose a b → b ≤ c → Rose a c
rose_on a b c rose later = record { later = omega (arith, rose.later, later); risen = omega (arith, rose.risen, later) }

pub rose_after : (a b c : ℕ) → a ≤ b → Rose b c → Rose a c
rose_after a b c later rose = record { later = omega (arith, rose.later, later); risen = omega (arith, rose.risen, later) }
