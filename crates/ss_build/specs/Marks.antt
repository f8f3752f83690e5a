-- Who comes back to itself along a list of places.
use Rattle.std.specs.Prelude.{◌≡◌, ℕ, zero, suc, ◌<◌, ◌≤◌, ◌⊎◌, ◌↔◌, List, length, Bool, true, false, get_or}

-- one step on; the length of the list stands for the top
abbrev pub next_at : List ℕ → ℕ → ℕ
next_at next i = get_or next i (length next)

unfoldable pub hops : List ℕ → ℕ → ℕ → ℕ
hops next zero i = i
hops next (suc k) i = hops next k (next_at next i)

-- one step or more lead from i to j
abbrev pub Leads : List ℕ → ℕ → ℕ → Type 0
Leads next i j = (k : ℕ) × (hops next k (next_at next i) ≡ j)

-- exactly those that come back to themselves are told
pub record AreCircles (next : List ℕ) (circles : List Bool) : Type 0 where
  pub same_length : length circles ≡ length next
  pub each : (i : ℕ) → i < length next → (get_or circles i false ≡ true) ↔ Leads next i i

-- what has been seen leads to what has been seen, or to the top
abbrev pub IsClosedUnder : List ℕ → List ℕ → Type 0
IsClosedUnder next seen = (z : ℕ) → z < length next → 0 < get_or seen z 0 → (next_at next z ≡ length next) ⊎ (0 < get_or seen (next_at next z) 0)

-- a walk with this number from the start has seen all on its way to the end, where something was seen before
pub record WalksTo (next old new : List ℕ) (number start end : ℕ) : Type 0 where
  pub same_length : length new ≡ length old
  pub kept : (z : ℕ) → 0 < get_or old z 0 → get_or new z 0 ≡ get_or old z 0
  pub fresh : (z : ℕ) → z < length next → get_or old z 0 ≡ 0 → (get_or new z 0 ≡ 0) ⊎ ((get_or new z 0 ≡ number) × Leads next z end)
  pub begun : 0 < get_or new start 0
  pub closed : IsClosedUnder next new
  pub ended : (end ≡ length next) ⊎ ((end < length next) × (0 < get_or new end 0))

-- what the first leads to is told, and nothing else is changed
pub record MarksWay (next : List ℕ) (old new : List Bool) (first : ℕ) : Type 0 where
  pub same_length : length new ≡ length old
  pub each : (z : ℕ) → (get_or new z false ≡ true) ↔ ((get_or old z false ≡ true) ⊎ Leads next first z)

-- after the rounds from the first n places: what has been seen is closed, and told rightly
pub record Rounds (next seen : List ℕ) (circles : List Bool) (n : ℕ) : Type 0 where
  pub same_seen : length seen ≡ length next
  pub same_circles : length circles ≡ length next
  pub numbers : (z : ℕ) → get_or seen z 0 ≤ n
  pub closed : IsClosedUnder next seen
  pub told : (z : ℕ) → z < length next → 0 < get_or seen z 0 → (get_or circles z false ≡ true) ↔ Leads next z z
  pub untold : (z : ℕ) → get_or seen z 0 ≡ 0 → get_or circles z false ≡ false
  pub all : (z : ℕ) → z < n → 0 < get_or seen z 0
