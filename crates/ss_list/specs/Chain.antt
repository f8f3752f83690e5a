-- What a contract sees of a `Chain`.
use Rattle.std.specs.Prelude.{◌≡◌, ℕ, ◌+◌, ◌-◌, List, ◌∷◌, ◌++◌, length, Option, IsSome, slice_get, count_by, nat_eq}
use Rattle.std.specs.Prelude.{nat_lt, if◌then◌else◌, refl}
use Rattle.std.specs.Option.{option_to_list}
use Rattle.std.specs.Map.{keys_of, lookup, lookup_entry, remove_entry, set_value}
use Rattle.std.specs.Coded.{Coded, code_by, coded×, coded_ℕ, coded_list}

-- the nodes from the front to the back, each its place and its value, and the places of the free
-- nodes in the order in which they will be used
pub record Chain (T : Type 0) : Type 0 where
  pub nodes : List (ℕ × T)
  pub free : List ℕ

-- a chain is stored as the pair of its fields
abbrev pub chain_code : {T : Type 0} → Coded T → Coded (Chain T)
chain_code {T} code =
    code_by
    (List (ℕ × T) × List ℕ)
    (coded× (coded_list (coded× coded_ℕ code)) (coded_list coded_ℕ))
    (λ c. (c.nodes, c.free))
    (λ p. record { nodes = p.0; free = p.1 })
    (λ _. refl)

-- how often a place stands in a list
abbrev pub times : ℕ → List ℕ → ℕ
times p ps = count_by (nat_eq p) ps

-- the first of a list
abbrev pub first_of : List ℕ → Option ℕ
first_of ps = slice_get ps 0

-- the last of a list
abbrev pub last_of : List ℕ → Option ℕ
last_of ps = slice_get ps (length ps - 1)

-- what stands right after a place in a list
abbrev pub IsAfter : List ℕ → ℕ → Option ℕ → Type 0
IsAfter ps at found = (before after : List ℕ) → ps ≡ before ++ at ∷ after → found ≡ first_of after

-- what stands right before a place in a list
abbrev pub IsBefore : List ℕ → ℕ → Option ℕ → Type 0
IsBefore ps at found = (before after : List ℕ) → ps ≡ before ++ at ∷ after → found ≡ last_of before

module _ {T : Type 0} where
  -- the places of the nodes, from the front to the back
  abbrev pub places : Chain T → List ℕ
  places c = keys_of c.nodes

  -- the value of the node at a place
  abbrev pub value_of : Chain T → ℕ → Option T
  value_of c at = lookup (nat_eq at) c.nodes

  -- a node of the chain has this place
  abbrev pub IsLive : Chain T → ℕ → Type 0
  IsLive c at = IsSome (value_of c at)

  -- the free nodes are all others: each place below the number of nodes stands once in the chain
  -- or once among the free, and no other place stands anywhere
  abbrev pub IsWhole : Chain T → Type 0
  IsWhole c = (p : ℕ) → times p (places c) + times p c.free
      ≡ (if nat_lt p (length c.nodes + length c.free) then 1 else 0)

  -- the nodes once the one at a place has gone
  abbrev pub without : ℕ → List (ℕ × T) → List (ℕ × T)
  without at nodes = remove_entry (nat_eq at) nodes

  -- the nodes once the one at a place is the last
  abbrev pub moved_back : ℕ → List (ℕ × T) → List (ℕ × T)
  moved_back at nodes = without at nodes ++ option_to_list (lookup_entry (nat_eq at) nodes)

  -- the chain with another value at a place
  abbrev pub with_value : Chain T → ℕ → T → Chain T
  with_value c at value = record c { nodes = set_value (nat_eq at) c.nodes value }
