-- How a chain lies in memory. No public clause cites this module.
use Rattle.std.specs.Prelude.{◌≡◌, ℕ, zero, suc, ◌+◌, ◌<◌, ◌≢◌, List, [], ◌∷◌, length, reverse, Option, None, IsSome}
use Rattle.std.specs.Prelude.{nat_lt, ◌==◌, if◌then◌else◌, filter_map}
use Rattle.std.specs.Option.{option_map}
use Rattle.ss_list.specs.declared.node.Node.{Node}
use Rattle.ss_list.specs.declared.node.TheConstants.{END}
use Rattle.ss_list.specs.Nodes.{node_at, value_at}
use Rattle.ss_list.specs.declared.ends.Ends.{Ends}
use Rattle.ss_list.specs.Chain.{Chain, times}

-- from a place on, each step leads to the next of these places, and the last to the end
abbrev pub Runs : (ℕ → ℕ) → ℕ → List ℕ → ℕ → Type 0
Runs step p [] end = p ≡ end
Runs step p (q ∷ qs) end = (p ≡ q) × Runs step (step q) qs end

-- the places that so many steps lead through
abbrev pub walk : (ℕ → ℕ) → ℕ → ℕ → List ℕ
walk step zero p = []
walk step (suc n) p = p ∷ walk step n (step p)

-- a function that has changed at one place alone
abbrev pub Becomes : (ℕ → ℕ) → (ℕ → ℕ) → ℕ → ℕ → Type 0
Becomes old new at to = (p : ℕ) → new p ≡ (if p == at then to else old p)

module _ {T : Type 0} where
  -- the place after a place, where the first node comes after `END`
  abbrev pub next_of : List (Node T) → Ends → ℕ → ℕ
  next_of nodes ends p = if p == END then ends.front else (node_at nodes p).next

  -- the place before a place, where the last node comes before `END`
  abbrev pub prev_of : List (Node T) → Ends → ℕ → ℕ
  prev_of nodes ends p = if p == END then ends.back else (node_at nodes p).prev

  -- a node has this place, or it is `END`
  abbrev pub IsPlace : List (Node T) → ℕ → Type 0
  IsPlace nodes p = p ≢ END → p < length nodes

  -- the nodes at these places, each its place and its value
  abbrev pub nodes_of : (ℕ → Option T) → List ℕ → List (ℕ × T)
  nodes_of value ps = filter_map (λ p. option_map (λ v. (p, v)) (value p)) ps

  -- left and right are neighbours, no other link has changed, and no value has
  pub record Joins (old : List (Node T)) (old_ends : Ends) (new : List (Node T)) (new_ends : Ends) (left right : ℕ) : Type 0 where
    pub next : Becomes (next_of old old_ends) (next_of new new_ends) left right
    pub prev : Becomes (prev_of old old_ends) (prev_of new new_ends) right left
    pub value : (p : ℕ) → value_at new p ≡ value_at old p

  -- x becomes the last: first the neighbour of the one that was, then of the end
  pub record Appends (old : List (Node T)) (old_ends : Ends) (new : List (Node T)) (new_ends : Ends) (x : ℕ) : Type 0 where
    pub middle : List (Node T)
    pub middle_ends : Ends
    pub after_last : Joins old old_ends middle middle_ends (prev_of old old_ends END) x
    pub at_end : Joins middle middle_ends new new_ends x END

  -- from the front by `next` the nodes are the list, from the back by `prev` its reverse, and the
  -- free nodes, which hang on `next` too, are all others
  pub record IsSound (nodes : List (Node T)) (ends : Ends) (free len spare : ℕ) : Type 0 where
    pub places : List ℕ
    pub unused : List ℕ
    pub forward : Runs (next_of nodes ends) ends.front places END
    pub backward : Runs (prev_of nodes ends) ends.back (reverse places) END
    pub hanging : Runs (next_of nodes ends) free unused END
    pub others : (p : ℕ) → times p places + times p unused ≡ (if nat_lt p (length nodes) then 1 else 0)
    pub filled : (p : ℕ) → 0 < times p places → IsSome (value_at nodes p)
    pub blank : (p : ℕ) → 0 < times p unused → value_at nodes p ≡ None
    pub len_counts : len ≡ length places
    pub spare_counts : spare ≡ length unused
    pub room : length nodes < END

  -- what contracts see of a chain that lies so
  abbrev pub chain_of : List (Node T) → Ends → ℕ → ℕ → ℕ → Chain T
  chain_of nodes ends free len spare = record {
    nodes = nodes_of (value_at nodes) (walk (next_of nodes ends) len ends.front);
    free = walk (next_of nodes ends) spare free;
  }
