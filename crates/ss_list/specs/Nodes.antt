-- The nodes of a chain, each at its place. No public clause cites this module.
use Rattle.std.specs.Prelude.{◌≡◌, ℕ, ◌≢◌, List, Option, Some, None, slice_index_or}
use Rattle.ss_list.specs.declared.node.Node.{Node}
use Rattle.ss_list.specs.declared.node.TheConstants.{END}

module _ {T : Type 0} where
  -- the node at a place, or a blank one past the last
  abbrev pub node_at : List (Node T) → ℕ → Node T
  node_at nodes p = slice_index_or nodes p (record { prev = END; next = END; value = None })

  -- the value at a place
  abbrev pub value_at : List (Node T) → ℕ → Option T
  value_at nodes p = (node_at nodes p).value

  -- a node with another value
  abbrev pub with_value : Node T → T → Node T
  with_value node value = record node { value = Some value }

  -- every other node is as it was
  abbrev pub SameElsewhere : List (Node T) → List (Node T) → ℕ → Type 0
  SameElsewhere old new at = (p : ℕ) → p ≢ at → node_at new p ≡ node_at old p

  -- every node but two is as it was; `END` is no node
  abbrev pub SameBeside : List (Node T) → List (Node T) → ℕ → ℕ → Type 0
  SameBeside old new left right = (p : ℕ) → p ≢ END → p ≢ left → p ≢ right → node_at new p ≡ node_at old p
