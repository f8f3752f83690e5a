-- The entries of the tree.
use Rattle.std.specs.Prelude.{ℕ, ◌+◌, nat_lt, List, ◌∷◌, Some, if◌then◌else◌, length, get_or, map}
use Rattle.ss_tree.specs.declared.entries.Entry.{Entry}
use Rattle.ss_tree.specs.Entries.{top_entry}
use Rattle.ss_build.specs.declared.claims.Claim.{Claim}
use Rattle.ss_build.specs.Places.{at}

-- the node of an item's place; at the number of items that of `places`
abbrev pub node_at : ℕ → ℕ → ℕ
node_at count p = if nat_lt p count then p + 1 else 0

-- the entry of the item at a place
abbrev pub planted_entry : List Claim → List ℕ → ℕ → Entry
planted_entry es parents i = record { node = i + 1; parent = Some (node_at (length es) (get_or parents i 0)); item = (at es i).item; time = (at es i).time }

-- the entries of the items in an order, under that of `places`
abbrev pub entries : List Claim → List ℕ → List ℕ → List Entry
entries es parents order = top_entry ∷ map (planted_entry es parents) order
