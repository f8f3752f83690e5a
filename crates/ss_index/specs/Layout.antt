-- How a drawer's map and chain fit together.
use Rattle.std.specs.Prelude.{◌≡◌, ℕ, ◌≤◌, List, length, min, Some, IsSomeAnd, bytes_eq}
use Rattle.std.specs.Map.{values_of}
use Rattle.ss_bso.specs.declared.rows.Row.{Row}
use Rattle.ss_bso.specs.Limits.{row_bytes}
use Rattle.ss_list.specs.Chain.{Chain, value_of}
use Rattle.indexmap.specs.IndexMap.{IndexMap, get, spare}
use Rattle.ss_index.specs.Held.{HeldRows}
use Rattle.ss_bso.specs.Lists.{Each, Pairs, OtherId}

-- the first is no later
abbrev pub NoLater : Row → Row → Type 0
NoLater row other = row.modified ≤ other.modified

module _ {S : Type 0} where
  abbrev pub held_rows : IndexMap (List ℕ) ℕ S → Chain Row → HeldRows
  held_rows places chain = record { rows = values_of chain.nodes; spare = min (length chain.free) (spare places) }

  -- the map has the place of each row of the chain by its id, and no other; the rows are in the order of time
  pub record IsLayout (places : IndexMap (List ℕ) ℕ S) (chain : Chain Row) (bytes : ℕ) : Type 0 where
    pub covers : Each (λ (node : ℕ × Row). get bytes_eq places node.1.id ≡ Some node.0) chain.nodes
    pub live : (id : List ℕ) (at : ℕ) → get bytes_eq places id ≡ Some at → IsSomeAnd (value_of chain at) (λ row. row.id ≡ id)
    pub in_time : Pairs NoLater (values_of chain.nodes)
    pub apart : Pairs OtherId (values_of chain.nodes)
    pub bytes_count : bytes ≡ row_bytes (values_of chain.nodes)
