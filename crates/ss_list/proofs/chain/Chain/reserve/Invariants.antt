use Rattle.std.proofs.Common.{◌≡◌, ◌+◌, ◌-◌, ◌<◌, ◌≤◌, ℕ, List, ◌++◌, length, vec_len, vec_capacity}
use Rattle.ss_list.specs.declared.node.TheConstants.{END}
use Rattle.ss_list.specs.Links.{IsSound, chain_of}
use Rattle.ss_list.proofs.chain.Chain.reserve.Given as goal

abbrev pub invariant-loop : goal.invariant-loop
invariant-loop g l = record {
  sound : IsSound l.self-inside.nodes.items l.self-inside.ends l.self-inside.free l.self-inside.len l.self-inside.spare;
  nodes : (chain_of l.self-inside.nodes.items l.self-inside.ends l.self-inside.free l.self-inside.len l.self-inside.spare).nodes ≡ l.fn.self.nodes;
  kept : (made : List ℕ) × ((chain_of l.self-inside.nodes.items l.self-inside.ends l.self-inside.free l.self-inside.len l.self-inside.spare).free ≡ made ++ l.fn.self.free);
  spare : l.self-inside.spare ≡ l.initial.self-inside.spare + l.counter;
  capacity : vec_len l.self-inside.nodes + (l.missing - l.counter) ≤ vec_capacity l.self-inside.nodes;
  room : length l.self-inside.nodes.items + (l.missing - l.counter) < END;
}
