use Rattle.std.proofs.Common.{◌≡◌, ◌-◌, ◌≤◌, length}
use Rattle.ss_tree.specs.Entries.{above, is_met_above, IsTree}
use Rattle.ss_tree.proofs.trees.Tree.is_under.Given as goal

abbrev pub invariant-loop-round : goal.invariant-loop-round
invariant-loop-round l = record {
  rest : is_met_above l.self l.top (l._round-end - l._round) l.at ≡ is_met_above l.self l.top l._round-end (above l.self l.fn.node);
  long : length l.self ≤ l._round-end;
  valid : IsTree l.self;
}
