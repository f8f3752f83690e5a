use Rattle.std.proofs.Common.{◌≡◌, ◌++◌}
use Rattle.std.specs.Prelude.{vec_capacity}
use Rattle.ss_serve.proofs.ending.move_all.Given as goal

abbrev pub invariant-loop-value : goal.invariant-loop-value
invariant-loop-value g l = record {
  next : (goal.iterator-loop-value g).can_next l.value-iterator;
  ends : (goal.iterator-loop-value g).is_finite l.value-iterator;
  items : l.into.items ≡ l.fn.into.items ++ l.yielded;
  room : vec_capacity l.into ≡ vec_capacity l.fn.into;
}
