use Rattle.std.proofs.Common.{◌≡◌, ◌≢◌, ◌≤◌, ◌<◌, ℕ, length}
use mathlib.Core.Option.{some}
use lib.ListN.{get_elem?}
use Rattle.ss_town.specs.Opening.{HasUid, DistinctBelow}
use Rattle.ss_town.proofs.opening.fault_of.Given as goal

abbrev pub invariant-loop-j : goal.invariant-loop-j
invariant-loop-j g l = record {
  n : l.n ≡ length l.accounts;
  below : DistinctBelow l.j l.accounts;
}

abbrev pub invariant-loop-i : goal.invariant-loop-i
invariant-loop-i g l = record {
  n : l.n ≡ length l.accounts;
  in_all : l.j < l.n;
  below : DistinctBelow l.j l.accounts;
  here : HasUid l.accounts l.j l.uid;
  none : (i u : ℕ) → i < l.i → HasUid l.accounts i u → u ≢ l.uid;
}

abbrev pub invariant-loop-i-2 : goal.invariant-loop-i-2
invariant-loop-i-2 g l = record {
  n : l.n ≡ length l.accounts;
  below : DistinctBelow l.n l.accounts;
  none : (i : ℕ) → i < l.i → HasUid l.accounts i 0 → ⊥;
}
