use Rattle.std.proofs.Common.{◌≡◌, ◌++◌, Some, map, length}
use Rattle.std.specs.Vec.Iter.{into_iter_items, into_iter_len}
use Rattle.serde_json.specs.View.{view}
use Rattle.ss_bso.proofs.Elements.{Gathered}
use Rattle.ss_bso.proofs.bodies.records_in.Given as goal

abbrev pub invariant-loop-value : goal.invariant-loop-value
invariant-loop-value l = record {
  counted : l.place ≡ length l.yielded;
  left : into_iter_len l.value-iterator ≡ length (into_iter_items l.value-iterator);
  gathered : Gathered l.place l.gathering.parts.items l.gathering.failed.items (map (λ v. Some (view v)) (into_iter_items l.value-iterator)) (map (λ v. Some (view v)) l.fn.values.items);
}
