use Rattle.std.proofs.Common.{◌≡◌, ◌++◌, ◌-◌, ◌≤◌, take, drop, length, map, false}
use Rattle.ss_outside.specs.Memory.{bytes_of_pieces, filled_pieces, behind}
use Rattle.ss_outside.specs.Plans.{is_failing, after_call}
use Rattle.ss_outside.proofs.memory_source.SourceUnderSource.read.Given as goal

-- no byte is passed over: what was taken and the pieces that are left are as they were
abbrev pub invariant-pieces : goal.invariant-pieces
invariant-pieces g l = record {
  within : l.self-inside.at ≤ length (bytes_of_pieces (take 1 (drop l.self-inside.piece l.self-inside.pieces.items)));
  taken : l.fn.self.taken ≡ bytes_of_pieces (take l.self-inside.piece l.self-inside.pieces.items)
      ++ take l.self-inside.at (bytes_of_pieces (drop l.self-inside.piece l.self-inside.pieces.items));
  left : l.fn.self.pieces ≡ filled_pieces (behind l.self-inside.at (map (λ piece. piece.items) (drop l.self-inside.piece l.self-inside.pieces.items)));
  plan : g.F.Faults.plan l.self-inside.plan ≡ after_call l.fn.self.plan;
  sure : is_failing l.fn.self.plan ≡ false;
}

abbrev pub decreases-pieces : goal.decreases-pieces
decreases-pieces g l = length l.self-inside.pieces.items - l.self-inside.piece
