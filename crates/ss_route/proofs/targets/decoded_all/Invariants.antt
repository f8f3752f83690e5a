use Rattle.std.proofs.Common.{◌≡◌, map, take}
use Rattle.percent_encoding.specs.Percent.{percent_decode}
use Rattle.ss_route.proofs.targets.decoded_all.Given as goal

abbrev pub invariant-loop-piece : goal.invariant-loop-piece
invariant-loop-piece l = l.segments.items ≡ map percent_decode (map (λ piece. piece.now) (take l.piece-index l.pieces))
