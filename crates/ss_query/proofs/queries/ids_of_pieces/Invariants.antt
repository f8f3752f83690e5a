use Rattle.std.proofs.Common.{◌≡◌, map, take, true}
use Rattle.std.specs.List.{list_all}
use Rattle.ss_text.specs.Names.{is_id}
use Rattle.ss_query.proofs.queries.ids_of_pieces.Given as goal

abbrev pub invariant-loop-piece : goal.invariant-loop-piece
invariant-loop-piece l =
    (l.ids.items ≡ map (λ piece. piece.now) (take l.piece-index l.pieces))
    × (list_all is_id (map (λ piece. piece.now) (take l.piece-index l.pieces)) ≡ true)
