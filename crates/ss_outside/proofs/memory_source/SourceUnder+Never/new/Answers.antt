use Rattle.std.proofs.Common.{None, map, drop, refl, rules}
use Rattle.ss_outside.specs.Memory.{filled_pieces, behind}
use Rattle.ss_outside.proofs.Pieces.{told_fresh}
use Rattle.ss_outside.proofs.memory_source.SourceUnder+Never.new.Goals as goal

pub returns-clause-told : goal.returns-clause-told
returns-clause-told c = told_fresh _ (filled_pieces (behind 0 (map (λ piece. piece.items) (drop 0 c.args.pieces.items)))) c.args.pieces.items None (search rules) (search rules) refl
