use Rattle.std.proofs.Common.{Some, map, drop, ap, rules}
use Rattle.ss_outside.specs.Memory.{filled_pieces, behind}
use Rattle.ss_outside.proofs.Pieces.{told_fresh}
use Rattle.ss_outside.proofs.memory_source.SourceUnder+Numbered.new.Goals as goal

pub returns-clause-told : goal.returns-clause-told
returns-clause-told c = told_fresh _ (filled_pieces (behind 0 (map (λ piece. piece.items) (drop 0 c.args.pieces.items)))) c.args.pieces.items (Some c.new.result) (search rules) (search rules) (ap (λ plan. plan.faults) c.new.ensures)
