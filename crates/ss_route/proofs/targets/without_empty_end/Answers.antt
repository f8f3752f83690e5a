use Rattle.std.proofs.Common.{ℕ, List, Bor, ◌≡◌, sym, ◌∙◌, arith, length}
use Rattle.ss_route.proofs.Pieces.{empty_end, full_end, no_end}
use Rattle.ss_route.proofs.targets.without_empty_end.Goals as goal
use Rattle.ss_route.proofs.targets.without_empty_end.Goals.{else-count-ne0-via-then-count-ne0+else-is_empty}
use Rattle.ss_route.proofs.targets.without_empty_end.Goals.{else-count-ne0-via-else-count-ne0}

pub returns-then-is_empty : goal.returns-then-is_empty
returns-then-is_empty c =
    empty_end {X = Bor (List ℕ)} (λ piece. piece.now) c.args.pieces.now _ c.if-count-ne0.true (sym c.is_empty.ensures ∙ c.if-is_empty.true)

pub returns-else-count-ne0 : goal.returns-else-count-ne0
returns-else-count-ne0 c =
    elim c.else-count-ne0.branch [
      | else-count-ne0-via-then-count-ne0+else-is_empty w ↦
          full_end {X = Bor (List ℕ)} (λ piece. piece.now) c.args.pieces.now _ w.if-count-ne0.true (sym w.is_empty.ensures ∙ w.if-is_empty.false)
      | else-count-ne0-via-else-count-ne0 w ↦
          let none : length c.args.pieces.now ≡ 0 = omega (arith, w.if-count-ne0.false) in
          no_end {X = Bor (List ℕ)} (λ piece. piece.now) c.args.pieces.now none
    ]
