use Rattle.std.proofs.Common.{◌≡◌, ◌<◌, ◌==◌, ◌&&◌, not, ℕ, false, get_or, length, take}
use Rattle.std.specs.List.{list_any}
use Rattle.ss_build.proofs.siblings.untell.Given as goal

abbrev pub invariant-loop-seat : goal.invariant-loop-seat
invariant-loop-seat l = (i : ℕ) → i < length l.fn.as_told → get_or l.as_told i false ≡ (get_or l.fn.as_told i false && not (list_any (λ s. get_or l.parents s (length l.fn.as_told) == i) (take l.seat-index l.seats)))
