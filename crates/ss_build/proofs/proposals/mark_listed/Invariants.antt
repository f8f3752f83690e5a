use Rattle.std.proofs.Common.{◌≡◌, ◌<◌, ◌==◌, ◌&&◌, ◌||◌, ℕ, false, nat_eq, get_or, length, take}
use Rattle.std.specs.List.{list_any}
use Rattle.ss_build.proofs.proposals.mark_listed.Given as goal

abbrev pub invariant-loop-seat : goal.invariant-loop-seat
invariant-loop-seat l = (i : ℕ) → i < length l.kept → get_or l.kept i false ≡ (get_or l.fn.kept i false || ((get_or l.claimed i 0 == l.folder) && list_any (nat_eq i) (take l.seat-index l.seats)))
