use Rattle.std.proofs.Common.{◌≡◌, ◌<◌, ℕ, nat_eq, get_or, length, take, if◌then◌else◌}
use Rattle.std.specs.List.{list_any}
use Rattle.ss_build.specs.Places.{better}
use Rattle.ss_build.proofs.proposals.raise_all.Given as goal

abbrev pub invariant-loop-seat : goal.invariant-loop-seat
invariant-loop-seat l = (i : ℕ) → i < length l.listers → get_or l.listers i 0 ≡ (if list_any (nat_eq i) (take l.seat-index l.seats) then better l.claims (get_or l.fn.listers i 0) l.folder else get_or l.fn.listers i 0)
