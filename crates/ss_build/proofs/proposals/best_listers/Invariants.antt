use Rattle.std.proofs.Common.{◌≡◌, ◌<◌, ℕ, filter, take, get_or, length, vec_len}
use Rattle.ss_build.specs.Built.{best, lists}
use Rattle.ss_build.specs.Places.{at, seat}
use Rattle.ss_build.proofs.proposals.best_listers.Given as goal

abbrev pub invariant-loop-folder : goal.invariant-loop-folder
invariant-loop-folder l = (vec_len l.listers ≡ length l.claims) × ((i : ℕ) → i < length l.claims → get_or l.listers.items i 0 ≡ seat l.claims (best (filter (λ f. lists f (at l.claims i).item.id) (take l.folder l.claims))))
