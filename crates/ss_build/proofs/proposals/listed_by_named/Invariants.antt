use Rattle.std.proofs.Common.{◌≡◌, ◌<◌, ◌&&◌, ℕ, false, nat_lt, get_or, length, vec_len}
use Rattle.ss_build.specs.Places.{at, kept_at}
use Rattle.ss_build.proofs.proposals.listed_by_named.Given as goal

abbrev pub invariant-loop-folder : goal.invariant-loop-folder
invariant-loop-folder l = (vec_len l.kept ≡ length l.claims) × ((i : ℕ) → i < length l.claims → get_or l.kept.items i false ≡ (nat_lt (get_or l.claimed i 0) l.folder && kept_at l.claims (at l.claims i)))
