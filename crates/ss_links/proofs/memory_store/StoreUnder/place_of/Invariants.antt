use Rattle.std.proofs.Common.{◌≡◌, ◌<◌, ℕ, false, get_or, bytes_eq, string_bytes}
use Rattle.ss_links.proofs.Keeping.{named}
use Rattle.std.specs.Global.{Vec, Global}
use Rattle.std.proofs.Common.{String}
use Rattle.ss_links.proofs.memory_store.StoreUnder.place_of.Given as goal

abbrev pub invariant-loop-at : goal.invariant-loop-at
invariant-loop-at g l = (k : ℕ) → k < l.at → (d : String Global × Vec ℕ) → named l.name (get_or l.self.entries k d) ≡ false
