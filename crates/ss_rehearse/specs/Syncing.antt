-- Syncs under way, for private clauses.
use Rattle.std.specs.Prelude.{◌≡◌, ◌≢◌, ℕ, ◌+◌, ◌*◌, ◌≤◌, List, ◌++◌, length, slice_get, Bool, Option, Some, None}
use Rattle.std.specs.Prelude.{Result, Ok, Err, ⊤}
use Rattle.ss_client.specs.Asking.{awaits}
use Rattle.ss_client.specs.Bounds.{IsBoundedRun, to_follow}
use Rattle.ss_world.specs.Worlds.{WorldView}
use Rattle.ss_world.specs.declared.seats.Seat.{Seat}
use Rattle.ss_world.specs.declared.seats.Seat.TheVariants.{Idle, Syncs}
use Rattle.ss_world.specs.declared.faults.WorldFault.{WorldFault}
use Rattle.ss_world.specs.declared.faults.WorldFault.TheVariants.{Memory}
use Rattle.ss_world.specs.Happening.{Step}
use Rattle.ss_rehearse.specs.Scripts.{Act}
use Rattle.ss_rehearse.specs.Plays.{Asks, IsIdle, Plays, is_post}

-- memory was not wanting for an event
abbrev pub HadMemory : Result (Unit {0}) WorldFault → Type 0
HadMemory (Ok x) = ⊤
HadMemory (Err e) = e ≡ Memory → ⊥

-- whether the request under way is a POST
abbrev pub post_at : Seat → Option Bool
post_at (Idle d) = None
post_at (Syncs m) = Some (is_post (awaits m.stage))

-- how many requests may still come
abbrev pub left_at : Option Seat → ℕ
left_at None = 0
left_at (Some (Idle d)) = 0
left_at (Some (Syncs m)) = 1 + to_follow m.run m.stage

abbrev pub requests_left : ℕ → WorldView → ℕ
requests_left n w = left_at (slice_get w.seats n)

-- the run of a device that syncs ends
abbrev pub IsBoundedSeat : Seat → Type 0
IsBoundedSeat (Idle d) = ⊤
IsBoundedSeat (Syncs m) = IsBoundedRun m.run m.stage

-- there are two devices, of which none syncs
pub record AreIdle (w : WorldView) : Type 0 where
  pub two : length w.seats ≡ 2
  pub idle : (n : ℕ) → IsIdle n w

-- there are two devices, of which none syncs but this one, whose run ends
pub record IsUnderWay (n : ℕ) (w : WorldView) : Type 0 where
  pub two : length w.seats ≡ 2
  pub others : (k : ℕ) → k ≢ n → IsIdle k w
  pub bounded : (s : Seat) → slice_get w.seats n ≡ Some s → IsBoundedSeat s
  pub few : requests_left n w ≤ 105025

-- some requests have come to the account, and others may still come
pub record IsAsking (n now : ℕ) (w : WorldView) (posts : ℕ) (v : WorldView) (next : ℕ) : Type 0 where
  pub steps : List Step
  pub asks : Asks n now w steps posts v
  pub next_is : next ≡ now + 100 * length steps
  pub room : length steps + requests_left n v ≤ 105025
  pub fewer : posts ≤ length steps
  pub two : length v.seats ≡ 2
  pub others : (k : ℕ) → k ≢ n → IsIdle k v
  pub bounded : (s : Seat) → slice_get v.seats n ≡ Some s → IsBoundedSeat s

-- acts lead from a world to another one, in which they send so many POSTs, whatever was sent before
abbrev pub LeadsByActs : WorldView → ℕ → List Act → List ℕ → WorldView → ℕ → Type 0
LeadsByActs w now acts sent v next =
    (posts : List ℕ) → (steps : List Step) × Plays (record { world = w; now = now; posts = posts }) acts steps (record { world = v; now = next; posts = posts ++ sent })
