-- An account with its keeper, and the devices that sync with it.
use Rattle.std.specs.Prelude.{ℕ, List, [], ◌∷◌, set, Option, Some, None}
use Rattle.ss_bso.specs.declared.parts.Part.{Part}
use Rattle.ss_client.specs.declared.runs.Stage.{Stage}
use Rattle.ss_client.specs.declared.runs.Stage.TheVariants.{Asks, Opens, Pages, Lists, Uploads}
use Rattle.ss_client.specs.Runs.{MachineView, post_of, rest_of}
use Rattle.ss_client.specs.Asking.{since}
use Rattle.ss_keeper.specs.Memory.{Holding}
use Rattle.ss_account.specs.Held.{AccountWithKeeper}
use Rattle.ss_serving.specs.Bookmarks.{Server}
pub use Rattle.ss_world.specs.declared.seats.Seat.{Seat}
pub use Rattle.ss_world.specs.declared.seats.Seat.TheVariants.{Idle, Syncs}
use Rattle.ss_serving.specs.Asking.{Ask, Configure, FirstPage, NextPage, ListIds, PostAll, PostFirst, PostNext}
use Rattle.ss_serving.specs.Asking.{PostLast}

-- an account with its keeper, and devices, each idle or with a sync under way
pub record WorldView : Type 0 where
  pub server : Server
  pub seats : List Seat

-- an account over a keeper in memory
abbrev pub server_of : AccountWithKeeper Holding → Server
server_of held = record { account = held.plain; kept = held.keeper.kept }

-- another server, and another seat of a device
abbrev pub world_with_seat : WorldView → Server → ℕ → Seat → WorldView
world_with_seat w server n seat = record { server = server; seats = set w.seats n seat }

-- what a POST asks: alone; the first of several; a further one; or the last
abbrev pub post_ask : ℕ → Option ℕ → List Part → List Part → Ask
post_ask time None parts [] = PostAll time parts
post_ask time None parts (p ∷ rest) = PostFirst time parts
post_ask time (Some batch) parts [] = PostLast time batch parts
post_ask time (Some batch) parts (p ∷ rest) = PostNext time batch parts

-- what a machine asks at a stage
abbrev pub asks : MachineView → Stage → Ask
asks m Asks = Configure
asks m Opens = FirstPage (since m)
asks m (Pages p) = NextPage (since m) p.time p.offset
asks m (Lists l) = ListIds l.time
asks m (Uploads u) = post_ask u.time u.batch (post_of u) (rest_of u)
