-- Links, and those in memory.
use Rattle.std.specs.Prelude.{◌≡◌, ℕ, Bool, true, false, List, [], map, Option, Some, None}
use Rattle.std.specs.Global.{Vec}
use Rattle.ss_outside.specs.Told.{Meanings}
use Rattle.ss_outside.specs.Memory.{Pieces, Room, flat, filled_pieces}
use Rattle.ss_outside.specs.Plans.{Plan}

-- the bytes are none, where they are told
abbrev pub AreNone : Option (List ℕ) → Type 0
AreNone bytes = (x : List ℕ) → bytes ≡ Some x → x ≡ []

-- of a link from which no byte was taken, to which none was written, and none of whose calls failed
pub record IsUnusedLink (now : Meanings) : Type 0 where
  pub taken : AreNone now.taken
  pub written : AreNone now.written
  pub read_faults : now.read_faults ≡ 0
  pub write_faults : now.write_faults ≡ 0

-- a link in memory: a source, a sink, which of its calls fail, reads and writes counted together, how many of either
-- failed, and whether it was closed
pub record Link : Type 0 where
  pub source : Pieces
  pub sink : Room
  pub plan : Option Plan
  pub read_faults : ℕ
  pub write_faults : ℕ
  pub is_closed : Bool

-- a count of faults; without a plan it is always 0
abbrev pub counted_faults : Option Plan → ℕ → ℕ
counted_faults None count = 0
counted_faults (Some plan) count = count

-- what a link in memory tells
abbrev pub link_tells : Link → Meanings
link_tells l = record {
  taken = Some l.source.taken;
  left = Some (flat l.source.pieces);
  read_faults = counted_faults l.plan l.read_faults;
  written = l.sink.written;
  write_faults = counted_faults l.plan l.write_faults;
}

-- a link in memory before the first call
abbrev pub fresh_link : List (Vec ℕ) → ℕ → Option Plan → Link
fresh_link pieces room plan = record {
  source = record { taken = []; pieces = filled_pieces (map (λ piece. piece.items) pieces); plan = None };
  sink = record { written = Some []; room = room; plan = None };
  plan = plan;
  read_faults = 0;
  write_faults = 0;
  is_closed = false;
}

-- the same link, closed
abbrev pub closed_link : Link → Link
closed_link l = record {
  source = l.source;
  sink = l.sink;
  plan = l.plan;
  read_faults = l.read_faults;
  write_faults = l.write_faults;
  is_closed = true;
}

-- a link over the network: its counts of faults, and whether it was closed
pub record Connection : Type 0 where
  pub read_faults : ℕ
  pub write_faults : ℕ
  pub is_closed : Bool

-- such a link before the first call
abbrev pub idle_link : Connection
idle_link = record { read_faults = 0; write_faults = 0; is_closed = false }
