-- Sources and sinks in memory.
use Rattle.std.specs.Prelude.{ℕ, ◌+◌, min, nat_le, Bool, true, false, List, [], ◌∷◌, ◌++◌, length, drop, filter, Option}
use Rattle.std.specs.Prelude.{Some, None, if◌then◌else◌}
use Rattle.std.specs.List.{flat_map}
use Rattle.std.specs.Global.{Vec}
use Rattle.ss_outside.specs.Told.{Meanings}
use Rattle.ss_outside.specs.Plans.{Plan, fault_count}

-- the bytes of pieces, one after the other
abbrev pub bytes_of_pieces : List (Vec ℕ) → List ℕ
bytes_of_pieces pieces = flat_map (λ piece. piece.items) pieces

-- the same of pieces as lists
abbrev pub flat : List (List ℕ) → List ℕ
flat pieces = flat_map (λ piece. piece) pieces

-- whether there is a byte
abbrev pub has_byte : List ℕ → Bool
has_byte [] = false
has_byte (b ∷ bytes) = true

-- the pieces that have a byte
abbrev pub filled_pieces : List (List ℕ) → List (List ℕ)
filled_pieces pieces = filter has_byte pieces

-- pieces without so many bytes at the front of the first
abbrev pub behind : ℕ → List (List ℕ) → List (List ℕ)
behind n [] = []
behind n (piece ∷ pieces) = drop n piece ∷ pieces

-- how many bytes a read takes that has so much room: at most the rest of one piece
abbrev pub read_size : ℕ → List (List ℕ) → ℕ
read_size room [] = 0
read_size room (piece ∷ pieces) = min room (length piece)

-- a source in memory: the bytes that were taken from it, the pieces that are left, none of them empty, and which of its
-- reads fail
pub record Pieces : Type 0 where
  pub taken : List ℕ
  pub pieces : List (List ℕ)
  pub plan : Option Plan

-- what a source in memory tells
abbrev pub source_tells : Pieces → Meanings
source_tells s = record {
  taken = Some s.taken;
  left = Some (flat s.pieces);
  read_faults = fault_count s.plan;
  written = None;
  write_faults = 0;
}

-- a sink in memory: what was written, where that is told, for how many bytes it has room, and which of its writes fail
pub record Room : Type 0 where
  pub written : Option (List ℕ)
  pub room : ℕ
  pub plan : Option Plan

-- what a sink in memory tells
abbrev pub sink_tells : Room → Meanings
sink_tells s = record {
  taken = None;
  left = None;
  read_faults = 0;
  written = s.written;
  write_faults = fault_count s.plan;
}

-- what is told after a write of a piece: the piece stands at its end, where it was told and the room is enough
abbrev pub with_piece : ℕ → Option (List ℕ) → List ℕ → Option (List ℕ)
with_piece room None piece = None
with_piece room (Some written) piece = if nat_le (length written + length piece) room then Some (written ++ piece) else None
