-- What an object of the outside tells of its bytes and its faults. A word speaks of a content where it is told (`Some`);
-- what isn't told stays untold.
use Rattle.std.specs.Prelude.{◌≡◌, ℕ, ◌<◌, List, [], ◌∷◌, ◌++◌, take, Option, None, Some, Result, Ok, Err, ⊤}
use Rattle.std.specs.Option.{option_map}

-- what an object tells: the bytes that were taken from it, that are left in it and that were written to it, and how many
-- reads and writes failed
pub record Meanings : Type 0 where
  pub taken : Option (List ℕ)
  pub left : Option (List ℕ)
  pub read_faults : ℕ
  pub written : Option (List ℕ)
  pub write_faults : ℕ

-- of an object that tells nothing but its counts
abbrev pub counts_alone : ℕ → ℕ → Meanings
counts_alone reads writes = record { taken = None; left = None; read_faults = reads; written = None; write_faults = writes }

-- the bytes that a read brought into its buffer
abbrev pub bytes_received : {E : Type 0} → Result ℕ E → List ℕ → List ℕ
bytes_received (Ok n) into = take n into
bytes_received (Err fault) into = []

-- the bytes of the piece that a write took
abbrev pub bytes_accepted : {E : Type 0} → Result ℕ E → List ℕ → List ℕ
bytes_accepted (Ok n) from = take n from
bytes_accepted (Err fault) from = []

-- what was taken has these bytes more at its end
abbrev pub Takes : List ℕ → Option (List ℕ) → Option (List ℕ) → Type 0
Takes got old new = new ≡ option_map (λ x. x ++ got) old

-- what is left has lost these bytes at its front
abbrev pub Loses : List ℕ → Option (List ℕ) → Option (List ℕ) → Type 0
Loses got old new = old ≡ option_map (λ y. got ++ y) new

-- what was written, where it is told in the end, has these bytes more at its end
abbrev pub Writes : List ℕ → Option (List ℕ) → Option (List ℕ) → Type 0
Writes sent old new = (y : List ℕ) → new ≡ Some y → (x : List ℕ) × (old ≡ Some x) × (y ≡ x ++ sent)

-- reads brought these bytes; nothing that is written changes
pub record HasRead (got : List ℕ) (old new : Meanings) : Type 0 where
  pub taken : Takes got old.taken new.taken
  pub left : Loses got old.left new.left
  pub written : new.written ≡ old.written
  pub write_faults : new.write_faults ≡ old.write_faults

-- writes took these bytes; nothing that is read changes. Where they took none, as a refused write, what is told stays
pub record HasWritten (sent : List ℕ) (old new : Meanings) : Type 0 where
  pub written : Writes sent old.written new.written
  pub idle : sent ≡ [] → new.written ≡ old.written
  pub taken : new.taken ≡ old.taken
  pub left : new.left ≡ old.left
  pub read_faults : new.read_faults ≡ old.read_faults

-- nothing is left
abbrev pub IsUsedUp : Meanings → Type 0
IsUsedUp now = (x : List ℕ) → now.left ≡ Some x → x ≡ []

-- a read of no byte into a buffer that has room comes at the input's end alone
abbrev pub EndsAt : {E : Type 0} → Result ℕ E → ℕ → Meanings → Type 0
EndsAt (Ok n) room old = n ≡ 0 → 0 < room → IsUsedUp old
EndsAt (Err fault) room old = ⊤

-- a reading is the first that was to come, where there is one
abbrev pub TakesFirst : Option (List ℕ) → Option (List ℕ) → ℕ → Type 0
TakesFirst None new now = new ≡ None
TakesFirst (Some []) new now = new ≡ Some []
TakesFirst (Some (first ∷ rest)) new now = (now ≡ first) × (new ≡ Some rest)

-- reads brought these bytes, and writes took those
pub record Moves (got sent : List ℕ) (link link' : Meanings) : Type 0 where
  pub taken : Takes got link.taken link'.taken
  pub left : Loses got link.left link'.left
  pub written : Writes sent link.written link'.written
  pub idle : sent ≡ [] → link'.written ≡ link.written

-- nothing was read or written, and the clock was not read
pub record TouchesNothing (input input' output output' : Meanings) (coming coming' : Option (List ℕ)) : Type 0 where
  pub unread : input' ≡ input
  pub unwritten : output' ≡ output
  pub unasked : coming' ≡ coming
