-- What goes over a link, and how its counts of faults stand then.
use Rattle.std.specs.Prelude.{◌≡◌, ◌⊎◌, ℕ, List, [], ◌++◌}
use Rattle.ss_outside.specs.Told.{Meanings, Takes, Loses, Writes}
use Rattle.ss_outside.specs.Causes.{Rose}

-- no read and no write failed
pub record RaisesNoFault (link link' : Meanings) : Type 0 where
  pub reads : link'.read_faults ≡ link.read_faults
  pub writes : link'.write_faults ≡ link.write_faults

-- these bytes stand at the front of those
abbrev pub IsFront : List ℕ → List ℕ → Type 0
IsFront part whole = (rest : List ℕ) × (whole ≡ part ++ rest)

-- A write of this text failed, of which this part was written, and nothing was read; or it was written, and a read failed
abbrev pub Fails : List ℕ → List ℕ → List ℕ → Meanings → Meanings → Type 0
Fails text got sent link link' =
    (Rose link.write_faults link'.write_faults × (link'.read_faults ≡ link.read_faults) × (got ≡ []) × IsFront sent text)
    ⊎ (Rose link.read_faults link'.read_faults × (link'.write_faults ≡ link.write_faults) × (sent ≡ text))
