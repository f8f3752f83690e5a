-- What comes of one request over a link.
use Rattle.std.specs.Prelude.{◌≡◌, ◌⊎◌, ℕ, List, [], Result, Ok, Err, ⊤}
use Rattle.ss_outside.specs.Told.{Meanings}
use Rattle.ss_http.specs.declared.heard.Heard.{Heard}
use Rattle.ss_http.specs.declared.heard.HeardFault.{HeardFault}
use Rattle.ss_http.specs.declared.heard.HeardFault.TheVariants as faults
use Rattle.ss_http.specs.Hearing.{Hears, IsHeardFault, EndsHearing}
use Rattle.ss_run_sync.specs.declared.asking.Missed.{Missed}
use Rattle.ss_run_sync.specs.declared.asking.Missed.TheVariants as missed
use Rattle.ss_run_sync.specs.Moves.{RaisesNoFault, Fails}
use Rattle.ss_outside.specs.Told.{Moves}

-- the bytes are why no response is read: they were cut short, they begin no response, or one that is too large
abbrev pub IsOfBytes : HeardFault → Type 0
IsOfBytes faults.Cut = ⊤
IsOfBytes faults.Bad = ⊤
IsOfBytes (faults.TooLarge n) = ⊤
IsOfBytes faults.ReadFault = ⊥
IsOfBytes faults.Memory = ⊥

-- no response is read of these bytes: why; and where they were cut short, the link had nothing left
pub record IsUnread (bytes : List ℕ) (link' : Meanings) : Type 0 where
  pub fault : HeardFault
  pub of_bytes : IsOfBytes fault
  pub cause : IsHeardFault fault bytes
  pub ended : EndsHearing fault link'

-- what a fault of reading is to a run
abbrev pub IsMissOfFault : HeardFault → Missed → Type 0
IsMissOfFault fault missed.Unread = IsOfBytes fault
IsMissOfFault fault missed.Wire = fault ≡ faults.ReadFault
IsMissOfFault fault missed.Memory = fault ≡ faults.Memory

-- a response was heard, or why none was: over the request's text, the bytes that came, and those that were written
abbrev pub ComesBack : List ℕ → Result Heard Missed → List ℕ → List ℕ → Meanings → Meanings → Type 0
ComesBack text (Ok heard) got sent link link' = (sent ≡ text) × Hears got heard [] × RaisesNoFault link link'
ComesBack text (Err missed.Unread) got sent link link' = (sent ≡ text) × IsUnread got link' × RaisesNoFault link link'
ComesBack text (Err missed.Wire) got sent link link' = Fails text got sent link link'
ComesBack text (Err missed.Memory) got sent link link' = (((sent ≡ []) × (got ≡ [])) ⊎ (sent ≡ text)) × RaisesNoFault link link'

-- a request with this text was sent over a link, and this came of it
pub record AsksOnce (text : List ℕ) (heard : Result Heard Missed) (link link' : Meanings) : Type 0 where
  pub got : List ℕ
  pub sent : List ℕ
  pub moves : Moves got sent link link'
  pub says : ComesBack text heard got sent link link'
