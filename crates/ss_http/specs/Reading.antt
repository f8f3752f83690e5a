-- What a call that reads a message answers.
use Rattle.std.specs.Prelude.{◌≡◌, ◌≤◌, ◌<◌, ◌⊎◌, ℕ, List, [], ◌∷◌, length, None, Result, Ok, Err, ⊤}
use Rattle.ss_outside.specs.Told.{Meanings, IsUsedUp}
use Rattle.ss_outside.specs.Causes.{Rose}
use Rattle.ss_http.specs.declared.message.Message.{Message}
use Rattle.ss_http.specs.declared.fault.MsgFault.{MsgFault}
use Rattle.ss_http.specs.declared.fault.MsgFault.TheVariants as faults
use Rattle.ss_http.specs.Buffers.{KeptBytes}
use Rattle.httparse.specs.Grammar.{RequestHead}
use Rattle.ss_http.specs.Messages.{BeginsWith, ReadsMessage}
use Rattle.ss_http.specs.Limits.{most_head_bytes}
use Rattle.ss_http.specs.Faults.{IsMessageFault, lasting}

-- of the kept and brought bytes the message was the front, and the rest is kept; after a fault all are kept
abbrev pub ReadsNext : Result Message MsgFault → List ℕ → KeptBytes → Type 0
ReadsNext (Ok m) bytes kept = ReadsMessage bytes m kept.bytes × (kept.stop ≡ None)
ReadsNext (Err e) bytes kept = (kept.bytes ≡ bytes) × (kept.stop ≡ lasting e) × IsMessageFault e bytes

-- the bytes decide over a head: one stands whole at their front, or they are as many as a head may have
abbrev pub DecidesHead : List ℕ → Type 0
DecidesHead bytes = ((h : RequestHead) × BeginsWith bytes h) ⊎ (most_head_bytes ≤ length bytes)

-- what the kept bytes are where a call that waits for so many answers this fault
abbrev pub IsShort : MsgFault → ℕ → List ℕ → Type 0
IsShort faults.Cut size bytes = length bytes < size
IsShort faults.ReadFault size bytes = length bytes < size
IsShort _ size bytes = ⊥

-- the fault of an input that ended with these bytes before a head was whole
abbrev pub ended_by : List ℕ → MsgFault
ended_by [] = faults.End
ended_by (b ∷ bytes) = faults.Cut

-- the input ended, where the fault says so
abbrev pub EndsWith : MsgFault → Meanings → Type 0
EndsWith faults.End now = IsUsedUp now
EndsWith faults.Cut now = IsUsedUp now
EndsWith _ now = ⊤

-- the source's count of faults rises in a call that answers ReadFault, and in no other
abbrev pub RisesWith : MsgFault → ℕ → ℕ → Type 0
RisesWith faults.ReadFault before now = Rose before now
RisesWith _ before now = now ≡ before
