-- What stands after some messages of a connection, while it goes on, and how it stops where the next bytes have a fault.
use Rattle.std.specs.Prelude.{◌≡◌, ◌≤◌, ◌++◌, ℕ, true, List, [], length, map, Option, Some, None}
use Rattle.std.specs.List.{flat_map}
use Rattle.ss_outside.specs.Told.{Meanings, TakesFirst}
use Rattle.ss_http.specs.declared.fault.MsgFault.{MsgFault}
use Rattle.ss_http.specs.declared.fault.MsgFault.TheVariants as faults
use Rattle.ss_http.specs.Buffers.{KeptBytes}
use Rattle.ss_http.specs.Messages.{Reads}
use Rattle.ss_route.specs.declared.manner.Manner.{Manner}
use Rattle.ss_route.specs.declared.routed.Local.{Local}
use Rattle.ss_route.specs.Wire.{local_wire, refusal_of}
use Rattle.ss_connection.specs.Known.{KnownAccount}
use Rattle.ss_route.specs.Ready.{OrMemory, WasSent, WasCut}
use Rattle.ss_text.specs.Time.{clamped_reading}
use Rattle.ss_connection.specs.Turns.{Exchange, SaysEach, most_messages}
use Rattle.ss_connection.specs.Ends.{ReadsExchanges, AreReadings, GoesOn}
use Rattle.ss_outside.specs.Told.{Moves}
use Rattle.ss_connection.specs.declared.notes.End.{End}
use Rattle.ss_connection.specs.declared.notes.End.TheVariants as ends
use Rattle.ss_connection.specs.declared.notes.TurnNote.{TurnNote}

pub record Progress (manner : Manner) (uids : List ℕ) (known : ℕ → KnownAccount) (link link' : Meanings) (coming coming' : Option (List ℕ)) (kept : KeptBytes) (turns turns' : List TurnNote) (count : ℕ) : Type 0 where
  pub exchanges : List Exchange
  pub taken : List ℕ
  pub sent : List ℕ
  pub noted : turns' ≡ turns ++ map (λ x. x.note) exchanges
  pub says : SaysEach manner uids known exchanges
  pub moves : Moves taken sent link link'
  pub split : Reads taken (map (λ x. x.message) exchanges) kept.bytes
  pub gets : taken ≡ flat_map (λ x. x.got) exchanges
  pub sparing : (bytes : List ℕ) → link.taken ≡ Some bytes → ReadsExchanges [] exchanges kept.bytes
  pub sends : sent ≡ flat_map (λ x. x.response) exchanges
  pub clock : AreReadings (map (λ x. x.note.now) exchanges) coming coming'
  pub goes_on : GoesOn exchanges
  pub going_on : kept.stop ≡ None
  pub counted : count ≡ length exchanges
  pub within : count ≤ most_messages
  pub read_faults : link'.read_faults ≡ link.read_faults
  pub write_faults : link'.write_faults ≡ link.write_faults

-- the end to which a fault leads that isn't answered
abbrev pub end_of : MsgFault → End
end_of faults.End = ends.Closed
end_of faults.Cut = ends.Cut
end_of faults.ReadFault = ends.ReadFault
end_of _ = ends.Memory

-- bytes with this fault are refused, at this reading of the clock, with this response
pub record Refuses (fault : MsgFault) (now : ℕ) (coming coming' : Option (List ℕ)) (bytes : List ℕ) : Type 0 where
  pub local : Local
  pub answered : refusal_of fault ≡ Some local
  pub response : OrMemory (local_wire local (clamped_reading now) true) (clamped_reading now) true bytes
  pub reading : TakesFirst coming coming' now

-- how a connection stops whose next bytes have a fault: it is answered, at least in part; or nothing is written, and the clock isn't read
abbrev pub Stops : End → MsgFault → Meanings → Meanings → Option (List ℕ) → Option (List ℕ) → Type 0
Stops (ends.BadMessage now) fault link link' coming coming' = (bytes : List ℕ) × Refuses fault now coming coming' bytes × WasSent bytes link link'
Stops ends.WriteFault fault link link' coming coming' = (bytes : List ℕ) × (now : ℕ) × Refuses fault now coming coming' bytes × WasCut bytes link link'
Stops end fault link link' coming coming' = (refusal_of fault ≡ None) × (end ≡ end_of fault) × (link' ≡ link) × (coming' ≡ coming)
