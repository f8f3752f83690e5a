-- What a connection is: its messages and their responses in order, what was taken from its link, and how it ended.
use Rattle.std.specs.Prelude.{◌≡◌, ◌<◌, ◌≤◌, ◌⊎◌, ℕ, true, List, [], ◌∷◌, ◌++◌, length, map, Option, None, Some, All}
use Rattle.std.specs.Prelude.{IsTrue, IsFalse, ⊤}
use Rattle.std.specs.List.{flat_map}
use Rattle.std.specs.Option.{option_map_or}
use Rattle.ss_outside.specs.Told.{Meanings, IsUsedUp, Takes, Loses, Writes, TakesFirst}
use Rattle.ss_outside.specs.Causes.{Rose}
use Rattle.ss_http.specs.declared.fault.MsgFault.{MsgFault}
use Rattle.ss_http.specs.declared.fault.MsgFault.TheVariants as faults
use Rattle.ss_http.specs.declared.message.Message.{Message}
use Rattle.ss_http.specs.Faults.{IsMessageFault}
use Rattle.ss_http.specs.Messages.{Reads, ReadsMessage}
use Rattle.ss_route.specs.declared.manner.Manner.{Manner}
use Rattle.ss_route.specs.declared.routed.Local.{Local}
use Rattle.ss_route.specs.Wire.{local_wire, refusal_of}
use Rattle.ss_connection.specs.Known.{KnownAccount}
use Rattle.ss_route.specs.Ready.{OrMemory}
use Rattle.ss_text.specs.Time.{clamped_reading}
use Rattle.ss_connection.specs.Turns.{Exchange, SaysEach, most_messages}
use Rattle.ss_connection.specs.declared.notes.End.{End}
use Rattle.ss_connection.specs.declared.notes.End.TheVariants as ends
use Rattle.ss_connection.specs.declared.notes.TurnNote.{TurnNote}
use Rattle.ss_outside.specs.Told.{Moves}

-- these readings were taken of a clock, one after the other
abbrev pub AreReadings : List ℕ → Option (List ℕ) → Option (List ℕ) → Type 0
AreReadings [] coming coming' = coming' ≡ coming
AreReadings (now ∷ readings) coming coming' = (between : Option (List ℕ)) × TakesFirst coming between now × AreReadings readings between coming'

-- bytes that are no message and were refused: why, the reading of the clock then, and the response
pub record Refusal : Type 0 where
  pub fault : MsgFault
  pub now : ℕ
  pub response : List ℕ

-- The bytes behind the messages have a fault that is answered, and this is the response; it closes the connection
pub record RefusesRest (rest : List ℕ) (refusal : Refusal) : Type 0 where
  pub cause : IsMessageFault refusal.fault rest
  pub local : Local
  pub answered : refusal_of refusal.fault ≡ Some local
  pub response : OrMemory (local_wire local (clamped_reading refusal.now) true) (clamped_reading refusal.now) true refusal.response

-- the responses of a connection, in order, the one to refused bytes at their end
abbrev pub responses : List Exchange → Option Refusal → List ℕ
responses exchanges refusal = flat_map (λ x. x.response) exchanges ++ option_map_or (λ refused. refused.response) refusal []

-- the readings of the clock, one for each response
abbrev pub readings : List Exchange → Option Refusal → List ℕ
readings exchanges refusal = map (λ x. x.note.now) exchanges ++ option_map_or (λ refused. refused.now ∷ []) refusal []

-- no message so far asked to close, and of no response the gate said that it does
abbrev pub GoesOn : List Exchange → Type 0
GoesOn exchanges = All (λ x. IsFalse x.message.last × IsFalse x.note.closed_by_gate) exchanges

-- there is a last message, and up to it none asked to close, and of no response the gate said that it does
pub record EndsIn (exchanges : List Exchange) : Type 0 where
  pub before : List Exchange
  pub last : Exchange
  pub all : exchanges ≡ before ++ last ∷ []
  pub goes_on : GoesOn before

-- The cause of an end: the messages, the refusal, the bytes behind the messages, and what the link tells
abbrev pub Cause : End → List Exchange → Option Refusal → List ℕ → Meanings → Meanings → Type 0
Cause ends.Closed exchanges refusal rest link link' = (rest ≡ []) × IsUsedUp link' × GoesOn exchanges × (refusal ≡ None)
Cause ends.Asked exchanges refusal rest link link' = (end : EndsIn exchanges) × IsTrue end.last.message.last × (refusal ≡ None)
Cause ends.Gate exchanges refusal rest link link' =
    (end : EndsIn exchanges) × IsFalse end.last.message.last × IsTrue end.last.note.closed_by_gate × (refusal ≡ None)
Cause ends.Count exchanges refusal rest link link' = (length exchanges ≡ most_messages) × GoesOn exchanges × (refusal ≡ None)
Cause ends.Cut exchanges refusal rest link link' = IsMessageFault faults.Cut rest × IsUsedUp link' × GoesOn exchanges × (refusal ≡ None)
Cause (ends.BadMessage now) exchanges refusal rest link link' =
    (refused : Refusal) × (refusal ≡ Some refused) × (refused.now ≡ now) × RefusesRest rest refused × GoesOn exchanges
Cause ends.ReadFault exchanges refusal rest link link' =
    IsMessageFault faults.ReadFault rest × Rose link.read_faults link'.read_faults × GoesOn exchanges × (refusal ≡ None)
Cause ends.WriteFault exchanges refusal rest link link' =
    Rose link.write_faults link'.write_faults
    × ((EndsIn exchanges × (refusal ≡ None)) ⊎ ((refused : Refusal) × (refusal ≡ Some refused) × RefusesRest rest refused × GoesOn exchanges))
Cause ends.Memory exchanges refusal rest link link' = GoesOn exchanges × (refusal ≡ None)

-- what was written of the responses: all; after a failure of the link a front
abbrev pub Sends : End → List ℕ → List ℕ → Type 0
Sends ends.WriteFault sent whole = (rest : List ℕ) × (whole ≡ sent ++ rest)
Sends _ sent whole = sent ≡ whole

-- the link's counts of faults stand where they stood, but for the one that the end tells of
abbrev pub RaisesOnlyEnd : End → Meanings → Meanings → Type 0
RaisesOnlyEnd ends.ReadFault link link' = link'.write_faults ≡ link.write_faults
RaisesOnlyEnd ends.WriteFault link link' = link'.read_faults ≡ link.read_faults
RaisesOnlyEnd _ link link' = (link'.read_faults ≡ link.read_faults) × (link'.write_faults ≡ link.write_faults)

-- The messages were read one after the other, each from the bytes that were kept and those that were taken for it. Where it was kept
-- whole, none were
abbrev pub ReadsExchanges : List ℕ → List Exchange → List ℕ → Type 0
ReadsExchanges kept [] kept' = kept ≡ kept'
ReadsExchanges kept (x ∷ exchanges) kept' =
    (after : List ℕ) × ReadsMessage (kept ++ x.got) x.message after × ((m : Message) (rest : List ℕ) → ReadsMessage kept m rest → x.got ≡ []) × ReadsExchanges after exchanges kept'

-- the bytes that were taken after the last message that was answered: none, where no further one was looked for
abbrev pub TakesNoMore : End → Option Refusal → List ℕ → Type 0
TakesNoMore ends.Asked refusal more = more ≡ []
TakesNoMore ends.Gate refusal more = more ≡ []
TakesNoMore ends.Count refusal more = more ≡ []
TakesNoMore ends.WriteFault refusal more = refusal ≡ None → more ≡ []
TakesNoMore _ refusal more = ⊤

-- of a link that tells: it was read no further than for the messages, and for the rest behind them
pub record IsSparing (exchanges : List Exchange) (rest more : List ℕ) : Type 0 where
  pub kept : List ℕ
  pub read : ReadsExchanges [] exchanges kept
  pub behind : rest ≡ kept ++ more

-- how many messages there were: who looked for one more had answered fewer than may be
abbrev pub IsFewer : End → ℕ → Type 0
IsFewer ends.Asked count = count ≤ most_messages
IsFewer ends.Gate count = count ≤ most_messages
IsFewer ends.Count count = count ≤ most_messages
IsFewer ends.WriteFault count = count ≤ most_messages
IsFewer _ count = count < most_messages

-- A connection that had these turns, in a manner of reading conditions, over what is known of the accounts. Whoever knows more of them can say it too (`served_later`)
pub record IsServedConnection (manner : Manner) (uids : List ℕ) (known : ℕ → KnownAccount) (end : End) (link link' : Meanings) (coming coming' : Option (List ℕ)) (notes : List TurnNote) : Type 0 where
  pub exchanges : List Exchange
  pub refusal : Option Refusal
  pub taken : List ℕ
  pub rest : List ℕ
  pub sent : List ℕ
  -- The turns are those of the messages, and each response is what its turn says.
  pub noted : notes ≡ map (λ x. x.note) exchanges
  pub says : SaysEach manner uids known exchanges
  -- What was taken from the link are the messages, and then the rest, of which the cause tells.
  pub moves : Moves taken sent link link'
  pub split : Reads taken (map (λ x. x.message) exchanges) rest
  -- No more was taken than for each message, and for the one behind them where one was looked for.
  pub more : List ℕ
  pub gets : taken ≡ flat_map (λ x. x.got) exchanges ++ more
  pub sparing : (bytes : List ℕ) → link.taken ≡ Some bytes → IsSparing exchanges rest more
  pub no_more : TakesNoMore end refusal more
  -- What was written to it are the responses, in order.
  pub sends : Sends end sent (responses exchanges refusal)
  -- The clock's readings are one for each response.
  pub clock : AreReadings (readings exchanges refusal) coming coming'
  -- Why it ended.
  pub cause : Cause end exchanges refusal rest link link'
  pub faults : RaisesOnlyEnd end link link'
  pub fewer : IsFewer end (length exchanges)
