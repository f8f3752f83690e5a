-- What `answer` writes for the messages of its input.
use Rattle.std.specs.Prelude.{◌≡◌, ◌≢◌, ◌<◌, ◌≤◌, ◌⊎◌, ℕ, ◌+◌, Bool, true, ◌||◌, nat_eq, min, List, [], ◌∷◌, ◌++◌}
use Rattle.std.specs.Prelude.{length, map, Option, None, Some, IsTrue, IsFalse, if◌then◌else◌, ⊤}
use Rattle.std.specs.Option.{option_map_or}
use Rattle.ss_outside.specs.Told.{Meanings, HasRead, HasWritten, IsUsedUp, TakesFirst}
use Rattle.ss_outside.specs.Causes.{Rose}
use Rattle.ss_text.specs.Time.{last_stamp}
use Rattle.ss_bso.specs.declared.account.Plain.{Plain}
use Rattle.ss_bso.specs.Account.{fresh}
use Rattle.ss_bso.specs.Validity.{IsValid, SameAccount}
use Rattle.ss_query.specs.declared.replies.Mark.{Mark}
use Rattle.ss_query.specs.declared.replies.Mark.TheVariants.{Done, Keeper}
use Rattle.ss_query.specs.declared.replies.Said.TheVariants as words
use Rattle.ss_query.specs.declared.requests.Request.{Request}
use Rattle.ss_laws.specs.Journals.{marked_outcome}
use Rattle.ss_http.specs.declared.message.Message.{Message}
use Rattle.ss_http.specs.declared.fault.MsgFault.{MsgFault}
use Rattle.ss_http.specs.declared.fault.MsgFault.TheVariants as faults
use Rattle.ss_http.specs.Messages.{Reads}
use Rattle.ss_http.specs.Faults.{IsMessageFault}
use Rattle.ss_http.specs.Buffers.{KeptBytes}
use Rattle.ss_http.specs.Responses.{memory_response}
use Rattle.ss_route.specs.declared.manner.Manner.TheVariants.{Profile}
use Rattle.ss_route.specs.declared.routed.Local.{Local}
use Rattle.ss_route.specs.declared.routed.Routed.{Routed}
use Rattle.ss_route.specs.declared.routed.Routed.TheVariants as routes
use Rattle.ss_route.specs.Ready.{WasSent, WasCut}
use Rattle.ss_route.specs.Refusals.{local_with_word}
use Rattle.ss_route.specs.Routing.{routing_of_message}
use Rattle.ss_route.specs.Wire.{wire, local_wire, not_listed, refusal_of}
use Rattle.ss_run_answer.specs.declared.endings.Ending.{Ending}
use Rattle.ss_run_answer.specs.declared.endings.Ending.TheVariants as endings
use Rattle.ss_text.specs.Time.{clamped_reading}

-- what a message asks of the account that is served, and whether lists are wanted in lines; or what it is told at once
pub data RequestOrLocal : Type 0 where
  asks : Request → Bool → RequestOrLocal
  told : Local → RequestOrLocal

-- what is routed to another account is refused, after all other rules
abbrev pub asked_of : ℕ → Routed → RequestOrLocal
asked_of uid (routes.Ask other request newlines) = if nat_eq other uid then asks request newlines else told not_listed
asked_of uid (routes.Local local) = told local
asked_of uid routes.Memory = told (local_with_word 507 words.Memory)

-- what a message asks of the account `uid`, its condition by the letter of the API
abbrev pub asked_by_message : ℕ → Message → RequestOrLocal
asked_by_message uid message = asked_of uid (routing_of_message Profile message)

-- how far a message came: its request was made and entered with this mark, or it was told; or no memory was found to read what it asks
pub data Course : Type 0 where
  entered : Mark → Course
  unread : Course

-- the account's keeper never fails, and what is told at once isn't entered: it counts as done
abbrev pub IsCourseOf : Course → RequestOrLocal → Type 0
IsCourseOf (entered mark) (asks request newlines) = mark ≢ Keeper
IsCourseOf (entered mark) (told local) = mark ≡ Done
IsCourseOf unread question = ⊤

-- the account after a message: only a request that was made changes it
abbrev pub left_by : Course → RequestOrLocal → Plain → ℕ → Plain
left_by (entered mark) (asks request newlines) account now = (marked_outcome account now request mark).account
left_by (entered mark) (told local) account now = account
left_by unread question account now = account

-- the time that a response tells: the account's moment, or where the account wasn't asked the clock's reading
abbrev pub time_told : Course → RequestOrLocal → Plain → ℕ → ℕ
time_told (entered mark) (asks request newlines) account now = (marked_outcome account now request mark).reply.moment
time_told (entered mark) (told local) account now = clamped_reading now
time_told unread question account now = clamped_reading now

-- the response to a message, where there is memory for it; `last` closes the connection
abbrev pub full_response : Course → RequestOrLocal → Plain → ℕ → Bool → List ℕ
full_response (entered mark) (asks request newlines) account now last = wire (marked_outcome account now request mark).reply newlines last
full_response (entered mark) (told local) account now last = local_wire local (clamped_reading now) last
full_response unread question account now last = memory_response (clamped_reading now) last

-- the response to a message; the fixed 507 stands in its place where it could not be rendered
abbrev pub response_to : Bool → Course → RequestOrLocal → Plain → ℕ → Bool → List ℕ
response_to rendered course question account now last =
    if rendered then full_response course question account now last else memory_response (time_told course question account now) last

-- a message that was answered, the reading of the clock then, how far it came, and whether its response could be rendered
pub record Turn : Type 0 where
  pub message : Message
  pub now : ℕ
  pub course : Course
  pub rendered : Bool

-- each message came as far as its turn says
abbrev pub AreTurns : ℕ → List Turn → Type 0
AreTurns uid [] = ⊤
AreTurns uid (turn ∷ turns) = IsCourseOf turn.course (asked_by_message uid turn.message) × AreTurns uid turns

-- how many messages one run answers (this project)
abbrev pub most_messages : ℕ
most_messages = 1000000

-- whether a response closes: its message asks for it, or it is the last that is answered
abbrev pub closes : ℕ → Message → Bool
closes count message = message.last || nat_eq (count + 1) most_messages

-- the account after turns
abbrev pub account_after : ℕ → Plain → List Turn → Plain
account_after uid account [] = account
account_after uid account (turn ∷ turns) = account_after uid (left_by turn.course (asked_by_message uid turn.message) account turn.now) turns

-- the responses to messages, of which `count` were answered before
abbrev pub responses : ℕ → Plain → ℕ → List Turn → List ℕ
responses uid account count [] = []
responses uid account count (turn ∷ turns) =
    response_to turn.rendered turn.course (asked_by_message uid turn.message) account turn.now (closes count turn.message)
    ++ responses uid (left_by turn.course (asked_by_message uid turn.message) account turn.now) (count + 1) turns

-- bytes that are no message and were refused by a response: why, the reading of the clock then, and whether it could be rendered
pub record InputRefusal : Type 0 where
  pub fault : MsgFault
  pub now : ℕ
  pub rendered : Bool

-- the response to bytes that were refused; it closes the connection
abbrev pub refusal_response : InputRefusal → List ℕ
refusal_response refused =
    if refused.rendered then option_map_or (λ local. local_wire local (clamped_reading refused.now) true) (refusal_of refused.fault) []
    else memory_response (clamped_reading refused.now) true

-- the bytes were refused as they are said to be, by a fault that is answered
pub record RefusesBytes (rest : List ℕ) (refused : InputRefusal) : Type 0 where
  pub cause : IsMessageFault refused.fault rest
  pub local : Local
  pub answered : refusal_of refused.fault ≡ Some local

-- the responses of a run, the one to refused bytes at their end
abbrev pub all_responses : ℕ → List Turn → Option InputRefusal → List ℕ
all_responses uid turns refused = responses uid fresh 0 turns ++ option_map_or refusal_response refused []

-- the readings of the clock in a run, one for each response
abbrev pub readings : List Turn → Option InputRefusal → List ℕ
readings turns refused = map (λ turn. turn.now) turns ++ option_map_or (λ last. last.now ∷ []) refused []

-- the next reading of a run, of which so many were taken: upwards from the first that is given, or the clock's
abbrev pub IsReading : Option ℕ → ℕ → ℕ → Option (List ℕ) → Option (List ℕ) → Type 0
IsReading (Some first) count now coming coming' = (now ≡ first + count) × (coming' ≡ coming)
IsReading None count now coming coming' = TakesFirst coming coming' now

-- the readings of a run from a count on, and what is then to come of the clock
abbrev pub AreReadings : Option ℕ → ℕ → List ℕ → Option (List ℕ) → Option (List ℕ) → Type 0
AreReadings at count [] coming coming' = coming' ≡ coming
AreReadings at count (now ∷ more) coming coming' =
    (between : Option (List ℕ)) × IsReading at count now coming between × AreReadings at (count + 1) more between coming'

-- no message so far asked to close
abbrev pub GoesOn : List Turn → Type 0
GoesOn [] = ⊤
GoesOn (turn ∷ turns) = IsFalse turn.message.last × GoesOn turns

-- a turn at the end, and none before it asked to close
pub record EndsIn (turns : List Turn) : Type 0 where
  pub before : List Turn
  pub turn : Turn
  pub all : turns ≡ before ++ turn ∷ []
  pub goes_on : GoesOn before

-- the cause of an ending: the turns, the refused bytes, the bytes that were taken behind the messages, and what input and output tell
abbrev pub Cause : Ending → List Turn → Option InputRefusal → List ℕ → Meanings → Meanings → Meanings → Meanings → Type 0
Cause endings.End turns refused rest input input' output output' = (rest ≡ []) × IsUsedUp input' × GoesOn turns × (refused ≡ None)
Cause endings.Asked turns refused rest input input' output output' =
    (end : EndsIn turns) × IsTrue end.turn.message.last × (refused ≡ None)
Cause endings.Cut turns refused rest input input' output output' = IsMessageFault faults.Cut rest × IsUsedUp input' × GoesOn turns × (refused ≡ None)
Cause endings.Refused turns refused rest input input' output output' =
    (last : InputRefusal) × (refused ≡ Some last) × RefusesBytes rest last × GoesOn turns
Cause endings.Count turns refused rest input input' output output' = (length turns ≡ most_messages) × GoesOn turns × (refused ≡ None)
Cause endings.Input turns refused rest input input' output output' =
    IsMessageFault faults.ReadFault rest × Rose input.read_faults input'.read_faults × GoesOn turns × (refused ≡ None)
Cause endings.Output turns refused rest input input' output output' =
    Rose output.write_faults output'.write_faults
    × ((EndsIn turns × (refused ≡ None)) ⊎ ((last : InputRefusal) × (refused ≡ Some last) × RefusesBytes rest last × GoesOn turns))
Cause endings.Memory turns refused rest input input' output output' = GoesOn turns × (refused ≡ None)
Cause endings.OtherWords turns refused rest input input' output output' = ⊥

-- what was written: the whole; after a failure of the output a front of it
abbrev pub Sends : Ending → List ℕ → List ℕ → Type 0
Sends endings.Output sent whole = (rest : List ℕ) × (whole ≡ sent ++ rest)
Sends endings.End sent whole = sent ≡ whole
Sends endings.Asked sent whole = sent ≡ whole
Sends endings.Cut sent whole = sent ≡ whole
Sends endings.Refused sent whole = sent ≡ whole
Sends endings.Count sent whole = sent ≡ whole
Sends endings.Input sent whole = sent ≡ whole
Sends endings.Memory sent whole = sent ≡ whole
Sends endings.OtherWords sent whole = sent ≡ whole

-- the counts of faults stand where they stood, but for the one that the ending tells of
abbrev pub RaisesOnlyEnding : Ending → Meanings → Meanings → Meanings → Meanings → Type 0
RaisesOnlyEnding endings.Input input input' output output' = output'.write_faults ≡ output.write_faults
RaisesOnlyEnding endings.Output input input' output output' = input'.read_faults ≡ input.read_faults
RaisesOnlyEnding _ input input' output output' = (input'.read_faults ≡ input.read_faults) × (output'.write_faults ≡ output.write_faults)

-- a run that looked for one more message had answered fewer than may be
abbrev pub IsFewer : Ending → ℕ → Type 0
IsFewer endings.Count count = ⊤
IsFewer endings.Asked count = count ≤ most_messages
IsFewer endings.Output count = count ≤ most_messages
IsFewer _ count = count < most_messages

-- a run of `answer` for the account `uid`, with a clock that counts upwards from a first reading, or with the one that is handed in
pub record AnswersInput (uid : ℕ) (at : Option ℕ) (ending : Ending) (input input' output output' : Meanings) (coming coming' : Option (List ℕ)) : Type 0 where
  pub taken : List ℕ
  pub sent : List ℕ
  pub turns : List Turn
  pub refused : Option InputRefusal
  pub rest : List ℕ
  pub read : HasRead taken input input'
  pub write : HasWritten sent output output'
  pub split : Reads taken (map (λ (turn : Turn). turn.message) turns) rest
  pub clock : AreReadings at 0 (readings turns refused) coming coming'
  pub courses : AreTurns uid turns
  pub answered : Sends ending sent (all_responses uid turns refused)
  pub cause : Cause ending turns refused rest input input' output output'
  pub faults : RaisesOnlyEnding ending input input' output output'
  pub fewer : IsFewer ending (length turns)

-- one turn for what a message asks, and its response
pub record IsTurn (question : RequestOrLocal) (now : ℕ) (last : Bool) (old new : Plain) (bytes : List ℕ) : Type 0 where
  pub course : Course
  pub rendered : Bool
  pub is : IsCourseOf course question
  pub left : SameAccount (left_by course question old now) new
  pub sent : bytes ≡ response_to rendered course question old now last

-- the ending that a fault of the input is
abbrev pub ending_of : MsgFault → Ending
ending_of faults.End = endings.End
ending_of faults.Cut = endings.Cut
ending_of faults.BadHead = endings.Refused
ending_of faults.HeadTooLong = endings.Refused
ending_of faults.Coded = endings.Refused
ending_of faults.BadLength = endings.Refused
ending_of (faults.TooLarge n) = endings.Refused
ending_of faults.ReadFault = endings.Input
ending_of faults.Memory = endings.Memory

-- bytes with this fault are refused, at the next reading of the clock
pub record Refuses (fault : MsgFault) (at : Option ℕ) (count : ℕ) (coming coming' : Option (List ℕ)) : Type 0 where
  pub now : ℕ
  pub rendered : Bool
  pub local : Local
  pub answered : refusal_of fault ≡ Some local
  pub reading : IsReading at count now coming coming'

-- the refusal of these bytes
abbrev pub refusal : {fault : MsgFault} {at : Option ℕ} {count : ℕ} {coming coming' : Option (List ℕ)} → Refuses fault at count coming coming' → InputRefusal
refusal {fault} refuses = record { fault = fault; now = refuses.now; rendered = refuses.rendered }

-- how a run stops whose next message has a fault: it is answered, at least in part; or nothing is read and written
abbrev pub Stops : Ending → MsgFault → Option ℕ → ℕ → Meanings → Meanings → Option (List ℕ) → Option (List ℕ) → Type 0
Stops endings.Refused fault at count output output' coming coming' =
    (refuses : Refuses fault at count coming coming') × WasSent (refusal_response (refusal refuses)) output output'
Stops endings.Output fault at count output output' coming coming' =
    (refuses : Refuses fault at count coming coming') × WasCut (refusal_response (refusal refuses)) output output'
Stops ending fault at count output output' coming coming' =
    (refusal_of fault ≡ None) × (ending ≡ ending_of fault) × (output' ≡ output) × (coming' ≡ coming)

-- what stands after some turns, while the run goes on
pub record Progress (uid : ℕ) (at : Option ℕ) (input input' output output' : Meanings) (coming coming' : Option (List ℕ)) (kept : KeptBytes) (account : Plain) (count : ℕ) : Type 0 where
  pub taken : List ℕ
  pub sent : List ℕ
  pub turns : List Turn
  pub read : HasRead taken input input'
  pub write : HasWritten sent output output'
  pub split : Reads taken (map (λ (turn : Turn). turn.message) turns) kept.bytes
  pub clock : AreReadings at 0 (map (λ (turn : Turn). turn.now) turns) coming coming'
  pub courses : AreTurns uid turns
  pub answered : sent ≡ responses uid fresh 0 turns
  pub account_is : SameAccount (account_after uid fresh turns) account
  pub valid : IsValid account
  pub count_is : count ≡ length turns
  pub within : count ≤ most_messages
  pub goes_on : GoesOn turns
  pub going_on : kept.stop ≡ None
  pub read_faults : input'.read_faults ≡ input.read_faults
  pub write_faults : output'.write_faults ≡ output.write_faults
