-- One exchange of a device with a server of its account, in bytes (this project).
use Rattle.std.specs.Prelude.{◌≡◌, ◌≤◌, ℕ, nat_lt, Bool, false, List, ⊤}
use Rattle.ss_text.specs.declared.stamps.Cond.TheVariants.{IfUnmodified}
use Rattle.ss_bso.specs.declared.account.Plain.{Plain}
use Rattle.ss_bso.specs.Account.{tick}
use Rattle.ss_http.specs.declared.heard.Heard.{Heard}
use Rattle.ss_http.specs.declared.message.Message.{Message}
use Rattle.ss_http.specs.Hearing.{Hears}
use Rattle.ss_http.specs.Messages.{ReadsMessage}
use Rattle.ss_query.specs.declared.replies.Mark.{Mark}
use Rattle.ss_query.specs.declared.replies.Mark.TheVariants.{Done}
use Rattle.ss_query.specs.declared.requests.Request.{Request}
use Rattle.ss_query.specs.Api.{api}
use Rattle.ss_query.specs.Refused.{condition_of, is_there, target_time}
use Rattle.ss_laws.specs.Journals.{marked_outcome}
use Rattle.ss_route.specs.declared.manner.Manner.{Manner}
use Rattle.ss_route.specs.declared.manner.Manner.TheVariants.{Profile, Browser}
use Rattle.ss_route.specs.declared.routed.Routed.TheVariants.{Ask}
use Rattle.ss_route.specs.Routing.{routing_of_message}
use Rattle.ss_route.specs.Sending.{IsHost, HasTypes, request_sent}
use Rattle.ss_route.specs.Wire.{IsHeardWhole, wire}
use Rattle.ss_hearing.specs.Hearing.{answer_of}
use Rattle.ss_client.specs.Asking.{ask, awaits}
use Rattle.ss_client.specs.Machine.{Follows, Next}
use Rattle.ss_client.specs.Runs.{MachineView}
use Rattle.ss_client.specs.Sound.{IsSound}
use Rattle.ss_serving.specs.Bookmarks.{Server}
use Rattle.ss_serving.specs.Steps.{Answers, Ticks}
use Rattle.ss_promises.specs.Readable.{IsReadableRun}
use Rattle.ss_promises.specs.Values.{IsTypedAccount}

-- ---- the device

-- an account as a device asks for it: its number, and the host of its server
pub record Address : Type 0 where
  pub uid : ℕ
  pub host : List ℕ

-- the number is one of 32 bits and not 0, and the host has 1 to 1,030 visible bytes
pub record IsAddress (address : Address) : Type 0 where
  pub least : 1 ≤ address.uid
  pub most : address.uid ≤ 4294967295
  pub host : IsHost address.host

-- a machine as a run makes it: its requests can be sent and are within what a server reads; the one under way has the values of its
-- types
pub record IsReady (machine : MachineView) : Type 0 where
  pub sound : IsSound machine.run machine.stage
  pub readable : IsReadableRun machine.run machine.stage
  pub typed : HasTypes (ask machine)

-- the bytes of the machine's request
abbrev pub bytes_sent : Address → MachineView → List ℕ
bytes_sent address machine = request_sent address.uid address.host (ask machine)

-- the machine hears the response at the front of what comes, and does with it what its definition says
pub record Proceeds (machine : MachineView) (input : List ℕ) (next : Next) : Type 0 where
  pub heard : Heard
  pub left : List ℕ
  pub hears : Hears input heard left
  pub follows : Follows machine.device machine.run machine.stage (answer_of (awaits machine.stage) heard) next

-- ---- the server

-- A server reads the message at the front of what comes and routes it, in a manner of reading conditions, to a request of an
-- account; this account answers it at a reading of the clock, and the reply is written as its response.
pub record Responds (manner : Manner) (input : List ℕ) (before : Server) (now : ℕ) (after : Server) (output : List ℕ) : Type 0 where
  pub message : Message
  pub left : List ℕ
  pub reads : ReadsMessage input message left
  pub uid : ℕ
  pub request : Request
  pub newlines : Bool
  pub routes : routing_of_message manner message ≡ Ask uid request newlines
  pub answers : Answers before now request after
  pub last : Bool
  pub writes : output ≡ wire (api before.account now request).reply newlines last

-- The same of a request that isn't done since no memory was found or the keeper failed, by its mark: the account reads its clock alone,
-- and the reply says so.
pub record Fails (manner : Manner) (input : List ℕ) (before : Server) (now : ℕ) (mark : Mark) (after : Server) (output : List ℕ) : Type 0 where
  pub message : Message
  pub left : List ℕ
  pub reads : ReadsMessage input message left
  pub uid : ℕ
  pub request : Request
  pub newlines : Bool
  pub routes : routing_of_message manner message ≡ Ask uid request newlines
  pub fails : mark ≡ Done → ⊥
  pub ticks : Ticks before now after
  pub last : Bool
  pub writes : output ≡ wire (marked_outcome before.account now request mark).reply newlines last

-- A request means the same in either manner: the manner is that of the letter; or, where the condition is that nothing has changed
-- since 0, which browsers mean as that the target isn't there, the target is there exactly if it has a time after 0.
abbrev pub IsMeantAlike : Manner → Plain → ℕ → Request → Type 0
IsMeantAlike Profile account now request = ⊤
IsMeantAlike Browser account now request =
    condition_of request ≡ IfUnmodified 0 → is_there (tick account now) request ≡ nat_lt 0 (target_time (tick account now) request)

-- An account's reply to what a machine asks is one that its client reads: the account's values are those of its types, and the body of
-- the reply isn't larger than a client reads.
pub record IsTellable (account : Plain) (now : ℕ) (machine : MachineView) : Type 0 where
  pub values : IsTypedAccount account
  pub whole : IsHeardWhole (api account now (ask machine)).reply false
