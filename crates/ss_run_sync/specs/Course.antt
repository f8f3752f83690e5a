-- The course of a run: what it asked, what it heard, and what it does then (the machine is ss_client's).
use Rattle.std.specs.Prelude.{◌≡◌, ℕ, List, [], ◌∷◌}
use Rattle.std.specs.List.{flat_map}
use Rattle.ss_http.specs.declared.heard.Heard.{Heard}
use Rattle.ss_http.specs.Hearing.{Hears}
use Rattle.ss_hearing.specs.Hearing.{answer_of}
use Rattle.ss_route.specs.Sending.{request_sent}
use Rattle.ss_device.specs.Device.{DeviceView}
use Rattle.ss_client.specs.declared.runs.Run.{Run}
use Rattle.ss_client.specs.declared.runs.Stage.{Stage}
use Rattle.ss_client.specs.Asking.{ask, awaits}
use Rattle.ss_client.specs.Machine.{Next, Send, Done, Stop, Follows}

-- an account as a client names it: its number, and the host of its server
pub record Account : Type 0 where
  pub uid : ℕ
  pub host : List ℕ

-- a request and its response: where the run stood when it asked, the bytes that came, and what was heard in them
pub record Exchange : Type 0 where
  pub run : Run
  pub stage : Stage
  pub bytes : List ℕ
  pub heard : Heard

-- the bytes of the request that a device's run sends at a stage
abbrev pub request_at : Account → DeviceView → Run → Stage → List ℕ
request_at account d run stage = request_sent account.uid account.host (ask (record { device = d; run = run; stage = stage }))

-- the bytes of the request that comes next, if one does
abbrev pub request_next : Account → DeviceView → Next → List ℕ
request_next account d (Send run stage) = request_at account d run stage
request_next account d (Done device summary) = []
request_next account d (Stop fault) = []

-- the bytes of the requests, and of the responses, in order
abbrev pub requests : Account → DeviceView → List Exchange → List ℕ
requests account d exchanges = flat_map (λ x. request_at account d x.run x.stage) exchanges

abbrev pub responses : List Exchange → List ℕ
responses exchanges = flat_map (λ x. x.bytes) exchanges

-- From where a run of this device stands it has these exchanges, one after the other, and then does this: at each it asks what its
-- stage asks, hears a response, and goes on as the machine's rules say
abbrev pub IsCourse : DeviceView → Next → List Exchange → Next → Type 0
IsCourse d now [] next = next ≡ now
IsCourse d now (x ∷ exchanges) next =
    (now ≡ Send x.run x.stage) × Hears x.bytes x.heard [] × (then : Next) × Follows d x.run x.stage (answer_of (awaits x.stage) x.heard) then × IsCourse d then exchanges next
