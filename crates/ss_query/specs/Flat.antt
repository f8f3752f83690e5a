-- The flat list: the same requests without batches, each commit's whole list in its place.
use Rattle.std.specs.Prelude.{ℕ, ◌==◌, Bool, false, List, [], ◌∷◌, ◌++◌, flat_map, Option, Some, None, option_map}
use Rattle.std.specs.Prelude.{if◌then◌else◌}
use Rattle.std.specs.Option.{option_map_or}
use Rattle.ss_bso.specs.declared.parts.Part.{Part}
use Rattle.ss_bso.specs.declared.account.Plain.{Plain}
use Rattle.ss_bso.specs.declared.account.Staged.{Staged as StagedBatch}
use Rattle.ss_bso.specs.Account.{tick}
use Rattle.ss_query.specs.declared.requests.Request.{Request}
use Rattle.ss_query.specs.declared.requests.Request.TheVariants.{Post}
use Rattle.ss_query.specs.declared.requests.Mode.TheVariants.{Plain as PlainPost, Begin, Append, Commit}
use Rattle.ss_query.specs.declared.replies.Reply.{Reply}
use Rattle.ss_query.specs.declared.replies.Body.{Body}
use Rattle.ss_query.specs.declared.replies.Body.TheVariants.{Staged}
use Rattle.ss_query.specs.Api.{api}

-- a reading of the clock, with a request or bare
pub record Ask : Type 0 where
  pub now : ℕ
  pub request : Option Request

-- the account after an ask
abbrev pub after_ask : Plain → Ask → Plain
after_ask account ask = option_map_or (λ request. (api account ask.now request).account) ask.request (tick account ask.now)

-- the reply to an ask, where it has a request
abbrev pub reply_to : Plain → Ask → Option Reply
reply_to account ask = option_map (λ request. (api account ask.now request).reply) ask.request

-- an ask with its reply
pub record Turn : Type 0 where
  pub ask : Ask
  pub reply : Option Reply

-- the account after a list of asks
abbrev pub after_all : Plain → List Ask → Plain
after_all account [] = account
after_all account (ask ∷ asks) = after_all (after_ask account ask) asks

-- a list of asks, each with its reply
abbrev pub turns : Plain → List Ask → List Turn
turns account [] = []
turns account (ask ∷ asks) = record { ask = ask; reply = reply_to account ask } ∷ turns (after_ask account ask) asks

-- the number of the batch that a reply names: it stands in each 202, and nowhere else
abbrev pub batch_named : Body → Option ℕ
batch_named (Staged number success failed) = Some number
batch_named _ = None

-- whether a turn's reply names this batch
abbrev pub is_for_batch : ℕ → Turn → Bool
is_for_batch number turn =
    option_map_or (λ reply. option_map_or (λ named. named == number) (batch_named reply.body) false) turn.reply false

-- the parts of a request, where it is a POST
abbrev pub parts_sent : Request → List Part
parts_sent (Post collection records mode cond) = records.parts
parts_sent _ = []

-- the parts that a turn staged for a batch: those of its request, where it was answered 202 for that batch
abbrev pub staged_by : ℕ → Turn → List Part
staged_by number turn = if is_for_batch number turn then option_map_or parts_sent turn.ask.request [] else []

-- the parts that a batch has gathered: those that the opening lists for it, and then those that the turns staged for it
abbrev pub gathered_parts : Plain → List Turn → ℕ → List Part
gathered_parts opening past number =
    flat_map (λ (batch : StagedBatch). if batch.number == number then batch.parts else []) opening.batches
    ++ flat_map (staged_by number) past

-- answered 200
abbrev pub is_answered_200 : Turn → Bool
is_answered_200 turn = option_map_or (λ reply. reply.status == 200) turn.reply false

-- what stands for a request in the flat list: nothing but the reading for a begin, an append and a commit that isn't answered 200;
-- one plain POST of all the parts for a commit that is; and every other request for itself
abbrev pub flat_request : (ℕ → List Part) → Bool → Request → Option Request
flat_request parts_for ok (Post collection records PlainPost cond) = Some (Post collection records PlainPost cond)
flat_request parts_for ok (Post collection records Begin cond) = None
flat_request parts_for ok (Post collection records (Append number) cond) = None
flat_request parts_for ok (Post collection records (Commit number) cond) =
    if ok then Some (Post collection (record records { parts = parts_for number ++ records.parts }) PlainPost cond) else None
flat_request parts_for ok request = Some request

-- what stands for a turn in the flat list
abbrev pub flat_ask : (ℕ → List Part) → Turn → Ask
flat_ask parts_for turn = record {
  now = turn.ask.now;
  request = option_map_or (flat_request parts_for (is_answered_200 turn)) turn.ask.request None;
}

-- what stands for the turns after those of the past
abbrev pub flat_after : Plain → List Turn → List Turn → List Ask
flat_after opening past [] = []
flat_after opening past (turn ∷ turns) = flat_ask (gathered_parts opening past) turn ∷ flat_after opening (past ++ turn ∷ []) turns

-- the flat list
abbrev pub flat : Plain → List Ask → List Ask
flat opening asks = flat_after opening [] (turns opening asks)
