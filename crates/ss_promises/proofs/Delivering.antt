-- An exchange in bytes is a step of a world.
use Rattle.std.specs.Prelude.{◌≡◌, ℕ, Bool, false, List, ◌++◌, slice_get, MatchOption, Some, refl}
use Rattle.std.proofs.Common.{sym, ap, subst, ◌∙◌}
use Rattle.ss_bso.specs.declared.account.Plain.{Plain}
use Rattle.ss_http.specs.Hearing.{Hears}
use Rattle.ss_query.specs.declared.replies.Mark.{Mark}
use Rattle.ss_laws.specs.Journals.{marked_outcome}
use Rattle.ss_query.specs.declared.requests.Request.{Request}
use Rattle.ss_query.specs.declared.requests.Request.TheVariants.{DeleteAll}
use Rattle.ss_query.specs.Api.{Outcome, api}
use Rattle.ss_text.specs.declared.stamps.Cond.TheVariants.{Free}
use Rattle.ss_route.specs.declared.manner.Manner.{Manner}
use Rattle.ss_route.specs.declared.routed.Routed.{Routed}
use Rattle.ss_route.specs.declared.routed.Routed.TheVariants.{Ask, Local, Memory}
use Rattle.ss_route.specs.Routing.{routing_of_message}
use Rattle.ss_route.specs.Sending.{request_meant}
use Rattle.ss_route.specs.Wire.{wire}
use Rattle.ss_hearing.specs.Hearing.{answer_of}
use Rattle.ss_client.specs.Asking.{ask, awaits}
use Rattle.ss_client.specs.Machine.{Follows, Next}
use Rattle.ss_client.specs.Runs.{MachineView}
use Rattle.ss_serving.specs.Asking.{told_by}
use Rattle.ss_serving.specs.Bookmarks.{Server}
use Rattle.ss_serving.specs.Steps.{Answers}
use Rattle.ss_world.specs.declared.events.Event.TheVariants.{Deliver, LoseReply}
use Rattle.ss_world.specs.Happening.{Happens, DeliversAtSeat, IsLost}
use Rattle.ss_world.specs.Seats.{after}
use Rattle.ss_world.specs.declared.seats.Seat.TheVariants.{Idle, Syncs}
use Rattle.ss_world.specs.Worlds.{WorldView, world_with_seat}
use Rattle.ss_promises.specs.Exchanges.{Proceeds, Responds}
use Rattle.ss_promises.proofs.Meaning.{Alike, answers-alike}

-- what routing gives, where it gives a request
uid_in : Routed → ℕ
uid_in (Ask uid request newlines) = uid
uid_in (Local told) = 0
uid_in Memory = 0

request_in : Routed → Request
request_in (Ask uid request newlines) = request
request_in (Local told) = DeleteAll Free
request_in Memory = DeleteAll Free

newlines_in : Routed → Bool
newlines_in (Ask uid request newlines) = newlines
newlines_in (Local told) = false
newlines_in Memory = false

-- where routing gives one request, it gives no other
pub asked_alike : (uid other : ℕ) (request asked : Request) (newlines : Bool) → Ask uid request newlines ≡ Ask other asked false → (uid ≡ other) × (newlines ≡ false)
unfolding uid_in newlines_in
asked_alike uid other request asked newlines e = (ap uid_in e, ap newlines_in e)

-- a reply is written as one that isn't asked for in lines
pub written_alike : (output : List ℕ) (account : Plain) (now : ℕ) (request : Request) (mark : Mark) (newlines last : Bool) → output ≡ wire (marked_outcome account now request mark).reply newlines last → newlines ≡ false
    → output ≡ wire (marked_outcome account now request mark).reply false last
written_alike output account now request mark newlines last is e = is ∙ ap (λ lines. wire (marked_outcome account now request mark).reply lines last) e

-- a server's answer to bytes that are routed to this request of this account
module _ (manner : Manner) (input output : List ℕ) (before server : Server) (now uid : ℕ) (request : Request) (alike : Alike before.account now (request_meant manner request) request)
    (r : Responds manner input before now server output) (goes : routing_of_message manner r.message ≡ Ask uid (request_meant manner request) false) where
  same : Ask r.uid r.request r.newlines ≡ Ask uid (request_meant manner request) false
  same = sym r.routes ∙ goes

  pub uid_is : r.uid ≡ uid
  unfolding uid_in
  uid_is = ap uid_in same

  request_is : r.request ≡ request_meant manner request
  unfolding request_in
  request_is = ap request_in same

  newlines_is : r.newlines ≡ false
  unfolding newlines_in
  newlines_is = ap newlines_in same

  -- the account answered the request
  pub answered : Answers before now request server
  answered = answers-alike before server now (request_meant manner request) request alike (subst (λ q. Answers before now q server) request_is r.answers)

  -- and its reply was written
  pub written : output ≡ wire (api before.account now request).reply false r.last
  written =
      r.writes ∙ (λ i. wire (api before.account now (request_is i)).reply (newlines_is i) r.last) ∙ ap (λ (o : Outcome). wire o.reply false r.last) alike.api

-- the device hears the reply
pub delivered : (world : WorldView) (n now : ℕ) (machine : MachineView) (server : Server) (next : Next) → slice_get world.seats n ≡ Some (Syncs machine)
    → Answers world.server now (ask machine) server → Follows machine.device machine.run machine.stage (told_by (awaits machine.stage) (api world.server.account now (ask machine)).reply) next
    → Happens world (Deliver n now) (world_with_seat world server n (after machine next))
delivered world n now machine server next there answers follows =
    let v : WorldView = world_with_seat world server n (after machine next) in
    subst (λ o. MatchOption o (v ≡ world) (DeliversAtSeat world n now v)) (sym there) (record { server = server; answers = answers; next = next; follows = follows; is = refl })

-- the device doesn't
pub lost : (world : WorldView) (n now : ℕ) (machine : MachineView) (server : Server) → slice_get world.seats n ≡ Some (Syncs machine) → Answers world.server now (ask machine) server
    → Happens world (LoseReply n now) (world_with_seat world server n (Idle machine.device))
lost world n now machine server there answers =
    let v : WorldView = world_with_seat world server n (Idle machine.device) in
    subst (λ o. MatchOption o (v ≡ world) (IsLost world n now v)) (sym there) (record { server = server; answers = answers; is = refl })

-- the machine goes on as after what the reply says
pub followed : (machine : MachineView) (account : Plain) (now : ℕ) (last : Bool) (output more : List ℕ) (next : Next) → output ≡ wire (api account now (ask machine)).reply false last
    → (p : Proceeds machine (output ++ more) next)
    → (Hears (wire (api account now (ask machine)).reply false last ++ more) p.heard p.left
    → (answer_of (awaits machine.stage) p.heard ≡ told_by (awaits machine.stage) (api account now (ask machine)).reply) × (p.left ≡ more))
    → Follows machine.device machine.run machine.stage (told_by (awaits machine.stage) (api account now (ask machine)).reply) next × (p.left ≡ more)
followed machine account now last output more next is p told =
    let heard = told (subst (λ out. Hears (out ++ more) p.heard p.left) is p.hears) in
    (subst (λ answer. Follows machine.device machine.run machine.stage answer next) heard.0 p.follows, heard.1)
