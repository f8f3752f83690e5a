-- Each machine of a world can send its request, and a server can read it.
use Rattle.std.specs.Prelude.{◌≡◌, ℕ, ◌+◌, ◌<◌, ◌≤◌, Bool, true, false, ◌&&◌, ◌||◌, ◌==◌, cond, nat_le, nat_lt, List}
use Rattle.std.specs.Prelude.{[], ◌∷◌, map, set, slice_get, MatchOption, Option, Some, None, unwrap_or, length, refl}
use Rattle.std.specs.Bool.{MatchBool}
use Rattle.std.specs.Option.{option_map_or}
use Rattle.std.proofs.Common.{sym, subst, inl, inr, ◌∙◌, arith}
use Rattle.std.proofs.lemmas.Bool.Decides.{nat_tests}
use Rattle.ss_text.specs.Time.{last_stamp}
use Rattle.ss_text.specs.declared.stamps.Cond.{Cond}
use Rattle.ss_text.proofs.Basics.{neither_right}
use Rattle.ss_bso.specs.declared.rows.Row.{Row}
use Rattle.ss_bso.specs.declared.account.Plain.{Plain}
use Rattle.ss_bso.specs.declared.parts.Records.{Records}
use Rattle.ss_bso.specs.Account.{tick}
use Rattle.ss_bso.specs.Limits.{most_live_batches}
use Rattle.ss_query.specs.declared.requests.Info.{Info as InfoKind}
use Rattle.ss_query.specs.declared.requests.Info.TheVariants.{Configuration as TheLimits}
use Rattle.ss_query.specs.declared.requests.Mode.{Mode}
use Rattle.ss_query.specs.declared.requests.Mode.TheVariants.{Plain as PlainPost, Begin, Append, Commit}
use Rattle.ss_query.specs.declared.requests.Request.{Request}
use Rattle.ss_query.specs.declared.requests.Request.TheVariants.{Info, DeleteAll, List as ListOf, Post}
use Rattle.ss_query.specs.declared.requests.Request.TheVariants.{DeleteCollection, DeleteIds, Put, Get as GetItem}
use Rattle.ss_query.specs.declared.requests.Request.TheVariants.{Delete as DeleteItem}
use Rattle.ss_query.specs.declared.replies.Body.{Body}
use Rattle.ss_query.specs.declared.replies.Body.TheVariants.{Limits, Ids, Rows, Posted, Staged}
use Rattle.ss_query.specs.declared.replies.Reply.{Reply}
use Rattle.ss_query.specs.Refused.{Refusal, NoItem, NotModified, WasModified, NoMoreBatches, NoBatch, BatchFull}
use Rattle.ss_query.specs.Refused.{ClockEnded, AccountFull, said_by as why_said}
use Rattle.ss_query.specs.Told.{body_of, info_body, post_body, rows_body}
use Rattle.ss_query.specs.Api.{api, outcome, refusal, time_told}
use Rattle.ss_laws.proofs.Commit.{passes}
use Rattle.ss_route.specs.Sending.{IsReadable, IsSentRequest}
use Rattle.ss_hearing.specs.declared.answer.Answer.{Answer}
use Rattle.ss_hearing.specs.declared.answer.Answer.TheVariants.{Paged, Held, Written, Changed, Refused, Unread}
use Rattle.ss_hearing.specs.declared.answer.Awaited.{Awaited}
use Rattle.ss_hearing.specs.declared.answer.Awaited.TheVariants.{Configuration, FirstPage, LaterPage, AllIds, Staging}
use Rattle.ss_hearing.specs.declared.answer.Awaited.TheVariants.{Writing}
use Rattle.ss_hearing.specs.Hearing.{is_conditional, status_of, answer_or_failure}
use Rattle.ss_device.specs.declared.faults.EditFault.{EditFault}
use Rattle.ss_client.specs.declared.runs.Stage.TheVariants.{Asks}
use Rattle.ss_client.specs.declared.summaries.Fetch.{Fetch}
use Rattle.ss_client.specs.Asking.{ask, awaits}
use Rattle.ss_client.specs.Machine.{Next, Send, Done, Stop}
use Rattle.ss_client.specs.Runs.{MachineView, first_run, is_newer}
use Rattle.ss_client.specs.Sound.{IsSound, IsSoundNext, TellsOurs}
use Rattle.ss_client.proofs.Asked.{asked_sent}
use Rattle.ss_client.proofs.Sound.{follows_sound}
use Rattle.ss_client.proofs.Told.{told_good}
use Rattle.ss_serving.specs.Bookmarks.{sheet_of}
use Rattle.ss_serving.specs.Asking.{first_failed, is_offset, page_told, said_by, told_by, touches}
use Rattle.ss_world.specs.declared.events.Edit.{Edit}
use Rattle.ss_world.specs.declared.events.Event.{Event}
use Rattle.ss_world.specs.declared.events.Event.TheVariants.{Start, Deliver, LoseRequest, LoseReply, Anew, Change}
use Rattle.ss_world.specs.declared.events.Event.TheVariants.{Other, Tick, Reopen}
use Rattle.ss_world.specs.declared.seats.Seat.{Seat}
use Rattle.ss_world.specs.declared.seats.Seat.TheVariants.{Idle, Syncs}
use Rattle.ss_world.specs.Happening.{AsksElsewhere, Edits, Happens, DeliversAtSeat, EditsAtSeat, IsGivenUp, IsLost}
use Rattle.ss_world.specs.Happening.{Runs, Starts}
use Rattle.ss_world.specs.Happening.{Step, edit_fault, last}
use Rattle.ss_world.specs.Promises.{IsOpening}
use Rattle.ss_world.specs.Reaching.{IsReachedWorld}
use Rattle.ss_world.specs.Seats.{after}
use Rattle.ss_world.specs.Worlds.{WorldView}
use Rattle.ss_world.proofs.Lists.{at_set}
use Rattle.ss_promises.specs.Courses.{AreReady}
use Rattle.ss_promises.specs.Readable.{IsReadableNext, IsReadableRun, TellsReadable}
use Rattle.ss_promises.proofs.Sending.{asked_readable, follows_readable}

-- ---- what a reply says of limits

page_ours : (next : Option ℕ) (rows : List Row) (time : ℕ) → TellsOurs (page_told next rows time)
page_ours next rows time = by (is_offset next)
  where
    by : (b : Bool) → TellsOurs (cond b (Paged (map sheet_of rows) next time) Unread)
    by true = tt
    by false = tt

first_ours : (next : Option ℕ) (rows : List Row) (time : Option ℕ) → TellsOurs (option_map_or (λ t. page_told next rows t) time Unread)
first_ours next rows None = tt
first_ours next rows (Some time) = page_ours next rows time

said_ours : (awaited : Awaited) (reply : Reply) (body : Body) → TellsOurs (said_by awaited reply body)
said_ours Configuration reply Limits = record { records = omega arith; bytes = omega arith; payload = omega arith; total = omega arith }
said_ours FirstPage reply (Rows rows) = first_ours reply.next rows reply.modified
said_ours LaterPage reply (Rows rows) = page_ours reply.next rows (unwrap_or reply.modified 0)
said_ours AllIds reply (Ids ids) = tt
said_ours Staging reply (Staged batch success failed) = told_good 202 (first_failed failed) (Held batch) tt
said_ours Writing reply (Posted time success failed) = told_good 200 (first_failed failed) (Written time) tt
said_ours awaited reply body = tt

told_ours : (awaited : Awaited) (reply : Reply) → TellsOurs (told_by awaited reply)
unfolding told_by
told_ours awaited reply = go (reply.status == status_of awaited)
  where
    other : (b : Bool) → TellsOurs (cond b (Changed (unwrap_or reply.modified 0)) (Refused reply.status))
    other true = tt
    other false = tt

    go : (b : Bool) → TellsOurs (cond b (said_by awaited reply reply.body) (cond (is_conditional awaited && (reply.status == 412)) (Changed (unwrap_or reply.modified 0)) (Refused reply.status)))
    go true = said_ours awaited reply reply.body
    go false = other (is_conditional awaited && (reply.status == 412))

-- ---- what a reply says of numbers

-- a batch's number is one that is given out
abbrev IsGiven : Body → Type 0
IsGiven (Staged batch success failed) = (1 ≤ batch) × (batch ≤ 999999999999)
IsGiven _ = Unit {0}

page_readable : (next : Option ℕ) (rows : List Row) (time : ℕ) → TellsReadable (page_told next rows time)
page_readable None rows time = tt
page_readable (Some offset) rows time = by (nat_lt offset 1000000000) refl
  where
    by : (b : Bool) → nat_lt offset 1000000000 ≡ b → TellsReadable (cond b (Paged (map sheet_of rows) (Some offset) time) Unread)
    by true t = grind (arith, nat_tests)
    by false t = tt

first_readable : (next : Option ℕ) (rows : List Row) (time : Option ℕ) → TellsReadable (option_map_or (λ t. page_told next rows t) time Unread)
first_readable next rows None = tt
first_readable next rows (Some time) = page_readable next rows time

held_readable : (failure : Option (List ℕ)) (status : ℕ) (answer : Answer) → TellsReadable answer → TellsReadable (answer_or_failure status failure answer)
held_readable None status answer h = h
held_readable (Some id) status answer h = tt

said_readable : (awaited : Awaited) (reply : Reply) (body : Body) → IsGiven body → TellsReadable (said_by awaited reply body)
said_readable Configuration reply Limits g = omega arith
said_readable FirstPage reply (Rows rows) g = first_readable reply.next rows reply.modified
said_readable LaterPage reply (Rows rows) g = page_readable reply.next rows (unwrap_or reply.modified 0)
said_readable AllIds reply (Ids ids) g = tt
said_readable Staging reply (Staged batch success failed) g = held_readable (first_failed failed) 202 (Held batch) g
said_readable Writing reply (Posted time success failed) g = held_readable (first_failed failed) 200 (Written time) tt
said_readable awaited reply body g = tt

told_readable : (awaited : Awaited) (reply : Reply) → IsGiven reply.body → TellsReadable (told_by awaited reply)
unfolding told_by
told_readable awaited reply g = go (reply.status == status_of awaited)
  where
    other : (b : Bool) → TellsReadable (cond b (Changed (unwrap_or reply.modified 0)) (Refused reply.status))
    other true = tt
    other false = tt

    go : (b : Bool) → TellsReadable (cond b (said_by awaited reply reply.body) (cond (is_conditional awaited && (reply.status == 412)) (Changed (unwrap_or reply.modified 0)) (Refused reply.status)))
    go true = said_readable awaited reply reply.body g
    go false = other (is_conditional awaited && (reply.status == 412))

-- ---- the API's replies

why_given : (why : Refusal) → IsGiven (why_said why)
why_given NoItem = tt
why_given NotModified = tt
why_given WasModified = tt
why_given NoMoreBatches = tt
why_given NoBatch = tt
why_given BatchFull = tt
why_given ClockEnded = tt
why_given AccountFull = tt

counted : (counter : ℕ) (few full : Bool) → (true && (few || full)) ≡ false → full ≡ nat_le last_stamp counter → (1 ≤ counter + 1) × (counter + 1 ≤ 999999999999)
counted counter few full e is = let f : nat_le last_stamp counter ≡ false = sym is ∙ neither_right few full e in let low : counter < last_stamp = grind (arith, nat_tests) in (omega arith, omega (arith, low))

info_given : (t : Plain) (what : InfoKind) → what ≡ TheLimits → IsGiven (info_body t what)
info_given t what e = subst (λ (w : InfoKind). IsGiven (info_body t w)) (sym e) tt

list_given : (full : Bool) (rows : List Row) → IsGiven (rows_body full rows)
list_given true rows = tt
list_given false rows = tt

post_given : (t : Plain) (collection : List ℕ) (records : Records) (mode : Mode) (x : Cond) → IsReadable (Post collection records mode x) → refusal t (Post collection records mode x) ≡ None → (time : ℕ) → IsGiven (post_body t records mode time)
post_given t collection records PlainPost x r e time = tt
post_given t collection records Begin x r e time = counted t.counter (nat_le most_live_batches (length t.batches)) (nat_le last_stamp t.counter) (passes t (Post collection records Begin x) e).room refl
post_given t collection records (Append number) x r e time = r.0
post_given t collection records (Commit number) x r e time = tt

body_given : (t : Plain) (q : Request) → IsSentRequest q → IsReadable q → refusal t q ≡ None → (time : ℕ) → IsGiven (body_of t q time)
body_given t (Info what x) s r e time = info_given t what s.0
body_given t (ListOf collection query x) s r e time = list_given query.full _
body_given t (Post collection records mode x) s r e time = post_given t collection records mode x r e time
body_given t (DeleteAll x) s r e time = absurd s
body_given t (DeleteCollection collection x) s r e time = absurd s
body_given t (DeleteIds collection ids x) s r e time = absurd s
body_given t (GetItem collection id x) s r e time = absurd s
body_given t (Put collection id fields x) s r e time = absurd s
body_given t (DeleteItem collection id x) s r e time = absurd s

outcome_given : (t : Plain) (q : Request) → IsSentRequest q → IsReadable q → (why : Option Refusal) → refusal t q ≡ why → IsGiven (outcome t q why).reply.body
outcome_given t q s r (Some why) e = why_given why
outcome_given t q s r None e = body_given t q s r e (time_told t q)

api_given : (account : Plain) (now : ℕ) (q : Request) → IsSentRequest q → IsReadable q → IsGiven (api account now q).reply.body
api_given account now q s r = outcome_given (tick account now) q s r (refusal (tick account now) q) refl

-- ---- the seats of a world

abbrev pub IsSendable : MachineView → Type 0
IsSendable m = IsSound m.run m.stage × IsReadableRun m.run m.stage

abbrev SeatSends : Seat → Type 0
SeatSends (Idle d) = Unit {0}
SeatSends (Syncs m) = IsSendable m

abbrev pub AllSend : List Seat → Type 0
AllSend seats = (n : ℕ) (m : MachineView) → slice_get seats n ≡ Some (Syncs m) → IsSendable m

set_sends : (seats : List Seat) (n : ℕ) (seat : Seat) → AllSend seats → SeatSends seat → AllSend (set seats n seat)
set_sends seats n seat all here k m e = elim (at_set seats n k seat (Syncs m) e) [
  | inl h ↦ subst SeatSends (sym h.1) here
  | inr h ↦ all k m h.1
]

after_sends : (m : MachineView) (next : Next) → IsSoundNext next → IsReadableNext next → SeatSends (after m next)
after_sends m (Send run stage) s r = (s, r)
after_sends m (Done device summary) s r = tt
after_sends m (Stop fault) s r = tt

-- what an event leaves of the seats
same_seats : (w v u : WorldView) → v ≡ u → AllSend u.seats → AllSend v.seats
same_seats w v u e h = subst (λ (x : WorldView). AllSend x.seats) (sym e) h

at_seat : (w v : WorldView) (n : ℕ) (P : Seat → Type 0) → AllSend w.seats → ((s : Seat) → slice_get w.seats n ≡ Some s → P s → AllSend v.seats) → MatchOption (slice_get w.seats n) (v ≡ w) P → AllSend v.seats
at_seat w v n P all h e = go (slice_get w.seats n) refl e
  where
    go : (o : Option Seat) → slice_get w.seats n ≡ o → MatchOption o (v ≡ w) P → AllSend v.seats
    go None is q = same_seats w v w q all
    go (Some s) is q = h s is q

starts : (w v : WorldView) (n : ℕ) (fetch : Fetch) → AllSend w.seats → (s : Seat) → Starts w n fetch v s → AllSend v.seats
starts w v n fetch all (Idle d) e =
    same_seats w v _ e (set_sends w.seats n (Syncs (record { device = d; run = first_run (is_newer d fetch); stage = Asks })) all
    ((record { records = omega arith; bytes = omega arith; payload = omega arith; total = omega arith }, tt), (omega arith, tt)))
starts w v n fetch all (Syncs m) e = same_seats w v w e all

delivers : (w v : WorldView) (n now : ℕ) → AllSend w.seats → (s : Seat) → slice_get w.seats n ≡ Some s → DeliversAtSeat w n now v s → AllSend v.seats
delivers w v n now all (Idle d) there e = same_seats w v w e all
delivers w v n now all (Syncs m) there e =
    let here : IsSendable m = all n m there in
    let sent = asked_sent m m.stage here.0.1 in
    let readable : IsReadable (ask m) = asked_readable m m.stage here.1.1 in
    let reply : Reply = (api w.server.account now (ask m)).reply in
    same_seats w v _ e.is (set_sends w.seats n (after m e.next) all (after_sends m e.next
    (follows_sound m.device m.run m.stage (told_by (awaits m.stage) reply) e.next here.0 (told_ours (awaits m.stage) reply) e.follows)
    (follows_readable m.device m.run m.stage (told_by (awaits m.stage) reply) e.next here.1 (told_readable (awaits m.stage) reply (api_given w.server.account now (ask m) sent.0 readable)) e.follows)))

gives_up : (w v : WorldView) (n : ℕ) → AllSend w.seats → (s : Seat) → IsGivenUp w n v s → AllSend v.seats
gives_up w v n all (Idle d) e = same_seats w v w e all
gives_up w v n all (Syncs m) e = same_seats w v _ e (set_sends w.seats n (Idle m.device) all tt)

loses : (w v : WorldView) (n now : ℕ) → AllSend w.seats → (s : Seat) → IsLost w n now v s → AllSend v.seats
loses w v n now all (Idle d) e = same_seats w v w e all
loses w v n now all (Syncs m) e = same_seats w v _ e.is (set_sends w.seats n (Idle m.device) all tt)

edits : (w v : WorldView) (n now : ℕ) (edit : Edit) → AllSend w.seats → (s : Seat) → EditsAtSeat w n now edit v s → AllSend v.seats
edits w v n now edit all (Syncs m) e = same_seats w v w e all
edits w v n now edit all (Idle d) e = by (edit_fault d edit) e
  where
    by : (o : Option EditFault) → MatchOption o (Edits w n now edit d v) (λ fault. v ≡ w) → AllSend v.seats
    by None h = same_seats w v _ h.is (set_sends w.seats n (Idle h.device) all tt)
    by (Some fault) h = same_seats w v w h all

asks : (w v : WorldView) (now : ℕ) (request : Request) (b : Bool) → AllSend w.seats → MatchBool b (v ≡ w) (AsksElsewhere w now request v) → AllSend v.seats
asks w v now request true all e = same_seats w v w e all
asks w v now request false all e = same_seats w v _ e.is all

pub send_on : (w v : WorldView) (event : Event) → Happens w event v → AllSend w.seats → AllSend v.seats
send_on w v (Start n fetch) e all = at_seat w v n (Starts w n fetch v) all (λ s _ h. starts w v n fetch all s h) e
send_on w v (Deliver n now) e all = at_seat w v n (DeliversAtSeat w n now v) all (delivers w v n now all) e
send_on w v (LoseRequest n) e all = at_seat w v n (IsGivenUp w n v) all (λ s _ h. gives_up w v n all s h) e
send_on w v (LoseReply n now) e all = at_seat w v n (IsLost w n now v) all (λ s _ h. loses w v n now all s h) e
send_on w v (Anew n) e all = at_seat w v n (IsGivenUp w n v) all (λ s _ h. gives_up w v n all s h) e
send_on w v (Change n now edit) e all = at_seat w v n (EditsAtSeat w n now edit v) all (λ s _ h. edits w v n now edit all s h) e
send_on w v (Other now request) e all = asks w v now request (touches request) all e
send_on w v (Tick now) e all = same_seats w v _ e.is all
send_on w v Reopen e all = same_seats w v _ e.is all

all_on : (w : WorldView) (steps : List Step) → Runs w steps → AllSend w.seats → AllSend (last w steps).seats
all_on w [] r all = all
all_on w (step ∷ steps) r all = all_on step.world steps r.1 (send_on w step.world step.event r.0 all)

-- an opening has no machine
abbrev Syncing : Seat → Type 0
Syncing (Idle d) = ⊥
Syncing (Syncs m) = Unit {0}

none_yet : (trusts : ℕ → Bool) (w : WorldView) → IsOpening trusts w → AllSend w.seats
none_yet trusts w o n m e = absurd (subst Syncing (o.idle n (Syncs m) e).1 tt)

pub reached_send : (trusts : ℕ → Bool) (w : WorldView) → IsReachedWorld trusts w → AreReady w
reached_send trusts w r = subst (λ (x : WorldView). AllSend x.seats) r.here (all_on r.opening r.steps r.runs (none_yet trusts r.opening r.opens))
