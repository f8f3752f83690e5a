-- Requests of a device that come to the account, until its run ends.
use Rattle.std.proofs.Common.{◌≡◌, ◌≢◌, ◌⊎◌, ◌&&◌, ℕ, ◌+◌, ◌*◌, ◌<◌, ◌≤◌, ◌==◌, suc, le_refl, List, [], ◌∷◌, ◌++◌}
use Rattle.std.proofs.Common.{length, length-set, slice_get, Bool, true, false, cond, Option, Some, None}
use Rattle.std.proofs.Common.{option_and_then, map, unwrap_or, refl, sym, ap, subst, ◌∙◌, arith, inl, inr}
use Rattle.std.specs.Prelude.{MatchOption, Result, Ok, Err, IfOk, OnOk}
use Rattle.std.specs.Option.{option_map_or}
use Rattle.std.proofs.lemmas.Bool.{eqb-true, false≢true}
use Rattle.std.proofs.lemmas.List.{length-append}
use Rattle.std.proofs.lemmas.Option.{none-some, same_Some}
use Rattle.ss_bso.specs.declared.rows.Row.{Row}
use Rattle.ss_query.specs.declared.replies.Body.{Body}
use Rattle.ss_query.specs.declared.replies.Body.TheVariants.{Limits, Rows, Ids, Staged, Posted}
use Rattle.ss_query.specs.declared.replies.Reply.{Reply}
use Rattle.ss_query.specs.Api.{api}
use Rattle.ss_hearing.specs.declared.answer.Answer.{Answer}
use Rattle.ss_hearing.specs.declared.answer.Answer.TheVariants.{Changed, Held, Paged, Refused, Unread, Written}
use Rattle.ss_hearing.specs.declared.answer.Awaited.{Awaited}
use Rattle.ss_hearing.specs.declared.answer.Awaited.TheVariants as awaited
use Rattle.ss_hearing.specs.Hearing.{is_conditional, status_of}
use Rattle.ss_device.specs.Device.{DeviceView}
use Rattle.ss_client.specs.declared.summaries.Fetch.TheVariants.{Newer}
use Rattle.ss_client.specs.declared.runs.Stage.TheVariants.{Asks as AsksStage}
use Rattle.ss_client.specs.Asking.{ask, awaits}
use Rattle.ss_client.specs.Bounds.{IsBoundedRun, IsNearer, to_follow}
use Rattle.ss_client.specs.Machine.{Next, Send, Done, Stop}
use Rattle.ss_client.specs.Runs.{MachineView, first_run, is_newer}
use Rattle.ss_client.specs.Sound.{AreOurs, TellsOurs}
use Rattle.ss_client.proofs.Nearing.{follows_near}
use Rattle.ss_serving.specs.Bookmarks.{Server, sheet_of}
use Rattle.ss_serving.specs.Asking.{first_failed, is_offset, our_limits, page_told, said_by, told_by}
use Rattle.ss_world.specs.declared.events.Event.TheVariants.{Deliver, Start}
use Rattle.ss_world.specs.Seats.{after}
use Rattle.ss_world.specs.Worlds.{WorldView, world_with_seat}
use Rattle.ss_world.specs.declared.seats.Seat.{Seat}
use Rattle.ss_world.specs.declared.seats.Seat.TheVariants.{Idle, Syncs}
use Rattle.ss_world.specs.Happening.{Delivers, Happens, DeliversAtSeat, Starts, Step}
use Rattle.ss_world.proofs.Lists.{at_set}
use Rattle.ss_rehearse.specs.Plays.{Asks, IsIdle, PlaysSync, is_post, once}
use Rattle.ss_rehearse.specs.Syncing.{AreIdle, IsAsking, IsBoundedSeat, IsUnderWay, requests_left, left_at, post_at}
use Rattle.ss_text.proofs.Basics.{own_number}
use Rattle.ss_client.proofs.Told.{told_good}

-- ---- the limits that are told

ours : AreOurs our_limits
ours = record { records = le_refl _; bytes = le_refl _; payload = le_refl _; total = le_refl _ }

page_ours : (next : Option ℕ) (rows : List Row) (time : ℕ) → TellsOurs (page_told next rows time)
page_ours next rows time = go (is_offset next)
  where
    go : (b : Bool) → TellsOurs (cond b (Paged (map sheet_of rows) next time) Unread)
    go true = tt
    go false = tt

first_ours : (next : Option ℕ) (rows : List Row) (o : Option ℕ) → TellsOurs (option_map_or (λ time. page_told next rows time) o Unread)
first_ours next rows None = tt
first_ours next rows (Some time) = page_ours next rows time

configured : (r : Reply) (b : Body) → TellsOurs (said_by awaited.Configuration r b)
configured r Limits = ours
configured r b = tt

first : (r : Reply) (b : Body) → TellsOurs (said_by awaited.FirstPage r b)
first r (Rows rows) = first_ours r.next rows r.modified
first r b = tt

later : (r : Reply) (b : Body) → TellsOurs (said_by awaited.LaterPage r b)
later r (Rows rows) = page_ours r.next rows _
later r b = tt

listed : (r : Reply) (b : Body) → TellsOurs (said_by awaited.AllIds r b)
listed r (Ids ids) = tt
listed r b = tt

staged : (r : Reply) (b : Body) → TellsOurs (said_by awaited.Staging r b)
staged r (Staged batch success failed) = told_good 202 (first_failed failed) (Held batch) tt
staged r b = tt

written : (r : Reply) (b : Body) → TellsOurs (said_by awaited.Writing r b)
written r (Posted time success failed) = told_good 200 (first_failed failed) (Written time) tt
written r b = tt

said : (a : Awaited) (r : Reply) (b : Body) → TellsOurs (said_by a r b)
said awaited.Configuration r b = configured r b
said awaited.FirstPage r b = first r b
said awaited.LaterPage r b = later r b
said awaited.AllIds r b = listed r b
said awaited.Staging r b = staged r b
said awaited.Writing r b = written r b

told_ours : (a : Awaited) (r : Reply) → TellsOurs (told_by a r)
unfolding told_by
told_ours a r = go (r.status == status_of a) (is_conditional a && (r.status == 412))
  where
    go : (b c : Bool) → TellsOurs (cond b (said_by a r r.body) (cond c (Changed (unwrap_or r.modified 0)) (Refused r.status)))
    go true c = said a r r.body
    go false true = tt
    go false false = tt

-- ---- a delivery

delivered : (w v : WorldView) (n now : ℕ) (m : MachineView) → slice_get w.seats n ≡ Some (Syncs m) → Happens w (Deliver n now) v → Delivers w n now m v
delivered w v n now m there h = subst (λ (q : Option Seat). MatchOption q (v ≡ w) (DeliversAtSeat w n now v)) there h

suc_below : (a b : ℕ) → a < b → 1 + a < 1 + b
suc_below a b h = omega (arith, h)

near : (m : MachineView) (next : Next) → IsNearer m.run m.stage next → IsBoundedSeat (after m next) × (left_at (Some (after m next)) < 1 + to_follow m.run m.stage)
near m (Send run stage) i = (i.0, suc_below (to_follow run stage) (to_follow m.run m.stage) i.1)
near m (Done d s) i = (tt, let z : 0 < 1 + to_follow m.run m.stage = omega arith in z)
near m (Stop f) i = (tt, let z : 0 < 1 + to_follow m.run m.stage = omega arith in z)

-- what is left after a delivery
record IsNext (w : WorldView) (n : ℕ) (m : MachineView) (v : WorldView) : Type 0 where
  server : Server
  seat : Seat
  is : v ≡ world_with_seat w server n seat
  bounded : IsBoundedSeat seat
  less : left_at (Some seat) < 1 + to_follow m.run m.stage

next_of : (w v : WorldView) (n now : ℕ) (m : MachineView) → IsBoundedRun m.run m.stage → slice_get w.seats n ≡ Some (Syncs m) → Happens w (Deliver n now) v → IsNext w n m v
next_of w v n now m b there h =
    let e = delivered w v n now m there h in
    let answer : Answer = told_by (awaits m.stage) (api w.server.account now (ask m)).reply in
    let i = near m e.next (follows_near m.device m.run m.stage answer e.next b (told_ours (awaits m.stage) (api w.server.account now (ask m)).reply) e.follows) in
    record { server = e.server; seat = after m e.next; is = e.is; bounded = i.0; less = i.1 }

left_less : (w v : WorldView) (n : ℕ) (m : MachineView) → slice_get w.seats n ≡ Some (Syncs m) → IsNext w n m v → requests_left n v < requests_left n w
left_less w v n m there x = subst (λ (o : Option Seat). requests_left n v < left_at o) (sym there) (go (slice_get v.seats n) refl)
  where
    go : (o : Option Seat) → slice_get v.seats n ≡ o → left_at o < 1 + to_follow m.run m.stage
    go None q = let z : 0 < 1 + to_follow m.run m.stage = omega arith in z
    go (Some s) q = elim (at_set w.seats n n x.seat s (ap (λ (y : WorldView). slice_get y.seats n) (sym x.is) ∙ q)) [
      | inl b ↦ subst (λ (y : Seat). left_at (Some y) < 1 + to_follow m.run m.stage) (sym b.1) x.less
      | inr b ↦ absurd (b.0 refl)
    ]

-- ---- one request more

asks_more : (n now : ℕ) (w : WorldView) (steps : List Step) (posts : ℕ) (v : WorldView) (m : MachineView) (step : Step) → Asks n now w steps posts v → slice_get v.seats n ≡ Some (Syncs m)
    → step.event ≡ Deliver n (now + 100 * length steps) → Happens v step.event step.world → Asks n now w (steps ++ step ∷ []) (posts + once (is_post (awaits m.stage))) step.world
asks_more n now w [] posts v m step a there is h = (
  m,
  ap (λ (x : WorldView). slice_get x.seats n) (sym a.0) ∙ there,
  is ∙ ap (Deliver n) (let z : now + 100 * 0 ≡ now = omega arith in z),
  subst (λ x. Happens x step.event step.world) a.0 h,
  0,
  (let o : ℕ = once (is_post (awaits m.stage)) in let p : posts ≡ 0 = a.1 in let z : posts + o ≡ o + 0 = omega (arith, p) in z),
  (refl, refl),
)
asks_more n now w (s ∷ steps) posts v m step a there is h = (
  a.0,
  a.1,
  a.2,
  a.3,
  a.4 + once (is_post (awaits m.stage)),
  (let p : posts ≡ once (is_post (awaits a.0.stage)) + a.4 = a.5 in sum posts (once (is_post (awaits a.0.stage))) a.4 (once (is_post (awaits m.stage))) p),
  asks_more n (now + 100) s.world steps a.4 v m step a.6 there (is ∙ ap (Deliver n) (let z : now + 100 * suc (length steps) ≡ now + 100 + 100 * length steps = omega arith in z)) h,
)
  where
    sum : (p a r o : ℕ) → p ≡ a + r → p + o ≡ a + (r + o)
    sum p a r o q = omega (arith, q)

once_few : (b : Bool) → once b ≤ 1
once_few true = le_refl 1
once_few false = let z : 0 ≤ 1 = omega arith in z

pub deliver_more : (n now : ℕ) (w : WorldView) (posts : ℕ) (v : WorldView) (next : ℕ) (m : MachineView) (u : WorldView) → IsAsking n now w posts v next → slice_get v.seats n ≡ Some (Syncs m) → Happens v (Deliver n next) u
    → IsAsking n now w (posts + once (is_post (awaits m.stage))) u (next + 100) × (requests_left n u < requests_left n v)
deliver_more n now w posts v next m u a there h = (
  record {
    steps = a.steps ++ step ∷ [];
    asks = asks_more n now w a.steps posts v m step a.asks there (ap (Deliver n) a.next_is) h;
    next_is = let l : length (a.steps ++ step ∷ []) ≡ length a.steps + 1 = long in let q : next ≡ now + 100 * length a.steps = a.next_is in omega (arith, l, q);
    room = let l : length (a.steps ++ step ∷ []) ≡ length a.steps + 1 = long in let r : length a.steps + requests_left n v ≤ 105025 = a.room in room (length (a.steps ++ step ∷ [])) (length a.steps) (requests_left n u) (requests_left n v) l r less;
    fewer = fewer (length (a.steps ++ step ∷ [])) (length a.steps) posts (once (is_post (awaits m.stage))) long a.fewer (once_few (is_post (awaits m.stage)));
    two = ap (λ (x : WorldView). length x.seats) after_it.is ∙ (length-set v.seats n after_it.seat ∙ a.two);
    others = λ k ne s t. elim (at k s t) [ inl b ↦ absurd (ne b.0) | inr b ↦ a.others k ne s b.1 ];
    bounded = λ s t. elim (at n s t) [ inl b ↦ subst IsBoundedSeat (sym b.1) after_it.bounded | inr b ↦ absurd (b.0 refl) ];
  },
  less,
)
  where
    step : Step
    step = record { event = Deliver n next; world = u }

    after_it : IsNext v n m u
    after_it = next_of v u n next m (a.bounded (Syncs m) there) there h

    less : requests_left n u < requests_left n v
    less = left_less v u n m there after_it

    long : length (a.steps ++ step ∷ []) ≡ length a.steps + 1
    long = length-append a.steps (step ∷ [])

    at : (k : ℕ) (s : Seat) → slice_get u.seats k ≡ Some s → ((k ≡ n) × (s ≡ after_it.seat)) ⊎ ((k ≢ n) × (slice_get v.seats k ≡ Some s))
    at k s t = at_set v.seats n k after_it.seat s (ap (λ (x : WorldView). slice_get x.seats k) (sym after_it.is) ∙ t)

    room : (l k x y : ℕ) → l ≡ k + 1 → k + y ≤ 105025 → x < y → l + x ≤ 105025
    room l k x y p q r = omega (arith, p, q, r)

    fewer : (l k p o : ℕ) → l ≡ k + 1 → p ≤ k → o ≤ 1 → p + o ≤ l
    fewer l k p o q r s = omega (arith, q, r, s)

-- ---- the request that is under way

pub under_way : (o : Option Seat) (b : Bool) → option_and_then post_at o ≡ Some b → (m : MachineView) × (o ≡ Some (Syncs m)) × (b ≡ is_post (awaits m.stage))
under_way None b e = absurd (none-some b e)
under_way (Some (Idle d)) b e = absurd (none-some b e)
under_way (Some (Syncs m)) b e = (m, refl, sym (same_Some (is_post (awaits m.stage)) b e))

not_under_way : (s : Seat) → post_at s ≡ None → (d : DeviceView) × (s ≡ Idle d)
not_under_way (Idle d) e = (d, refl)
not_under_way (Syncs m) e = absurd (none-some (is_post (awaits m.stage)) (sym e))

pub none_under_way : (n now : ℕ) (w : WorldView) (posts : ℕ) (v : WorldView) (next : ℕ) → IsAsking n now w posts v next → option_and_then post_at (slice_get v.seats n) ≡ None → AreIdle v
none_under_way n now w posts v next a e = record { two = a.two; idle = λ k. go k (k == n) refl }
  where
    go : (k : ℕ) (b : Bool) → (k == n) ≡ b → IsIdle k v
    go k true q s t = not_under_way s (ap (option_and_then post_at) (sym (ap (slice_get v.seats) (sym (eqb-true k n q)) ∙ t)) ∙ e)
    go k false q s t = a.others k (λ i. false≢true (sym q ∙ (ap (λ x. x == n) i ∙ own_number n))) s t

pub one_more : (n now : ℕ) (w : WorldView) (posts : ℕ) (v : WorldView) (next : ℕ) (u : WorldView) (b : Bool) → Some b ≡ option_and_then post_at (slice_get v.seats n) → IsAsking n now w posts v next → Happens v (Deliver n next) u
    → IsAsking n now w (posts + once b) u (next + 100) × (requests_left n u < requests_left n v)
one_more n now w posts v next u b q a h =
    let m = under_way (slice_get v.seats n) b (sym q) in
    subst (λ c. IsAsking n now w (posts + once c) u (next + 100) × (requests_left n u < requests_left n v)) (sym m.2) (deliver_more n now w posts v next m.0 u a m.1 h)

pub posted : (n now : ℕ) (w : WorldView) (posts : ℕ) (v : WorldView) (next : ℕ) (u : WorldView) (b : Bool) → b ≡ true → Some b ≡ option_and_then post_at (slice_get v.seats n) → IsAsking n now w posts v next → Happens v (Deliver n next) u
    → IsAsking n now w (posts + 1) u (next + 100) × (requests_left n u < requests_left n v)
posted n now w posts v next u b is q a h = subst (λ c. IsAsking n now w (posts + once c) u (next + 100) × (requests_left n u < requests_left n v)) is (one_more n now w posts v next u b q a h)

pub not_posted : (n now : ℕ) (w : WorldView) (posts : ℕ) (v : WorldView) (next : ℕ) (u : WorldView) (b : Bool) → b ≡ false → Some b ≡ option_and_then post_at (slice_get v.seats n) → IsAsking n now w posts v next → Happens v (Deliver n next) u
    → IsAsking n now w posts u (next + 100) × (requests_left n u < requests_left n v)
not_posted n now w posts v next u b is q a h =
    let none : posts + 0 ≡ posts = omega arith in
    subst (λ k. IsAsking n now w k u (next + 100) × (requests_left n u < requests_left n v)) none
    (subst (λ c. IsAsking n now w (posts + once c) u (next + 100) × (requests_left n u < requests_left n v)) is (one_more n now w posts v next u b q a h))

-- ---- a sync

pub asking_none : (n now : ℕ) (w : WorldView) → IsUnderWay n w → IsAsking n now w 0 w now
asking_none n now w a = record {
  steps = [];
  asks = (refl, refl);
  next_is = let z : now ≡ now + 100 * 0 = omega arith in z;
  room = let f : requests_left n w ≤ 105025 = a.few in zero_more (requests_left n w) f;
  fewer = le_refl 0;
  two = a.two;
  others = a.others;
  bounded = a.bounded;
}
  where
    zero_more : (x : ℕ) → x ≤ 105025 → 0 + x ≤ 105025
    zero_more x h = omega (arith, h)

first_few : (b : Bool) → 1 + to_follow (first_run b) AsksStage ≤ 105025
first_few true = let z : 105025 ≤ 105025 = le_refl 105025 in z
first_few false = let z : 84020 ≤ 105025 = omega arith in z

pub started : (w v : WorldView) (n : ℕ) → AreIdle w → Happens w (Start n Newer) v → IsUnderWay n v
started w v n a h = go (slice_get w.seats n) refl h
  where
    idle_way : (x : WorldView) → AreIdle x → IsUnderWay n x
    idle_way x i = record {
      two = i.two;
      others = λ k ne. i.idle k;
      bounded = λ s t. let d = i.idle n s t in subst IsBoundedSeat (sym d.1) tt;
      few = few (slice_get x.seats n) refl;
    }
      where
        few : (o : Option Seat) → slice_get x.seats n ≡ o → left_at o ≤ 105025
        few None q = let z : 0 ≤ 105025 = omega arith in z
        few (Some s) q = let d = i.idle n s q in subst (λ (y : Seat). left_at (Some y) ≤ 105025) (sym d.1) (let z : 0 ≤ 105025 = omega arith in z)

    begun : (b : Bool) (d : DeviceView) → v ≡ world_with_seat w w.server n (Syncs (record { device = d; run = first_run b; stage = AsksStage })) → IsUnderWay n v
    begun b d q = record {
      two = ap (λ (x : WorldView). length x.seats) q ∙ (length-set w.seats n seat ∙ a.two);
      others = λ k ne s t. elim (at k s t) [ inl c ↦ absurd (ne c.0) | inr c ↦ a.idle k s c.1 ];
      bounded = λ s t. elim (at n s t) [ inl c ↦ subst IsBoundedSeat (sym c.1) (zero_below _, tt) | inr c ↦ absurd (c.0 refl) ];
      few = few (slice_get v.seats n) refl;
    }
      where
        seat : Seat
        seat = Syncs (record { device = d; run = first_run b; stage = AsksStage })

        zero_below : (x : ℕ) → 0 ≤ x
        zero_below x = omega arith

        at : (k : ℕ) (s : Seat) → slice_get v.seats k ≡ Some s → ((k ≡ n) × (s ≡ seat)) ⊎ ((k ≢ n) × (slice_get w.seats k ≡ Some s))
        at k s t = at_set w.seats n k seat s (ap (λ (x : WorldView). slice_get x.seats k) (sym q) ∙ t)

        few : (o : Option Seat) → slice_get v.seats n ≡ o → left_at o ≤ 105025
        few None e = zero_below 105025
        few (Some s) e = elim (at n s e) [ inl c ↦ subst (λ (y : Seat). left_at (Some y) ≤ 105025) (sym c.1) (first_few b) | inr c ↦ absurd (c.0 refl) ]

    by : (s : Seat) → slice_get w.seats n ≡ Some s → Starts w n Newer v s → IsUnderWay n v
    by (Idle d) t q = begun (is_newer d Newer) d q
    by (Syncs m) t q = idle_way v (subst AreIdle (sym q) a)

    go : (o : Option Seat) → slice_get w.seats n ≡ o → MatchOption o (v ≡ w) (Starts w n Newer v) → IsUnderWay n v
    go None t q = idle_way v (subst AreIdle (sym q) a)
    go (Some s) t q = by s t q

pub synced : (n now : ℕ) (w u : WorldView) (posts : ℕ) (v : WorldView) (next : ℕ) → Happens w (Start n Newer) u → IsAsking n now u posts v next → AreIdle v → (steps : List Step) × PlaysSync n now w steps posts v next
synced n now w u posts v next h a i = (
  record { event = Start n Newer; world = u } ∷ a.steps,
  record {
    syncs = record { started = u; requests = a.steps; starts = h; steps_are = refl; asks = a.asks; ends = i.idle n };
    next_is = a.next_is;
  },
)

pub next_early : (n now : ℕ) (u : WorldView) (posts : ℕ) (v : WorldView) (next : ℕ) → IsAsking n now u posts v next → next ≤ now + 10502500
next_early n now u posts v next a = few (length a.steps) (requests_left n v) a.next_is a.room
  where
    few : (k x : ℕ) → next ≡ now + 100 * k → k + x ≤ 105025 → next ≤ now + 10502500
    few k x p q = omega (arith, p, q)

-- with what the requests answered
pub sync_ends : {S E : Type 0} (n now : ℕ) (w u v : WorldView) (r : Result S E) (posts next : S → ℕ) → Happens w (Start n Newer) u → IfOk r (λ s. IsAsking n now u (posts s) v (next s)) → OnOk r (AreIdle v)
    → IfOk r (λ s. (steps : List Step) × PlaysSync n now w steps (posts s) v (next s))
sync_ends n now w u v (Ok s) posts next h a i = synced n now w u (posts s) v (next s) h a i
sync_ends n now w u v (Err e) posts next h a i = tt

pub sync_early : {S E : Type 0} (n now : ℕ) (u v : WorldView) (r : Result S E) (posts next : S → ℕ) → IfOk r (λ s. IsAsking n now u (posts s) v (next s)) → IfOk r (λ s. next s ≤ now + 10502500)
sync_early n now u v (Ok s) posts next a = next_early n now u (posts s) v (next s) a
sync_early n now u v (Err e) posts next a = tt
