-- Every event keeps the invariant of a world.
use Rattle.std.proofs.Common.{◌≡◌, ◌≢◌, ◌⊎◌, ℕ, ◌<◌, ◌≤◌, ◌==◌, List, [], ◌++◌, slice_get, Option, Some, None}
use Rattle.std.proofs.Common.{MatchOption, Bool, true, false, cond, not, sym, refl, ap, ◌∙◌, subst, inl, inr, arith}
use Rattle.std.specs.Bool.{MatchBool}
use Rattle.std.proofs.lemmas.Option.{none-some}
use Rattle.std.proofs.lemmas.Bool.{false≢true}
use Rattle.std.proofs.lemmas.Bool.Decides.{nat_tests}
use Rattle.ss_record.specs.declared.readings.Sheet.{Sheet}
use Rattle.ss_tree.specs.Entries.{tree}
use Rattle.ss_build.specs.Rows.{rows_of}
use Rattle.ss_build.specs.Stand.{HasItsRows}
use Rattle.ss_bso.specs.declared.parts.Part.{Part}
use Rattle.ss_query.specs.declared.requests.Request.{Request}
use Rattle.ss_query.specs.Api.{api}
use Rattle.ss_plan.specs.Written.{AreRowsAfter, sheet}
use Rattle.ss_sync.specs.Joined.{IsJoinedTree}
use Rattle.ss_hearing.specs.declared.answer.Answer.{Answer}
use Rattle.ss_hearing.specs.declared.answer.Answer.TheVariants.{Written}
use Rattle.ss_device.specs.Device.{DeviceView, IsDevice, dead_ids}
use Rattle.ss_device.specs.declared.faults.EditFault.{EditFault}
use Rattle.ss_client.specs.declared.summaries.Fetch.{Fetch}
use Rattle.ss_client.specs.declared.summaries.Fetch.TheVariants.{Whole, Newer}
use Rattle.ss_client.specs.declared.runs.Stage.{Stage}
use Rattle.ss_client.specs.declared.runs.Stage.TheVariants.{Asks, Uploads}
use Rattle.ss_client.specs.Leaves.{UploadView}
use Rattle.ss_client.specs.Runs.{MachineView, first_run, is_newer, post_of, rest_of}
use Rattle.ss_client.specs.Asking.{ask, awaits}
use Rattle.ss_client.specs.Machine.{Next, Send, Done, Stop, Follows}
use Rattle.ss_serving.specs.Bookmarks.{ShownAccount, Server, shown_by, sheets_of}
use Rattle.ss_serving.specs.Asking.{awaited_of, told_by, touches}
use Rattle.ss_serving.specs.Good.{IsSteady}
use Rattle.ss_serving.specs.Serving.{IsQuiet, Ages, Serves}
use Rattle.ss_serving.specs.Steps.{Answers}
use Rattle.ss_serving.proofs.Seen.{sheets-apart}
use Rattle.ss_serving.proofs.Pages.{few_sheets}
use Rattle.ss_serving.proofs.Keeping.{answers-steady, others-steady, ticks-steady, reopens-steady}
use Rattle.ss_world.specs.declared.events.Edit.{Edit}
use Rattle.ss_world.specs.declared.events.Edit.TheVariants as edits
use Rattle.ss_world.specs.declared.events.Event.{Event}
use Rattle.ss_world.specs.declared.events.Event.TheVariants.{Start, Deliver, LoseRequest, LoseReply, Anew, Change}
use Rattle.ss_world.specs.declared.events.Event.TheVariants.{Other, Tick, Reopen}
use Rattle.ss_world.specs.Seats.{after}
use Rattle.ss_world.specs.Worlds.{Seat, Idle, Syncs, WorldView, world_with_seat, asks}
use Rattle.ss_world.specs.Happening.{Happens, At, Starts, DeliversAtSeat, IsGivenUp, IsLost, EditsAtSeat, ChangesDevice}
use Rattle.ss_world.specs.Happening.{Edits, AsksElsewhere, edit_fault}
use Rattle.ss_world.specs.Promises.{AreAll, IsFaithful, StandsForOne, IsTrustedEvent, IsLastUpload, OneTree, noted_at}
use Rattle.ss_world.specs.Promises.{noted_in, noted_by, EndsWell}
use Rattle.ss_world.proofs.Lists.{at_set}
use Rattle.ss_world.proofs.Asking.{asked-asks, awaits-asks}
use Rattle.ss_world.proofs.Looking.{written-over}
use Rattle.ss_world.proofs.Fitting.{IsOwn, Leaves, leaves, quiet_leaves, faithful_later, Fits, UploadFits, BatchFits}
use Rattle.ss_world.proofs.Fitting.{fits_later, askable, known, now, by_cases}
use Rattle.ss_world.proofs.Hearing.{Well, hears_well, last_parts, none_sent}

-- ---- a machine's step writes the whole plan, or leaves the rows

module _ (first : ℕ) (a b : ShownAccount) (m : MachineView) (old : List Sheet) where
  pub record Wrote (stage : Stage) (answer : Answer) : Type 0 where
    pub upload : UploadView
    pub at : stage ≡ Uploads upload
    pub last : rest_of upload ≡ []
    pub stamp : ℕ
    pub told : answer ≡ Written stamp
    pub all : AreAll upload.rows a.rows
    pub joined : IsJoinedTree m.device.mirror m.device.tree (dead_ids m.device.dead) upload.rows upload.merged
    pub stands : HasItsRows (tree upload.merged) (rows_of b.rows)

  wrote : (u : UploadView) (parts : List Part) (s : ℕ) → rest_of u ≡ [] → parts ≡ u.parts → UploadFits first a m.device u → a.target ≤ u.time → AreRowsAfter a.rows parts s b.rows → Wrote (Uploads u) (Written s)
  wrote u parts s j whole f le w =
      let all = now (AreAll u.rows) a u.time le f.fresh in
      record {
        upload = u;
        at = refl;
        last = j;
        stamp = s;
        told = refl;
        all = all;
        joined = f.joined;
        stands = f.standing b.rows s (written-over u.rows a.rows u.parts s b.rows all (subst (λ ps. AreRowsAfter a.rows ps s b.rows) whole w));
      }

  pub moved : (stage : Stage) (answer : Answer) → Serves a (asks m stage) b answer → Fits first a old m.device m.run.newer stage → (b.rows ≡ a.rows) ⊎ Wrote stage answer
  moved = by_cases a b m (λ stage answer. Fits first a old m.device m.run.newer stage → (b.rows ≡ a.rows) ⊎ Wrote stage answer) (record {
    refused = λ stage s q f. inl q.rows;
    changed = λ stage t q f. inl q.rows;
    configured = λ limits q f. inl q.rows;
    opened = λ rows at_next time q e g f. inl q.rows;
    paged = λ p rows at_next time q le g f. inl q.rows;
    listed = λ l ids q le g f. inl q.rows;
    begun = λ u x rest n i j le g f. inl g.rows;
    written = λ u s i j le g f. inr (wrote u (post_of u) s j (ap (λ l. l ++ post_of u) (sym (none_sent u (subst (BatchFits first a u) i f.batch))) ∙ last_parts u j) f le g.rows);
    appended = λ u x rest n k i j le g f. inl g.rows;
    committed = λ u n s i j le g f. inr (wrote u (g.before ++ post_of u) s j (ap (λ l. l ++ post_of u) ((subst (BatchFits first a u) i f.batch).2 g.before g.was) ∙ last_parts u j) f le g.wrote.rows);
  })

-- ---- the invariant

module _ (trusts : ℕ → Bool) (first : ℕ) where
  -- What holds of seat i, of whose fetch these rows were noted: its device is valid, and faithful where it is trusted; a newer fetch is a
  -- trusted device's that has synced before.
  abbrev pub SeatFits : List Sheet → Server → ℕ → Seat → Type 0
  SeatFits old server i (Idle d) = IsDevice d × (trusts i ≡ true → IsFaithful d server)
  SeatFits old server i (Syncs m) = IsDevice m.device × (trusts i ≡ true → IsFaithful m.device server) × (m.run.newer ≡ true → (trusts i ≡ true) × (m.device.stamp ≢ 0)) × Fits first (shown_by server) old m.device m.run.newer m.stage

  -- a seat has the number of a batch
  abbrev pub HasBatch : Seat → ℕ → Type 0
  HasBatch (Idle d) n = ⊥
  HasBatch (Syncs m) n = IsOwn m.stage n

  pub record IsSound (notes : ℕ → List Sheet) (w : WorldView) : Type 0 where
    pub steady : IsSteady first w.server
    pub stands : StandsForOne (sheets_of w.server.account.rows)
    pub sits : (i : ℕ) (s : Seat) → slice_get w.seats i ≡ Some s → SeatFits (notes i) w.server i s
    pub apart : (i j n : ℕ) (s t : Seat) → slice_get w.seats i ≡ Some s → slice_get w.seats j ≡ Some t → HasBatch s n → HasBatch t n → i ≡ j

  -- another machine's step leaves a seat as it was
  seat_later : (old : List Sheet) (one other : Server) (stage : Stage) (i : ℕ) (s : Seat) → Leaves stage (shown_by one) (shown_by other) → Ages (shown_by one) (shown_by other) → ((n : ℕ) → HasBatch s n → IsOwn stage n → ⊥) → SeatFits old one i s → SeatFits old other i s
  seat_later old one other stage i (Idle d) l g alone h = (h.0, (λ t. faithful_later d one other g (h.1 t)))
  seat_later old one other stage i (Syncs m) l g alone h =
      (h.0, (λ t. faithful_later m.device one other g (h.1 t)), h.2, fits_later first (shown_by one) (shown_by other) old m.device m.run.newer m.stage l.later (λ n ps own le e. l.others n ps le (alone n own) e) h.3)

  -- a batch whose number a seat has isn't above the counter
  seat_known : (old : List Sheet) (server : Server) (i : ℕ) (s : Seat) (n : ℕ) → SeatFits old server i s → HasBatch s n → n ≤ server.account.counter
  seat_known old server i (Idle d) n h k = absurd k
  seat_known old server i (Syncs m) n h k = known first (shown_by server) old m.device m.run.newer m.stage n h.3 k

  quiet-self : (a : ShownAccount) → IsQuiet a a
  quiet-self a = record { rows = refl; target = omega arith; counter = omega arith; staged = λ n ps e. e }

  ages-self : (a : ShownAccount) → Ages a a
  ages-self a = record { store = omega arith; rows = λ x s e. inl e }

  module _ (notes : ℕ → List Sheet) (w : WorldView) (h : IsSound notes w) where
    -- the account moves by itself
    account_step : (server : Server) → IsSteady first server → IsQuiet (shown_by w.server) (shown_by server) → Ages (shown_by w.server) (shown_by server) → IsSound notes (record w { server = server })
    account_step server steady q g = record {
      steady = steady;
      stands = subst StandsForOne (sym q.rows) h.stands;
      sits = λ i s e. seat_later (notes i) w.server server Asks i s (quiet_leaves Asks _ _ q) g (λ n hs own. none-some n own) (h.sits i s e);
      apart = h.apart;
    }

    module _ (n : ℕ) (s : Seat) (there : slice_get w.seats n ≡ Some s) where
      -- seat n takes a step in this stage: the server goes on, and the seat becomes t
      seat_step : (more : ℕ → List Sheet) → ((i : ℕ) → i ≢ n → more i ≡ notes i) → (t : Seat) (stage : Stage) → ((k : ℕ) → IsOwn stage k → HasBatch s k) → (server : Server) → IsSteady first server
          → StandsForOne (sheets_of server.account.rows) → Leaves stage (shown_by w.server) (shown_by server) → Ages (shown_by w.server) (shown_by server) → SeatFits (more n) server n t
          → ((k : ℕ) → HasBatch t k → IsOwn stage k ⊎ (w.server.account.counter < k)) → IsSound more (world_with_seat w server n t)
      seat_step more same t stage mine server steady stand l g fits new = record {
        steady = steady;
        stands = stand;
        sits = λ i x e. elim (at_set w.seats n i t x e) [
          | inl m ↦ subst (λ z. SeatFits (more i) server i z) (sym m.1) (subst (λ j. SeatFits (more j) server j t) (sym m.0) fits)
          | inr m ↦ subst (λ old. SeatFits old server i x) (sym (same i m.0)) (seat_later (notes i) w.server server stage i x l g (λ k hold own. m.0 (h.apart i n k x s m.1 there hold (mine k own))) (h.sits i x m.1))
        ];
        apart = λ i j k x y e f hx hy. elim (at_set w.seats n i t x e) [
          | inl m ↦ elim (at_set w.seats n j t y f) [
            | inl o ↦ m.0 ∙ sym o.0
            | inr o ↦ absurd (alone j k y o.0 o.1 hy (subst (λ z. HasBatch z k) m.1 hx))
          ]
          | inr m ↦ elim (at_set w.seats n j t y f) [
            | inl o ↦ absurd (alone i k x m.0 m.1 hx (subst (λ z. HasBatch z k) o.1 hy))
            | inr o ↦ h.apart i j k x y m.1 o.1 hx hy
          ]
        ];
      }
        where
          alone : (j k : ℕ) (y : Seat) → j ≢ n → slice_get w.seats j ≡ Some y → HasBatch y k → HasBatch t k → ⊥
          alone j k y ne at hy ht = elim (new k ht) [
            | inl own ↦ ne (h.apart j n k y s at there hy (mine k own))
            | inr up ↦ let low : k ≤ w.server.account.counter = seat_known (notes j) w.server j y k (h.sits j y at) hy in absurd (omega arith)
          ]

      -- the server stays, and the seat is idle with a device that remembers what this one did
      idle_step : (d device : DeviceView) → SeatFits (notes n) w.server n (Idle d) → IsDevice device → device.stamp ≡ d.stamp → device.mirror ≡ d.mirror → IsSound notes (world_with_seat w w.server n (Idle device))
      idle_step d device f ok st mi = seat_step notes (λ i ne. refl) (Idle device) Asks (λ k own. absurd (none-some k own)) w.server h.steady h.stands (quiet_leaves Asks _ _ (quiet-self (shown_by w.server))) (ages-self (shown_by w.server))
          (ok, (λ t. subst (λ x. IsFaithful (record device { stamp = x }) w.server) (sym st) (subst (λ x. IsFaithful (record device { stamp = d.stamp; mirror = x }) w.server) (sym mi) (f.1 t)))) (λ k ht. absurd ht)

    -- ---- a device's request comes to the account

    module _ (n now : ℕ) (m : MachineView) (there : slice_get w.seats n ≡ Some (Syncs m)) (server : Server) (answers : Answers w.server now (ask m) server) where
      abbrev pub answer : Answer
      answer = told_by (awaits m.stage) (api w.server.account now (ask m)).reply

      abbrev fitted : SeatFits (notes n) w.server n (Syncs m)
      fitted = h.sits n (Syncs m) there

      pub record Served : Type 0 where
        pub steady : IsSteady first server
        pub serves : Serves (shown_by w.server) (asks m m.stage) (shown_by server) answer
        pub ages : Ages (shown_by w.server) (shown_by server)

      pub served : Served
      served =
          let same = asked-asks m m.stage in
          let g = answers-steady w.server h.steady now (asks m m.stage) server (askable first (shown_by w.server) (notes n) m m.stage (h.sits n (Syncs m) there).3) (subst (λ request. Answers w.server now request server) same answers) in
          record {
            steady = g.0;
            serves = subst (λ aw. Serves (shown_by w.server) (asks m m.stage) (shown_by server) (told_by aw (api w.server.account now (ask m)).reply)) (sym (awaits-asks m m.stage))
                (subst (λ request. Serves (shown_by w.server) (asks m m.stage) (shown_by server) (told_by (awaited_of (asks m m.stage)) (api w.server.account now request).reply)) (sym same) g.1);
            ages = g.2;
          }

      pub turned : (sheets_of server.account.rows ≡ sheets_of w.server.account.rows) ⊎ Wrote first (shown_by w.server) (shown_by server) m (notes n) m.stage answer
      turned = moved first (shown_by w.server) (shown_by server) m (notes n) m.stage answer served.serves (h.sits n (Syncs m) there).3

      stands_on : StandsForOne (sheets_of server.account.rows)
      stands_on = elim turned [
        | inl e ↦ subst StandsForOne (sym e) h.stands
        | inr u ↦ record { tree = tree u.upload.merged; valid = u.joined.valid; stands = inl u.stands }
      ]

      left : Leaves m.stage (shown_by w.server) (shown_by server)
      left = leaves (shown_by w.server) (shown_by server) m m.stage answer served.serves

      still : trusts n ≡ true → IsFaithful m.device server
      still t = faithful_later m.device w.server server served.ages ((h.sits n (Syncs m) there).1 t)

      pub mirrored : m.run.newer ≡ true → (x : List ℕ) (s : Sheet) → sheet x (sheets_of server.account.rows) ≡ Some s → s.modified ≤ m.device.stamp → sheet x m.device.mirror ≡ Some s
      mirrored q = let g = (h.sits n (Syncs m) there).2 q in elim (still g.0) [
        | inl z ↦ absurd (g.1 z)
        | inr f ↦ f.1
      ]

      pub follows : (next : Next) → Follows m.device m.run m.stage answer next
          → Well first (shown_by w.server) (shown_by server) m (h.sits n (Syncs m) there).0 (notes n) (sheets-apart w.server.account.rows h.steady.good.places) (sheets-apart server.account.rows served.steady.good.places)
          (omega (arith, few_sheets server.account.rows, served.steady.good.number)) served.steady.good.below mirrored m.stage next
      follows next f = hears_well first (shown_by w.server) (shown_by server) m (h.sits n (Syncs m) there).0 (notes n) (sheets-apart w.server.account.rows h.steady.good.places) (sheets-apart server.account.rows served.steady.good.places)
          (omega (arith, few_sheets server.account.rows, served.steady.good.number)) served.steady.good.below mirrored h.steady.good.since m.stage answer served.serves next (h.sits n (Syncs m) there).3 f

      -- what the answer leads to
      pub ends : (v : WorldView) → v.server ≡ server → (next : Next) → Follows m.device m.run m.stage answer next → EndsWell w m next v
      ends v is (Send run stage) f = tt
      ends v is (Done device summary) f =
          let g = follows (Done device summary) f in
          record {
            valid = g.fit;
            fetched = g.fetched;
            all = g.all;
            joined = g.joined;
            stands = subst (λ (x : Server). HasItsRows (tree device.tree) (rows_of (sheets_of x.account.rows))) (sym is) g.stands;
            faithful = subst (λ (x : Server). IsFaithful device x) (sym is) (inr (g.stamp, g.mirror));
          }
      ends v is (Stop fault) f = follows (Stop fault) f

      loses : IsSound notes (world_with_seat w server n (Idle m.device))
      loses = seat_step n (Syncs m) there notes (λ i ne. refl) (Idle m.device) m.stage (λ k own. own) server served.steady stands_on left served.ages ((h.sits n (Syncs m) there).0, still) (λ k ht. absurd ht)

      delivers : (more : ℕ → List Sheet) → ((i : ℕ) → i ≢ n → more i ≡ notes i) → more n ≡ noted_at m.stage (sheets_of server.account.rows) (notes n) → (next : Next) → Follows m.device m.run m.stage answer next → IsSound more (world_with_seat w server n (after m next))
      delivers more same own (Send run stage) f =
          let g = follows (Send run stage) f in
          seat_step n (Syncs m) there more same (Syncs (record { device = m.device; run = run; stage = stage })) m.stage (λ k o. o) server served.steady stands_on left served.ages
          ((h.sits n (Syncs m) there).0, still, (λ q. (h.sits n (Syncs m) there).2 (g.1 q)), subst (λ old. Fits first (shown_by server) old m.device run.newer stage) (sym own) g.0) g.2
      delivers more same own (Done device summary) f =
          let g = follows (Done device summary) f in
          seat_step n (Syncs m) there more same (Idle device) m.stage (λ k o. o) server served.steady stands_on left served.ages (g.fit, (λ t. inr (g.stamp, g.mirror))) (λ k ht. absurd ht)
      delivers more same own (Stop fault) f =
          seat_step n (Syncs m) there more same (Idle m.device) m.stage (λ k o. o) server served.steady stands_on left served.ages ((h.sits n (Syncs m) there).0, still) (λ k ht. absurd ht)

    -- ---- each event

    start : (n : ℕ) (fetch : Fetch) (v : WorldView) → IsTrustedEvent trusts (Start n fetch) → (s : Seat) → slice_get w.seats n ≡ Some s → Starts w n fetch v s → IsSound notes v
    start n fetch v ok (Syncs m) there e = subst (IsSound notes) (sym e) h
    start n fetch v ok (Idle d) there e = subst (IsSound notes) (sym e)
        (seat_step n (Idle d) there notes (λ i ne. refl) (Syncs (record { device = d; run = first_run (is_newer d fetch); stage = Asks })) Asks (λ k own. absurd (none-some k own)) w.server h.steady h.stands
        (quiet_leaves Asks _ _ (quiet-self (shown_by w.server))) (ages-self (shown_by w.server)) ((h.sits n (Idle d) there).0, (h.sits n (Idle d) there).1, begun fetch ok, tt) (λ k own. absurd (none-some k own)))
      where
        begun : (f : Fetch) → IsTrustedEvent trusts (Start n f) → is_newer d f ≡ true → (trusts n ≡ true) × (d.stamp ≢ 0)
        begun Whole t q = absurd (false≢true q)
        begun Newer t q = (t, (λ z. absurd (false≢true (sym (ap (λ v. not (v == 0)) z) ∙ q))))

    given_up : (n : ℕ) (v : WorldView) (s : Seat) → slice_get w.seats n ≡ Some s → IsGivenUp w n v s → IsSound notes v
    given_up n v (Idle d) there e = subst (IsSound notes) (sym e) h
    given_up n v (Syncs m) there e = subst (IsSound notes) (sym e)
        (idle_step n (Syncs m) there m.device m.device ((h.sits n (Syncs m) there).0, (h.sits n (Syncs m) there).1) (h.sits n (Syncs m) there).0 refl refl)

    lost : (n now : ℕ) (v : WorldView) (s : Seat) → slice_get w.seats n ≡ Some s → IsLost w n now v s → IsSound notes v
    lost n now v (Idle d) there e = subst (IsSound notes) (sym e) h
    lost n now v (Syncs m) there e = subst (IsSound notes) (sym e.is) (loses n now m there e.server e.answers)

    edited : (n now : ℕ) (edit : Edit) (v : WorldView) (s : Seat) → slice_get w.seats n ≡ Some s → EditsAtSeat w n now edit v s → IsSound notes v
    edited n now edit v (Syncs m) there e = subst (IsSound notes) (sym e) h
    edited n now edit v (Idle d) there e = go (edit_fault d edit) e
      where
        stamp_stays : (x : Edit) (device : DeviceView) → ChangesDevice now x d device → device.stamp ≡ d.stamp
        stamp_stays (edits.Add parent item) device c = c.stamp
        stamp_stays (edits.Rename id title) device c = c.stamp
        stamp_stays (edits.Move id parent) device c = c.stamp
        stamp_stays (edits.Delete id) device c = c.stamp

        mirror_stays : (x : Edit) (device : DeviceView) → ChangesDevice now x d device → device.mirror ≡ d.mirror
        mirror_stays (edits.Add parent item) device c = c.mirror
        mirror_stays (edits.Rename id title) device c = c.mirror
        mirror_stays (edits.Move id parent) device c = c.mirror
        mirror_stays (edits.Delete id) device c = c.mirror

        go : (o : Option EditFault) → MatchOption o (Edits w n now edit d v) (λ fault. v ≡ w) → IsSound notes v
        go (Some fault) q = subst (IsSound notes) (sym q) h
        go None q = subst (IsSound notes) (sym q.is) (idle_step n (Idle d) there d q.device (h.sits n (Idle d) there) q.valid (stamp_stays edit q.device q.changed) (mirror_stays edit q.device q.changed))

    -- at a seat, or where there is none
    at_seat : (P : WorldView → Type 0) (n : ℕ) (v : WorldView) (Q : Seat → Type 0) → P w → ((s : Seat) → slice_get w.seats n ≡ Some s → Q s → P v) → At w n v Q → P v
    at_seat P n v Q stay k e = go (slice_get w.seats n) refl e
      where
        go : (o : Option Seat) → slice_get w.seats n ≡ o → MatchOption o (v ≡ w) Q → P v
        go None i q = subst P (sym q) stay
        go (Some s) i q = k s i q

    abbrev noting : Event → WorldView → ℕ → List Sheet
    noting event v = λ i. noted_by i w event v (notes i)

    -- what is noted at a delivery
    delivered : (n now : ℕ) (v : WorldView) → At w n v (DeliversAtSeat w n now v) → IsSound (λ i. noted_by i w (Deliver n now) v (notes i)) v
    delivered n now v e = go (slice_get w.seats n) refl e
      where
        same_number : (x : ℕ) → (x == x) ≡ true
        same_number x = grind (arith, nat_tests)

        other_number : (x y : ℕ) → x ≢ y → (x == y) ≡ false
        other_number x y ne = elim (x == y) as (λ b. (x == y) ≡ b → b ≡ false) [
          | true ↦ (λ q. absurd (ne (let is : x ≡ y = grind (arith, nat_tests) in is)))
          | false ↦ (λ q. refl)
        ] refl

        -- nothing is noted where there is no seat, or an idle one
        unnoted : (o : Option Seat) → slice_get w.seats n ≡ o → noted_in o (sheets_of v.server.account.rows) (notes n) ≡ notes n → (i : ℕ) → noted_by i w (Deliver n now) v (notes i) ≡ notes i
        unnoted o is isnt i = elim (n == i) as (λ b. (n == i) ≡ b → cond b (noted_in (slice_get w.seats n) (sheets_of v.server.account.rows) (notes i)) (notes i) ≡ notes i) [
          | true ↦ (λ q. let one : n ≡ i = grind (arith, nat_tests) in ap (λ p. noted_in p (sheets_of v.server.account.rows) (notes i)) is ∙ subst (λ j. noted_in o (sheets_of v.server.account.rows) (notes j) ≡ notes j) one isnt)
          | false ↦ (λ q. refl)
        ] refl

        quietly : (o : Option Seat) → slice_get w.seats n ≡ o → noted_in o (sheets_of v.server.account.rows) (notes n) ≡ notes n → v ≡ w → IsSound (λ i. noted_by i w (Deliver n now) v (notes i)) v
        quietly o is isnt q = subst (λ f. IsSound f v) (λ k i. sym (unnoted o is isnt i) k) (subst (IsSound notes) (sym q) h)

        go : (o : Option Seat) → slice_get w.seats n ≡ o → MatchOption o (v ≡ w) (DeliversAtSeat w n now v) → IsSound (λ i. noted_by i w (Deliver n now) v (notes i)) v
        go None is q = quietly None is refl q
        go (Some (Idle d)) is q = quietly (Some (Idle d)) is refl q
        go (Some (Syncs m)) is q =
            let rows : sheets_of v.server.account.rows ≡ sheets_of q.server.account.rows = ap (λ (x : WorldView). sheets_of x.server.account.rows) q.is in
            subst (λ x. IsSound (λ i. noted_by i w (Deliver n now) v (notes i)) x) (sym q.is)
            (delivers n now m is q.server q.answers (λ i. noted_by i w (Deliver n now) v (notes i))
            (λ i ne. ap (λ b. cond b (noted_in (slice_get w.seats n) (sheets_of v.server.account.rows) (notes i)) (notes i)) (other_number n i (λ e. ne (sym e))))
            (ap (λ b. cond b (noted_in (slice_get w.seats n) (sheets_of v.server.account.rows) (notes n)) (notes n)) (same_number n)
            ∙ (ap (λ o. noted_in o (sheets_of v.server.account.rows) (notes n)) is ∙ ap (λ r. noted_at m.stage r (notes n)) rows))
            q.next q.follows)

    others : (now : ℕ) (request : Request) (v : WorldView) → MatchBool (touches request) (v ≡ w) (AsksElsewhere w now request v) → IsSound notes v
    others now request v e = go (touches request) refl e
      where
        go : (b : Bool) → touches request ≡ b → MatchBool b (v ≡ w) (AsksElsewhere w now request v) → IsSound notes v
        go true q e = subst (IsSound notes) (sym e) h
        go false q e = let g = others-steady w.server h.steady now request e.server q e.answers in subst (IsSound notes) (sym e.is) (account_step e.server g.0 g.1 g.2)

    -- every event keeps the invariant
    pub keeps : (event : Event) (v : WorldView) → IsTrustedEvent trusts event → Happens w event v → IsSound (λ i. noted_by i w event v (notes i)) v
    keeps (Start n fetch) v ok e = at_seat (IsSound notes) n v (Starts w n fetch v) h (start n fetch v ok) e
    keeps (Deliver n now) v ok e = delivered n now v e
    keeps (LoseRequest n) v ok e = at_seat (IsSound notes) n v (IsGivenUp w n v) h (given_up n v) e
    keeps (LoseReply n now) v ok e = at_seat (IsSound notes) n v (IsLost w n now v) h (lost n now v) e
    keeps (Anew n) v ok e = at_seat (IsSound notes) n v (IsGivenUp w n v) h (given_up n v) e
    keeps (Change n now edit) v ok e = at_seat (IsSound notes) n v (EditsAtSeat w n now edit v) h (edited n now edit v) e
    keeps (Other now request) v ok e = others now request v e
    keeps (Tick now) v ok e = let g = ticks-steady w.server h.steady now e.server e.ticks in subst (IsSound notes) (sym e.is) (account_step e.server g.0 g.1 g.2)
    keeps Reopen v ok e = let g = reopens-steady w.server h.steady e.server e.reopens in subst (IsSound notes) (sym e.is) (account_step e.server g.0 g.1 g.2)

    -- ---- one tree

    abbrev Turns : Event → WorldView → Type 0
    Turns event v = (sheets_of v.server.account.rows ≡ sheets_of w.server.account.rows) ⊎ IsLastUpload w event v

    stays : (v : WorldView) → v ≡ w → sheets_of v.server.account.rows ≡ sheets_of w.server.account.rows
    stays v e = ap (λ (x : WorldView). sheets_of x.server.account.rows) e

    -- a request that is answered, whether the device hears it or not
    turns : (event : Event) (n now : ℕ) (m : MachineView) (v : WorldView) (server : Server) → (event ≡ Deliver n now) ⊎ (event ≡ LoseReply n now) → slice_get w.seats n ≡ Some (Syncs m) → Answers w.server now (ask m) server → v.server ≡ server → Turns event v
    turns event n now m v server which there answers is = elim (turned n now m there server answers) [
      | inl e ↦ inl (ap (λ (x : Server). sheets_of x.account.rows) is ∙ e)
      | inr u ↦ inr (record {
        device = n;
        now = now;
        machine = m;
        upload = u.upload;
        stamp = u.stamp;
        there = there;
        stage = u.at;
        last = u.last;
        event_is = which;
        written = u.told;
        all = u.all;
        joined = u.joined;
        stands = subst (λ (x : Server). HasItsRows (tree u.upload.merged) (rows_of (sheets_of x.account.rows))) (sym is) u.stands;
      })
    ]

    -- each event leaves the rows, or takes them to the merged tree
    pub one_tree : (event : Event) (v : WorldView) → Happens w event v → OneTree w event v
    one_tree (Start n fetch) v e = at_seat (λ x. OneTree w (Start n fetch) x) n v (Starts w n fetch v) (inl refl) (λ s i q. inl (by s q)) e
      where
        by : (s : Seat) → Starts w n fetch v s → sheets_of v.server.account.rows ≡ sheets_of w.server.account.rows
        by (Idle d) q = ap (λ (x : WorldView). sheets_of x.server.account.rows) q
        by (Syncs m) q = stays v q
    one_tree (Deliver n now) v e = at_seat (λ x. OneTree w (Deliver n now) x) n v (DeliversAtSeat w n now v) (inl refl) by e
      where
        by : (s : Seat) → slice_get w.seats n ≡ Some s → DeliversAtSeat w n now v s → OneTree w (Deliver n now) v
        by (Idle d) i q = inl (stays v q)
        by (Syncs m) i q = turns (Deliver n now) n now m v q.server (inl refl) i q.answers (ap (λ (x : WorldView). x.server) q.is)
    one_tree (LoseRequest n) v e = at_seat (λ x. OneTree w (LoseRequest n) x) n v (IsGivenUp w n v) (inl refl) (λ s i q. inl (by s q)) e
      where
        by : (s : Seat) → IsGivenUp w n v s → sheets_of v.server.account.rows ≡ sheets_of w.server.account.rows
        by (Idle d) q = stays v q
        by (Syncs m) q = ap (λ (x : WorldView). sheets_of x.server.account.rows) q
    one_tree (LoseReply n now) v e = at_seat (λ x. OneTree w (LoseReply n now) x) n v (IsLost w n now v) (inl refl) by e
      where
        by : (s : Seat) → slice_get w.seats n ≡ Some s → IsLost w n now v s → OneTree w (LoseReply n now) v
        by (Idle d) i q = inl (stays v q)
        by (Syncs m) i q = turns (LoseReply n now) n now m v q.server (inr refl) i q.answers (ap (λ (x : WorldView). x.server) q.is)
    one_tree (Anew n) v e = at_seat (λ x. OneTree w (Anew n) x) n v (IsGivenUp w n v) (inl refl) (λ s i q. inl (by s q)) e
      where
        by : (s : Seat) → IsGivenUp w n v s → sheets_of v.server.account.rows ≡ sheets_of w.server.account.rows
        by (Idle d) q = stays v q
        by (Syncs m) q = ap (λ (x : WorldView). sheets_of x.server.account.rows) q
    one_tree (Change n now edit) v e = at_seat (λ x. OneTree w (Change n now edit) x) n v (EditsAtSeat w n now edit v) (inl refl) (λ s i q. inl (by s q)) e
      where
        by : (s : Seat) → EditsAtSeat w n now edit v s → sheets_of v.server.account.rows ≡ sheets_of w.server.account.rows
        by (Syncs m) q = stays v q
        by (Idle d) q = go (edit_fault d edit) q
          where
            go : (o : Option EditFault) → MatchOption o (Edits w n now edit d v) (λ fault. v ≡ w) → sheets_of v.server.account.rows ≡ sheets_of w.server.account.rows
            go None r = ap (λ (x : WorldView). sheets_of x.server.account.rows) r.is
            go (Some fault) r = stays v r
    one_tree (Other now request) v e = go (touches request) refl e
      where
        go : (b : Bool) → touches request ≡ b → MatchBool b (v ≡ w) (AsksElsewhere w now request v) → OneTree w (Other now request) v
        go true q r = inl (stays v r)
        go false q r = inl (ap (λ (x : WorldView). sheets_of x.server.account.rows) r.is ∙ (others-steady w.server h.steady now request r.server q r.answers).1.rows)
    one_tree (Tick now) v e = inl (ap (λ (x : WorldView). sheets_of x.server.account.rows) e.is ∙ (ticks-steady w.server h.steady now e.server e.ticks).1.rows)
    one_tree Reopen v e = inl (ap (λ (x : WorldView). sheets_of x.server.account.rows) e.is ∙ (reopens-steady w.server h.steady e.server e.reopens).1.rows)
