-- Uploads while the server is started anew.
use Rattle.std.specs.Prelude.{◌≡◌, ℕ, ◌≤◌, max, Bool, true, false, ◌&&◌, ◌==◌, cond, List, [], ◌∷◌, filter, find}
use Rattle.std.specs.Prelude.{slice_get, Option, Some, None, option_map, MatchOption, bytes_eq, refl}
use Rattle.std.specs.Bool.{MatchBool}
use Rattle.std.proofs.Common.{sym, ap, subst, ◌∙◌, arith}
use Rattle.ss_text.specs.Time.{after}
use Rattle.ss_bso.specs.declared.account.Staged.{Staged}
use Rattle.ss_bso.specs.declared.changes.Kept.{Kept}
use Rattle.ss_bso.specs.Account.{is_open, tick}
use Rattle.ss_bso.specs.Batches.{batch_in}
use Rattle.ss_bso.specs.Changes.{latest, account_at_opening}
use Rattle.ss_bso.specs.Lists.{Each}
use Rattle.ss_bso.specs.Validity.{IsValidBatch, SameAccount}
use Rattle.ss_bso.proofs.Lists.{Each-from_All, Each-imp, Pairs-filter}
use Rattle.ss_bso.proofs.Reordering.{Each-reordered}
use Rattle.ss_query.specs.declared.requests.Request.{Request}
use Rattle.ss_query.specs.Api.{api}
use Rattle.ss_laws.proofs.Stamps.{stamp_law}
use Rattle.ss_account.specs.Keeping.{is_for_keeper}
use Rattle.ss_client.specs.declared.runs.Stage.TheVariants.{Uploads}
use Rattle.ss_client.specs.Leaves.{UploadView}
use Rattle.ss_client.specs.Runs.{MachineView, sent_of}
use Rattle.ss_serving.specs.Bookmarks.{Server, bookmarks, shown_by}
use Rattle.ss_serving.specs.Asking.{touches}
use Rattle.ss_serving.specs.Good.{OtherNumber}
use Rattle.ss_serving.specs.Steps.{Answers, Reopens, Ticks}
use Rattle.ss_serving.proofs.Same.{batch-reordered}
use Rattle.ss_client.specs.declared.summaries.Fetch.{Fetch}
use Rattle.ss_world.specs.declared.events.Edit.{Edit}
use Rattle.ss_world.specs.declared.events.Event.{Event}
use Rattle.ss_world.specs.declared.events.Event.TheVariants.{Start, Deliver, LoseRequest, LoseReply, Anew, Change}
use Rattle.ss_world.specs.declared.events.Event.TheVariants.{Other, Tick, Reopen}
use Rattle.ss_device.specs.declared.faults.EditFault.{EditFault}
use Rattle.ss_world.specs.declared.seats.Seat.{Seat}
use Rattle.ss_world.specs.declared.seats.Seat.TheVariants.{Idle, Syncs}
use Rattle.ss_world.specs.Worlds.{WorldView}
use Rattle.ss_world.specs.Happening.{AsksElsewhere, Edits, Happens, DeliversAtSeat, EditsAtSeat, IsGivenUp, IsLost}
use Rattle.ss_world.specs.Happening.{Runs, Starts}
use Rattle.ss_world.specs.Happening.{Step, edit_fault, last}
use Rattle.ss_world.specs.Promises.{first_rows}
use Rattle.ss_world.specs.Reaching.{IsReachedWorld}
use Rattle.ss_world.proofs.Fitting.{BatchFits, Fits, UploadFits}
use Rattle.ss_world.proofs.Keeping.{IsSound}
use Rattle.ss_world.proofs.Promised.{sound}
use Rattle.ss_promises.proofs.Reopening.{latest_below, open_before}

-- ---- what an event makes of the server

data Moves (a b : Server) : Type 0 where
  stays : b ≡ a → Moves a b
  answers : (now : ℕ) (request : Request) → Answers a now request b → Moves a b
  ticks : (now : ℕ) → Ticks a now b → Moves a b
  reopens : Reopens a b → Moves a b

server_is : (w v : WorldView) (b : Server) → v.server ≡ b → Moves w.server b → Moves w.server v.server
server_is w v b is m = subst (Moves w.server) (sym is) m

world_stays : (w v : WorldView) → v ≡ w → Moves w.server v.server
world_stays w v is = stays (ap (λ (x : WorldView). x.server) is)

at_seat : (w v : WorldView) (P : Seat → Type 0) (o : Option Seat) → ((s : Seat) → P s → Moves w.server v.server) → MatchOption o (v ≡ w) P → Moves w.server v.server
at_seat w v P None h e = world_stays w v e
at_seat w v P (Some s) h e = h s e

starts : (w v : WorldView) (n : ℕ) (fetch : Fetch) (s : Seat) → Starts w n fetch v s → Moves w.server v.server
starts w v n fetch (Idle d) e = stays (ap (λ (x : WorldView). x.server) e)
starts w v n fetch (Syncs m) e = world_stays w v e

delivers : (w v : WorldView) (n now : ℕ) (s : Seat) → DeliversAtSeat w n now v s → Moves w.server v.server
delivers w v n now (Idle d) e = world_stays w v e
delivers w v n now (Syncs m) e = server_is w v e.server (ap (λ (x : WorldView). x.server) e.is) (answers now _ e.answers)

gives_up : (w v : WorldView) (n : ℕ) (s : Seat) → IsGivenUp w n v s → Moves w.server v.server
gives_up w v n (Idle d) e = world_stays w v e
gives_up w v n (Syncs m) e = stays (ap (λ (x : WorldView). x.server) e)

loses : (w v : WorldView) (n now : ℕ) (s : Seat) → IsLost w n now v s → Moves w.server v.server
loses w v n now (Idle d) e = world_stays w v e
loses w v n now (Syncs m) e = server_is w v e.server (ap (λ (x : WorldView). x.server) e.is) (answers now _ e.answers)

edits : (w v : WorldView) (n now : ℕ) (edit : Edit) (s : Seat) → EditsAtSeat w n now edit v s → Moves w.server v.server
edits w v n now edit (Syncs m) e = world_stays w v e
edits w v n now edit (Idle d) e = by (edit_fault d edit) e
  where
    by : (o : Option EditFault) → MatchOption o (Edits w n now edit d v) (λ fault. v ≡ w) → Moves w.server v.server
    by None h = stays (ap (λ (x : WorldView). x.server) h.is)
    by (Some fault) h = world_stays w v h

asks : (w v : WorldView) (now : ℕ) (request : Request) (b : Bool) → MatchBool b (v ≡ w) (AsksElsewhere w now request v) → Moves w.server v.server
asks w v now request true e = world_stays w v e
asks w v now request false e = server_is w v e.server (ap (λ (x : WorldView). x.server) e.is) (answers now request e.answers)

moves : (w v : WorldView) (event : Event) → Happens w event v → Moves w.server v.server
moves w v (Start n fetch) e = at_seat w v (Starts w n fetch v) (slice_get w.seats n) (starts w v n fetch) e
moves w v (Deliver n now) e = at_seat w v (DeliversAtSeat w n now v) (slice_get w.seats n) (delivers w v n now) e
moves w v (LoseRequest n) e = at_seat w v (IsGivenUp w n v) (slice_get w.seats n) (gives_up w v n) e
moves w v (LoseReply n now) e = at_seat w v (IsLost w n now v) (slice_get w.seats n) (loses w v n now) e
moves w v (Anew n) e = at_seat w v (IsGivenUp w n v) (slice_get w.seats n) (gives_up w v n) e
moves w v (Change n now edit) e = at_seat w v (EditsAtSeat w n now edit v) (slice_get w.seats n) (edits w v n now edit) e
moves w v (Other now request) e = asks w v now request (touches request) e
moves w v (Tick now) e = server_is w v e.server (ap (λ (x : WorldView). x.server) e.is) (ticks now e.ticks)
moves w v Reopen e = server_is w v e.server (ap (λ (x : WorldView). x.server) e.is) (reopens e.reopens)

-- ---- each batch that is kept began by the account's moment

abbrev Begun : ℕ → Staged → Type 0
Begun moment batch = batch.begun ≤ moment

abbrev HaveBegun : Server → Type 0
HaveBegun server = Each (Begun server.account.moment) server.kept.batches

begun_later : (one other : ℕ) (batches : List Staged) → one ≤ other → Each (Begun one) batches → Each (Begun other) batches
begun_later one other batches le h = Each-imp (Begun one) (Begun other) (λ batch e. let b : batch.begun ≤ one = e in omega (arith, b, le)) batches h

begun_same : (a b : Server) → b.kept ≡ a.kept → a.account.moment ≤ b.account.moment → HaveBegun a → HaveBegun b
begun_same a b same later h = subst (λ (k : Kept). Each (Begun b.account.moment) k.batches) (sym same) (begun_later a.account.moment b.account.moment a.kept.batches later h)

latest_above : (time : ℕ) (batches : List Staged) → time ≤ latest time batches
latest_above time [] = omega arith
latest_above time (batch ∷ batches) = let above : max time batch.begun ≤ latest (max time batch.begun) batches = latest_above (max time batch.begun) batches in omega (arith, above)

each_latest : (time : ℕ) (batches : List Staged) → Each (Begun (latest time batches)) batches
each_latest time [] = tt
each_latest time (batch ∷ batches) =
    let above : max time batch.begun ≤ latest (max time batch.begun) batches = latest_above (max time batch.begun) batches in
    (omega (arith, above), each_latest (max time batch.begun) batches)

-- an account that is opened from what is kept
begun_opened : (server : Server) (kept : Kept) → server.kept ≡ kept → SameAccount (account_at_opening kept) server.account → HaveBegun server
begun_opened server kept is s =
    let moment : latest kept.store kept.batches ≤ server.account.moment = omega (arith, s.moment) in
    subst (λ (k : Kept). Each (Begun server.account.moment) k.batches) (sym is) (begun_later (latest kept.store kept.batches) server.account.moment kept.batches moment (each_latest kept.store kept.batches))

begun_answered : (a b : Server) (now : ℕ) (request : Request) → Answers a now request b → HaveBegun a → HaveBegun b
begun_answered a b now request e h = by (is_for_keeper (tick a.account now) request) refl
  where
    by : (v : Bool) → is_for_keeper (tick a.account now) request ≡ v → HaveBegun b
    by true t =
        Each-reordered (Begun b.account.moment) (e.kept t).batches
        (Each-imp (IsValidBatch b.account) (Begun b.account.moment) (λ batch v. v.begun) b.account.batches (Each-from_All (IsValidBatch b.account) b.account.batches e.valid.batches))
    by false t =
        let up : a.account.moment ≤ (api a.account now request).account.moment = (stamp_law a.account now request).moment in
        let is : (api a.account now request).account.moment ≡ b.account.moment = e.account.moment in
        begun_same a b (e.left t) (omega (arith, up, is)) h

begun_moved : (a b : Server) → Moves a b → HaveBegun a → HaveBegun b
begun_moved a b (stays is) h = subst HaveBegun (sym is) h
begun_moved a b (answers now request e) h = begun_answered a b now request e h
begun_moved a b (ticks now e) h = begun_same a b e.left (omega (arith, e.account.moment)) h
begun_moved a b (reopens e) h = begun_opened b a.kept e.left e.account

begun_on : (w : WorldView) (steps : List Step) → Runs w steps → HaveBegun w.server → HaveBegun (last w steps).server
begun_on w [] r h = h
begun_on w (step ∷ steps) r h = begun_on step.world steps r.1 (begun_moved w.server step.world.server (moves w step.world step.event r.0) h)

begun_reached : (trusts : ℕ → Bool) (w : WorldView) → IsReachedWorld trusts w → HaveBegun w.server
begun_reached trusts w r =
    subst (λ (x : WorldView). HaveBegun x.server) r.here (begun_on r.opening r.steps r.runs (begun_opened r.opening.server r.opening.server.kept refl r.opens.opened))

-- ---- the batch of an upload

-- what is found stays found where it passes a filter
found_kept : {X : Type 0} (p q : X → Bool) (xs : List X) (x : X) → find p xs ≡ Some x → q x ≡ true → find p (filter q xs) ≡ Some x
found_kept p q [] x e t = e
found_kept {X} p q (y ∷ ys) x e t = by (p y) refl (λ h. found_kept p q ys x h t) e
  where
    by : (v : Bool) → p y ≡ v → (find p ys ≡ Some x → find p (filter q ys) ≡ Some x) → cond v (Some y) (find p ys) ≡ Some x → find p (filter q (y ∷ ys)) ≡ Some x
    by true is later h =
        let same : y ≡ x = cc in
        ap (λ v. find p (cond v (y ∷ filter q ys) (filter q ys))) (ap q same ∙ t) ∙ ap (λ v. cond v (Some y) (find p (filter q ys))) is ∙ h
    by false is later h = elim (q y) as (λ v. find p (cond v (y ∷ filter q ys) (filter q ys)) ≡ Some x) [
      | true ↦ ap (λ v. cond v (Some y) (find p (filter q ys))) is ∙ later h
      | false ↦ later h
    ]

upload_sent : (first : ℕ) (a : Server) (u : UploadView) (number : ℕ) (batch : Staged) → BatchFits first (shown_by a) u u.batch → u.batch ≡ Some number → batch_in bookmarks number a.kept.batches ≡ Some batch
    → batch.parts ≡ sent_of u
upload_sent first a u number batch fits is e =
    (subst (BatchFits first (shown_by a) u) is fits).2 batch.parts (ap (option_map (λ (b : Staged). b.parts)) e)

pub goes_on_uploading : (trusts : ℕ → Bool) (w v : WorldView) (n number : ℕ) (m : MachineView) (u : UploadView) (batch : Staged) → IsReachedWorld trusts w → slice_get w.seats n ≡ Some (Syncs m)
    → m.stage ≡ Uploads u → u.batch ≡ Some number → batch_in bookmarks number w.server.account.batches ≡ Some batch → is_open w.server.account.moment batch ≡ true → Happens w Reopen v
    → (batch_in bookmarks number w.server.kept.batches ≡ Some batch) × (batch.parts ≡ sent_of u) × (batch_in bookmarks number v.server.account.batches ≡ Some batch) × (slice_get v.seats n ≡ Some (Syncs m))
goes_on_uploading trusts w v n number m u batch r there stage own live now h =
    let s : IsSound trusts r.opening.server.account.counter (λ i. first_rows i r.opening r.steps []) w =
    subst (IsSound trusts r.opening.server.account.counter (λ i. first_rows i r.opening r.steps [])) r.here (sound trusts r.opening r.steps r.opens r.runs r.trusted) in
    let kept : batch_in bookmarks number w.server.kept.batches ≡ Some batch = s.steady.live number batch live in
    let fits : UploadFits r.opening.server.account.counter (shown_by w.server) m.device u =
    subst (Fits r.opening.server.account.counter (shown_by w.server) (first_rows n r.opening r.steps []) m.device m.run.newer) stage (s.sits n (Syncs m) there).3 in
    let store : w.server.kept.store ≡ w.server.account.store = s.steady.store in
    let low : w.server.account.store ≤ w.server.account.moment = s.steady.valid.store in
    let early : latest w.server.kept.store w.server.kept.batches ≤ w.server.account.moment = latest_below w.server.kept.store w.server.account.moment w.server.kept.batches (omega (arith, store, low)) (begun_reached trusts w r) in
    let start : ℕ = after (latest w.server.kept.store w.server.kept.batches) 0 in
    let still : is_open start batch ≡ true = open_before start w.server.account.moment batch (omega (arith, early)) now in
    let found : batch_in bookmarks number (filter (is_open start) w.server.kept.batches) ≡ Some batch =
    found_kept (λ (b : Staged). b.number == number && bytes_eq b.collection bookmarks) (is_open start) w.server.kept.batches batch kept still in
    let same : batch_in bookmarks number (filter (is_open start) w.server.kept.batches) ≡ batch_in bookmarks number h.server.account.batches =
    batch-reordered number (filter (is_open start) w.server.kept.batches) h.server.account.batches h.reopens.account.batches (Pairs-filter OtherNumber (is_open start) w.server.kept.batches s.steady.numbers) in (
      kept,
      upload_sent r.opening.server.account.counter w.server u number batch fits.batch own kept,
      ap (λ (x : WorldView). batch_in bookmarks number x.server.account.batches) h.is ∙ sym same ∙ found,
      ap (λ (x : WorldView). slice_get x.seats n) h.is ∙ there,
    )
