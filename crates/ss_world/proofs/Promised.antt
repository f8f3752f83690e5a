-- What is promised of every run from an opening.
use Rattle.std.proofs.Common.{◌≡◌, ℕ, ◌≤◌, ◌==◌, List, [], ◌∷◌, ◌++◌, take, slice_get, Option, Some, None, MatchOption}
use Rattle.std.proofs.Common.{Bool, true, false, cond, sym, refl, ap, ◌∙◌, subst, inl, inr, arith}
use Rattle.std.proofs.lemmas.Option.{none-some, same_Some}
use Rattle.std.proofs.lemmas.Bool.Decides.{nat_tests}
use Rattle.ss_record.specs.declared.readings.Sheet.{Sheet}
use Rattle.ss_record.specs.Ids.{Apart}
use Rattle.ss_tree.specs.Trees.{PlacedItem, IsValidTree}
use Rattle.ss_build.specs.Rows.{rows_of}
use Rattle.ss_build.specs.Stand.{IsSameUntimed, StandFor}
use Rattle.ss_build.proofs.OfSheets.{sheets_built_back}
use Rattle.ss_query.specs.Api.{api}
use Rattle.ss_plan.specs.Written.{sheet}
use Rattle.ss_sync.specs.Rows.{ids_of}
use Rattle.ss_sync.specs.Fetched.{are_known, kept}
use Rattle.ss_hearing.specs.declared.answer.Answer.{Answer}
use Rattle.ss_hearing.specs.declared.answer.Answer.TheVariants.{Paged, Listed}
use Rattle.ss_device.specs.Device.{IsDevice}
use Rattle.ss_device.proofs.Known.{by_id_apart}
use Rattle.ss_client.specs.declared.runs.Listing.{Listing}
use Rattle.ss_client.specs.declared.runs.Stage.{Stage}
use Rattle.ss_client.specs.declared.runs.Stage.TheVariants.{Opens, Pages, Lists}
use Rattle.ss_client.specs.Leaves.{PagingView}
use Rattle.ss_client.specs.Runs.{MachineView}
use Rattle.ss_client.specs.Asking.{ask, awaits}
use Rattle.ss_serving.specs.Bookmarks.{ShownAccount, Server, shown_by, sheets_of}
use Rattle.ss_serving.specs.Asking.{told_by}
use Rattle.ss_serving.specs.Serving.{IsQuiet, IsPage, AreIdsOf, newer, Serves}
use Rattle.ss_serving.proofs.Seen.{sheets-apart}
use Rattle.ss_serving.proofs.Keeping.{opens-steady}
use Rattle.ss_world.specs.declared.events.Event.{Event}
use Rattle.ss_world.specs.declared.events.Event.TheVariants.{Deliver}
use Rattle.ss_world.specs.Seats.{device_of}
use Rattle.ss_world.specs.Worlds.{Seat, Idle, Syncs, WorldView, asks}
use Rattle.ss_world.specs.Happening.{Happens, Step, Runs, last, DeliversAtSeat, IsGivenUp, Delivers, OpensAnew}
use Rattle.ss_world.specs.Promises.{AreAll, IsFaithful, StandsForOne, IsOpening, AreTrustedSteps, IsLastUpload, OneTree}
use Rattle.ss_world.specs.Promises.{fetched_at, noted_at, noted_in, noted_by, first_rows, EndsWell}
use Rattle.ss_world.proofs.Lists.{page_last}
use Rattle.ss_world.proofs.Looking.{all-same, recalls}
use Rattle.ss_world.proofs.Fitting.{Fits, by_cases}
use Rattle.ss_world.proofs.Keeping.{IsSound, SeatFits, HasBatch, keeps, one_tree, served, mirrored, ends as ends_well}

-- ---- a finished fetch

module _ (first : ℕ) (a b : ShownAccount) (m : MachineView) (valid : IsDevice m.device) (old rows : List Sheet) (rows_apart : Apart (ids_of b.rows))
    (mirrored : m.run.newer ≡ true → (x : List ℕ) (s : Sheet) → sheet x b.rows ≡ Some s → s.modified ≤ m.device.stamp → sheet x m.device.mirror ≡ Some s) where
  abbrev Finished : Stage → Type 0
  Finished stage = AreAll rows b.rows × (noted_at stage b.rows old ≡ b.rows)

  -- a fetch that ends with a page is a whole one
  page_ends : (xs : List Sheet) → cond m.run.newer None (Some xs) ≡ Some rows → (m.run.newer ≡ false) × (xs ≡ rows)
  page_ends xs e = go m.run.newer refl e
    where
      go : (v : Bool) → m.run.newer ≡ v → cond v None (Some xs) ≡ Some rows → (m.run.newer ≡ false) × (xs ≡ rows)
      go true q f = absurd (none-some rows f)
      go false q f = (q, same_Some xs rows f)

  whole : (xs : List Sheet) → cond m.run.newer None (Some xs) ≡ Some rows → xs ≡ newer (cond m.run.newer (Some m.device.stamp) None) b.rows → AreAll rows b.rows
  whole xs e is = let h = page_ends xs e in all-same rows b.rows rows_apart (sym h.1 ∙ (is ∙ ap (λ v. newer (cond v (Some m.device.stamp) None) b.rows) h.0))

  first_page : (page : List Sheet) (next : Option ℕ) (time : ℕ) → IsPage (newer (cond m.run.newer (Some m.device.stamp) None) b.rows) 0 page next → fetched_at m (Paged page next time) Opens ≡ Some rows → Finished Opens
  first_page page None time g e = (whole page e (g.has ∙ page_last (newer (cond m.run.newer (Some m.device.stamp) None) b.rows) 0 (g.last refl)), refl)
  first_page page (Some k) time g e = absurd (none-some rows e)

  later_page : (p : PagingView) (page : List Sheet) (next : Option ℕ) (time : ℕ) → IsQuiet a b → b.target ≤ p.time → IsPage (newer (cond m.run.newer (Some m.device.stamp) None) b.rows) p.offset page next
      → Fits first a old m.device m.run.newer (Pages p) → fetched_at m (Paged page next time) (Pages p) ≡ Some rows → Finished (Pages p)
  later_page p page None time q le g f e =
      let low : p.time ≤ a.target = f.0.0 in let up : a.target ≤ b.target = q.target in let was : p.time ≡ a.target = omega arith in (
        whole (p.rows ++ page) e (ap (λ xs. xs ++ page) ((f.0.1 was).0 ∙ ap (λ xs. take p.offset (newer (cond m.run.newer (Some m.device.stamp) None) xs)) (sym q.rows))
            ∙ (ap (λ xs. take p.offset (newer (cond m.run.newer (Some m.device.stamp) None) b.rows) ++ xs) g.has ∙ page_last (newer (cond m.run.newer (Some m.device.stamp) None) b.rows) p.offset (g.last refl))),
        (f.0.1 was).1 ∙ sym q.rows,
      )
  later_page p page (Some k) time q le g f e = absurd (none-some rows e)

  all_ids : (l : Listing) (ids : List (List ℕ)) → IsQuiet a b → b.target ≤ l.time → AreIdsOf b.rows ids → Fits first a old m.device m.run.newer (Lists l) → fetched_at m (Listed ids) (Lists l) ≡ Some rows → Finished (Lists l)
  all_ids l ids q le are f e =
      let low : l.time ≤ a.target = f.0.0 in let up : a.target ≤ b.target = q.target in let was : l.time ≡ a.target = omega arith in
      (go (are_known l.rows m.device.mirror ids) e ((f.0.1 was).0 ∙ ap (newer (Some m.device.stamp)) (sym q.rows)), (f.0.1 was).1 ∙ sym q.rows)
    where
      go : (v : Bool) → cond v (Some (l.rows ++ kept l.rows ids m.device.mirror)) None ≡ Some rows → l.rows ≡ newer (Some m.device.stamp) b.rows → AreAll rows b.rows
      go true h is = subst (λ xs. AreAll xs b.rows) (same_Some (l.rows ++ kept l.rows ids m.device.mirror) rows h)
          (recalls b.rows l.rows m.device.mirror ids m.device.stamp rows_apart (by_id_apart (ids_of m.device.mirror) valid.mirror_by_id) is are (mirrored f.1))
      go false h is = absurd (none-some rows h)

  pub fetched_well : (stage : Stage) (answer : Answer) → Serves a (asks m stage) b answer → Fits first a old m.device m.run.newer stage → fetched_at m answer stage ≡ Some rows → Finished stage
  fetched_well = by_cases a b m (λ stage answer. Fits first a old m.device m.run.newer stage → fetched_at m answer stage ≡ Some rows → Finished stage) (record {
    refused = λ stage s q f e. absurd (none-some rows e);
    changed = λ stage t q f e. absurd (none-some rows e);
    configured = λ limits q f e. absurd (none-some rows e);
    opened = λ page next time q t g f e. first_page page next time g e;
    paged = λ p page next time q le g f e. later_page p page next time q le g f e;
    listed = λ l ids q le are f e. all_ids l ids q le are f e;
    begun = λ u x rest n i j le g f e. absurd (none-some rows e);
    written = λ u s i j le g f e. absurd (none-some rows e);
    appended = λ u x rest n k i j le g f e. absurd (none-some rows e);
    committed = λ u n s i j le g f e. absurd (none-some rows e);
  })

-- ---- what is given up leaves the account

pub given_up : (w v : WorldView) (n : ℕ) → MatchOption (slice_get w.seats n) (v ≡ w) (IsGivenUp w n v) → v.server ≡ w.server
given_up w v n h = go (slice_get w.seats n) h
  where
    by : (s : Seat) → IsGivenUp w n v s → v.server ≡ w.server
    by (Idle d) q = ap (λ (x : WorldView). x.server) q
    by (Syncs m) q = ap (λ (x : WorldView). x.server) q

    go : (o : Option Seat) → MatchOption o (v ≡ w) (IsGivenUp w n v) → v.server ≡ w.server
    go None q = ap (λ (x : WorldView). x.server) q
    go (Some s) q = by s q

-- an account that is opened anew: machines stand, and what the keeper tells
pub reopened : (w v : WorldView) → OpensAnew w v → (v.seats ≡ w.seats) × (v.server.kept ≡ w.server.kept)
reopened w v h = (ap (λ (x : WorldView). x.seats) h.is, ap (λ (x : WorldView). x.server.kept) h.is ∙ h.reopens.left)

-- ---- an opening, and a run from it

pub opening_sound : (trusts : ℕ → Bool) (w : WorldView) → IsOpening trusts w → IsSound trusts w.server.account.counter (λ n. []) w
opening_sound trusts w o = record {
  steady = opens-steady w.server o.valid o.opened o.kept o.lasts o.below;
  stands = o.stands;
  sits = λ i s e. let h = o.idle i s e in subst (SeatFits trusts w.server.account.counter [] w.server i) (sym h.1) (h.2, h.3);
  apart = λ i j n s t e f hs ht. absurd (subst (λ x. HasBatch trusts w.server.account.counter x n) (o.idle i s e).1 hs);
}

keeps_all : (trusts : ℕ → Bool) (first : ℕ) (notes : ℕ → List Sheet) (w : WorldView) (steps : List Step) → IsSound trusts first notes w → Runs w steps → AreTrustedSteps trusts steps → IsSound trusts first (λ n. first_rows n w steps (notes n)) (last w steps)
keeps_all trusts first notes w [] h r ok = h
keeps_all trusts first notes w (step ∷ steps) h r ok =
    keeps_all trusts first (λ i. noted_by i w step.event step.world (notes i)) step.world steps (keeps trusts first notes w h step.event step.world ok.0 r.0) r.1 ok.1

pub noted_last : (n : ℕ) (w : WorldView) (steps : List Step) (step : Step) (old : List Sheet) → first_rows n w (steps ++ step ∷ []) old ≡ noted_by n (last w steps) step.event step.world (first_rows n w steps old)
noted_last n w [] step old = refl
noted_last n w (s ∷ steps) step old = noted_last n s.world steps step (noted_by n w s.event s.world old)

module _ (trusts : ℕ → Bool) (w : WorldView) (steps : List Step) (o : IsOpening trusts w) (r : Runs w steps) (ok : AreTrustedSteps trusts steps) where
  abbrev pub now : WorldView
  now = last w steps

  pub sound : IsSound trusts w.server.account.counter (λ n. first_rows n w steps []) (last w steps)
  sound = keeps_all trusts w.server.account.counter (λ n. []) w steps (opening_sound trusts w o) r ok

  pub stands : StandsForOne (sheets_of (last w steps).server.account.rows)
  stands = sound.stands

  pub turns : (event : Event) (v : WorldView) → Happens (last w steps) event v → OneTree (last w steps) event v
  turns event v h = one_tree trusts w.server.account.counter (λ n. first_rows n w steps []) (last w steps) sound event v h

  -- each device is valid, and a trusted one faithful
  pub valid_on : (n : ℕ) (s : Seat) → slice_get (last w steps).seats n ≡ Some s → IsDevice (device_of s) × (trusts n ≡ true → IsFaithful (device_of s) (last w steps).server)
  valid_on n s there = by s (sound.sits n s there)
    where
      by : (x : Seat) → SeatFits trusts w.server.account.counter (first_rows n w steps []) (last w steps).server n x → IsDevice (device_of x) × (trusts n ≡ true → IsFaithful (device_of x) (last w steps).server)
      by (Idle d) f = f
      by (Syncs m) f = (f.0, f.1)

  -- an event that is no last POST leaves the rows
  pub interrupted : (event : Event) (v : WorldView) → Happens (last w steps) event v → (IsLastUpload (last w steps) event v → ⊥) → sheets_of v.server.account.rows ≡ sheets_of (last w steps).server.account.rows
  interrupted event v h none = elim (turns event v h) [ inl e ↦ e | inr u ↦ absurd (none u) ]

  -- the rows of a finished fetch
  pub fetches : (n reading : ℕ) (m : MachineView) (v : WorldView) (rows : List Sheet) → slice_get (last w steps).seats n ≡ Some (Syncs m) → Happens (last w steps) (Deliver n reading) v
      → fetched_at m (told_by (awaits m.stage) (api (last w steps).server.account reading (ask m)).reply) m.stage ≡ Some rows
      → AreAll rows (sheets_of v.server.account.rows) × (first_rows n w (steps ++ record { event = Deliver n reading; world = v } ∷ []) [] ≡ sheets_of v.server.account.rows)
  fetches n reading m v rows there h f =
      let e : Delivers (last w steps) n reading m v = subst (λ (q : Option Seat). MatchOption q (v ≡ last w steps) (DeliversAtSeat (last w steps) n reading v)) there h in
      let old : List Sheet = first_rows n w steps [] in
      let g = served trusts w.server.account.counter (λ k. first_rows k w steps []) (last w steps) sound n reading m there e.server e.answers in
      let sits = sound.sits n (Syncs m) there in
      let is : v.server ≡ e.server = ap (λ (x : WorldView). x.server) e.is in
      let well = fetched_well w.server.account.counter (shown_by (last w steps).server) (shown_by e.server) m sits.0 (first_rows n w steps []) rows (sheets-apart e.server.account.rows g.steady.good.places)
      (mirrored trusts w.server.account.counter (λ k. first_rows k w steps []) (last w steps) sound n reading m there e.server e.answers) m.stage (told_by (awaits m.stage) (api (last w steps).server.account reading (ask m)).reply) g.serves sits.3 f in (
        subst (λ (x : Server). AreAll rows (sheets_of x.account.rows)) (sym is) well.0,
        noted_last n w steps (record { event = Deliver n reading; world = v }) []
            ∙ (ap (λ b. cond b (noted_in (slice_get (last w steps).seats n) (sheets_of v.server.account.rows) (first_rows n w steps [])) (first_rows n w steps [])) (same_number n)
            ∙ (ap (λ q. noted_in q (sheets_of v.server.account.rows) (first_rows n w steps [])) there
            ∙ (ap (λ (x : Server). noted_at m.stage (sheets_of x.account.rows) (first_rows n w steps [])) is
            ∙ (well.1 ∙ ap (λ (x : Server). sheets_of x.account.rows) (sym is))))),
      )
    where
      same_number : (x : ℕ) → (x == x) ≡ true
      same_number x = grind (arith, nat_tests)

  -- what an answer leads to
  pub ends : (n reading : ℕ) (m : MachineView) (v : WorldView) → slice_get (last w steps).seats n ≡ Some (Syncs m) → (e : Delivers (last w steps) n reading m v) → EndsWell (last w steps) m e.next v
  ends n reading m v there e =
      ends_well trusts w.server.account.counter (λ k. first_rows k w steps []) (last w steps) sound n reading m there e.server e.answers v (ap (λ (x : WorldView). x.server) e.is) e.next e.follows

-- trees for which the same rows stand are the same, but for times
pub same_tree : (t u : List PlacedItem) (sheets : List Sheet) → Apart (ids_of sheets) → IsValidTree t → IsValidTree u → StandFor t (rows_of sheets) → StandFor u (rows_of sheets) → IsSameUntimed t u
same_tree t u sheets apart vt vu st su = λ x. sym (sheets_built_back t sheets vt apart st x) ∙ sheets_built_back u sheets vu apart su x

-- what is shown of an opening's account has each id once
pub once : (trusts : ℕ → Bool) (w : WorldView) → IsOpening trusts w → (steps : List Step) → Runs w steps → AreTrustedSteps trusts steps → Apart (ids_of (sheets_of (last w steps).server.account.rows))
once trusts w o steps r ok = sheets-apart (last w steps).server.account.rows (sound trusts w steps o r ok).steady.good.places
