-- Which numbers passes cover after a call, and after they were split and came together again. Callers that close a town rest on these.
use Rattle.std.proofs.Common.{◌≡◌, ℕ, ◌<◌, ◌≤◌, List, length, refl, sym, ◌∙◌, subst, le_trans, arith, Option}
use mathlib.Core.Logic.{dite}
use native.Mathlib.Decide.{ℕ_discrete}
use Rattle.ss_desk.specs.declared.desk.Desk.{Desk}
use Rattle.ss_desk.specs.declared.journaled.Full as journaled
use Rattle.ss_desk.specs.declared.pass.RawPass.{RawPass}
use Rattle.ss_desk.specs.declared.view.Stage.TheVariants.{Idle}
use Rattle.ss_desk.specs.declared.view.View.{View}
use Rattle.ss_desk.specs.Views.{CoversAll, CoversNoLess}
use Rattle.ss_desk.specs.Passes.{view_at, Joins, Halves}
use Rattle.ss_desk.proofs.Covering.{covers_turned, covers_again}
use Rattle.ss_town.specs.declared.town.Answer.{Answer}
use Rattle.ss_town.specs.declared.town.Answer.TheVariants.{Reply, NoAccount}
use Rattle.ss_town.specs.declared.town.Answer.TheVariants as answer
use Rattle.ss_town.specs.Places.{HoldAtLeast, IsLeast, CoverNoLess}
use Rattle.ss_town.specs.Answers.{AnswerSays}
use Rattle.ss_town.specs.Opening.{IsTown}
use Rattle.ss_town.proofs.Openings.{opened_covers}

module _ {T F E : Type 0} where
  pub covers_itself : (ps : List (RawPass T F E)) → CoverNoLess ps ps
  covers_itself ps = (refl, λ i l n c. c)

  pub covers_then : (ps qs rs : List (RawPass T F E)) → CoverNoLess ps qs → CoverNoLess qs rs → CoverNoLess ps rs
  covers_then ps qs rs a b = (b.0 ∙ a.0, λ i l n c. b.1 i (omega (arith, a.0)) n (a.1 i l n c))

  -- passes that were halved, and came together again
  pub covers_halves : (ps low high a b ws : List (RawPass T F E)) → Halves ps low high → CoverNoLess low a → CoverNoLess high b → Joins a b ws → CoverNoLess ps ws
  covers_halves ps low high a b ws h x y j = (
    j.0 ∙ (x.0 ∙ h.0),
    λ i l. covers_again (view_at ps i) (view_at low i) (view_at high i) (view_at a i) (view_at b i) (view_at ws i) (h.2 i l).0 (h.2 i l).1 (j.1 i (omega (arith, y.0, h.1))) (x.1 i (omega (arith, h.0))) (y.1 i (omega (arith, h.1))),
  )

  pub holds_least : (n : ℕ) (ps : List (RawPass T F E)) → IsLeast n ps → 2 ≤ n → HoldAtLeast 2 ps
  holds_least n ps h two i l = le_trans two (h.least i l)

module _ {T F E A R : Type 0} (ticket_of pass_of : E → ℕ) (ask_of : E → A) (legal : F → List E → Type 0) (replies : F → List E → R → Type 0) (full : F → List E → Option journaled.Full) where
  changed : (ps qs : List (RawPass T F E)) (i j : ℕ) → CoversNoLess (view_at ps i) (view_at qs i) → ((j ≡ i → ⊥) → view_at qs j ≡ view_at ps j) → CoversNoLess (view_at ps j) (view_at qs j)
  changed ps qs i j here there = dite (ℕ_discrete j i)
      (λ e. subst (λ n. CoversNoLess (view_at ps n) (view_at qs n)) (sym e) here)
      (λ ne. subst (λ (v : View F E). CoversNoLess (view_at ps j) v) (sym (there ne)) (λ n c. c))

  -- a call loses no number
  pub covers_answer : (uids : List ℕ) (ps qs : List (RawPass T F E)) (uid : ℕ) (ask : A) (a : Answer R) → AnswerSays ticket_of pass_of ask_of legal replies full uids ps qs uid ask a → CoverNoLess ps qs
  covers_answer uids ps qs uid ask (Reply t r) h = (h.2.0, λ j l. changed ps qs h.0 j (covers_turned (view_at ps h.0) (view_at qs h.0) Idle _ h.3.view) (h.2.1 j))
  covers_answer uids ps qs uid ask (answer.Full f) h = (h.2.0, λ j l. changed ps qs h.0 j (covers_turned (view_at ps h.0) (view_at qs h.0) Idle _ h.3.view) (h.2.1 j))
  covers_answer uids ps qs uid ask NoAccount h = subst (λ (l : List (RawPass T F E)). CoverNoLess ps l) (sym h.0) (covers_itself ps)

module _ {T F E A R : Type 0} (fixed : T → F) where
  -- the passes of an opening cover all
  pub town_covers : (accounts : List (ℕ × T)) (uids : List ℕ) (ds : List (Desk T F E A R)) (ps : List (RawPass T F E)) → IsTown fixed accounts uids ds ps → (i : ℕ) → i < length ds → CoversAll (view_at ps i)
  town_covers accounts uids ds ps h = opened_covers fixed h.order uids ds ps h.opened

  pub all_covered : (ds : List (Desk T F E A R)) (ps qs : List (RawPass T F E)) → length ps ≡ length ds → ((i : ℕ) → i < length ds → CoversAll (view_at ps i)) → CoverNoLess ps qs → (i : ℕ) → i < length ds → CoversAll (view_at qs i)
  all_covered ds ps qs long all more i l n low = more.1 i (omega (arith, long)) n (all i l n low)
