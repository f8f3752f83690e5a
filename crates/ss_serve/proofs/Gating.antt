-- Of each response that workers report the gate was asked.
use Rattle.std.proofs.Common.{◌≡◌, ℕ, zero, suc, List, [], ◌∷◌, length, sym, ap, arith, All, Bool}
use Rattle.std.proofs.lemmas.List.Elements.{All-append, All-head, All-nil, All-tail}
use mathlib.Core.Option.{some, some-injective, some-ne-none}
use lib.ListN.{get_elem?}
use Rattle.ss_desk.specs.declared.journaled.Journaled.{Ghosts}
use Rattle.ss_laws.specs.declared.journal.Entry.{Entry}
use Rattle.ss_booked.specs.declared.booked.Terms.{Terms}
use Rattle.ss_connection.specs.Turns.{AreGatedTurns}
use Rattle.ss_serve.specs.declared.report.LinkReport.{LinkReport}
use Rattle.ss_serve.specs.declared.worker.Worker.{Worker}
use Rattle.ss_serve.specs.Crew.{IsGatedWorker, count_reports}
use Rattle.ss_serve.specs.Gathering.{reports_in}
use Rattle.ss_serve.specs.Reports.{AreAllGated}
use Rattle.ss_serve.proofs.Crews.{all_of}

-- nothing was reported, so of all that was the gate was asked
pub nothing_gated : {L : Type 0} (says : ℕ → ℕ → Bool → Type 0) (reports : List (LinkReport L)) → length reports ≡ 0 → AreAllGated says reports
nothing_gated says reports none = λ k d lt. absurd (omega (arith, none, lt))

module _ {L C T A R : Type 0} {J : Ghosts T Terms Entry A R} where
  none_at : (ws : List (Worker L C T Terms Entry A R J)) → count_reports ws ≡ 0 → (k : ℕ) (w : Worker L C T Terms Entry A R J) → get_elem? ws k ≡ some w → length w.reports.items ≡ 0
  none_at [] none k w at = absurd (some-ne-none w (sym at))
  none_at (x ∷ ws) none zero w at = let e = ap (λ (y : Worker L C T Terms Entry A R J). length y.reports.items) (some-injective x w at) in omega (arith, e)
  none_at (x ∷ ws) none (suc k) w at = none_at ws (omega arith) k w at

  -- workers that have no reports yet
  pub none_gated : (says : ℕ → ℕ → Bool → Type 0) (ws : List (Worker L C T Terms Entry A R J)) → count_reports ws ≡ 0 → All (λ w. IsGatedWorker says w) ws
  none_gated says ws none = all_of (λ w. IsGatedWorker says w) ws (λ k w at. nothing_gated says w.reports.items (none_at ws none k w at))

  -- the reports of all workers
  pub all_gated : (says : ℕ → ℕ → Bool → Type 0) (ws : List (Worker L C T Terms Entry A R J)) → All (λ w. IsGatedWorker says w) ws → AreAllGated says (reports_in ws)
  all_gated says [] h = All-nil (λ (r : LinkReport L). AreGatedTurns (says r.worker) r.turns.items)
  all_gated says (w ∷ ws) h = All-append (λ (r : LinkReport L). AreGatedTurns (says r.worker) r.turns.items) (reports_in ws) w.reports.items
      (all_gated says ws (All-tail (λ w. IsGatedWorker says w) w ws h)) (All-head (λ w. IsGatedWorker says w) w ws h)
