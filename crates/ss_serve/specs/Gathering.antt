-- How far the workers' passes have come back.
use Rattle.std.specs.Prelude.{◌≡◌, ℕ, ◌<◌, List, [], ◌∷◌, ◌++◌, length, map}
use Rattle.ss_desk.specs.declared.journaled.Journaled.{Ghosts}
use Rattle.ss_desk.specs.declared.pass.RawPass.{RawPass}
use Rattle.ss_desk.specs.declared.view.Page.{Page}
use Rattle.ss_desk.specs.Passes.{view_at}
use Rattle.ss_desk.specs.Views.{range_of, Covers, page_of}
use Rattle.ss_town.specs.Town.{passes_of}
use Rattle.ss_laws.specs.declared.journal.Entry.{Entry}
use Rattle.ss_booked.specs.declared.booked.Terms.{Terms}
use Rattle.ss_serve.specs.declared.report.LinkReport.{LinkReport}
use Rattle.ss_serve.specs.declared.worker.Worker.{Worker}
use Rattle.ss_serve.specs.Crew.{fixed_at}
use Rattle.ss_serve.specs.Workers.{half}

module _ {L C T A R : Type 0} {J : Ghosts T Terms Entry A R} where
  -- the pages of these workers for the account at a place, the last worker's first
  abbrev pub pages : ℕ → List (Worker L C T Terms Entry A R J) → List (Page Entry)
  pages i [] = []
  pages i (w ∷ ws) = pages i ws ++ page_of (view_at (passes_of w.passes) i) ∷ []

  -- their reports, the last worker's first
  abbrev pub reports_in : List (Worker L C T Terms Entry A R J) → List (LinkReport L)
  reports_in [] = []
  reports_in (w ∷ ws) = reports_in ws ++ w.reports.items

  -- The passes of the workers in `rest` are still to be taken in
  pub record IsGathering (places : ℕ) (opened : List (RawPass T Terms Entry)) (all rest : List (Worker L C T Terms Entry A R J)) (now : List (RawPass T Terms Entry))
      (reports : List (LinkReport L)) (clocks : List C) : Type 0 where
    pub long : length now ≡ length opened
    pub tail : List (Worker L C T Terms Entry A R J)
    pub split : all ≡ rest ++ tail
    pub range : (i : ℕ) → i < places → (view_at now i).range ≡ range_of 0 (half (length all))
    pub fixed : (i : ℕ) → i < places → fixed_at now i ≡ fixed_at opened i
    pub acted : (i : ℕ) → i < places → (view_at now i).acted ≡ []
    pub covers : (i : ℕ) → i < places → (n : ℕ) → n < half (length rest) → Covers (view_at now i) n
    pub book : (i : ℕ) → i < places → (view_at now i).book ≡ pages i tail
    pub reported : reports ≡ reports_in tail
    pub back : clocks ≡ map (λ (w : Worker L C T Terms Entry A R J). w.clock) tail
