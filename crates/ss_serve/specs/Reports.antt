-- What is reported of links.
use Rattle.std.specs.Prelude.{◌≡◌, ℕ, Bool, List, [], ◌∷◌, ◌++◌, Option, IsTrue, All}
use Rattle.ss_desk.specs.Journal.{entries_of}
use Rattle.ss_outside.specs.Told.{Meanings}
use Rattle.ss_links.specs.Links.{IsUnusedLink}
use Rattle.ss_route.specs.declared.manner.Manner.{Manner}
use Rattle.ss_connection.specs.Known.{KnownAccount}
use Rattle.ss_connection.specs.Calls.{calls_to}
use Rattle.ss_connection.specs.Turns.{AreGatedTurns}
use Rattle.ss_connection.specs.Ends.{IsServedConnection}
use Rattle.ss_serve.specs.declared.report.LinkReport.{LinkReport}

module _ {L : Type 0} where
  -- the tickets of the calls to this account, report by report
  abbrev pub all_calls_to : ℕ → List (LinkReport L) → List ℕ
  all_calls_to uid [] = []
  all_calls_to uid (r ∷ reports) = calls_to uid r.turns.items ++ all_calls_to uid reports

  -- the reports of this worker, in their order
  abbrev pub reports_by : ℕ → List (LinkReport L) → List (LinkReport L)
  reports_by worker reports = entries_of (λ r. r.worker) worker reports

  -- of each response that is reported the gate was asked by the number of the worker that reports it, and the note has what the gate
  -- may say to that worker before that message
  abbrev pub AreAllGated : (ℕ → ℕ → Bool → Type 0) → List (LinkReport L) → Type 0
  AreAllGated says reports = All (λ (r : LinkReport L). AreGatedTurns (says r.worker) r.turns.items) reports

  module _ (manner : Manner) (tells : L → Meanings) (closed : L → Bool) (uids : List ℕ) where
    -- A link that the port gave, of which nothing had been taken and to which nothing had been written: its turns and its end
    -- were those of a connection in this manner, over what is known of the accounts, and it was closed
    pub record IsReport (known : ℕ → KnownAccount) (coming coming' : Option (List ℕ)) (r : LinkReport L) : Type 0 where
      pub given : Meanings
      pub unused : IsUnusedLink given
      pub served : IsServedConnection manner uids known r.end given (tells r.link) coming coming' r.turns.items
      pub is_closed : IsTrue (closed r.link)

    -- such reports, one after the other, with the readings of one clock
    abbrev pub AreReports : (ℕ → KnownAccount) → List (LinkReport L) → Option (List ℕ) → Option (List ℕ) → Type 0
    AreReports known [] coming coming' = coming' ≡ coming
    AreReports known (r ∷ reports) coming coming' =
        (between : Option (List ℕ)) × IsReport known coming between r × AreReports known reports between coming'
