-- What logs say was asked is within the limits of one request.
use Rattle.std.specs.Prelude.{ℕ, List, All}
use Rattle.std.proofs.lemmas.List.Elements.{All-from_recursion, All-weaker}
use Rattle.ss_query.specs.Fit.{IsFitRequest}
use Rattle.ss_laws.specs.Journal.{Journal}
use Rattle.ss_log_lines.specs.LogLines.{IsCall}
use Rattle.ss_logs.specs.Logs.{AreLogs, IsLog}

log_fits : (log : Journal) → IsLog log → All (λ entry. IsFitRequest entry.request) log.entries
log_fits log h =
    All-weaker IsCall (λ entry. IsFitRequest entry.request) (λ entry call. call.fit) log.entries (All-from_recursion IsCall log.entries h.entries)

pub logs_fit : (text : List ℕ) (logs : List Journal) → AreLogs text logs → All (λ log. All (λ entry. IsFitRequest entry.request) log.entries) logs
logs_fit text logs h = All-weaker IsLog (λ log. All (λ entry. IsFitRequest entry.request) log.entries) log_fits logs (All-from_recursion IsLog logs h.are)
