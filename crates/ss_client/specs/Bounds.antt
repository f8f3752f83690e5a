-- A run ends: how many requests may still follow the one under way.
use Rattle.std.specs.Prelude.{◌≡◌, ℕ, ◌+◌, ◌-◌, ◌*◌, ◌<◌, ◌≤◌, Bool, true, false, length, ⊤}
use Rattle.ss_bso.specs.Limits.{most_batch_records}
use Rattle.ss_client.specs.declared.runs.Run.{Run}
use Rattle.ss_client.specs.declared.runs.Stage.{Stage}
use Rattle.ss_client.specs.declared.runs.Stage.TheVariants.{Asks, Opens, Pages, Lists, Uploads}
use Rattle.ss_client.specs.Runs.{rest_of}
use Rattle.ss_client.specs.Machine.{Next, Send, Done, Stop}

-- one where it is so, else none
abbrev pub once : Bool → ℕ
once true = 1
once false = 0

-- how often a fetch may begin again: the collection may change three times, and a newer fetch is given up at most once
abbrev pub restarts : Run → ℕ
restarts run = (3 - length run.changes) + once run.newer

-- how many requests may follow at a stage until a fetch begins again: a fetch has at most 1,000 pages and then a list of ids, and a
-- plan has at most 20,000 parts
abbrev pub within_fetch : Stage → ℕ
within_fetch Asks = 21004
within_fetch Opens = 21003
within_fetch (Pages p) = 20001 + (1001 - p.pages)
within_fetch (Lists l) = 20001
within_fetch (Uploads u) = length (rest_of u)

-- how many requests may follow
abbrev pub to_follow : Run → Stage → ℕ
to_follow run stage = restarts run * 21005 + within_fetch stage

-- what holds of a stage: a fetch has had fewer than 1,000 pages, ids are listed for a newer one alone, and a plan is within our limits
abbrev pub IsWithin : Run → Stage → Type 0
IsWithin run Asks = ⊤
IsWithin run Opens = ⊤
IsWithin run (Pages p) = p.pages < 1000
IsWithin run (Lists l) = run.newer ≡ true
IsWithin run (Uploads u) = length u.parts ≤ most_batch_records

-- what holds of a run at a stage, so that it ends
abbrev pub IsBoundedRun : Run → Stage → Type 0
IsBoundedRun run stage = (run.limits.max_total_records ≤ most_batch_records) × IsWithin run stage

-- where a request comes next, the run is nearer to its end than it was
abbrev pub IsNearer : Run → Stage → Next → Type 0
IsNearer run stage (Send run' stage') = IsBoundedRun run' stage' × (to_follow run' stage' < to_follow run stage)
IsNearer run stage (Done device summary) = ⊤
IsNearer run stage (Stop fault) = ⊤
