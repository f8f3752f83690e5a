-- A request follows an answer only where a run may go on with it, and no rule stops a run for want of memory.
use Rattle.std.proofs.Common.{◌≡◌, ℕ, ◌+◌, List, [], ◌∷◌, ◌++◌, length, Bool, true, false, cond, nat_lt, ◌&&◌, Option}
use Rattle.std.proofs.Common.{Some, None, MatchOption, unwrap_or, slice_index, refl, sym, subst}
use Rattle.std.specs.Prelude.{⊤}
use Rattle.std.specs.Bool.{MatchBool}
use Rattle.ss_record.specs.declared.readings.Sheet.{Sheet}
use Rattle.ss_tree.specs.declared.entries.Entry.{Entry}
use Rattle.ss_build.specs.Rows.{readings, rows_of}
use Rattle.ss_bso.specs.declared.parts.Part.{Part}
use Rattle.ss_plan.specs.Plan.{plan}
use Rattle.ss_plan.specs.Refusals.{refusal}
use Rattle.ss_plan.specs.declared.limits.PlanFault.{PlanFault}
use Rattle.ss_plan.specs.declared.limits.Limits.{Limits}
use Rattle.ss_device.specs.Device.{DeviceView}
use Rattle.ss_sync.specs.Fetched.{are_known, kept}
use Rattle.ss_hearing.specs.declared.answer.Answer.{Answer}
use Rattle.ss_hearing.specs.declared.answer.Answer.TheVariants.{Configured, Paged, Listed, Held, Written, Failed}
use Rattle.ss_hearing.specs.declared.answer.Answer.TheVariants.{Changed, Refused, Unread}
use Rattle.ss_client.specs.declared.summaries.SyncFault.TheVariants as fault
use Rattle.ss_client.specs.declared.runs.Run.{Run}
use Rattle.ss_client.specs.declared.runs.Stage.{Stage}
use Rattle.ss_client.specs.declared.runs.Stage.TheVariants.{Asks, Opens, Pages, Lists, Uploads}
use Rattle.ss_client.specs.declared.summaries.SyncFault.{SyncFault}
use Rattle.ss_client.specs.Runs.{rest_of}
use Rattle.ss_client.specs.Asking.{awaits, awaited_of}
use Rattle.ss_client.specs.Machine.{Begins, Finishes, Follows, Holds, LastPage, ListsAll, Next, OpensWith, PageIn}
use Rattle.ss_client.specs.Machine.{PageOn, Writes, Send, Done, Stop, again, falls_back, fetching, held_at, ids_at}
use Rattle.ss_client.specs.Machine.{is_bad, limits_at, onward, page_at, posting, unread, uploads, written_at}
use Rattle.ss_client.specs.Told.{is_of, leads_on}

-- a request follows only where this is so, and nothing stops for want of memory
abbrev Keeps : Bool → Next → Type 0
Keeps b (Send run stage) = b ≡ true
Keeps b (Done device summary) = ⊤
Keeps b (Stop f) = f ≡ fault.Memory → ⊥

at : (b : Bool) (next then : Next) → next ≡ then → Keeps b then → Keeps b next
at b next then e k = subst (Keeps b) (sym e) k

unread_keeps : (b : Bool) (run : Run) (next : Next) → next ≡ unread run → Keeps b next
unread_keeps b run next e = at b next (unread run) e (λ m. cc)

-- ---- an answer on which a run may go on

begins_keeps : (run : Run) (time : ℕ) (rows : List Sheet) (merged : List Entry) (parts : List Part) (next : Next) → Begins run time rows merged parts next → Keeps true next
begins_keeps run time rows merged [] next e = at true next _ e.done tt
begins_keeps run time rows merged (p ∷ ps) next e = at true next (posting run (uploads time rows merged (p ∷ ps) None 0 e.0)) e.2 refl

finishes_keeps : (d : DeviceView) (run : Run) (time : ℕ) (rows : List Sheet) (next : Next) → Finishes d run time rows next → Keeps true next
finishes_keeps d run time rows next f = go (refusal run.limits parts) f.planned
  where
    parts : List Part
    parts = plan f.merged (readings (rows_of rows))

    go : (o : Option PlanFault) → MatchOption o (Begins run time rows f.merged parts next) (λ g. next ≡ Stop (fault.Plan g)) → Keeps true next
    go None b = begins_keeps run time rows f.merged parts next b
    go (Some g) b = at true next (Stop (fault.Plan g)) b (λ m. cc)

last_keeps : (d : DeviceView) (run : Run) (time : ℕ) (rows : List Sheet) (next : Next) → LastPage d run time rows next → Keeps true next
last_keeps d run time rows next l = go run.newer l
  where
    go : (b : Bool) → MatchBool b (next ≡ onward run (Lists (record { time = time; rows = rows }))) (Finishes d run time rows next) → Keeps true next
    go true e = at true next (onward run (Lists (record { time = time; rows = rows }))) e refl
    go false f = finishes_keeps d run time rows next f

in_keeps : (d : DeviceView) (run : Run) (time pages : ℕ) (rows : List Sheet) (offset : Option ℕ) (next : Next) → PageIn d run time pages rows offset next → Keeps true next
in_keeps d run time pages rows None next l = last_keeps d run time rows next l
in_keeps d run time pages rows (Some k) next e = at true next (onward run (Pages (record { time = time; offset = k; pages = pages; rows = rows }))) e refl

page_keeps : (d : DeviceView) (run : Run) (time pages : ℕ) (before rows : List Sheet) (offset : Option ℕ) (next : Next) → PageOn d run time pages before rows offset next → Keeps true next
page_keeps d run time pages before rows offset next p = go (is_bad pages (before ++ rows) offset) p
  where
    go : (b : Bool) → MatchBool b (next ≡ unread run) (PageIn d run time pages (before ++ rows) offset next) → Keeps true next
    go true e = unread_keeps true run next e
    go false i = in_keeps d run time pages (before ++ rows) offset next i

open_keeps : (d : DeviceView) (run : Run) (time : ℕ) (rows : List Sheet) (offset : Option ℕ) (next : Next) → OpensWith d run time rows offset next → Keeps true next
open_keeps d run time rows offset next o = go (run.newer && nat_lt time d.stamp) o
  where
    by : (b : Bool) → Keeps true (cond b (unread run) (falls_back run))
    by true = λ m. cc
    by false = refl

    go : (b : Bool) → MatchBool b (next ≡ cond (is_bad 1 rows offset) (unread run) (falls_back run)) (PageOn d run time 1 [] rows offset next) → Keeps true next
    go true e = at true next _ e (by (is_bad 1 rows offset))
    go false p = page_keeps d run time 1 [] rows offset next p

list_keeps : (d : DeviceView) (run : Run) (time : ℕ) (rows : List Sheet) (ids : List (List ℕ)) (next : Next) → ListsAll d run time rows ids next → Keeps true next
list_keeps d run time rows ids next l = go (are_known rows d.mirror ids) l
  where
    go : (b : Bool) → MatchBool b (Finishes d run time (rows ++ kept rows ids d.mirror) next) (next ≡ falls_back run) → Keeps true next
    go true f = finishes_keeps d run time (rows ++ kept rows ids d.mirror) next f
    go false e = at true next (falls_back run) e refl

-- ---- each answer at each stage

limits_keeps : (run : Run) (stage : Stage) (limits : Limits) (next : Next) → limits_at run stage limits next → Keeps (is_of (awaits stage) (Configured limits)) next
unfolding awaits
limits_keeps run Asks limits next e = at true next (fetching run run.newer run.changes limits) e refl
limits_keeps run Opens limits next e = unread_keeps _ run next e
limits_keeps run (Pages p) limits next e = unread_keeps _ run next e
limits_keeps run (Lists l) limits next e = unread_keeps _ run next e
limits_keeps run (Uploads u) limits next e = unread_keeps _ run next e

paged_keeps : (d : DeviceView) (run : Run) (stage : Stage) (rows : List Sheet) (offset : Option ℕ) (time : ℕ) (next : Next) → page_at d run stage rows offset time next → Keeps (is_of (awaits stage) (Paged rows offset time)) next
unfolding awaits
paged_keeps d run Asks rows offset time next e = unread_keeps _ run next e
paged_keeps d run Opens rows offset time next o = open_keeps d run time rows offset next o
paged_keeps d run (Pages p) rows offset time next q = page_keeps d run p.time (p.pages + 1) p.rows rows offset next q
paged_keeps d run (Lists l) rows offset time next e = unread_keeps _ run next e
paged_keeps d run (Uploads u) rows offset time next e = unread_keeps _ run next e

listed_keeps : (d : DeviceView) (run : Run) (stage : Stage) (ids : List (List ℕ)) (next : Next) → ids_at d run stage ids next → Keeps (is_of (awaits stage) (Listed ids)) next
unfolding awaits
listed_keeps d run Asks ids next e = unread_keeps _ run next e
listed_keeps d run Opens ids next e = unread_keeps _ run next e
listed_keeps d run (Pages p) ids next e = unread_keeps _ run next e
listed_keeps d run (Lists l) ids next a = list_keeps d run l.time l.rows ids next a
listed_keeps d run (Uploads u) ids next e = unread_keeps _ run next e

held_keeps : (run : Run) (stage : Stage) (batch : ℕ) (next : Next) → held_at run stage batch next → Keeps (is_of (awaits stage) (Held batch)) next
unfolding awaits
held_keeps run Asks batch next e = unread_keeps _ run next e
held_keeps run Opens batch next e = unread_keeps _ run next e
held_keeps run (Pages p) batch next e = unread_keeps _ run next e
held_keeps run (Lists l) batch next e = unread_keeps _ run next e
held_keeps run (Uploads u) batch next h = go (rest_of u) h
  where
    go : (rest : List Part) → Holds run u (unwrap_or u.batch batch) rest next → Keeps (is_of (awaited_of rest) (Held batch)) next
    go [] e = unread_keeps _ run next e
    go (p ∷ ps) e = at true next (posting run (uploads u.time u.rows u.merged u.parts (Some (unwrap_or u.batch batch)) (u.sent + u.count) e.0)) e.2 refl

written_keeps : (run : Run) (stage : Stage) (stamp : ℕ) (next : Next) → written_at run stage stamp next → Keeps (is_of (awaits stage) (Written stamp)) next
unfolding awaits
written_keeps run Asks stamp next e = unread_keeps _ run next e
written_keeps run Opens stamp next e = unread_keeps _ run next e
written_keeps run (Pages p) stamp next e = unread_keeps _ run next e
written_keeps run (Lists l) stamp next e = unread_keeps _ run next e
written_keeps run (Uploads u) stamp next w = go (rest_of u) w
  where
    go : (rest : List Part) → Writes run u stamp rest next → Keeps (is_of (awaited_of rest) (Written stamp)) next
    go [] e = at true next _ e.done tt
    go (p ∷ ps) e = unread_keeps _ run next e

changed_keeps : (run : Run) (stage : Stage) (time : ℕ) (next : Next) → next ≡ again run time → Keeps (nat_lt (length run.changes) 3) next
changed_keeps run stage time next e = at _ next (again run time) e (by (nat_lt (length run.changes) 3))
  where
    by : (b : Bool) → Keeps b (cond b (fetching run run.newer (run.changes ++ time ∷ []) run.limits) (Stop (fault.Changing (slice_index run.changes 0) (slice_index run.changes 1) (slice_index run.changes 2) time)))
    by true = refl
    by false = λ m. cc

pub follows_keeps : (d : DeviceView) (run : Run) (stage : Stage) (answer : Answer) (next : Next) → Follows d run stage answer next → Keeps (leads_on run stage answer) next
unfolding Follows
follows_keeps d run stage (Configured limits) next f = limits_keeps run stage limits next f
follows_keeps d run stage (Paged rows offset time) next f = paged_keeps d run stage rows offset time next f
follows_keeps d run stage (Listed ids) next f = listed_keeps d run stage ids next f
follows_keeps d run stage (Held batch) next f = held_keeps run stage batch next f
follows_keeps d run stage (Written stamp) next f = written_keeps run stage stamp next f
follows_keeps d run stage (Failed status id) next f = at _ next _ f (λ m. cc)
follows_keeps d run stage (Changed time) next f = changed_keeps run stage time next f
follows_keeps d run stage (Refused status) next f = at _ next _ f (λ m. cc)
follows_keeps d run stage Unread next f = unread_keeps _ run next f

-- a request follows only where the run may go on
pub leads : (d : DeviceView) (run : Run) (stage : Stage) (answer : Answer) (run' : Run) (stage' : Stage) → Follows d run stage answer (Send run' stage') → leads_on run stage answer ≡ true
leads d run stage answer run' stage' f = follows_keeps d run stage answer (Send run' stage') f

-- no rule stops a run for want of memory
pub stops_otherwise : (d : DeviceView) (run : Run) (stage : Stage) (answer : Answer) (f : SyncFault) → Follows d run stage answer (Stop f) → f ≡ fault.Memory → ⊥
stops_otherwise d run stage answer f h = follows_keeps d run stage answer (Stop f) h
