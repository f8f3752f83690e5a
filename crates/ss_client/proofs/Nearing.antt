-- Each request of a run brings it nearer to its end.
use Rattle.std.proofs.Common.{◌≡◌, ℕ, ◌+◌, ◌-◌, ◌<◌, ◌≤◌, List, [], ◌∷◌, ◌++◌, length, drop, Bool, true, false, cond}
use Rattle.std.proofs.Common.{not, ◌||◌, ◌&&◌, nat_lt, nat_le, is_some, Option, Some, None, option_map, MatchOption}
use Rattle.std.proofs.Common.{unwrap_or, slice_index, length-append, length-drop, refl, sym, ap, ◌∙◌, subst, arith}
use Rattle.std.specs.Bool.{MatchBool}
use Rattle.std.proofs.lemmas.Bool.Decides.{nat_tests}
use Rattle.ss_record.specs.declared.readings.Sheet.{Sheet}
use Rattle.ss_tree.specs.declared.entries.Entry.{Entry}
use Rattle.ss_build.specs.Rows.{readings, rows_of}
use Rattle.ss_bso.specs.declared.limits.TheConstants.{MOST_BATCH_RECORDS}
use Rattle.ss_bso.specs.declared.parts.Part.{Part}
use Rattle.ss_plan.specs.declared.limits.Limits.{Limits}
use Rattle.ss_plan.specs.declared.limits.PlanFault.{PlanFault}
use Rattle.ss_plan.specs.declared.limits.PlanFault.TheVariants.{TooManyRecords}
use Rattle.ss_plan.specs.Plan.{plan}
use Rattle.ss_plan.specs.Refusals.{refusal, or_else, over}
use Rattle.ss_device.specs.Device.{DeviceView}
use Rattle.ss_sync.specs.Fetched.{are_apart, are_known, kept}
use Rattle.ss_sync.specs.Rows.{ids_of}
use Rattle.ss_hearing.specs.declared.answer.Answer.{Answer}
use Rattle.ss_hearing.specs.declared.answer.Answer.TheVariants.{Configured, Paged, Listed, Held, Written, Failed}
use Rattle.ss_hearing.specs.declared.answer.Answer.TheVariants.{Changed, Refused, Unread}
use Rattle.ss_client.specs.declared.summaries.SyncFault.TheVariants as fault
use Rattle.ss_client.specs.declared.runs.Run.{Run}
use Rattle.ss_client.specs.declared.runs.Stage.{Stage}
use Rattle.ss_client.specs.declared.runs.Stage.TheVariants.{Asks, Opens, Pages, Lists, Uploads}
use Rattle.ss_client.specs.Leaves.{UploadView}
use Rattle.ss_client.specs.Runs.{rest_of}
use Rattle.ss_client.specs.Machine.{Next, Stop, onward, posting, fetching, unread, again, falls_back, uploads, is_bad}
use Rattle.ss_client.specs.Machine.{Begins, Finishes, Holds, Writes, LastPage, PageIn, PageOn, OpensWith, ListsAll}
use Rattle.ss_client.specs.Machine.{limits_at, page_at, ids_at, held_at, written_at, Follows}
use Rattle.ss_client.specs.Sound.{TellsOurs}
use Rattle.ss_client.specs.Bounds.{once, within_fetch, to_follow, IsBoundedRun, IsNearer}
use Rattle.ss_client.proofs.Posting.{rest-is}
use Rattle.ss_text.proofs.Basics.{both_left}

at : (run : Run) (stage : Stage) (next told : Next) → next ≡ told → IsNearer run stage told → IsNearer run stage next
at run stage next told e h = subst (IsNearer run stage) (sym e) h

unread_near : (run : Run) (stage : Stage) (next : Next) → next ≡ unread run → IsNearer run stage next
unread_near run stage next e = at run stage next (unread run) e tt

-- ---- a fetch begins again

again_near : (run : Run) (stage : Stage) (time : ℕ) (next : Next) → run.limits.max_total_records ≤ MOST_BATCH_RECORDS → next ≡ again run time → IsNearer run stage next
again_near run stage time next few e = at run stage next (again run time) e (by (nat_lt (length run.changes) 3) refl)
  where
    less : nat_lt (length run.changes) 3 ≡ true → to_follow (record { newer = run.newer; changes = run.changes ++ time ∷ []; limits = run.limits; number = 0; posts = 0; fetches = 0 }) Opens < to_follow run stage
    less t = let h : length run.changes < 3 = grind (arith, nat_tests, t) in omega (arith, length-append run.changes (time ∷ []))

    by : (b : Bool) → nat_lt (length run.changes) 3 ≡ b
        → IsNearer run stage (cond b (fetching run run.newer (run.changes ++ time ∷ []) run.limits) (Stop (fault.Changing (slice_index run.changes 0) (slice_index run.changes 1) (slice_index run.changes 2) time)))
    by true t = ((few, tt), less t)
    by false t = tt

once_so : (b : Bool) → b ≡ true → once b ≡ 1
once_so b e = ap once e

falls_near : (run : Run) (stage : Stage) (next : Next) → run.limits.max_total_records ≤ MOST_BATCH_RECORDS → run.newer ≡ true → next ≡ falls_back run → IsNearer run stage next
falls_near run stage next few n e =
    at run stage next (falls_back run) e ((few, tt), omega (arith, once_so run.newer n))

-- ---- an upload begins, or goes on

over_none : (f : ℕ → PlanFault) (most n : ℕ) (rest : Option PlanFault) → or_else (option_map f (over most n)) rest ≡ None → n ≤ most
over_none f most n rest e = go (nat_lt most n) refl e
  where
    go : (b : Bool) → nat_lt most n ≡ b → or_else (option_map f (cond b (Some n) None)) rest ≡ None → n ≤ most
    go true t q = cc
    go false t q = grind (arith, nat_tests, t)

second_none : (o p : Option PlanFault) → or_else o p ≡ None → p ≡ None
second_none None p e = e
second_none (Some f) p e = cc

few_of : (limits : Limits) (parts : List Part) → refusal limits parts ≡ None → length parts ≤ limits.max_total_records
unfolding refusal
few_of limits parts e = over_none TooManyRecords limits.max_total_records (length parts) _ (second_none _ _ (second_none _ _ e))

begins_near : (run : Run) (stage : Stage) (time : ℕ) (rows : List Sheet) (merged : List Entry) (parts : List Part) (next : Next) → run.limits.max_total_records ≤ MOST_BATCH_RECORDS → length parts ≤ MOST_BATCH_RECORDS
    → MOST_BATCH_RECORDS < within_fetch stage → Begins run time rows merged parts next → IsNearer run stage next
begins_near run stage time rows merged [] next few small later b = at run stage next _ b.done tt
begins_near run stage time rows merged (p ∷ ps) next few small later b =
    at run stage next (posting run (uploads time rows merged (p ∷ ps) None 0 b.0)) b.2 ((few, small), omega (arith, length-drop b.0 (drop 0 (p ∷ ps)), length-drop 0 (p ∷ ps)))

finishes_near : (d : DeviceView) (run : Run) (stage : Stage) (time : ℕ) (rows : List Sheet) (next : Next) → run.limits.max_total_records ≤ MOST_BATCH_RECORDS → MOST_BATCH_RECORDS < within_fetch stage → Finishes d run time rows next
    → IsNearer run stage next
finishes_near d run stage time rows next few later f = go (refusal run.limits parts) refl f.planned
  where
    parts : List Part
    parts = plan f.merged (readings (rows_of rows))

    go : (o : Option PlanFault) → refusal run.limits parts ≡ o → MatchOption o (Begins run time rows f.merged parts next) (λ g. next ≡ Stop (fault.Plan g)) → IsNearer run stage next
    go None e b = begins_near run stage time rows f.merged parts next few (omega (arith, few_of run.limits parts e)) later b
    go (Some g) e b = at run stage next _ b tt

holds_near : (run : Run) (u : UploadView) (batch : ℕ) (rest : List Part) (next : Next) → run.limits.max_total_records ≤ MOST_BATCH_RECORDS → length u.parts ≤ MOST_BATCH_RECORDS → rest_of u ≡ rest → Holds run u batch rest next
    → IsNearer run (Uploads u) next
holds_near run u batch [] next few small e h = unread_near run (Uploads u) next h
holds_near run u batch (p ∷ ps) next few small e h =
    let left : drop (u.sent + u.count) u.parts ≡ p ∷ ps = sym (rest-is u) ∙ e in
    let size : length (rest_of u) ≡ length (p ∷ ps) = ap length e in
    let shorter : length (drop h.0 (drop (u.sent + u.count) u.parts)) ≡ length (p ∷ ps) - h.0 = ap (λ l. length (drop h.0 l)) left ∙ length-drop h.0 (p ∷ ps) in
    at run (Uploads u) next (posting run (uploads u.time u.rows u.merged u.parts (Some batch) (u.sent + u.count) h.0)) h.2 ((few, small), omega (arith, size, shorter, h.1.some, h.1.there))

writes_near : (run : Run) (stage : Stage) (u : UploadView) (stamp : ℕ) (rest : List Part) (next : Next) → Writes run u stamp rest next → IsNearer run stage next
writes_near run stage u stamp [] next w = at run stage next _ w.done tt
writes_near run stage u stamp (p ∷ ps) next w = unread_near run stage next w

-- ---- a page

last_near : (d : DeviceView) (run : Run) (stage : Stage) (time : ℕ) (rows : List Sheet) (next : Next) → run.limits.max_total_records ≤ MOST_BATCH_RECORDS → 20001 < within_fetch stage → LastPage d run time rows next → IsNearer run stage next
last_near d run stage time rows next few later l = go run.newer refl l
  where
    go : (b : Bool) → run.newer ≡ b → MatchBool b (next ≡ onward run (Lists (record { time = time; rows = rows }))) (Finishes d run time rows next) → IsNearer run stage next
    go true n e = at run stage next (onward run (Lists (record { time = time; rows = rows }))) e ((few, n), omega arith)
    go false n f = finishes_near d run stage time rows next few (omega arith) f

bad_not : (pages : ℕ) (a o : Bool) → (not a || (o && nat_le 1000 pages)) ≡ false → o ≡ true → pages < 1000
bad_not pages a o e s = grind (arith, nat_tests, e, s)

in_near : (d : DeviceView) (run : Run) (stage : Stage) (time pages : ℕ) (rows : List Sheet) (offset : Option ℕ) (next : Next) → run.limits.max_total_records ≤ MOST_BATCH_RECORDS → 20001 < within_fetch stage
    → (is_some offset ≡ true → (pages < 1000) × (20001 + (1001 - pages) < within_fetch stage)) → PageIn d run time pages rows offset next → IsNearer run stage next
in_near d run stage time pages rows None next few later more l = last_near d run stage time rows next few later l
in_near d run stage time pages rows (Some k) next few later more e =
    let m = more refl in
    at run stage next (onward run (Pages (record { time = time; offset = k; pages = pages; rows = rows }))) e ((few, m.0), omega (arith, m.1))

page_near : (d : DeviceView) (run : Run) (stage : Stage) (time pages : ℕ) (before rows : List Sheet) (offset : Option ℕ) (next : Next) → run.limits.max_total_records ≤ MOST_BATCH_RECORDS → 20001 < within_fetch stage
    → (pages < 1000 → 20001 + (1001 - pages) < within_fetch stage) → PageOn d run time pages before rows offset next → IsNearer run stage next
page_near d run stage time pages before rows offset next few later more p = go (is_bad pages (before ++ rows) offset) refl p
  where
    go : (b : Bool) → is_bad pages (before ++ rows) offset ≡ b → MatchBool b (next ≡ unread run) (PageIn d run time pages (before ++ rows) offset next) → IsNearer run stage next
    go true t e = unread_near run stage next e
    go false t i =
        in_near d run stage time pages (before ++ rows) offset next few later
        (λ s. let few_pages = bad_not pages (are_apart (ids_of (before ++ rows))) (is_some offset) t s in (few_pages, more few_pages)) i

open_near : (d : DeviceView) (run : Run) (time : ℕ) (rows : List Sheet) (offset : Option ℕ) (next : Next) → run.limits.max_total_records ≤ MOST_BATCH_RECORDS → OpensWith d run time rows offset next → IsNearer run Opens next
open_near d run time rows offset next few o = go (run.newer && nat_lt time d.stamp) refl o
  where
    by : (b : Bool) → run.newer ≡ true → IsNearer run Opens (cond b (unread run) (falls_back run))
    by true n = tt
    by false n = falls_near run Opens (falls_back run) few n refl

    go : (b : Bool) → (run.newer && nat_lt time d.stamp) ≡ b → MatchBool b (next ≡ cond (is_bad 1 rows offset) (unread run) (falls_back run)) (PageOn d run time 1 [] rows offset next) → IsNearer run Opens next
    go true t e = at run Opens next _ e (by (is_bad 1 rows offset) (both_left run.newer (nat_lt time d.stamp) t))
    go false t p = page_near d run Opens time 1 [] rows offset next few (omega arith) (λ h. omega arith) p

list_near : (d : DeviceView) (run : Run) (stage : Stage) (time : ℕ) (rows : List Sheet) (ids : List (List ℕ)) (next : Next) → run.limits.max_total_records ≤ MOST_BATCH_RECORDS → run.newer ≡ true
    → MOST_BATCH_RECORDS < within_fetch stage → ListsAll d run time rows ids next → IsNearer run stage next
list_near d run stage time rows ids next few n later l = go (are_known rows d.mirror ids) l
  where
    go : (b : Bool) → MatchBool b (Finishes d run time (rows ++ kept rows ids d.mirror) next) (next ≡ falls_back run) → IsNearer run stage next
    go true f = finishes_near d run stage time (rows ++ kept rows ids d.mirror) next few later f
    go false e = falls_near run stage next few n e

-- ---- each answer at each stage

limits_near : (run : Run) (stage : Stage) (limits : Limits) (next : Next) → limits.max_total_records ≤ MOST_BATCH_RECORDS → limits_at run stage limits next → IsNearer run stage next
limits_near run Asks limits next few e = at run Asks next (fetching run run.newer run.changes limits) e ((few, tt), omega arith)
limits_near run Opens limits next few e = unread_near run Opens next e
limits_near run (Pages p) limits next few e = unread_near run (Pages p) next e
limits_near run (Lists l) limits next few e = unread_near run (Lists l) next e
limits_near run (Uploads u) limits next few e = unread_near run (Uploads u) next e

paged_near : (d : DeviceView) (run : Run) (stage : Stage) (rows : List Sheet) (offset : Option ℕ) (time : ℕ) (next : Next) → IsBoundedRun run stage → page_at d run stage rows offset time next → IsNearer run stage next
paged_near d run Asks rows offset time next b e = unread_near run Asks next e
paged_near d run Opens rows offset time next b o = open_near d run time rows offset next b.0 o
paged_near d run (Pages p) rows offset time next b q = page_near d run (Pages p) p.time (p.pages + 1) p.rows rows offset next b.0 (omega (arith, b.1)) (λ h. omega (arith, b.1)) q
paged_near d run (Lists l) rows offset time next b e = unread_near run (Lists l) next e
paged_near d run (Uploads u) rows offset time next b e = unread_near run (Uploads u) next e

listed_near : (d : DeviceView) (run : Run) (stage : Stage) (ids : List (List ℕ)) (next : Next) → IsBoundedRun run stage → ids_at d run stage ids next → IsNearer run stage next
listed_near d run Asks ids next b e = unread_near run Asks next e
listed_near d run Opens ids next b e = unread_near run Opens next e
listed_near d run (Pages p) ids next b e = unread_near run (Pages p) next e
listed_near d run (Lists l) ids next b a = list_near d run (Lists l) l.time l.rows ids next b.0 b.1 (omega arith) a
listed_near d run (Uploads u) ids next b e = unread_near run (Uploads u) next e

held_near : (run : Run) (stage : Stage) (batch : ℕ) (next : Next) → IsBoundedRun run stage → held_at run stage batch next → IsNearer run stage next
held_near run Asks batch next b e = unread_near run Asks next e
held_near run Opens batch next b e = unread_near run Opens next e
held_near run (Pages p) batch next b e = unread_near run (Pages p) next e
held_near run (Lists l) batch next b e = unread_near run (Lists l) next e
held_near run (Uploads u) batch next b h = holds_near run u (unwrap_or u.batch batch) (rest_of u) next b.0 b.1 refl h

written_near : (run : Run) (stage : Stage) (stamp : ℕ) (next : Next) → written_at run stage stamp next → IsNearer run stage next
written_near run Asks stamp next e = unread_near run Asks next e
written_near run Opens stamp next e = unread_near run Opens next e
written_near run (Pages p) stamp next e = unread_near run (Pages p) next e
written_near run (Lists l) stamp next e = unread_near run (Lists l) next e
written_near run (Uploads u) stamp next w = writes_near run (Uploads u) u stamp (rest_of u) next w

pub follows_near : (d : DeviceView) (run : Run) (stage : Stage) (answer : Answer) (next : Next) → IsBoundedRun run stage → TellsOurs answer → Follows d run stage answer next → IsNearer run stage next
unfolding Follows
follows_near d run stage (Configured limits) next b t f = limits_near run stage limits next t.total f
follows_near d run stage (Paged rows offset time) next b t f = paged_near d run stage rows offset time next b f
follows_near d run stage (Listed ids) next b t f = listed_near d run stage ids next b f
follows_near d run stage (Held batch) next b t f = held_near run stage batch next b f
follows_near d run stage (Written stamp) next b t f = written_near run stage stamp next f
follows_near d run stage (Failed status id) next b t f = at run stage next _ f tt
follows_near d run stage (Changed time) next b t f = again_near run stage time next b.0 f
follows_near d run stage (Refused status) next b t f = at run stage next _ f tt
follows_near d run stage Unread next b t f = unread_near run stage next f
