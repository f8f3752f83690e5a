-- A machine's run is sound from its first request on.
use Rattle.std.proofs.Common.{◌≡◌, ℕ, ◌+◌, ◌≤◌, List, [], ◌∷◌, ◌++◌, length, take, drop, Bool, true, false, cond, ◌&&◌}
use Rattle.std.proofs.Common.{nat_lt, Option, Some, None, MatchOption, unwrap_or, slice_index, refl, sym, ◌∙◌, subst}
use Rattle.std.specs.Bool.{MatchBool}
use Rattle.std.specs.List.{All}
use Rattle.std.proofs.lemmas.List.Elements.{All-drop}
use Rattle.ss_record.specs.declared.readings.Sheet.{Sheet}
use Rattle.ss_tree.specs.declared.entries.Entry.{Entry}
use Rattle.ss_build.specs.Rows.{readings, rows_of}
use Rattle.ss_bso.specs.declared.limits.TheConstants.{MOST_RECORD_PAYLOAD_BYTES, MOST_POST_RECORDS, MOST_POST_BYTES}
use Rattle.ss_bso.specs.declared.parts.Part.{Part}
use Rattle.ss_bso.specs.Limits.{part_bytes}
use Rattle.ss_plan.specs.declared.limits.Limits.{Limits}
use Rattle.ss_plan.specs.declared.limits.PlanFault.{PlanFault}
use Rattle.ss_plan.specs.Plan.{plan}
use Rattle.ss_plan.specs.Refusals.{payload_bytes, refusal}
use Rattle.ss_route.specs.Sending.{IsUpload}
use Rattle.ss_device.specs.Device.{DeviceView}
use Rattle.ss_sync.specs.Fetched.{are_known, kept}
use Rattle.ss_hearing.specs.declared.answer.Answer.{Answer}
use Rattle.ss_hearing.specs.declared.answer.Answer.TheVariants.{Configured, Paged, Listed, Held, Written, Failed}
use Rattle.ss_hearing.specs.declared.answer.Answer.TheVariants.{Changed, Refused, Unread}
use Rattle.ss_client.specs.declared.summaries.SyncFault.TheVariants as fault
use Rattle.ss_client.specs.declared.runs.Run.{Run}
use Rattle.ss_client.specs.declared.runs.Stage.{Stage}
use Rattle.ss_client.specs.declared.runs.Stage.TheVariants.{Asks, Opens, Pages, Lists, Uploads}
use Rattle.ss_client.specs.Leaves.{UploadView}
use Rattle.ss_client.specs.Runs.{rest_of}
use Rattle.ss_client.specs.Machine.{Next, Stop, onward, posting, fetching, unread, again, falls_back, uploads, is_bad}
use Rattle.ss_client.specs.Machine.{Ends, Begins, Finishes, Holds, Writes, LastPage, PageIn, PageOn, OpensWith}
use Rattle.ss_client.specs.Machine.{ListsAll, limits_at, page_at, ids_at, held_at, written_at, Follows}
use Rattle.ss_client.specs.Sound.{AreOurs, TellsOurs, CanUpload, CanGo, IsSound, IsSoundNext}
use Rattle.ss_client.proofs.Posting.{rest-is}
use Rattle.ss_client.proofs.Sending.{plan_uploads, not_refused, next_within}

-- what is told to be a sound next is one
at : (next told : Next) → next ≡ told → IsSoundNext told → IsSoundNext next
at next told e s = subst IsSoundNext (sym e) s

unread_sound : (run : Run) (next : Next) → next ≡ unread run → IsSoundNext next
unread_sound run next e = at next (unread run) e tt

opens_sound : (run : Run) (newer : Bool) (changes : List ℕ) (limits : Limits) (next : Next) → AreOurs limits → next ≡ fetching run newer changes limits → IsSoundNext next
opens_sound run newer changes limits next ours e = at next (fetching run newer changes limits) e (ours, tt)

again_sound : (run : Run) (time : ℕ) (next : Next) → AreOurs run.limits → next ≡ again run time → IsSoundNext next
again_sound run time next ours e = at next (again run time) e (by (nat_lt (length run.changes) 3))
  where
    by : (b : Bool) → IsSoundNext (cond b (fetching run run.newer (run.changes ++ time ∷ []) run.limits) (Stop (fault.Changing (slice_index run.changes 0) (slice_index run.changes 1) (slice_index run.changes 2) time)))
    by true = (ours, tt)
    by false = tt

ends_sound : (run : Run) (rows : List Sheet) (merged : List Entry) (parts : List Part) (stamp : ℕ) (next : Next) → Ends run rows merged parts stamp next → IsSoundNext next
ends_sound run rows merged parts stamp next e = at next _ e.done tt

begins_sound : (run : Run) (time : ℕ) (rows : List Sheet) (merged : List Entry) (parts : List Part) (next : Next) → AreOurs run.limits → All IsUpload parts → All (λ p. payload_bytes p ≤ MOST_RECORD_PAYLOAD_BYTES) parts
    → Begins run time rows merged parts next → IsSoundNext next
begins_sound run time rows merged [] next ours up small b = ends_sound run rows merged [] time next b
begins_sound run time rows merged (p ∷ ps) next ours up small b =
    let w = next_within run.limits (p ∷ ps) b.0 ours small b.1 in
    at next (posting run (uploads time rows merged (p ∷ ps) None 0 b.0)) b.2 (ours, record { uploads = up; small = small; few = w.0; short = w.1 })

finishes_sound : (d : DeviceView) (run : Run) (time : ℕ) (rows : List Sheet) (next : Next) → AreOurs run.limits → Finishes d run time rows next → IsSoundNext next
finishes_sound d run time rows next ours f = go (refusal run.limits parts) refl f.planned
  where
    parts : List Part
    parts = plan f.merged (readings (rows_of rows))

    go : (o : Option PlanFault) → refusal run.limits parts ≡ o → MatchOption o (Begins run time rows f.merged parts next) (λ g. next ≡ Stop (fault.Plan g)) → IsSoundNext next
    go None e b = begins_sound run time rows f.merged parts next ours (plan_uploads f.merged (readings (rows_of rows))) (not_refused run.limits parts ours e) b
    go (Some g) e b = at next _ b tt

holds_sound : (run : Run) (u : UploadView) (batch : ℕ) (rest : List Part) (next : Next) → AreOurs run.limits → CanUpload u → rest_of u ≡ rest → Holds run u batch rest next → IsSoundNext next
holds_sound run u batch [] next ours c e h = unread_sound run next h
holds_sound run u batch (p ∷ ps) next ours c e h =
    let left : drop (u.sent + u.count) u.parts ≡ p ∷ ps = sym (rest-is u) ∙ e in
    let small = subst (λ l. All (λ q. payload_bytes q ≤ MOST_RECORD_PAYLOAD_BYTES) l) left (All-drop (λ q. payload_bytes q ≤ MOST_RECORD_PAYLOAD_BYTES) (u.sent + u.count) u.parts c.small) in
    let w = next_within run.limits (p ∷ ps) h.0 ours small h.1 in
    at next (posting run (uploads u.time u.rows u.merged u.parts (Some batch) (u.sent + u.count) h.0)) h.2 (
      ours,
      record {
        uploads = c.uploads;
        small = c.small;
        few = subst (λ l. length (take h.0 l) ≤ MOST_POST_RECORDS) (sym left) w.0;
        short = subst (λ l. part_bytes (take h.0 l) ≤ MOST_POST_BYTES) (sym left) w.1;
      },
    )

writes_sound : (run : Run) (u : UploadView) (stamp : ℕ) (rest : List Part) (next : Next) → Writes run u stamp rest next → IsSoundNext next
writes_sound run u stamp [] next w = ends_sound run u.rows u.merged u.parts stamp next w
writes_sound run u stamp (p ∷ ps) next w = unread_sound run next w

last_sound : (d : DeviceView) (run : Run) (time : ℕ) (rows : List Sheet) (next : Next) → AreOurs run.limits → LastPage d run time rows next → IsSoundNext next
last_sound d run time rows next ours l = go run.newer l
  where
    go : (b : Bool) → MatchBool b (next ≡ onward run (Lists (record { time = time; rows = rows }))) (Finishes d run time rows next) → IsSoundNext next
    go true e = at next (onward run (Lists (record { time = time; rows = rows }))) e (ours, tt)
    go false f = finishes_sound d run time rows next ours f

in_sound : (d : DeviceView) (run : Run) (time pages : ℕ) (rows : List Sheet) (offset : Option ℕ) (next : Next) → AreOurs run.limits → PageIn d run time pages rows offset next → IsSoundNext next
in_sound d run time pages rows None next ours l = last_sound d run time rows next ours l
in_sound d run time pages rows (Some k) next ours e = at next (onward run (Pages (record { time = time; offset = k; pages = pages; rows = rows }))) e (ours, tt)

page_sound : (d : DeviceView) (run : Run) (time pages : ℕ) (before rows : List Sheet) (offset : Option ℕ) (next : Next) → AreOurs run.limits → PageOn d run time pages before rows offset next → IsSoundNext next
page_sound d run time pages before rows offset next ours p = go (is_bad pages (before ++ rows) offset) p
  where
    go : (b : Bool) → MatchBool b (next ≡ unread run) (PageIn d run time pages (before ++ rows) offset next) → IsSoundNext next
    go true e = unread_sound run next e
    go false i = in_sound d run time pages (before ++ rows) offset next ours i

open_sound : (d : DeviceView) (run : Run) (time : ℕ) (rows : List Sheet) (offset : Option ℕ) (next : Next) → AreOurs run.limits → OpensWith d run time rows offset next → IsSoundNext next
open_sound d run time rows offset next ours o = go (run.newer && nat_lt time d.stamp) o
  where
    by : (b : Bool) → IsSoundNext (cond b (unread run) (falls_back run))
    by true = tt
    by false = (ours, tt)

    go : (b : Bool) → MatchBool b (next ≡ cond (is_bad 1 rows offset) (unread run) (falls_back run)) (PageOn d run time 1 [] rows offset next) → IsSoundNext next
    go true e = at next _ e (by (is_bad 1 rows offset))
    go false p = page_sound d run time 1 [] rows offset next ours p

list_sound : (d : DeviceView) (run : Run) (time : ℕ) (rows : List Sheet) (ids : List (List ℕ)) (next : Next) → AreOurs run.limits → ListsAll d run time rows ids next → IsSoundNext next
list_sound d run time rows ids next ours l = go (are_known rows d.mirror ids) l
  where
    go : (b : Bool) → MatchBool b (Finishes d run time (rows ++ kept rows ids d.mirror) next) (next ≡ falls_back run) → IsSoundNext next
    go true f = finishes_sound d run time (rows ++ kept rows ids d.mirror) next ours f
    go false e = opens_sound run false run.changes run.limits next ours e

limits_sound : (run : Run) (stage : Stage) (limits : Limits) (next : Next) → AreOurs limits → limits_at run stage limits next → IsSoundNext next
limits_sound run Asks limits next ours e = opens_sound run run.newer run.changes limits next ours e
limits_sound run Opens limits next ours e = unread_sound run next e
limits_sound run (Pages p) limits next ours e = unread_sound run next e
limits_sound run (Lists l) limits next ours e = unread_sound run next e
limits_sound run (Uploads u) limits next ours e = unread_sound run next e

paged_sound : (d : DeviceView) (run : Run) (stage : Stage) (rows : List Sheet) (offset : Option ℕ) (time : ℕ) (next : Next) → AreOurs run.limits → page_at d run stage rows offset time next → IsSoundNext next
paged_sound d run Asks rows offset time next ours e = unread_sound run next e
paged_sound d run Opens rows offset time next ours o = open_sound d run time rows offset next ours o
paged_sound d run (Pages p) rows offset time next ours q = page_sound d run p.time (p.pages + 1) p.rows rows offset next ours q
paged_sound d run (Lists l) rows offset time next ours e = unread_sound run next e
paged_sound d run (Uploads u) rows offset time next ours e = unread_sound run next e

listed_sound : (d : DeviceView) (run : Run) (stage : Stage) (ids : List (List ℕ)) (next : Next) → AreOurs run.limits → ids_at d run stage ids next → IsSoundNext next
listed_sound d run Asks ids next ours e = unread_sound run next e
listed_sound d run Opens ids next ours e = unread_sound run next e
listed_sound d run (Pages p) ids next ours e = unread_sound run next e
listed_sound d run (Lists l) ids next ours a = list_sound d run l.time l.rows ids next ours a
listed_sound d run (Uploads u) ids next ours e = unread_sound run next e

held_sound : (run : Run) (stage : Stage) (batch : ℕ) (next : Next) → AreOurs run.limits → CanGo stage → held_at run stage batch next → IsSoundNext next
held_sound run Asks batch next ours c e = unread_sound run next e
held_sound run Opens batch next ours c e = unread_sound run next e
held_sound run (Pages p) batch next ours c e = unread_sound run next e
held_sound run (Lists l) batch next ours c e = unread_sound run next e
held_sound run (Uploads u) batch next ours c h = holds_sound run u (unwrap_or u.batch batch) (rest_of u) next ours c refl h

written_sound : (run : Run) (stage : Stage) (stamp : ℕ) (next : Next) → written_at run stage stamp next → IsSoundNext next
written_sound run Asks stamp next e = unread_sound run next e
written_sound run Opens stamp next e = unread_sound run next e
written_sound run (Pages p) stamp next e = unread_sound run next e
written_sound run (Lists l) stamp next e = unread_sound run next e
written_sound run (Uploads u) stamp next w = writes_sound run u stamp (rest_of u) next w

pub follows_sound : (d : DeviceView) (run : Run) (stage : Stage) (answer : Answer) (next : Next) → IsSound run stage → TellsOurs answer → Follows d run stage answer next → IsSoundNext next
unfolding Follows
follows_sound d run stage (Configured limits) next s t f = limits_sound run stage limits next t f
follows_sound d run stage (Paged rows offset time) next s t f = paged_sound d run stage rows offset time next s.0 f
follows_sound d run stage (Listed ids) next s t f = listed_sound d run stage ids next s.0 f
follows_sound d run stage (Held batch) next s t f = held_sound run stage batch next s.0 s.1 f
follows_sound d run stage (Written stamp) next s t f = written_sound run stage stamp next f
follows_sound d run stage (Failed status id) next s t f = at next _ f tt
follows_sound d run stage (Changed time) next s t f = again_sound run time next s.0 f
follows_sound d run stage (Refused status) next s t f = at next _ f tt
follows_sound d run stage Unread next s t f = unread_sound run next f
