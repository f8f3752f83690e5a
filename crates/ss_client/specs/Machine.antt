-- What a sync machine does with an answer (the protocol is SyncStorage API 1.5's, the machine this project's).
-- It is a relation, since a merged tree is told by its look-ups and not by the order in which its entries lie.
use Rattle.std.specs.Prelude.{◌≡◌, ℕ, min, ◌+◌, ◌-◌, List, [], ◌∷◌, ◌++◌, length, slice_index, Bool, false, not, ◌&&◌}
use Rattle.std.specs.Prelude.{◌||◌, nat_lt, nat_le, if◌then◌else◌, Option, Some, None, is_some, unwrap_or, MatchOption}
use Rattle.std.specs.Bool.{MatchBool}
use Rattle.ss_record.specs.declared.readings.Sheet.{Sheet}
use Rattle.ss_tree.specs.declared.entries.Entry.{Entry}
use Rattle.ss_tree.specs.Entries.{preorder}
use Rattle.ss_build.specs.Rows.{readings, rows_of}
use Rattle.ss_bso.specs.declared.parts.Part.{Part}
use Rattle.ss_plan.specs.Plan.{plan}
use Rattle.ss_plan.specs.Refusals.{refusal}
use Rattle.ss_plan.specs.Written.{AreRowsAfter}
use Rattle.ss_plan.specs.declared.limits.Limits.{Limits}
use Rattle.ss_device.specs.Device.{DeviceView, dead_ids}
use Rattle.ss_sync.specs.Rows.{ids_of, AreById}
use Rattle.ss_sync.specs.Fetched.{are_apart, are_known, kept}
use Rattle.ss_sync.specs.Joined.{IsJoinedTree}
use Rattle.ss_sync.specs.Posts.{IsNext}
use Rattle.ss_hearing.specs.declared.answer.Answer.{Answer}
use Rattle.ss_hearing.specs.declared.answer.Answer.TheVariants.{Configured, Paged, Listed, Held, Written, Failed}
use Rattle.ss_hearing.specs.declared.answer.Answer.TheVariants.{Changed, Refused, Unread}
use Rattle.ss_client.specs.declared.summaries.Summary.{Summary}
use Rattle.ss_client.specs.declared.summaries.SyncFault.{SyncFault}
use Rattle.ss_client.specs.declared.summaries.SyncFault.TheVariants as fault
use Rattle.ss_client.specs.declared.runs.Run.{Run}
use Rattle.ss_client.specs.declared.runs.Stage.{Stage}
use Rattle.ss_client.specs.declared.runs.Stage.TheVariants.{Asks, Opens, Pages, Lists, Uploads}
use Rattle.ss_client.specs.Leaves.{UploadView, LeavesStanding}
use Rattle.ss_client.specs.Runs.{rest_of}

-- what comes next: a request, the end with the device after the sync, or a stop
pub data Next : Type 0 where
  Send : Run → Stage → Next
  Done : DeviceView → Summary → Next
  Stop : SyncFault → Next

-- one more; a count stands still at its type's end
abbrev pub count_after_one : ℕ → ℕ
count_after_one n = min (n + 1) 18446744073709551615

-- a further request
abbrev pub onward : Run → Stage → Next
onward run stage = Send (record { newer = run.newer; changes = run.changes; limits = run.limits; number = count_after_one run.number; posts = run.posts; fetches = run.fetches }) stage

-- a POST
abbrev pub posting : Run → UploadView → Next
posting run u = Send (record { newer = run.newer; changes = run.changes; limits = run.limits; number = count_after_one run.number; posts = count_after_one run.posts; fetches = run.fetches }) (Uploads u)

-- a fetch begins
abbrev pub fetching : Run → Bool → List ℕ → Limits → Next
fetching run newer changes limits = Send (record { newer = newer; changes = changes; limits = limits; number = count_after_one run.number; posts = run.posts; fetches = count_after_one run.fetches }) Opens

-- the reply isn't in form
abbrev pub unread : Run → Next
unread run = Stop (fault.BadReply run.number)

-- something has changed: the run's fetch begins again, and the fourth time the run stops with the four times
abbrev pub again : Run → ℕ → Next
again run time =
    if nat_lt (length run.changes) 3 then fetching run run.newer (run.changes ++ time ∷ []) run.limits
    else Stop (fault.Changing (slice_index run.changes 0) (slice_index run.changes 1) (slice_index run.changes 2) time)

-- the whole fetch takes the place of the newer one
abbrev pub falls_back : Run → Next
falls_back run = fetching run false run.changes run.limits

-- ---- the end

-- the items of a tree, without `places` and the four roots
abbrev pub items : List Entry → ℕ
items es = length (preorder es (length es) 0) - 5

abbrev pub summary_of : Run → List Entry → ℕ → Summary
summary_of run merged stamp = record { items = items merged; posts = run.posts; fetches = run.fetches; stamp = stamp }

-- done: the device has the merged tree, nothing deleted, and the rows as the parts leave them, by id, at this time
pub record Ends (run : Run) (rows : List Sheet) (merged : List Entry) (parts : List Part) (stamp : ℕ) (next : Next) : Type 0 where
  pub mirror : List Sheet
  pub written : AreRowsAfter rows parts stamp mirror
  pub by_id : AreById mirror
  pub done : next ≡ Done (record { tree = merged; dead = []; mirror = mirror; stamp = stamp }) (summary_of run merged stamp)

-- ---- the upload

-- an upload of a plan, of which so many parts were sent into the batch, if there is one, and so many go now
abbrev pub uploads : ℕ → List Sheet → List Entry → List Part → Option ℕ → ℕ → ℕ → UploadView
uploads time rows merged parts batch sent count = record { time = time; rows = rows; merged = merged; parts = parts; batch = batch; sent = sent; count = count }

-- a plan is sent; with an empty one the run is done
abbrev pub Begins : Run → ℕ → List Sheet → List Entry → List Part → Next → Type 0
Begins run time rows merged [] next = Ends run rows merged [] time next
Begins run time rows merged (p ∷ ps) next = (n : ℕ) × IsNext run.limits (p ∷ ps) n × (next ≡ posting run (uploads time rows merged (p ∷ ps) None 0 n))

-- a plan within the limits is sent, another stops the run
abbrev pub Plans : Run → ℕ → List Sheet → List Entry → List Part → Next → Type 0
Plans run time rows merged parts next = MatchOption (refusal run.limits parts) (Begins run time rows merged parts next) (λ f. next ≡ Stop (fault.Plan f))

-- all rows are there: they are merged, and the plan takes them to rows that stand for the merged tree
pub record Finishes (d : DeviceView) (run : Run) (time : ℕ) (rows : List Sheet) (next : Next) : Type 0 where
  pub merged : List Entry
  pub joined : IsJoinedTree d.mirror d.tree (dead_ids d.dead) rows merged
  pub planned : Plans run time rows merged (plan merged (readings (rows_of rows))) next
  pub standing : refusal run.limits (plan merged (readings (rows_of rows))) ≡ None → LeavesStanding rows (plan merged (readings (rows_of rows))) merged

-- the POST is in the batch, whose number is that of its begin: the next one takes what it can
abbrev pub Holds : Run → UploadView → ℕ → List Part → Next → Type 0
Holds run u batch [] next = next ≡ unread run
Holds run u batch (p ∷ rest) next = (n : ℕ) × IsNext run.limits (p ∷ rest) n × (next ≡ posting run (uploads u.time u.rows u.merged u.parts (Some batch) (u.sent + u.count) n))

-- the last POST is written
abbrev pub Writes : Run → UploadView → ℕ → List Part → Next → Type 0
Writes run u stamp [] next = Ends run u.rows u.merged u.parts stamp next
Writes run u stamp (p ∷ rest) next = next ≡ unread run

-- ---- the fetch

-- the last page: a newer fetch goes on to the ids
abbrev pub LastPage : DeviceView → Run → ℕ → List Sheet → Next → Type 0
LastPage d run time rows next = MatchBool run.newer (next ≡ onward run (Lists (record { time = time; rows = rows }))) (Finishes d run time rows next)

abbrev pub PageIn : DeviceView → Run → ℕ → ℕ → List Sheet → Option ℕ → Next → Type 0
PageIn d run time pages rows None next = LastPage d run time rows next
PageIn d run time pages rows (Some offset) next = next ≡ onward run (Pages (record { time = time; offset = offset; pages = pages; rows = rows }))

-- an id stands twice in the fetch, or the thousandth page names a further one
abbrev pub is_bad : ℕ → List Sheet → Option ℕ → Bool
is_bad pages rows offset = not (are_apart (ids_of rows)) || (is_some offset && nat_le 1000 pages)

-- a page comes, so many of the fetch with it; `before` are the rows of the earlier ones
abbrev pub PageOn : DeviceView → Run → ℕ → ℕ → List Sheet → List Sheet → Option ℕ → Next → Type 0
PageOn d run time pages before rows offset next = MatchBool (is_bad pages (before ++ rows) offset) (next ≡ unread run) (PageIn d run time pages (before ++ rows) offset next)

-- the first page: a newer fetch whose collection's time is below the device's is given up for the whole fetch
abbrev pub OpensWith : DeviceView → Run → ℕ → List Sheet → Option ℕ → Next → Type 0
OpensWith d run time rows offset next =
    MatchBool (run.newer && nat_lt time d.stamp) (next ≡ (if is_bad 1 rows offset then unread run else falls_back run)) (PageOn d run time 1 [] rows offset next)

-- the ids come: where each is known, the fetched rows are those of the pages and those that the mirror has of the others
abbrev pub ListsAll : DeviceView → Run → ℕ → List Sheet → List (List ℕ) → Next → Type 0
ListsAll d run time rows ids next = MatchBool (are_known rows d.mirror ids) (Finishes d run time (rows ++ kept rows ids d.mirror) next) (next ≡ falls_back run)

-- ---- each answer at each stage

abbrev pub page_at : DeviceView → Run → Stage → List Sheet → Option ℕ → ℕ → Next → Type 0
page_at d run Opens rows offset time next = OpensWith d run time rows offset next
page_at d run (Pages p) rows offset time next = PageOn d run p.time (p.pages + 1) p.rows rows offset next
page_at d run Asks rows offset time next = next ≡ unread run
page_at d run (Lists l) rows offset time next = next ≡ unread run
page_at d run (Uploads u) rows offset time next = next ≡ unread run

abbrev pub ids_at : DeviceView → Run → Stage → List (List ℕ) → Next → Type 0
ids_at d run (Lists l) ids next = ListsAll d run l.time l.rows ids next
ids_at d run Asks ids next = next ≡ unread run
ids_at d run Opens ids next = next ≡ unread run
ids_at d run (Pages p) ids next = next ≡ unread run
ids_at d run (Uploads u) ids next = next ≡ unread run

abbrev pub held_at : Run → Stage → ℕ → Next → Type 0
held_at run (Uploads u) batch next = Holds run u (unwrap_or u.batch batch) (rest_of u) next
held_at run Asks batch next = next ≡ unread run
held_at run Opens batch next = next ≡ unread run
held_at run (Pages p) batch next = next ≡ unread run
held_at run (Lists l) batch next = next ≡ unread run

abbrev pub written_at : Run → Stage → ℕ → Next → Type 0
written_at run (Uploads u) stamp next = Writes run u stamp (rest_of u) next
written_at run Asks stamp next = next ≡ unread run
written_at run Opens stamp next = next ≡ unread run
written_at run (Pages p) stamp next = next ≡ unread run
written_at run (Lists l) stamp next = next ≡ unread run

abbrev pub limits_at : Run → Stage → Limits → Next → Type 0
limits_at run Asks limits next = next ≡ fetching run run.newer run.changes limits
limits_at run Opens limits next = next ≡ unread run
limits_at run (Pages p) limits next = next ≡ unread run
limits_at run (Lists l) limits next = next ≡ unread run
limits_at run (Uploads u) limits next = next ≡ unread run

-- what a device's run does at a stage after an answer
unfoldable pub Follows : DeviceView → Run → Stage → Answer → Next → Type 0
Follows d run stage (Configured limits) next = limits_at run stage limits next
Follows d run stage (Paged rows offset time) next = page_at d run stage rows offset time next
Follows d run stage (Listed ids) next = ids_at d run stage ids next
Follows d run stage (Held batch) next = held_at run stage batch next
Follows d run stage (Written stamp) next = written_at run stage stamp next
Follows d run stage (Failed status id) next = next ≡ Stop (fault.Refused status (Some id))
Follows d run stage (Changed time) next = next ≡ again run time
Follows d run stage (Refused status) next = next ≡ Stop (fault.Refused status None)
Follows d run stage Unread next = next ≡ unread run
