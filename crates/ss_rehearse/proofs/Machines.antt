-- Machines that are told alike ask the same, and hear the same answer alike.
use Rattle.std.proofs.Common.{◌≡◌, ℕ, ◌+◌, List, [], ◌∷◌, ◌++◌, Bool, true, false, cond, not, ◌&&◌, ◌||◌, nat_lt}
use Rattle.std.proofs.Common.{nat_le, length, codes, Option, Some, None, is_some, unwrap_or, refl, sym, ap, ap₂, ◌∙◌}
use Rattle.std.proofs.Common.{subst}
use Rattle.std.specs.Prelude.{MatchOption, ⊤, slice_index}
use Rattle.std.specs.Bool.{MatchBool}
use Rattle.std.proofs.lemmas.Bool.{false≢true}
use Rattle.ss_text.specs.declared.stamps.Cond.TheVariants.{Free, IfUnmodified}
use Rattle.ss_record.specs.declared.readings.Sheet.{Sheet}
use Rattle.ss_record.specs.Ids.{Apart}
use Rattle.ss_tree.specs.declared.entries.Entry.{Entry}
use Rattle.ss_tree.specs.Trees.{IsSame}
use Rattle.ss_tree.specs.Entries.{IsTree, tree}
use Rattle.ss_tree.proofs.Valid.{valid_tree}
use Rattle.ss_build.specs.Rows.{readings, rows_of}
use Rattle.ss_bso.specs.declared.parts.Part.{Part}
use Rattle.ss_query.specs.declared.requests.Request.TheVariants.{List as ListOf, Post}
use Rattle.ss_route.specs.Sending.{all_ids, page}
use Rattle.ss_plan.specs.Plan.{plan}
use Rattle.ss_plan.specs.Refusals.{refusal}
use Rattle.ss_plan.specs.declared.limits.Limits.{Limits}
use Rattle.ss_plan.specs.declared.limits.PlanFault.{PlanFault}
use Rattle.ss_sync.specs.Rows.{ids_of}
use Rattle.ss_sync.specs.Fetched.{are_apart, are_known, kept}
use Rattle.ss_sync.proofs.Fetching.{apart-true}
use Rattle.ss_hearing.specs.declared.answer.Answer.{Answer}
use Rattle.ss_hearing.specs.declared.answer.Answer.TheVariants.{Configured, Paged, Listed, Held, Written, Failed}
use Rattle.ss_hearing.specs.declared.answer.Answer.TheVariants.{Changed, Refused, Unread}
use Rattle.ss_device.specs.Device.{DeviceView}
use Rattle.ss_client.specs.declared.summaries.SyncFault.TheVariants as fault
use Rattle.ss_client.specs.declared.runs.Listing.{Listing}
use Rattle.ss_client.specs.declared.runs.Run.{Run}
use Rattle.ss_client.specs.declared.runs.Stage.{Stage}
use Rattle.ss_client.specs.declared.runs.Stage.TheVariants.{Asks, Opens, Pages, Lists, Uploads}
use Rattle.ss_client.specs.Leaves.{PagingView, UploadView}
use Rattle.ss_client.specs.Runs.{MachineView, post_of, rest_of}
use Rattle.ss_client.specs.Asking.{ask, asked, awaited_of, awaits, mode_of, since}
use Rattle.ss_client.specs.Machine.{Next, Send, Done, Stop, Begins, Ends, Finishes, Follows, Holds, LastPage, ListsAll}
use Rattle.ss_client.specs.Machine.{OpensWith, PageIn, PageOn, Plans, Writes, again, falls_back, fetching, held_at}
use Rattle.ss_client.specs.Machine.{ids_at, is_bad, limits_at, onward, page_at, posting, unread, uploads, written_at}
use Rattle.ss_rehearse.specs.Alike.{AreAlike}
use Rattle.ss_rehearse.proofs.Merging.{merged_alike}
use Rattle.ss_rehearse.proofs.OnePost.{one_next}
use Rattle.ss_rehearse.proofs.OneRows.{apart_kept, one_rows}
use Rattle.ss_rehearse.proofs.Told.{plan_once}

-- ---- what is told alike

-- devices that are told alike, whose entries are trees; no id has two rows in their mirror
pub record AreDevices (d e : DeviceView) : Type 0 where
  pub alike : AreAlike d e
  pub one : IsTree d.tree
  pub other : IsTree e.tree
  pub apart : Apart (ids_of d.mirror)

-- entries of the same tree
pub record AreOneTree (es fs : List Entry) : Type 0 where
  pub same : IsSame (tree es) (tree fs)
  pub one : IsTree es
  pub other : IsTree fs

-- uploads that are equal but for the order in which the entries of the merged tree lie
pub record AreUploads (u v : UploadView) : Type 0 where
  pub rest : v ≡ record u { merged = v.merged }
  pub merged : AreOneTree u.merged v.merged

-- stages that are equal but for the merged entries; no id was fetched twice
abbrev pub AreStages : Stage → Stage → Type 0
AreStages Asks Asks = ⊤
AreStages Opens Opens = ⊤
AreStages (Pages p) (Pages q) = p ≡ q
AreStages (Lists l) (Lists k) = (l ≡ k) × Apart (ids_of l.rows)
AreStages (Uploads u) (Uploads v) = AreUploads u v
AreStages s t = ⊥

pub record AreMachines (m n : MachineView) : Type 0 where
  pub devices : AreDevices m.device n.device
  pub runs : m.run ≡ n.run
  pub stages : AreStages m.stage n.stage

-- what comes next is the same; of a sync that is done the summary means nothing
abbrev pub AreNext : Next → Next → Type 0
AreNext (Send run s) (Send other t) = (run ≡ other) × AreStages s t
AreNext (Done d summary) (Done e other) = AreDevices d e
AreNext (Stop f) (Stop g) = ⊤
AreNext next more = ⊥

-- ---- requests

asked_at : (m : MachineView) (s t : Stage) → AreStages s t → asked m s ≡ asked m t
unfolding asked
asked_at m Asks Asks e = refl
asked_at m Opens Opens e = refl
asked_at m (Pages p) (Pages q) e = ap (λ (x : PagingView). ListOf (codes "bookmarks") (page (since m) x.offset) (IfUnmodified x.time)) e
asked_at m (Lists l) (Lists k) e = ap (λ (x : Listing). ListOf (codes "bookmarks") all_ids (IfUnmodified x.time)) e.0
asked_at m (Uploads u) (Uploads v) e = sym (ap (λ (x : UploadView). Post (codes "bookmarks") (record { parts = post_of x; failed = [] }) (mode_of x.batch (rest_of x)) (IfUnmodified x.time)) e.rest)
asked_at m s t e = absurd e

asked_by : (m n : MachineView) → since m ≡ since n → (s : Stage) → asked m s ≡ asked n s
unfolding asked
asked_by m n e Asks = refl
asked_by m n e Opens = ap (λ o. ListOf (codes "bookmarks") (page o 0) Free) e
asked_by m n e (Pages p) = ap (λ o. ListOf (codes "bookmarks") (page o p.offset) (IfUnmodified p.time)) e
asked_by m n e (Lists l) = refl
asked_by m n e (Uploads u) = refl

pub ask_alike : (m n : MachineView) → AreMachines m n → ask m ≡ ask n
ask_alike m n a =
    let from : since m ≡ since n = ap₂ (λ (run : Run) stamp. cond run.newer (Some stamp) None) a.runs a.devices.alike.stamp in
    asked_at m m.stage n.stage a.stages ∙ asked_by m n from n.stage

pub awaits_alike : (s t : Stage) → AreStages s t → awaits s ≡ awaits t
unfolding awaits
awaits_alike Asks Asks e = refl
awaits_alike Opens Opens e = refl
awaits_alike (Pages p) (Pages q) e = refl
awaits_alike (Lists l) (Lists k) e = refl
awaits_alike (Uploads u) (Uploads v) e = sym (ap (λ (x : UploadView). awaited_of (rest_of x)) e.rest)
awaits_alike s t e = absurd e

-- ---- what comes next

both : (next it more that : Next) → next ≡ it → more ≡ that → AreNext it that → AreNext next more
both next it more that p q h = subst (λ n. AreNext n more) (sym p) (subst (AreNext it) (sym q) h)

stop_both : (run : Run) (next more : Next) → next ≡ unread run → more ≡ unread run → AreNext next more
stop_both run next more p q = both next (unread run) more (unread run) p q tt

again_alike : (run : Run) (time : ℕ) → AreNext (again run time) (again run time)
again_alike run time = go (nat_lt (length run.changes) 3)
  where
    go : (b : Bool) → AreNext (cond b (fetching run run.newer (run.changes ++ time ∷ []) run.limits) (Stop (fault.Changing (slice_index run.changes 0) (slice_index run.changes 1) (slice_index run.changes 2) time)))
        (cond b (fetching run run.newer (run.changes ++ time ∷ []) run.limits) (Stop (fault.Changing (slice_index run.changes 0) (slice_index run.changes 1) (slice_index run.changes 2) time)))
    go true = (refl, tt)
    go false = tt

back_both : (run : Run) (next more : Next) → next ≡ falls_back run → more ≡ falls_back run → AreNext next more
back_both run next more p q = both next (falls_back run) more (falls_back run) p q (refl, tt)

-- ---- the end

ends_alike : (run : Run) (rows : List Sheet) (merged other : List Entry) (parts : List Part) (stamp : ℕ) (next more : Next) → AreOneTree merged other → Ends run rows merged parts stamp next → Ends run rows other parts stamp more → AreNext next more
ends_alike run rows merged other parts stamp next more m a b =
    let mirrors : a.mirror ≡ b.mirror = one_rows a.mirror b.mirror a.by_id b.by_id (λ x. a.written.each x ∙ sym (b.written.each x)) in
    both next _ more _ a.done b.done (record {
      alike = record { tree = m.same; dead = λ x. refl; mirror = mirrors; stamp = refl };
      one = m.one;
      other = m.other;
      apart = a.written.apart;
    })

-- ---- the upload

begins_alike : (run : Run) (time : ℕ) (rows : List Sheet) (merged other : List Entry) (parts : List Part) (next more : Next) → AreOneTree merged other → Begins run time rows merged parts next → Begins run time rows other parts more → AreNext next more
begins_alike run time rows merged other [] next more m a b = ends_alike run rows merged other [] time next more m a b
begins_alike run time rows merged other (p ∷ ps) next more m a b =
    both next (posting run (uploads time rows merged (p ∷ ps) None 0 a.0)) more (posting run (uploads time rows other (p ∷ ps) None 0 b.0)) a.2 b.2 (
      refl,
      record { rest = ap (uploads time rows other (p ∷ ps) None 0) (one_next run.limits (p ∷ ps) b.0 a.0 b.1 a.1); merged = m },
    )

plans_alike : (run : Run) (time : ℕ) (rows : List Sheet) (merged other : List Entry) (parts : List Part) (next more : Next) → AreOneTree merged other → Plans run time rows merged parts next → Plans run time rows other parts more → AreNext next more
plans_alike run time rows merged other parts next more m a b = go (refusal run.limits parts) a b
  where
    go : (o : Option PlanFault) → MatchOption o (Begins run time rows merged parts next) (λ f. next ≡ Stop (fault.Plan f)) → MatchOption o (Begins run time rows other parts more) (λ f. more ≡ Stop (fault.Plan f)) → AreNext next more
    go None p q = begins_alike run time rows merged other parts next more m p q
    go (Some f) p q = both next (Stop (fault.Plan f)) more (Stop (fault.Plan f)) p q tt

finishes_alike : (d e : DeviceView) (run : Run) (time : ℕ) (rows : List Sheet) (next more : Next) → AreDevices d e → Apart (ids_of rows) → Finishes d run time rows next → Finishes e run time rows more → AreNext next more
finishes_alike d e run time rows next more t apart a b =
    let m : AreOneTree a.merged b.merged = record { same = merged_alike d e rows a.merged b.merged (valid_tree d.tree t.one) t.alike apart a.joined b.joined; one = a.joined.is_tree; other = b.joined.is_tree } in
    let plans : plan a.merged (readings (rows_of rows)) ≡ plan b.merged (readings (rows_of rows)) = plan_once a.merged b.merged (readings (rows_of rows)) m.one m.other m.same in
    plans_alike run time rows a.merged b.merged (plan a.merged (readings (rows_of rows))) next more m a.planned (subst (λ parts. Plans run time rows b.merged parts more) (sym plans) b.planned)

-- an upload with other merged entries
abbrev with_merged : UploadView → List Entry → UploadView
with_merged u other = record u { merged = other }

holds_alike : (run : Run) (u : UploadView) (other : List Entry) (batch : ℕ) (parts : List Part) (next more : Next) → AreOneTree u.merged other → Holds run u batch parts next → Holds run (with_merged u other) batch parts more → AreNext next more
holds_alike run u other batch [] next more m a b = stop_both run next more a b
holds_alike run u other batch (p ∷ ps) next more m a b =
    both next (posting run (uploads u.time u.rows u.merged u.parts (Some batch) (u.sent + u.count) a.0)) more (posting run (uploads u.time u.rows other u.parts (Some batch) (u.sent + u.count) b.0)) a.2 b.2 (
      refl,
      record { rest = ap (uploads u.time u.rows other u.parts (Some batch) (u.sent + u.count)) (one_next run.limits (p ∷ ps) b.0 a.0 b.1 a.1); merged = m },
    )

writes_alike : (run : Run) (u : UploadView) (other : List Entry) (stamp : ℕ) (parts : List Part) (next more : Next) → AreOneTree u.merged other → Writes run u stamp parts next → Writes run (with_merged u other) stamp parts more → AreNext next more
writes_alike run u other stamp [] next more m a b = ends_alike run u.rows u.merged other u.parts stamp next more m a b
writes_alike run u other stamp (p ∷ ps) next more m a b = stop_both run next more a b

held_alike : (run : Run) (s t : Stage) (batch : ℕ) (next more : Next) → AreStages s t → held_at run s batch next → held_at run t batch more → AreNext next more
held_alike run (Uploads u) (Uploads v) batch next more e a b =
    holds_alike run u v.merged (unwrap_or u.batch batch) (rest_of u) next more e.merged a (subst (λ (x : UploadView). Holds run x (unwrap_or x.batch batch) (rest_of x) more) e.rest b)
held_alike run Asks Asks batch next more e a b = stop_both run next more a b
held_alike run Opens Opens batch next more e a b = stop_both run next more a b
held_alike run (Pages p) (Pages q) batch next more e a b = stop_both run next more a b
held_alike run (Lists l) (Lists k) batch next more e a b = stop_both run next more a b
held_alike run s t batch next more e a b = absurd e

written_alike : (run : Run) (s t : Stage) (stamp : ℕ) (next more : Next) → AreStages s t → written_at run s stamp next → written_at run t stamp more → AreNext next more
written_alike run (Uploads u) (Uploads v) stamp next more e a b =
    writes_alike run u v.merged stamp (rest_of u) next more e.merged a (subst (λ (x : UploadView). Writes run x stamp (rest_of x) more) e.rest b)
written_alike run Asks Asks stamp next more e a b = stop_both run next more a b
written_alike run Opens Opens stamp next more e a b = stop_both run next more a b
written_alike run (Pages p) (Pages q) stamp next more e a b = stop_both run next more a b
written_alike run (Lists l) (Lists k) stamp next more e a b = stop_both run next more a b
written_alike run s t stamp next more e a b = absurd e

-- ---- the fetch

module _ (d e : DeviceView) (run : Run) (devices : AreDevices d e) where
  last_alike : (time : ℕ) (rows : List Sheet) (next more : Next) → Apart (ids_of rows) → LastPage d run time rows next → LastPage e run time rows more → AreNext next more
  last_alike time rows next more apart a b = go run.newer a b
    where
      go : (v : Bool) → MatchBool v (next ≡ onward run (Lists (record { time = time; rows = rows }))) (Finishes d run time rows next) → MatchBool v (more ≡ onward run (Lists (record { time = time; rows = rows }))) (Finishes e run time rows more) → AreNext next more
      go true p q = both next (onward run (Lists (record { time = time; rows = rows }))) more (onward run (Lists (record { time = time; rows = rows }))) p q (refl, (refl, apart))
      go false p q = finishes_alike d e run time rows next more devices apart p q

  in_alike : (time pages : ℕ) (rows : List Sheet) (offset : Option ℕ) (next more : Next) → Apart (ids_of rows) → PageIn d run time pages rows offset next → PageIn e run time pages rows offset more → AreNext next more
  in_alike time pages rows None next more apart a b = last_alike time rows next more apart a b
  in_alike time pages rows (Some offset) next more apart a b =
      both next (onward run (Pages (record { time = time; offset = offset; pages = pages; rows = rows }))) more (onward run (Pages (record { time = time; offset = offset; pages = pages; rows = rows }))) a b (refl, refl)

  on_alike : (time pages : ℕ) (before rows : List Sheet) (offset : Option ℕ) (next more : Next) → PageOn d run time pages before rows offset next → PageOn e run time pages before rows offset more → AreNext next more
  on_alike time pages before rows offset next more a b = go (is_bad pages (before ++ rows) offset) refl a b
    where
      fine : (v w : Bool) → (not v || w) ≡ false → v ≡ true
      fine true w h = refl
      fine false w h = absurd (false≢true (sym h))

      go : (v : Bool) → is_bad pages (before ++ rows) offset ≡ v → MatchBool v (next ≡ unread run) (PageIn d run time pages (before ++ rows) offset next) → MatchBool v (more ≡ unread run) (PageIn e run time pages (before ++ rows) offset more) → AreNext next more
      go true h p q = stop_both run next more p q
      go false h p q = in_alike time pages (before ++ rows) offset next more (apart-true (ids_of (before ++ rows)) (fine (are_apart (ids_of (before ++ rows))) (is_some offset && nat_le 1000 pages) h)) p q

  opens_alike : (time : ℕ) (rows : List Sheet) (offset : Option ℕ) (next more : Next) → OpensWith d run time rows offset next → OpensWith e run time rows offset more → AreNext next more
  opens_alike time rows offset next more a b =
      go (run.newer && nat_lt time d.stamp) a
      (subst (λ stamp. MatchBool (run.newer && nat_lt time stamp) (more ≡ cond (is_bad 1 rows offset) (unread run) (falls_back run)) (PageOn e run time 1 [] rows offset more)) (sym devices.alike.stamp) b)
    where
      either : (v : Bool) → AreNext (cond v (unread run) (falls_back run)) (cond v (unread run) (falls_back run))
      either true = tt
      either false = (refl, tt)

      go : (v : Bool) → MatchBool v (next ≡ cond (is_bad 1 rows offset) (unread run) (falls_back run)) (PageOn d run time 1 [] rows offset next) → MatchBool v (more ≡ cond (is_bad 1 rows offset) (unread run) (falls_back run)) (PageOn e run time 1 [] rows offset more) → AreNext next more
      go true p q = both next (cond (is_bad 1 rows offset) (unread run) (falls_back run)) more (cond (is_bad 1 rows offset) (unread run) (falls_back run)) p q (either (is_bad 1 rows offset))
      go false p q = on_alike time 1 [] rows offset next more p q

  lists_alike : (time : ℕ) (rows : List Sheet) (ids : List (List ℕ)) (next more : Next) → Apart (ids_of rows) → ListsAll d run time rows ids next → ListsAll e run time rows ids more → AreNext next more
  lists_alike time rows ids next more apart a b =
      go (are_known rows d.mirror ids) a
      (subst (λ mirror. MatchBool (are_known rows mirror ids) (Finishes e run time (rows ++ kept rows ids mirror) more) (more ≡ falls_back run)) (sym devices.alike.mirror) b)
    where
      go : (v : Bool) → MatchBool v (Finishes d run time (rows ++ kept rows ids d.mirror) next) (next ≡ falls_back run) → MatchBool v (Finishes e run time (rows ++ kept rows ids d.mirror) more) (more ≡ falls_back run) → AreNext next more
      go true p q = finishes_alike d e run time (rows ++ kept rows ids d.mirror) next more devices (apart_kept rows d.mirror ids apart devices.apart) p q
      go false p q = back_both run next more p q

  page_alike : (s t : Stage) (rows : List Sheet) (offset : Option ℕ) (time : ℕ) (next more : Next) → AreStages s t → page_at d run s rows offset time next → page_at e run t rows offset time more → AreNext next more
  page_alike Opens Opens rows offset time next more g a b = opens_alike time rows offset next more a b
  page_alike (Pages p) (Pages q) rows offset time next more g a b =
      on_alike p.time (p.pages + 1) p.rows rows offset next more a (subst (λ (x : PagingView). PageOn e run x.time (x.pages + 1) x.rows rows offset more) (sym g) b)
  page_alike Asks Asks rows offset time next more g a b = stop_both run next more a b
  page_alike (Lists l) (Lists k) rows offset time next more g a b = stop_both run next more a b
  page_alike (Uploads u) (Uploads v) rows offset time next more g a b = stop_both run next more a b
  page_alike s t rows offset time next more g a b = absurd g

  ids_alike : (s t : Stage) (ids : List (List ℕ)) (next more : Next) → AreStages s t → ids_at d run s ids next → ids_at e run t ids more → AreNext next more
  ids_alike (Lists l) (Lists k) ids next more g a b =
      lists_alike l.time l.rows ids next more g.1 a (subst (λ (x : Listing). ListsAll e run x.time x.rows ids more) (sym g.0) b)
  ids_alike Asks Asks ids next more g a b = stop_both run next more a b
  ids_alike Opens Opens ids next more g a b = stop_both run next more a b
  ids_alike (Pages p) (Pages q) ids next more g a b = stop_both run next more a b
  ids_alike (Uploads u) (Uploads v) ids next more g a b = stop_both run next more a b
  ids_alike s t ids next more g a b = absurd g

limits_alike : (run : Run) (s t : Stage) (limits : Limits) (next more : Next) → AreStages s t → limits_at run s limits next → limits_at run t limits more → AreNext next more
limits_alike run Asks Asks limits next more g a b = both next (fetching run run.newer run.changes limits) more (fetching run run.newer run.changes limits) a b (refl, tt)
limits_alike run Opens Opens limits next more g a b = stop_both run next more a b
limits_alike run (Pages p) (Pages q) limits next more g a b = stop_both run next more a b
limits_alike run (Lists l) (Lists k) limits next more g a b = stop_both run next more a b
limits_alike run (Uploads u) (Uploads v) limits next more g a b = stop_both run next more a b
limits_alike run s t limits next more g a b = absurd g

-- ---- each answer

pub follows_alike : (d e : DeviceView) (run : Run) (s t : Stage) (answer : Answer) (next more : Next) → AreDevices d e → AreStages s t → Follows d run s answer next → Follows e run t answer more → AreNext next more
unfolding Follows
follows_alike d e run s t (Configured limits) next more devices g a b = limits_alike run s t limits next more g a b
follows_alike d e run s t (Paged rows offset time) next more devices g a b = page_alike d e run devices s t rows offset time next more g a b
follows_alike d e run s t (Listed ids) next more devices g a b = ids_alike d e run devices s t ids next more g a b
follows_alike d e run s t (Held batch) next more devices g a b = held_alike run s t batch next more g a b
follows_alike d e run s t (Written stamp) next more devices g a b = written_alike run s t stamp next more g a b
follows_alike d e run s t (Failed status id) next more devices g a b = both next (Stop (fault.Refused status (Some id))) more (Stop (fault.Refused status (Some id))) a b tt
follows_alike d e run s t (Changed time) next more devices g a b = both next (again run time) more (again run time) a b (again_alike run time)
follows_alike d e run s t (Refused status) next more devices g a b = both next (Stop (fault.Refused status None)) more (Stop (fault.Refused status None)) a b tt
follows_alike d e run s t Unread next more devices g a b = stop_both run next more a b
