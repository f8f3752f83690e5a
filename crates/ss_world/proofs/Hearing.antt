-- What a machine makes of an answer.
use Rattle.std.proofs.Common.{◌≡◌, ◌⊎◌, ℕ, ◌+◌, ◌*◌, ◌-◌, ◌<◌, ◌≤◌, List, [], ◌∷◌, ◌++◌, length, take, drop, Option}
use Rattle.std.proofs.Common.{Some, None, MatchOption, is_some, unwrap_or, Bool, true, false, cond, not, nat_lt, nat_le}
use Rattle.std.proofs.Common.{◌||◌, ◌&&◌, sym, refl, ap, ◌∙◌, subst, inl, inr, arith, append-nil}
use Rattle.std.specs.Prelude.{slice_index}
use Rattle.std.specs.Bool.{MatchBool}
use Rattle.std.specs.List.{All}
use Rattle.std.proofs.lemmas.Option.{none-some, same_Some}
use Rattle.std.proofs.lemmas.Bool.{false≢true}
use Rattle.std.proofs.lemmas.Bool.Decides.{nat_tests}
use Rattle.std.proofs.lemmas.List.{take-append-drop, drop-drop, drop-take, take-take, length-drop}
use Rattle.ss_record.specs.declared.readings.Sheet.{Sheet}
use Rattle.ss_record.specs.Ids.{Apart}
use Rattle.ss_tree.specs.declared.entries.Entry.{Entry}
use Rattle.ss_tree.specs.Entries.{tree}
use Rattle.ss_build.specs.Rows.{readings, rows_of}
use Rattle.ss_build.specs.Stand.{HasItsRows}
use Rattle.ss_bso.specs.declared.parts.Part.{Part}
use Rattle.ss_route.specs.Sending.{IsUpload}
use Rattle.ss_plan.specs.Plan.{plan}
use Rattle.ss_plan.specs.Refusals.{refusal}
use Rattle.ss_plan.specs.Written.{AreRowsAfter, sheet}
use Rattle.ss_plan.specs.declared.limits.PlanFault.{PlanFault}
use Rattle.ss_sync.specs.Rows.{ids_of}
use Rattle.ss_sync.specs.Fetched.{are_apart, are_known, kept}
use Rattle.ss_sync.specs.Joined.{IsJoinedTree}
use Rattle.ss_sync.proofs.Fetching.{apart-from}
use Rattle.ss_hearing.specs.declared.answer.Answer.{Answer}
use Rattle.ss_device.specs.Device.{DeviceView, IsDevice, AreById, dead_ids}
use Rattle.ss_device.proofs.Known.{by_id_apart, synced_device}
use Rattle.ss_client.specs.declared.summaries.SyncFault.TheVariants as fault
use Rattle.ss_client.specs.declared.runs.Listing.{Listing}
use Rattle.ss_client.specs.declared.runs.Stage.{Stage}
use Rattle.ss_client.specs.declared.runs.Stage.TheVariants.{Asks, Opens, Pages, Lists, Uploads}
use Rattle.ss_client.specs.Leaves.{UploadView, LeavesStanding}
use Rattle.ss_client.specs.Runs.{MachineView, sent_of, post_of, rest_of}
use Rattle.ss_client.specs.Machine.{Next, Send, Done, Stop, onward, posting, fetching, unread, again, falls_back}
use Rattle.ss_client.specs.Machine.{uploads, is_bad, Ends, Begins as BeginsPlan, Finishes, Holds, Writes as WritesPlan}
use Rattle.ss_client.specs.Machine.{LastPage, PageIn, PageOn, OpensWith, ListsAll, Follows}
use Rattle.ss_client.proofs.Sending.{plan_uploads}
use Rattle.ss_client.proofs.Leaving.{standing_known}
use Rattle.ss_serving.specs.Bookmarks.{ShownAccount}
use Rattle.ss_serving.specs.Serving.{IsPage, AreIdsOf, newer, Writes, Serves}
use Rattle.ss_serving.proofs.Putting.{nothing_written}
use Rattle.ss_world.specs.Worlds.{asks}
use Rattle.ss_world.specs.Promises.{AreAll, IsUnderstood, noted_at}
use Rattle.ss_world.proofs.Lists.{page_more, page_last}
use Rattle.ss_world.proofs.Looking.{apart-newer, apart-take, all-same, written-over, recalls}
use Rattle.ss_world.proofs.Fitting.{IsOwn, IsFresh, Fits, UploadFits, BatchFits, since_by, fresh_later, now}
use Rattle.ss_world.proofs.Fitting.{begins_later, appends_later, by_cases}
use Rattle.ss_text.proofs.Basics.{length-filter_le}

-- at what comes next
at : (P : Next → Type 0) (next it : Next) → next ≡ it → P it → P next
at P next it e p = subst P (sym e) p

-- all parts of an upload, in the order of its POSTs
all_parts : (u : UploadView) → sent_of u ++ (post_of u ++ rest_of u) ≡ u.parts
all_parts u = ap (λ l. take u.sent u.parts ++ l) (take-append-drop u.count (drop u.sent u.parts)) ∙ take-append-drop u.sent u.parts

-- where no more are left, the POST has the rest
pub last_parts : (u : UploadView) → rest_of u ≡ [] → sent_of u ++ post_of u ≡ u.parts
last_parts u e = ap (λ l. sent_of u ++ l) (sym (append-nil (post_of u)) ∙ ap (λ l. post_of u ++ l) (sym e)) ∙ all_parts u

pub none_sent : (u : UploadView) → u.sent ≡ 0 → sent_of u ≡ []
none_sent u e = ap (λ n. take n u.parts) e

good_offset : (pages offset len : ℕ) (next : Option ℕ) → offset ≡ 1000 * pages → len ≤ 200000 → ((k : ℕ) → next ≡ Some k → (k ≡ offset + 1000) × (k < len)) → (is_some next && nat_le 1000 (pages + 1)) ≡ false
good_offset pages offset len None e few h = refl
good_offset pages offset len (Some k) e few h =
    let it : k ≡ offset + 1000 = (h k refl).0 in let low : k < len = (h k refl).1 in let small : pages + 1 < 1000 = omega arith in grind (arith, nat_tests)

module _ (first : ℕ) (a b : ShownAccount) (m : MachineView) (valid : IsDevice m.device) (old : List Sheet) (before_apart : Apart (ids_of a.rows)) (rows_apart : Apart (ids_of b.rows)) (few : length b.rows ≤ 200000) (below : b.target ≤ b.store)
    (mirrored : m.run.newer ≡ true → (x : List ℕ) (s : Sheet) → sheet x b.rows ≡ Some s → s.modified ≤ m.device.stamp → sheet x m.device.mirror ≡ Some s) where
  abbrev d : DeviceView
  d = m.device

  -- a device after a sync that is done, where the account went from a to b
  pub record DoneWell (device : DeviceView) : Type 0 where
    pub fit : IsDevice device
    pub fetched : List Sheet
    pub all : AreAll fetched a.rows
    pub joined : IsJoinedTree m.device.mirror m.device.tree (dead_ids m.device.dead) fetched device.tree
    pub stands : HasItsRows (tree device.tree) (rows_of b.rows)
    pub stamp : device.stamp ≤ b.store
    pub mirror : (x : List ℕ) (s : Sheet) → sheet x b.rows ≡ Some s → s.modified ≤ device.stamp → sheet x device.mirror ≡ Some s

  -- what follows an answer to a machine in this stage
  abbrev pub Well : Stage → Next → Type 0
  Well stage (Send run it) = Fits first b (noted_at stage b.rows old) m.device run.newer it × (run.newer ≡ true → m.run.newer ≡ true) × ((n : ℕ) → IsOwn it n → IsOwn stage n ⊎ (a.counter < n))
  Well stage (Done device summary) = DoneWell device
  Well stage (Stop f) = IsUnderstood f

  -- a fetch begins anew
  again_well : (stage : Stage) (time : ℕ) (next : Next) → next ≡ again m.run time → Well stage next
  again_well stage time next e = at (Well stage) next (again m.run time) e (by (nat_lt (length m.run.changes) 3))
    where
      by : (v : Bool) → Well stage (cond v (fetching m.run m.run.newer (m.run.changes ++ time ∷ []) m.run.limits) (Stop (fault.Changing (slice_index m.run.changes 0) (slice_index m.run.changes 1) (slice_index m.run.changes 2) time)))
      by true = (tt, (λ q. q), (λ n q. absurd (none-some n q)))
      by false = tt

  back_well : (stage : Stage) (next : Next) → next ≡ falls_back m.run → Well stage next
  back_well stage next e = at (Well stage) next (falls_back m.run) e (tt, (λ q. absurd (false≢true q)), (λ n q. absurd (none-some n q)))

  -- ---- the end

  ends_well : (stage : Stage) (fetched : List Sheet) (merged : List Entry) (parts : List Part) (stamp : ℕ) (next : Next) → AreAll fetched a.rows → IsJoinedTree m.device.mirror m.device.tree (dead_ids m.device.dead) fetched merged
      → LeavesStanding fetched parts merged → AreRowsAfter a.rows parts stamp b.rows → stamp ≤ b.target → Ends m.run fetched merged parts stamp next → Well stage next
  unfolding AreById
  ends_well stage fetched merged parts stamp next all j standing w le e =
      let over : AreRowsAfter fetched parts stamp b.rows = written-over fetched a.rows parts stamp b.rows all w in
      at (Well stage) next _ e.done (record {
        fit = synced_device merged [] e.mirror stamp refl e.by_id (standing_known fetched parts merged j.valid standing e.mirror stamp e.written);
        fetched = fetched;
        all = all;
        joined = j;
        stands = standing b.rows stamp over;
        stamp = omega (arith, le, below);
        mirror = λ x s q low. e.written.each x ∙ (sym (over.each x) ∙ q);
      })

  -- ---- the upload

  begins_well : (stage : Stage) (time : ℕ) (fetched : List Sheet) (merged : List Entry) (parts : List Part) (next : Next) → AreAll fetched a.rows → b.rows ≡ a.rows → time ≤ b.target → IsJoinedTree m.device.mirror m.device.tree (dead_ids m.device.dead) fetched merged
      → LeavesStanding fetched parts merged → All IsUpload parts → BeginsPlan m.run time fetched merged parts next → Well stage next
  begins_well stage time fetched merged [] next all same le j standing ups g =
      ends_well stage fetched merged [] time next all j standing (subst (λ rows. AreRowsAfter rows [] time b.rows) same (nothing_written b.rows time rows_apart)) le g
  begins_well stage time fetched merged (p ∷ ps) next all same le j standing ups g = at (Well stage) next (posting m.run (uploads time fetched merged (p ∷ ps) None 0 g.0)) g.2 (
    record {
      fresh = (le, (λ q. subst (AreAll fetched) (sym same) all));
      joined = j;
      standing = standing;
      uploads = ups;
      within = (let h : g.0 ≤ length (p ∷ ps) = g.1.there in omega (arith, h));
      batch = refl;
    },
    (λ q. q),
    (λ n q. absurd (none-some n q)),
  )

  finishes_well : (stage : Stage) (time : ℕ) (fetched : List Sheet) (next : Next) → AreAll fetched a.rows → b.rows ≡ a.rows → time ≤ b.target → Finishes m.device m.run time fetched next → Well stage next
  finishes_well stage time fetched next all same le f = go (refusal m.run.limits parts) refl f.planned
    where
      parts : List Part
      parts = plan f.merged (readings (rows_of fetched))

      go : (o : Option PlanFault) → refusal m.run.limits (plan f.merged (readings (rows_of fetched))) ≡ o → MatchOption o (BeginsPlan m.run time fetched f.merged (plan f.merged (readings (rows_of fetched))) next) (λ g. next ≡ Stop (fault.Plan g)) → Well stage next
      go None e h = begins_well stage time fetched f.merged (plan f.merged (readings (rows_of fetched))) next all same le f.joined (f.standing e) (plan_uploads f.merged (readings (rows_of fetched))) h
      go (Some g) e h = at (Well stage) next (Stop (fault.Plan g)) h tt

  -- the POST is in its batch, and the next one follows
  holds_well : (u : UploadView) (batch : ℕ) (x : Part) (rest : List Part) (next : Next) → rest_of u ≡ x ∷ rest → IsFresh b u.time (AreAll u.rows) → UploadFits first a m.device u → batch ≤ b.counter → first < batch
      → ((ps : List Part) → b.staged batch ≡ Some ps → ps ≡ sent_of u ++ post_of u) → ((n : ℕ) → Some batch ≡ Some n → IsOwn (Uploads u) n ⊎ (a.counter < n)) → Holds m.run u batch (x ∷ rest) next → Well (Uploads u) next
  holds_well u batch x rest next left fresh f low late has own h =
      let it : drop u.count (drop u.sent u.parts) ≡ drop (u.sent + u.count) u.parts = drop-drop u.count u.sent u.parts in
      let there : h.0 ≤ length (x ∷ rest) = h.1.there in
      let long : length (x ∷ rest) ≡ length u.parts - (u.sent + u.count) = ap length (sym left ∙ it) ∙ length-drop (u.sent + u.count) u.parts in
      at (Well (Uploads u)) next (posting m.run (uploads u.time u.rows u.merged u.parts (Some batch) (u.sent + u.count) h.0)) h.2 (
        record {
          fresh = fresh;
          joined = f.joined;
          standing = f.standing;
          uploads = f.uploads;
          within = (let w : u.sent + u.count ≤ length u.parts = f.within in omega (arith, there, long, w));
          batch = (low, late, (λ ps e. has ps e ∙ sent_more u));
        },
        (λ q. q),
        own,
      )
    where
      sent_more : (v : UploadView) → sent_of v ++ post_of v ≡ take (v.sent + v.count) v.parts
      sent_more v = let e = drop-take v.sent v.count v.parts in let f = take-append-drop v.sent (take (v.sent + v.count) v.parts) in let g = take_take v.sent (v.sent + v.count) v.parts (omega arith) in cc
        where
          take_take : (i j : ℕ) (l : List Part) → i ≤ j → take i (take j l) ≡ take i l
          take_take i j l le = take-take i j l le

  -- the last POST is written
  last_well : (u : UploadView) (parts : List Part) (stamp : ℕ) (next : Next) → rest_of u ≡ [] → parts ≡ u.parts → UploadFits first a m.device u → a.target ≤ u.time → Writes parts a b stamp → WritesPlan m.run u stamp (rest_of u) next → Well (Uploads u) next
  last_well u parts stamp next left whole f le w h =
      ends_well (Uploads u) u.rows u.merged u.parts stamp next (now (AreAll u.rows) a u.time le f.fresh) f.joined f.standing (subst (λ ps. AreRowsAfter a.rows ps stamp b.rows) whole w.rows) (let e = w.same in omega arith)
      (subst (λ r. WritesPlan m.run u stamp r next) left h)

  -- ---- the fetch

  module _ (same : b.rows ≡ a.rows) where
    abbrev picked : List Sheet
    picked = newer (since_by m.device m.run.newer) b.rows

    few_picked : (o : Option ℕ) → length (newer o b.rows) ≤ length b.rows
    few_picked None = omega arith
    few_picked (Some t) = length-filter_le (λ row. nat_lt t row.modified) b.rows

    page_fits : (stage : Stage) (time : ℕ) (fetched : List Sheet) (next : Next) → fetched ≡ newer (since_by m.device m.run.newer) b.rows → time ≤ b.target → noted_at stage b.rows old ≡ b.rows → LastPage m.device m.run time fetched next → Well stage next
    page_fits stage time fetched next e le note l = go m.run.newer refl l
      where
        go : (v : Bool) → m.run.newer ≡ v → MatchBool v (next ≡ onward m.run (Lists (record { time = time; rows = fetched }))) (Finishes m.device m.run time fetched next) → Well stage next
        go true q h = at (Well stage) next (onward m.run (Lists (record { time = time; rows = fetched }))) h (((le, (λ r. (e ∙ ap (λ n. newer (since_by m.device n) b.rows) q, note))), q), (λ r. r), (λ n r. absurd (none-some n r)))
        go false q h = finishes_well stage time fetched next (all-same fetched a.rows before_apart (e ∙ (ap (λ n. newer (since_by m.device n) b.rows) q ∙ same))) same le h

    in_well : (stage : Stage) (time offset pages : ℕ) (before page : List Sheet) (at_next : Option ℕ) (next : Next) → time ≡ b.target → offset ≡ 1000 * pages → before ≡ take offset (newer (since_by m.device m.run.newer) b.rows)
        → IsPage (newer (since_by m.device m.run.newer) b.rows) offset page at_next → noted_at stage b.rows old ≡ b.rows → PageIn m.device m.run time (pages + 1) (before ++ page) at_next next → Well stage next
    in_well stage time offset pages before page None next e it was g note h =
        let all : before ++ page ≡ newer (since_by m.device m.run.newer) b.rows =
        ap (λ xs. xs ++ page) was ∙ (ap (λ xs. take offset (newer (since_by m.device m.run.newer) b.rows) ++ xs) g.has ∙ page_last (newer (since_by m.device m.run.newer) b.rows) offset (g.last refl)) in
        page_fits stage time (before ++ page) next all (omega arith) note h
    in_well stage time offset pages before page (Some k) next e it was g note h =
        let there : k ≡ offset + 1000 = (g.more k refl).0 in
        let all : before ++ page ≡ take (offset + 1000) (newer (since_by m.device m.run.newer) b.rows) =
        ap (λ xs. xs ++ page) was ∙ (ap (λ xs. take offset (newer (since_by m.device m.run.newer) b.rows) ++ xs) g.has ∙ page_more (newer (since_by m.device m.run.newer) b.rows) offset) in
        at (Well stage) next (onward m.run (Pages (record { time = time; offset = k; pages = pages + 1; rows = before ++ page }))) h
        (((omega arith, (λ q. (all ∙ ap (λ n. take n (newer (since_by m.device m.run.newer) b.rows)) (sym there), note))), omega arith), (λ q. q), (λ n q. absurd (none-some n q)))

    -- no id stands twice, and the thousandth page names no further one
    fine : (offset pages : ℕ) (before page : List Sheet) (at_next : Option ℕ) → offset ≡ 1000 * pages → before ≡ take offset (newer (since_by m.device m.run.newer) b.rows) → IsPage (newer (since_by m.device m.run.newer) b.rows) offset page at_next
        → is_bad (pages + 1) (before ++ page) at_next ≡ false
    fine offset pages before page at_next it was g =
        let is : before ++ page ≡ take (offset + 1000) (newer (since_by m.device m.run.newer) b.rows) =
        ap (λ xs. xs ++ page) was ∙ (ap (λ xs. take offset (newer (since_by m.device m.run.newer) b.rows) ++ xs) g.has ∙ page_more (newer (since_by m.device m.run.newer) b.rows) offset) in
        let once : are_apart (ids_of (before ++ page)) ≡ true =
        apart-from (ids_of (before ++ page)) (subst (λ l. Apart (ids_of l)) (sym is) (apart-take (offset + 1000) (newer (since_by m.device m.run.newer) b.rows) (apart-newer (since_by m.device m.run.newer) b.rows rows_apart))) in
        ap (λ v. not v || (is_some at_next && nat_le 1000 (pages + 1))) once
        ∙ good_offset pages offset (length (newer (since_by m.device m.run.newer) b.rows)) at_next it (omega (arith, few_picked (since_by m.device m.run.newer), few)) g.more

    on_well : (stage : Stage) (time offset pages : ℕ) (before page : List Sheet) (at_next : Option ℕ) (next : Next) → time ≡ b.target → offset ≡ 1000 * pages → before ≡ take offset (newer (since_by m.device m.run.newer) b.rows)
        → IsPage (newer (since_by m.device m.run.newer) b.rows) offset page at_next → noted_at stage b.rows old ≡ b.rows → PageOn m.device m.run time (pages + 1) before page at_next next → Well stage next
    on_well stage time offset pages before page at_next next e it was g note h =
        in_well stage time offset pages before page at_next next e it was g note
        (subst (λ v. MatchBool v (next ≡ unread m.run) (PageIn m.device m.run time (pages + 1) (before ++ page) at_next next)) (fine offset pages before page at_next it was g) h)

    opens_well : (time : ℕ) (page : List Sheet) (at_next : Option ℕ) (next : Next) → time ≡ b.target → IsPage (newer (since_by m.device m.run.newer) b.rows) 0 page at_next → OpensWith m.device m.run time page at_next next → Well Opens next
    opens_well time page at_next next e g h = go (m.run.newer && nat_lt time m.device.stamp) h
      where
        go : (v : Bool) → MatchBool v (next ≡ cond (is_bad 1 page at_next) (unread m.run) (falls_back m.run)) (PageOn m.device m.run time 1 [] page at_next next) → Well Opens next
        go true q = back_well Opens next (q ∙ ap (λ v. cond v (unread m.run) (falls_back m.run)) (fine 0 0 [] page at_next refl refl g))
        go false q = on_well Opens time 0 0 [] page at_next next e refl refl g refl q

    listed_well : (l : Listing) (ids : List (List ℕ)) (next : Next) → m.run.newer ≡ true → l.time ≡ b.target → l.rows ≡ newer (Some m.device.stamp) b.rows → AreIdsOf b.rows ids → ListsAll m.device m.run l.time l.rows ids next → Well (Lists l) next
    listed_well l ids next on e is are h = go (are_known l.rows m.device.mirror ids) h
      where
        all : AreAll (l.rows ++ kept l.rows ids m.device.mirror) a.rows
        all = subst (AreAll (l.rows ++ kept l.rows ids m.device.mirror)) same (recalls b.rows l.rows m.device.mirror ids m.device.stamp rows_apart (by_id_apart (ids_of m.device.mirror) valid.mirror_by_id) is are (mirrored on))

        go : (v : Bool) → MatchBool v (Finishes m.device m.run l.time (l.rows ++ kept l.rows ids m.device.mirror) next) (next ≡ falls_back m.run) → Well (Lists l) next
        go true q = finishes_well (Lists l) l.time (l.rows ++ kept l.rows ids m.device.mirror) next all same (omega arith) q
        go false q = back_well (Lists l) next q

  -- ---- every answer

  abbrev Hears : Stage → Answer → Type 0
  Hears stage answer = (next : Next) → Fits first a old m.device m.run.newer stage → Follows m.device m.run stage answer next → Well stage next

  pub hears_well : first ≤ a.counter → (stage : Stage) (answer : Answer) → Serves a (asks m stage) b answer → Hears stage answer
  unfolding Follows
  hears_well since = by_cases a b m Hears (record {
    refused = λ stage s q next f h. at (Well stage) next (Stop (fault.Refused s None)) h tt;
    changed = λ stage t q next f h. again_well stage t next h;
    configured = λ limits q next f h. at (Well Asks) next (fetching m.run m.run.newer m.run.changes limits) h (tt, (λ r. r), (λ n r. absurd (none-some n r)));
    opened = λ rows at_next time q e g next f h. opens_well q.rows time rows at_next next e g h;
    paged = λ p rows at_next time q le g next f h.
        let low : p.time ≤ a.target = f.0.0 in let up : a.target ≤ b.target = q.target in let is : p.time ≡ b.target = omega arith in let was : p.time ≡ a.target = omega arith in
        on_well q.rows (Pages p) p.time p.offset p.pages p.rows rows at_next next is f.1 ((f.0.1 was).0 ∙ ap (λ xs. take p.offset (newer (since_by m.device m.run.newer) xs)) (sym q.rows)) g ((f.0.1 was).1 ∙ sym q.rows) h;
    listed = λ l ids q le g next f h.
        let low : l.time ≤ a.target = f.0.0 in let up : a.target ≤ b.target = q.target in let is : l.time ≡ b.target = omega arith in let was : l.time ≡ a.target = omega arith in
        listed_well q.rows l ids next f.1 is ((f.0.1 was).0 ∙ ap (newer (Some m.device.stamp)) (sym q.rows)) g h;
    begun = λ u x rest n i j le g next f h.
        let none : u.sent ≡ 0 = subst (BatchFits first a u) i f.batch in
        let up : a.counter < n = g.number in
        holds_well u n x rest next j (fresh_later (AreAll u.rows) a b u.time (begins_later (post_of u) a b n g) f.fresh) f g.counter (omega arith)
        (λ ps e. g.begun ps e ∙ ap (λ l. l ++ post_of u) (sym (none_sent u none))) (λ k q. inr (subst (λ z. a.counter < z) (same_Some n k q) up))
        (subst (λ (o : Option ℕ). Holds m.run u (unwrap_or o n) (x ∷ rest) next) i (subst (λ r. Holds m.run u (unwrap_or u.batch n) r next) j h));
    written = λ u s i j le g next f h.
        let none : u.sent ≡ 0 = subst (BatchFits first a u) i f.batch in
        last_well u (post_of u) s next j (ap (λ l. l ++ post_of u) (sym (none_sent u none)) ∙ last_parts u j) f le g h;
    appended = λ u x rest n k i j le g next f h.
        let has : BatchFits first a u (Some n) = subst (BatchFits first a u) i f.batch in
        let low : n ≤ a.counter = has.0 in let up : a.counter ≤ b.counter = g.counter in
        holds_well u n x rest next j (fresh_later (AreAll u.rows) a b u.time (appends_later n (post_of u) a b g) f.fresh) f (omega arith) has.1
        (λ ps e. g.grown ps e ∙ ap (λ l. l ++ post_of u) (has.2 g.before g.was)) (λ z q. inl (i ∙ q))
        (subst (λ (o : Option ℕ). Holds m.run u (unwrap_or o k) (x ∷ rest) next) i (subst (λ r. Holds m.run u (unwrap_or u.batch k) r next) j h));
    committed = λ u n s i j le g next f h.
        let has : BatchFits first a u (Some n) = subst (BatchFits first a u) i f.batch in
        last_well u (g.before ++ post_of u) s next j (ap (λ l. l ++ post_of u) (has.2 g.before g.was) ∙ last_parts u j) f le g.wrote h;
  })
