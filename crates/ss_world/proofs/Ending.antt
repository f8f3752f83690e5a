-- A machine that gets the awaited status each time ends.
use Rattle.std.proofs.Common.{◌≡◌, ◌⊎◌, ℕ, zero, suc, ◌+◌, ◌-◌, ◌<◌, ◌≤◌, List, [], ◌∷◌, ◌++◌, length, drop, Option}
use Rattle.std.proofs.Common.{Some, None, MatchOption, unwrap_or, is_some, Bool, true, false, cond, not, nat_lt, nat_le}
use Rattle.std.proofs.Common.{◌||◌, ◌&&◌, sym, refl, ap, ◌∙◌, subst, inl, inr, arith}
use Rattle.std.specs.Bool.{MatchBool}
use Rattle.std.proofs.lemmas.Bool.{false≢true}
use Rattle.std.proofs.lemmas.Bool.Decides.{nat_tests}
use Rattle.std.proofs.lemmas.List.{drop-drop, length-drop}
use Rattle.ss_record.specs.declared.readings.Sheet.{Sheet}
use Rattle.ss_tree.specs.declared.entries.Entry.{Entry}
use Rattle.ss_build.specs.Rows.{readings, rows_of}
use Rattle.ss_bso.specs.declared.parts.Part.{Part}
use Rattle.ss_plan.specs.Plan.{plan}
use Rattle.ss_plan.specs.Refusals.{refusal}
use Rattle.ss_plan.specs.declared.limits.PlanFault.{PlanFault}
use Rattle.ss_sync.specs.Rows.{ids_of}
use Rattle.ss_sync.specs.Fetched.{are_apart, are_known, kept}
use Rattle.ss_hearing.specs.declared.answer.Answer.{Answer}
use Rattle.ss_hearing.specs.declared.answer.Answer.TheVariants.{Configured, Paged, Listed, Held, Written, Failed}
use Rattle.ss_hearing.specs.declared.answer.Answer.TheVariants.{Changed, Refused, Unread}
use Rattle.ss_device.specs.Device.{DeviceView}
use Rattle.ss_client.specs.declared.summaries.SyncFault.{SyncFault}
use Rattle.ss_client.specs.declared.summaries.SyncFault.TheVariants as fault
use Rattle.ss_client.specs.declared.runs.Run.{Run}
use Rattle.ss_client.specs.declared.runs.Stage.{Stage}
use Rattle.ss_client.specs.declared.runs.Stage.TheVariants.{Asks, Opens, Pages, Lists, Uploads}
use Rattle.ss_client.specs.Leaves.{UploadView}
use Rattle.ss_client.specs.Runs.{MachineView, rest_of}
use Rattle.ss_client.specs.Machine.{Next, Send, Done, Stop, onward, unread, falls_back, is_bad, Ends, Begins, Finishes}
use Rattle.ss_client.specs.Machine.{Holds, Writes, LastPage, PageIn, PageOn, OpensWith, ListsAll, page_at, ids_at}
use Rattle.ss_client.specs.Machine.{held_at, written_at, limits_at, Follows}
use Rattle.ss_world.specs.Worlds.{WorldView}
use Rattle.ss_world.specs.Promises.{EndsWell, IsUnderstood}
use Rattle.ss_world.specs.Ending.{GoesOnForEver, IsAwaitedAnswer, IsDoneOrPlanned, IsOfTheReply, Rank, fetch_part}
use Rattle.ss_world.specs.Ending.{post_part}
use Rattle.ss_world.specs.Ending.{rank, IsLower, ComesBelow}

near : (y : Rank) (next it : Next) → next ≡ it → ComesBelow y it → ComesBelow y next
near y next it e n = subst (ComesBelow y) (sym e) n

fetch_low : (v : Bool) → 3 ≤ fetch_part v
fetch_low true = omega arith
fetch_low false = omega arith

fetch_high : (v : Bool) → fetch_part v ≤ 5
fetch_high true = omega arith
fetch_high false = omega arith

module _ (d : DeviceView) (run : Run) where
  unread-near : (y : Rank) (next : Next) → next ≡ unread run → ComesBelow y next
  unread-near y next e = near y next (unread run) e tt

  ends-near : (y : Rank) (rows : List Sheet) (merged : List Entry) (parts : List Part) (stamp : ℕ) (next : Next) → Ends run rows merged parts stamp next → ComesBelow y next
  ends-near y rows merged parts stamp next e = near y next _ e.done tt

  begins-near : (y : Rank) → 2 < y.part → (time : ℕ) (rows : List Sheet) (merged : List Entry) (parts : List Part) (next : Next) → Begins run time rows merged parts next → ComesBelow y next
  begins-near y h time rows merged [] next e = ends-near y rows merged [] time next e
  begins-near y h time rows merged (p ∷ ps) next e = near y next _ e.2 (inl h)

  finishes-near : (y : Rank) → 2 < y.part → (time : ℕ) (rows : List Sheet) (next : Next) → Finishes d run time rows next → ComesBelow y next
  finishes-near y h time rows next f = go (refusal run.limits (plan f.merged (readings (rows_of rows)))) f.planned
    where
      go : (o : Option PlanFault) → MatchOption o (Begins run time rows f.merged (plan f.merged (readings (rows_of rows))) next) (λ g. next ≡ Stop (fault.Plan g)) → ComesBelow y next
      go None e = begins-near y h time rows f.merged (plan f.merged (readings (rows_of rows))) next e
      go (Some g) e = near y next (Stop (fault.Plan g)) e tt

  back-near : (y : Rank) → 3 < y.part → (next : Next) → next ≡ falls_back run → ComesBelow y next
  back-near y h next e = near y next (falls_back run) e (inl h)

  last-near : (left time : ℕ) (rows : List Sheet) (next : Next) → LastPage d run time rows next → ComesBelow (record { part = fetch_part run.newer; left = left }) next
  last-near left time rows next e = go run.newer refl e
    where
      go : (v : Bool) → run.newer ≡ v → MatchBool v (next ≡ onward run (Lists (record { time = time; rows = rows }))) (Finishes d run time rows next) → ComesBelow (record { part = fetch_part run.newer; left = left }) next
      go true q h = near (record { part = fetch_part run.newer; left = left }) next (onward run (Lists (record { time = time; rows = rows }))) h (inl (subst (λ v. 4 < fetch_part v) (sym q) (omega arith)))
      go false q h = finishes-near (record { part = fetch_part run.newer; left = left }) (let low = fetch_low run.newer in omega arith) time rows next h

  in-near : (left time pages : ℕ) (rows : List Sheet) (offset : Option ℕ) (next : Next) → ((is_some offset && nat_le 1000 pages) ≡ false) → (1000 - pages < left) ⊎ (1000 ≤ pages) → PageIn d run time pages rows offset next → ComesBelow (record { part = fetch_part run.newer; left = left }) next
  in-near left time pages rows None next good h e = last-near left time rows next e
  in-near left time pages rows (Some k) next good h e = near (record { part = fetch_part run.newer; left = left }) next _ e (elim h [
    | inl low ↦ inr (refl, low)
    | inr high ↦ absurd (false≢true (sym good ∙ at_most high))
  ])
    where
      at_most : 1000 ≤ pages → nat_le 1000 pages ≡ true
      at_most le = grind (arith, nat_tests)

  on-near : (left time pages : ℕ) (before rows : List Sheet) (offset : Option ℕ) (next : Next) → (1000 - pages < left) ⊎ (1000 ≤ pages) → PageOn d run time pages before rows offset next → ComesBelow (record { part = fetch_part run.newer; left = left }) next
  on-near left time pages before rows offset next h e = go (is_bad pages (before ++ rows) offset) refl e
    where
      right : (p q : Bool) → (p || q) ≡ false → q ≡ false
      right true q k = absurd (false≢true (sym k))
      right false q k = k

      go : (v : Bool) → is_bad pages (before ++ rows) offset ≡ v → MatchBool v (next ≡ unread run) (PageIn d run time pages (before ++ rows) offset next) → ComesBelow (record { part = fetch_part run.newer; left = left }) next
      go true q e = unread-near (record { part = fetch_part run.newer; left = left }) next e
      go false q e = in-near left time pages (before ++ rows) offset next (right (not (are_apart (ids_of (before ++ rows)))) (is_some offset && nat_le 1000 pages) q) h e

  opens-near : (time : ℕ) (rows : List Sheet) (offset : Option ℕ) (next : Next) → OpensWith d run time rows offset next → ComesBelow (record { part = fetch_part run.newer; left = 2000 }) next
  opens-near time rows offset next e = go run.newer refl (nat_lt time d.stamp) e
    where
      by : (v : Bool) → run.newer ≡ true → next ≡ cond v (unread run) (falls_back run) → ComesBelow (record { part = fetch_part run.newer; left = 2000 }) next
      by true q h = unread-near (record { part = fetch_part run.newer; left = 2000 }) next h
      by false q h = back-near (record { part = fetch_part run.newer; left = 2000 }) (subst (λ v. 3 < fetch_part v) (sym q) (omega arith)) next h

      go : (v : Bool) → run.newer ≡ v → (late : Bool) → MatchBool (v && late) (next ≡ cond (is_bad 1 rows offset) (unread run) (falls_back run)) (PageOn d run time 1 [] rows offset next) → ComesBelow (record { part = fetch_part run.newer; left = 2000 }) next
      go true q true h = by (is_bad 1 rows offset) q h
      go true q false h = on-near 2000 time 1 [] rows offset next (inl (omega arith)) h
      go false q late h = on-near 2000 time 1 [] rows offset next (inl (omega arith)) h

  lists-near : (time : ℕ) (rows : List Sheet) (ids : List (List ℕ)) (next : Next) → ListsAll d run time rows ids next → ComesBelow (record { part = 4; left = 0 }) next
  lists-near time rows ids next e = go (are_known rows d.mirror ids) e
    where
      go : (v : Bool) → MatchBool v (Finishes d run time (rows ++ kept rows ids d.mirror) next) (next ≡ falls_back run) → ComesBelow (record { part = 4; left = 0 }) next
      go true h = finishes-near (record { part = 4; left = 0 }) (omega arith) time (rows ++ kept rows ids d.mirror) next h
      go false h = back-near (record { part = 4; left = 0 }) (omega arith) next h

  -- the next POST of a batch has fewer behind it
  holds-near : (u : UploadView) (batch : ℕ) (rest : List Part) (next : Next) → rest_of u ≡ rest → Holds run u batch rest next → ComesBelow (rank run.newer (Uploads u)) next
  holds-near u batch [] next left e = unread-near (rank run.newer (Uploads u)) next e
  holds-near u batch (p ∷ ps) next left e =
      let is : rest_of u ≡ drop (u.sent + u.count) u.parts = drop-drop u.count u.sent u.parts in
      let long : length (rest_of u) ≡ length (drop (u.sent + u.count) u.parts) = ap length is in
      let some : 0 < e.0 = e.1.some in
      let here : length (rest_of u) ≡ length (p ∷ ps) = ap length left in
      let fewer : length (drop e.0 (drop (u.sent + u.count) u.parts)) < length (rest_of u) = omega (arith, length-drop e.0 (drop (u.sent + u.count) u.parts), long, some, here) in
      near (rank run.newer (Uploads u)) next _ e.2 (by u.batch fewer)
    where
      by : (o : Option ℕ) → length (drop e.0 (drop (u.sent + u.count) u.parts)) < length (rest_of u) → IsLower (record { part = 1; left = length (drop e.0 (drop (u.sent + u.count) u.parts)) }) (record { part = post_part o; left = length (rest_of u) })
      by None fewer = inl (omega arith)
      by (Some n) fewer = inr (refl, fewer)

  writes-near : (u : UploadView) (stamp : ℕ) (rest : List Part) (next : Next) → Writes run u stamp rest next → ComesBelow (rank run.newer (Uploads u)) next
  writes-near u stamp [] next e = ends-near (rank run.newer (Uploads u)) u.rows u.merged u.parts stamp next e
  writes-near u stamp (p ∷ ps) next e = unread-near (rank run.newer (Uploads u)) next e

  at-limits : (stage : Stage) (limits : _) (next : Next) → limits_at run stage limits next → ComesBelow (rank run.newer stage) next
  at-limits Asks limits next e = near (rank run.newer Asks) next _ e (inl (let high = fetch_high run.newer in omega arith))
  at-limits Opens limits next e = unread-near (rank run.newer Opens) next e
  at-limits (Pages p) limits next e = unread-near (rank run.newer (Pages p)) next e
  at-limits (Lists l) limits next e = unread-near (rank run.newer (Lists l)) next e
  at-limits (Uploads u) limits next e = unread-near (rank run.newer (Uploads u)) next e

  at-page : (stage : Stage) (rows : List Sheet) (offset : Option ℕ) (time : ℕ) (next : Next) → page_at d run stage rows offset time next → ComesBelow (rank run.newer stage) next
  at-page Asks rows offset time next e = unread-near (rank run.newer Asks) next e
  at-page Opens rows offset time next e = opens-near time rows offset next e
  at-page (Pages p) rows offset time next e = on-near (1000 - p.pages) p.time (p.pages + 1) p.rows rows offset next (elim (nat_lt p.pages 1000) as (λ v. nat_lt p.pages 1000 ≡ v → (1000 - (p.pages + 1) < 1000 - p.pages) ⊎ (1000 ≤ p.pages + 1)) [
    | true ↦ (λ q. inl (let low : p.pages < 1000 = grind (arith, nat_tests) in omega arith))
    | false ↦ (λ q. inr (let high : 1000 ≤ p.pages = grind (arith, nat_tests) in omega arith))
  ] refl) e
  at-page (Lists l) rows offset time next e = unread-near (rank run.newer (Lists l)) next e
  at-page (Uploads u) rows offset time next e = unread-near (rank run.newer (Uploads u)) next e

  at-ids : (stage : Stage) (ids : List (List ℕ)) (next : Next) → ids_at d run stage ids next → ComesBelow (rank run.newer stage) next
  at-ids Asks ids next e = unread-near (rank run.newer Asks) next e
  at-ids Opens ids next e = unread-near (rank run.newer Opens) next e
  at-ids (Pages p) ids next e = unread-near (rank run.newer (Pages p)) next e
  at-ids (Lists l) ids next e = lists-near l.time l.rows ids next e
  at-ids (Uploads u) ids next e = unread-near (rank run.newer (Uploads u)) next e

  at-held : (stage : Stage) (batch : ℕ) (next : Next) → held_at run stage batch next → ComesBelow (rank run.newer stage) next
  at-held Asks batch next e = unread-near (rank run.newer Asks) next e
  at-held Opens batch next e = unread-near (rank run.newer Opens) next e
  at-held (Pages p) batch next e = unread-near (rank run.newer (Pages p)) next e
  at-held (Lists l) batch next e = unread-near (rank run.newer (Lists l)) next e
  at-held (Uploads u) batch next e = holds-near u (unwrap_or u.batch batch) (rest_of u) next refl e

  at-written : (stage : Stage) (stamp : ℕ) (next : Next) → written_at run stage stamp next → ComesBelow (rank run.newer stage) next
  at-written Asks stamp next e = unread-near (rank run.newer Asks) next e
  at-written Opens stamp next e = unread-near (rank run.newer Opens) next e
  at-written (Pages p) stamp next e = unread-near (rank run.newer (Pages p)) next e
  at-written (Lists l) stamp next e = unread-near (rank run.newer (Lists l)) next e
  at-written (Uploads u) stamp next e = writes-near u stamp (rest_of u) next e

  -- each awaited answer ends the run, or leads nearer to its end
  pub nears : (stage : Stage) (answer : Answer) (next : Next) → IsAwaitedAnswer answer → Follows d run stage answer next → ComesBelow (rank run.newer stage) next
  unfolding Follows
  nears stage (Configured limits) next a e = at-limits stage limits next e
  nears stage (Paged rows offset time) next a e = at-page stage rows offset time next e
  nears stage (Listed ids) next a e = at-ids stage ids next e
  nears stage (Held batch) next a e = at-held stage batch next e
  nears stage (Written stamp) next a e = at-written stage stamp next e
  nears stage (Failed status id) next a e = near (rank run.newer stage) next _ e tt
  nears stage (Changed time) next a e = absurd a
  nears stage (Refused status) next a e = absurd a
  nears stage Unread next a e = unread-near (rank run.newer stage) next e

-- ---- no run goes on for ever

module _ (f : ℕ → Rank) (falls : (k : ℕ) → IsLower (f (k + 1)) (f k)) where
  -- none of its ranks is of this part with less than so much left, where none is of a part below
  within : (p : ℕ) → ((k : ℕ) → (f k).part < p → ⊥) → (l : ℕ) → (k : ℕ) → (f k).part < suc p → (f k).left < l → ⊥
  within p below zero k h low = omega (arith, low)
  within p below (suc l) k h low = elim (falls k) [
    | inl less ↦ below (k + 1) (omega (arith, h, less))
    | inr same ↦ within p below l (k + 1) (omega (arith, h, same.0)) (omega (arith, low, same.1))
  ]

  -- none of its ranks is of a part below this one
  above : (p : ℕ) → (k : ℕ) → (f k).part < p → ⊥
  above zero k h = omega (arith, h)
  above (suc p) k h = within p (above p) ((f k).left + 1) k h (omega arith)

  pub none_falls : ⊥
  none_falls = above ((f 0).part + 1) 0 (omega arith)

pub ends_once : (d : DeviceView) → GoesOnForEver d → ⊥
ends_once d g = none_falls (λ k. rank (g.run k).newer (g.stage k)) (λ k. nears d (g.run k) (g.stage k) (g.answer k) (Send (g.run (k + 1)) (g.stage (k + 1))) (g.awaited k) (g.follows k))

-- ---- in a world

stops_planned : (f : SyncFault) → IsOfTheReply f → IsUnderstood f → IsDoneOrPlanned (Stop f)
stops_planned (fault.Refused status None) a b = absurd a
stops_planned (fault.Refused status (Some id)) a b = absurd b
stops_planned (fault.Changing first second third fourth) a b = absurd a
stops_planned (fault.Plan f) a b = tt
stops_planned (fault.BadReply number) a b = absurd b
stops_planned fault.Memory a b = tt

pub planned : (w : WorldView) (m : MachineView) (y : Rank) (next : Next) (v : WorldView) → ComesBelow y next → EndsWell w m next v → IsDoneOrPlanned next
planned w m y (Send run stage) v h k = tt
planned w m y (Done device summary) v h k = tt
planned w m y (Stop f) v h k = stops_planned f h k
