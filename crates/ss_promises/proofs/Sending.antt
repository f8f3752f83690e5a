-- A run's requests are within what a server reads, from the first one on.
use Rattle.std.proofs.Common.{◌≡◌, ◌⊎◌, ℕ, ◌+◌, ◌<◌, ◌≤◌, List, [], ◌∷◌, ◌++◌, length, take, drop, Bool, true, false}
use Rattle.std.proofs.Common.{cond, ◌&&◌, nat_lt, nat_le, Option, Some, None, option_map, find, MatchOption, unwrap_or}
use Rattle.std.proofs.Common.{slice_index, append_assoc, codes, refl, sym, ap, ◌∙◌, subst, inl, inr, arith}
use Rattle.std.specs.Prelude.{IfSome}
use Rattle.std.specs.Bool.{MatchBool}
use Rattle.std.specs.List.{All}
use Rattle.std.proofs.lemmas.Bool.{and_parts, leb-true, ltb-false}
use Rattle.std.proofs.lemmas.List.Elements.{All-cons, All-drop}
use Rattle.serde_json.specs.Data.{string}
use Rattle.serde_json.specs.Written.{compact_text}
use Rattle.ss_http.specs.Limits.{most_body_bytes}
use Rattle.ss_record.specs.declared.readings.Sheet.{Sheet}
use Rattle.ss_tree.specs.declared.entries.Entry.{Entry}
use Rattle.ss_build.specs.Rows.{readings, rows_of}
use Rattle.ss_bso.specs.declared.parts.Field.{Field}
use Rattle.ss_bso.specs.declared.parts.Field.TheVariants.{Keep, Clear, Set}
use Rattle.ss_bso.specs.declared.parts.Part.{Part}
use Rattle.ss_plan.specs.declared.limits.Limits.{Limits}
use Rattle.ss_plan.specs.declared.limits.PlanFault.{PlanFault}
use Rattle.ss_plan.specs.Plan.{plan}
use Rattle.ss_plan.specs.Refusals.{body_bytes, first_over, lone_body, or_else, payload_bytes}
use Rattle.ss_plan.specs.Refusals.{refusal}
use Rattle.ss_bso.specs.Put.{payload_set}
use Rattle.ss_plan.proofs.Bodies.{body_text}
use Rattle.ss_route.specs.Sending.{upload_text, uploads_text}
use Rattle.ss_route.specs.Texts.{json_text, list_text}
use Rattle.ss_device.specs.Device.{DeviceView}
use Rattle.ss_sync.specs.Posts.{IsNext, fits}
use Rattle.ss_sync.specs.Fetched.{are_known, kept}
use Rattle.ss_hearing.specs.declared.answer.Answer.{Answer}
use Rattle.ss_hearing.specs.declared.answer.Answer.TheVariants.{Configured, Paged, Listed, Held, Written, Failed}
use Rattle.ss_hearing.specs.declared.answer.Answer.TheVariants.{Changed, Refused, Unread}
use Rattle.ss_client.specs.declared.summaries.SyncFault.TheVariants as fault
use Rattle.ss_client.specs.declared.runs.Run.{Run}
use Rattle.ss_client.specs.declared.runs.Stage.{Stage}
use Rattle.ss_client.specs.declared.runs.Stage.TheVariants.{Asks, Opens, Pages, Lists, Uploads}
use Rattle.ss_client.specs.Asking.{asked, mode_of}
use Rattle.ss_client.specs.Leaves.{UploadView}
use Rattle.ss_client.specs.Runs.{MachineView, rest_of}
use Rattle.ss_client.specs.Machine.{Next, Stop, onward, posting, fetching, unread, again, falls_back, uploads, is_bad}
use Rattle.ss_client.specs.Machine.{Ends, Begins, Finishes, Holds, Writes, LastPage, PageIn, PageOn, OpensWith}
use Rattle.ss_client.specs.Machine.{ListsAll, limits_at, page_at, ids_at, held_at, written_at, Follows}
use Rattle.ss_client.proofs.Posting.{rest-is}
use Rattle.ss_route.specs.Sending.{IsReadable, IsReadableBatch}
use Rattle.ss_promises.specs.Readable.{GoesReadably, IsNumber, IsOneBody, IsReadableNext, IsReadableRun}
use Rattle.ss_promises.specs.Readable.{IsReadableUpload, TellsReadable}

abbrev IsRoom : Limits → Type 0
IsRoom limits = limits.max_request_bytes ≤ most_body_bytes

abbrev IsLone : Part → Type 0
IsLone part = IsOneBody (part ∷ [])

abbrev IsOffset : Option ℕ → Type 0
IsOffset offset = IfSome offset (λ k. k ≤ 999999999)

-- ---- bodies

glued : (i p : List ℕ) → codes "[" ++ (codes "{\"id\":" ++ i ++ codes ",\"payload\":" ++ p ++ codes "}") ++ codes "]" ≡ codes "[{\"id\":" ++ (i ++ (codes ",\"payload\":" ++ (p ++ codes "}]")))
glued i p = simp append_assoc

-- a part alone makes the body that the plan measures
lone_is : (part : Part) → uploads_text (part ∷ []) ≡ lone_body part
unfolding lone_body list_text upload_text json_text
lone_is part =
    glued (compact_text (string part.id)) (compact_text (string (payload_set part.fields.payload)))
    ∙ body_text part.id (payload_set part.fields.payload)

none_over : (most : ℕ) (parts : List Part) → most ≤ most_body_bytes → find (λ p. nat_lt most (body_bytes p)) parts ≡ None → All IsLone parts
none_over most [] room e = λ k d h. absurd (omega arith)
none_over most (p ∷ parts) room e = go (nat_lt most (body_bytes p)) refl e (none_over most parts room)
  where
    go : (b : Bool) → nat_lt most (body_bytes p) ≡ b → cond b (Some p) (find (λ q. nat_lt most (body_bytes q)) parts) ≡ None
        → (find (λ q. nat_lt most (body_bytes q)) parts ≡ None → All IsLone parts) → All IsLone (p ∷ parts)
    go true q n ih = cc
    go false q n ih =
        let low : body_bytes p ≤ most = ltb-false most (body_bytes p) q in
        All-cons IsLone p parts (subst (λ (l : List ℕ). length l ≤ most_body_bytes) (sym (lone_is p)) (omega (arith, low, room))) (ih n)

-- the first of two that isn't there, and the second
neither : (o : Option Part) (f : Part → PlanFault) (rest : Option PlanFault) → or_else (option_map f o) rest ≡ None → (o ≡ None) × (rest ≡ None)
neither None f rest e = (refl, e)
neither (Some p) f rest e = cc

not_refused : (limits : Limits) (parts : List Part) → IsRoom limits → refusal limits parts ≡ None → All IsLone parts
unfolding refusal
not_refused limits parts room e =
    let first = neither (first_over payload_bytes limits.max_record_payload_bytes parts) _ _ e in
    let second = neither (first_over body_bytes limits.max_request_bytes parts) _ _ first.1 in
    none_over limits.max_request_bytes parts room second.0

next_body : (limits : Limits) (parts : List Part) (n : ℕ) → IsRoom limits → All IsLone parts → IsNext limits parts n → IsOneBody (take n parts)
unfolding fits
next_body limits [] n room lone i = let some : 0 < n = i.some in let there : n ≤ 0 = i.there in absurd (omega arith)
next_body limits (p ∷ parts) n room lone i = go i.within
  where
    go : (n ≡ 1) ⊎ (fits limits (take n (p ∷ parts)) ≡ true) → IsOneBody (take n (p ∷ parts))
    go (inl e) = subst IsOneBody (sym (ap (λ k. take k (p ∷ parts)) e)) (lone 0 p (omega arith))
    go (inr e) =
        let h = and_parts (nat_le (length (take n (p ∷ parts))) limits.max_post_records) _ e in
        let g = and_parts (nat_le _ limits.max_post_bytes) (nat_le (length (uploads_text (take n (p ∷ parts)))) limits.max_request_bytes) h.1 in
        omega (arith, leb-true _ _ g.1, room)

-- ---- a run

-- what is told to be a readable next is one
at : (next told : Next) → next ≡ told → IsReadableNext told → IsReadableNext next
at next told e s = subst IsReadableNext (sym e) s

unread_readable : (run : Run) (next : Next) → next ≡ unread run → IsReadableNext next
unread_readable run next e = at next (unread run) e tt

opens_readable : (run : Run) (newer : Bool) (changes : List ℕ) (limits : Limits) (next : Next) → IsRoom limits → next ≡ fetching run newer changes limits → IsReadableNext next
opens_readable run newer changes limits next ours e = at next (fetching run newer changes limits) e (ours, tt)

again_readable : (run : Run) (time : ℕ) (next : Next) → IsRoom run.limits → next ≡ again run time → IsReadableNext next
again_readable run time next ours e = at next (again run time) e (by (nat_lt (length run.changes) 3))
  where
    by : (b : Bool) → IsReadableNext (cond b (fetching run run.newer (run.changes ++ time ∷ []) run.limits) (Stop (fault.Changing (slice_index run.changes 0) (slice_index run.changes 1) (slice_index run.changes 2) time)))
    by true = (ours, tt)
    by false = tt

ends_readable : (run : Run) (rows : List Sheet) (merged : List Entry) (parts : List Part) (stamp : ℕ) (next : Next) → Ends run rows merged parts stamp next → IsReadableNext next
ends_readable run rows merged parts stamp next e = at next _ e.done tt

begins_readable : (run : Run) (time : ℕ) (rows : List Sheet) (merged : List Entry) (parts : List Part) (next : Next) → IsRoom run.limits → All IsLone parts → Begins run time rows merged parts next → IsReadableNext next
begins_readable run time rows merged [] next room lone b = ends_readable run rows merged [] time next b
begins_readable run time rows merged (p ∷ ps) next room lone b =
    at next (posting run (uploads time rows merged (p ∷ ps) None 0 b.0)) b.2 (room, record { number = tt; lone = lone; post = next_body run.limits (p ∷ ps) b.0 room lone b.1 })

finishes_readable : (d : DeviceView) (run : Run) (time : ℕ) (rows : List Sheet) (next : Next) → IsRoom run.limits → Finishes d run time rows next → IsReadableNext next
finishes_readable d run time rows next room f = go (refusal run.limits (plan f.merged (readings (rows_of rows)))) refl f.planned
  where
    go : (o : Option PlanFault) → refusal run.limits (plan f.merged (readings (rows_of rows))) ≡ o
        → MatchOption o (Begins run time rows f.merged (plan f.merged (readings (rows_of rows))) next) (λ g. next ≡ Stop (fault.Plan g)) → IsReadableNext next
    go None e b = begins_readable run time rows f.merged (plan f.merged (readings (rows_of rows))) next room (not_refused run.limits (plan f.merged (readings (rows_of rows))) room e) b
    go (Some g) e b = at next _ b tt

holds_readable : (run : Run) (u : UploadView) (batch : ℕ) (rest : List Part) (next : Next) → IsRoom run.limits → IsReadableUpload u → (1 ≤ batch) × (batch ≤ 999999999999) → rest_of u ≡ rest → Holds run u batch rest next
    → IsReadableNext next
holds_readable run u batch [] next room c number e h = unread_readable run next h
holds_readable run u batch (p ∷ ps) next room c number e h =
    let left : drop (u.sent + u.count) u.parts ≡ p ∷ ps = sym (rest-is u) ∙ e in
    let lone = subst (λ l. All IsLone l) left (All-drop IsLone (u.sent + u.count) u.parts c.lone) in
    at next (posting run (uploads u.time u.rows u.merged u.parts (Some batch) (u.sent + u.count) h.0)) h.2 (
      room,
      record {
        number = number;
        lone = c.lone;
        post = subst (λ l. IsOneBody (take h.0 l)) (sym left) (next_body run.limits (p ∷ ps) h.0 room lone h.1);
      },
    )

writes_readable : (run : Run) (u : UploadView) (stamp : ℕ) (rest : List Part) (next : Next) → Writes run u stamp rest next → IsReadableNext next
writes_readable run u stamp [] next w = ends_readable run u.rows u.merged u.parts stamp next w
writes_readable run u stamp (p ∷ ps) next w = unread_readable run next w

last_readable : (d : DeviceView) (run : Run) (time : ℕ) (rows : List Sheet) (next : Next) → IsRoom run.limits → LastPage d run time rows next → IsReadableNext next
last_readable d run time rows next ours l = go run.newer l
  where
    go : (b : Bool) → MatchBool b (next ≡ onward run (Lists (record { time = time; rows = rows }))) (Finishes d run time rows next) → IsReadableNext next
    go true e = at next (onward run (Lists (record { time = time; rows = rows }))) e (ours, tt)
    go false f = finishes_readable d run time rows next ours f

in_readable : (d : DeviceView) (run : Run) (time pages : ℕ) (rows : List Sheet) (offset : Option ℕ) (next : Next) → IsRoom run.limits → IsOffset offset → PageIn d run time pages rows offset next → IsReadableNext next
in_readable d run time pages rows None next ours short l = last_readable d run time rows next ours l
in_readable d run time pages rows (Some k) next ours short e = at next (onward run (Pages (record { time = time; offset = k; pages = pages; rows = rows }))) e (ours, short)

page_readable : (d : DeviceView) (run : Run) (time pages : ℕ) (before rows : List Sheet) (offset : Option ℕ) (next : Next) → IsRoom run.limits → IsOffset offset → PageOn d run time pages before rows offset next → IsReadableNext next
page_readable d run time pages before rows offset next ours short p = go (is_bad pages (before ++ rows) offset) p
  where
    go : (b : Bool) → MatchBool b (next ≡ unread run) (PageIn d run time pages (before ++ rows) offset next) → IsReadableNext next
    go true e = unread_readable run next e
    go false i = in_readable d run time pages (before ++ rows) offset next ours short i

open_readable : (d : DeviceView) (run : Run) (time : ℕ) (rows : List Sheet) (offset : Option ℕ) (next : Next) → IsRoom run.limits → IsOffset offset → OpensWith d run time rows offset next → IsReadableNext next
open_readable d run time rows offset next ours short o = go (run.newer && nat_lt time d.stamp) o
  where
    by : (b : Bool) → IsReadableNext (cond b (unread run) (falls_back run))
    by true = tt
    by false = (ours, tt)

    go : (b : Bool) → MatchBool b (next ≡ cond (is_bad 1 rows offset) (unread run) (falls_back run)) (PageOn d run time 1 [] rows offset next) → IsReadableNext next
    go true e = at next _ e (by (is_bad 1 rows offset))
    go false p = page_readable d run time 1 [] rows offset next ours short p

list_readable : (d : DeviceView) (run : Run) (time : ℕ) (rows : List Sheet) (ids : List (List ℕ)) (next : Next) → IsRoom run.limits → ListsAll d run time rows ids next → IsReadableNext next
list_readable d run time rows ids next ours l = go (are_known rows d.mirror ids) l
  where
    go : (b : Bool) → MatchBool b (Finishes d run time (rows ++ kept rows ids d.mirror) next) (next ≡ falls_back run) → IsReadableNext next
    go true f = finishes_readable d run time (rows ++ kept rows ids d.mirror) next ours f
    go false e = opens_readable run false run.changes run.limits next ours e

limits_readable : (run : Run) (stage : Stage) (limits : Limits) (next : Next) → IsRoom limits → limits_at run stage limits next → IsReadableNext next
limits_readable run Asks limits next ours e = opens_readable run run.newer run.changes limits next ours e
limits_readable run Opens limits next ours e = unread_readable run next e
limits_readable run (Pages p) limits next ours e = unread_readable run next e
limits_readable run (Lists l) limits next ours e = unread_readable run next e
limits_readable run (Uploads u) limits next ours e = unread_readable run next e

paged_readable : (d : DeviceView) (run : Run) (stage : Stage) (rows : List Sheet) (offset : Option ℕ) (time : ℕ) (next : Next) → IsRoom run.limits → IsOffset offset → page_at d run stage rows offset time next → IsReadableNext next
paged_readable d run Asks rows offset time next ours short e = unread_readable run next e
paged_readable d run Opens rows offset time next ours short o = open_readable d run time rows offset next ours short o
paged_readable d run (Pages p) rows offset time next ours short q = page_readable d run p.time (p.pages + 1) p.rows rows offset next ours short q
paged_readable d run (Lists l) rows offset time next ours short e = unread_readable run next e
paged_readable d run (Uploads u) rows offset time next ours short e = unread_readable run next e

listed_readable : (d : DeviceView) (run : Run) (stage : Stage) (ids : List (List ℕ)) (next : Next) → IsRoom run.limits → ids_at d run stage ids next → IsReadableNext next
listed_readable d run Asks ids next ours e = unread_readable run next e
listed_readable d run Opens ids next ours e = unread_readable run next e
listed_readable d run (Pages p) ids next ours e = unread_readable run next e
listed_readable d run (Lists l) ids next ours a = list_readable d run l.time l.rows ids next ours a
listed_readable d run (Uploads u) ids next ours e = unread_readable run next e

held_readable : (run : Run) (stage : Stage) (batch : ℕ) (next : Next) → IsRoom run.limits → GoesReadably stage → (1 ≤ batch) × (batch ≤ 999999999999) → held_at run stage batch next → IsReadableNext next
held_readable run Asks batch next ours c number e = unread_readable run next e
held_readable run Opens batch next ours c number e = unread_readable run next e
held_readable run (Pages p) batch next ours c number e = unread_readable run next e
held_readable run (Lists l) batch next ours c number e = unread_readable run next e
held_readable run (Uploads u) batch next ours c number h = holds_readable run u (unwrap_or u.batch batch) (rest_of u) next ours c (own u.batch c.number) refl h
  where
    own : (o : Option ℕ) → IsNumber o → (1 ≤ unwrap_or o batch) × (unwrap_or o batch ≤ 999999999999)
    own None n = number
    own (Some b) n = n

written_readable : (run : Run) (stage : Stage) (stamp : ℕ) (next : Next) → written_at run stage stamp next → IsReadableNext next
written_readable run Asks stamp next e = unread_readable run next e
written_readable run Opens stamp next e = unread_readable run next e
written_readable run (Pages p) stamp next e = unread_readable run next e
written_readable run (Lists l) stamp next e = unread_readable run next e
written_readable run (Uploads u) stamp next w = writes_readable run u stamp (rest_of u) next w

pub follows_readable : (d : DeviceView) (run : Run) (stage : Stage) (answer : Answer) (next : Next) → IsReadableRun run stage → TellsReadable answer → Follows d run stage answer next → IsReadableNext next
unfolding Follows
follows_readable d run stage (Configured limits) next s t f = limits_readable run stage limits next t f
follows_readable d run stage (Paged rows offset time) next s t f = paged_readable d run stage rows offset time next s.0 t f
follows_readable d run stage (Listed ids) next s t f = listed_readable d run stage ids next s.0 f
follows_readable d run stage (Held batch) next s t f = held_readable run stage batch next s.0 s.1 t f
follows_readable d run stage (Written stamp) next s t f = written_readable run stage stamp next f
follows_readable d run stage (Failed status id) next s t f = at next _ f tt
follows_readable d run stage (Changed time) next s t f = again_readable run time next s.0 f
follows_readable d run stage (Refused status) next s t f = at next _ f tt
follows_readable d run stage Unread next s t f = unread_readable run next f

-- ---- what is asked

mode_readable : (o : Option ℕ) (rest : List Part) → IsNumber o → IsReadableBatch (mode_of o rest)
mode_readable None [] n = tt
mode_readable None (p ∷ rest) n = tt
mode_readable (Some batch) [] n = n
mode_readable (Some batch) (p ∷ rest) n = n

pub asked_readable : (m : MachineView) (stage : Stage) → GoesReadably stage → IsReadable (asked m stage)
unfolding asked
asked_readable m Asks g = tt
asked_readable m Opens g = omega arith
asked_readable m (Pages p) g = g
asked_readable m (Lists l) g = omega arith
asked_readable m (Uploads u) g = (mode_readable u.batch (rest_of u) g.number, g.post)
