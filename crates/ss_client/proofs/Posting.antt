-- The parts of an upload.
use Rattle.std.proofs.Common.{◌≡◌, ℕ, ◌+◌, ◌<◌, ◌≤◌, List, [], ◌∷◌, length, drop, true, Option, Some, None, MatchOption}
use Rattle.std.proofs.Common.{length-drop, refl, sym, ap, ◌∙◌, subst, arith}
use Rattle.std.proofs.lemmas.List.{drop-drop, drop_all}
use Rattle.ss_record.specs.declared.readings.Sheet.{Sheet}
use Rattle.ss_tree.specs.declared.entries.Entry.{Entry}
use Rattle.ss_bso.specs.declared.parts.Part.{Part}
use Rattle.ss_record.specs.declared.readings.Reading.{Reading}
use Rattle.ss_tree.specs.Entries.{tree}
use Rattle.ss_build.specs.Rows.{readings, rows_of}
use Rattle.ss_build.specs.Stand.{HasItsRows}
use Rattle.ss_plan.specs.Written.{AreRowsAfter}
use Rattle.ss_plan.specs.Plan.{plan}
use Rattle.ss_plan.specs.Refusals.{refusal}
use Rattle.ss_plan.specs.declared.limits.PlanFault.{PlanFault}
use Rattle.ss_device.specs.Device.{DeviceView, dead_ids}
use Rattle.ss_sync.specs.Joined.{IsJoinedTree}
use Rattle.ss_client.specs.declared.summaries.SyncFault.TheVariants as fault
use Rattle.ss_client.specs.declared.runs.Run.{Run}
use Rattle.ss_client.specs.Leaves.{UploadView}
use Rattle.ss_client.specs.Runs.{rest_of}
use Rattle.ss_client.specs.Asking.{awaited_of}
use Rattle.ss_client.specs.Told.{is_of}
use Rattle.ss_hearing.specs.declared.answer.Answer.TheVariants.{Held, Written}
use Rattle.ss_hearing.specs.declared.answer.Awaited.TheVariants as awaited
use Rattle.ss_client.specs.Machine.{Next, Stop, Finishes, unread, Begins, Holds, Writes, Ends, uploads, posting}
use Rattle.ss_sync.specs.Posts.{IsNext}

pub rest-is : (u : UploadView) → rest_of u ≡ drop (u.sent + u.count) u.parts
rest-is u = drop-drop u.count u.sent u.parts

-- nothing is left
pub rest-none : (u : UploadView) → length u.parts ≤ u.sent + u.count → rest_of u ≡ []
rest-none u h = rest-is u ∙ drop_all (u.sent + u.count) u.parts h

holds_none : (run : Run) (u : UploadView) (batch : ℕ) (rest : List Part) (next : Next) → rest ≡ [] → next ≡ unread run → Holds run u batch rest next
holds_none run u batch rest next e n = subst (λ r. Holds run u batch r next) (sym e) n

pub holds_end : (run : Run) (u : UploadView) (batch : ℕ) (next : Next) → u.sent + u.count ≡ length u.parts → next ≡ unread run → Holds run u batch (rest_of u) next
holds_end run u batch next e n = holds_none run u batch (rest_of u) next (rest-none u (omega arith)) n

holds_some : (run : Run) (u : UploadView) (batch n : ℕ) (rest : List Part) (next : Next) → 0 < length rest → IsNext run.limits rest n
    → next ≡ posting run (uploads u.time u.rows u.merged u.parts (Some batch) (u.sent + u.count) n) → Holds run u batch rest next
holds_some run u batch n [] next some i e = absurd (omega arith)
holds_some run u batch n (p ∷ rest) next some i e = (n, i, e)

pub holds_more : (run : Run) (u : UploadView) (batch n : ℕ) (next : Next) → 0 < length (drop (u.sent + u.count) u.parts) → IsNext run.limits (drop (u.sent + u.count) u.parts) n
    → next ≡ posting run (uploads u.time u.rows u.merged u.parts (Some batch) (u.sent + u.count) n) → Holds run u batch (rest_of u) next
holds_more run u batch n next some i e = subst (λ r. Holds run u batch r next) (sym (rest-is u)) (holds_some run u batch n (drop (u.sent + u.count) u.parts) next some i e)

pub writes_end : (run : Run) (u : UploadView) (stamp : ℕ) (next : Next) → length u.parts ≤ u.sent + u.count → Ends run u.rows u.merged u.parts stamp next → Writes run u stamp (rest_of u) next
writes_end run u stamp next h e = subst (λ r. Writes run u stamp r next) (sym (rest-none u h)) e

writes_some : (run : Run) (u : UploadView) (stamp : ℕ) (rest : List Part) (next : Next) → 0 < length rest → next ≡ unread run → Writes run u stamp rest next
writes_some run u stamp [] next some e = absurd (omega arith)
writes_some run u stamp (p ∷ rest) next some e = e

pub writes_early : (run : Run) (u : UploadView) (stamp : ℕ) (next : Next) → u.sent + u.count < length u.parts → next ≡ unread run → Writes run u stamp (rest_of u) next
writes_early run u stamp next h e = writes_some run u stamp (rest_of u) next (subst (λ r. 0 < length r) (sym (rest-is u)) (omega (arith, length-drop (u.sent + u.count) u.parts))) e

staging : (rest : List Part) → 0 < length rest → awaited_of rest ≡ awaited.Staging
staging [] some = absurd (omega arith)
staging (p ∷ rest) some = refl

-- a POST behind which parts are left is to be in the batch, and the last one is to be written
pub held_awaited : (u : UploadView) (batch : ℕ) → u.sent + u.count < length u.parts → is_of (awaited_of (rest_of u)) (Held batch) ≡ true
held_awaited u batch h = ap (λ kind. is_of kind (Held batch)) (staging (rest_of u) (subst (λ r. 0 < length r) (sym (rest-is u)) (omega (arith, length-drop (u.sent + u.count) u.parts))))

pub written_awaited : (u : UploadView) (stamp : ℕ) → length u.parts ≤ u.sent + u.count → is_of (awaited_of (rest_of u)) (Written stamp) ≡ true
written_awaited u stamp h = ap (λ rest. is_of (awaited_of rest) (Written stamp)) (rest-none u h)

-- a plan that has parts
pub begins_some : (run : Run) (time : ℕ) (rows : List Sheet) (merged : List Entry) (parts : List Part) (n : ℕ) (next : Next) → 0 < length parts → IsNext run.limits parts n
    → next ≡ posting run (uploads time rows merged parts None 0 n) → Begins run time rows merged parts next
begins_some run time rows merged [] n next some i e = absurd (omega arith)
begins_some run time rows merged (p ∷ parts) n next some i e = (n, i, e)

pub begins_none : (run : Run) (time : ℕ) (rows : List Sheet) (merged : List Entry) (parts : List Part) (next : Next) → parts ≡ [] → Ends run rows merged parts time next → Begins run time rows merged parts next
begins_none run time rows merged [] next e h = h
begins_none run time rows merged (p ∷ parts) next e h = absurd (cons e)
  where
    cons : p ∷ parts ≡ [] → ⊥
    cons q = cc

-- ---- the end of a fetch

plans_ok : (o : Option PlanFault) (A : Type 0) (B : PlanFault → Type 0) → o ≡ None → A → MatchOption o A B
plans_ok o A B e a = subst (λ p. MatchOption p A B) (sym e) a

pub finishes : (d : DeviceView) (run : Run) (time : ℕ) (rows slice vec mirror : List Sheet) (local : List Entry) (dead : List (List ℕ)) (merged : List Entry) (read : List (List ℕ × Reading)) (given parts : List Part) (next : Next)
    → slice ≡ rows → vec ≡ rows → mirror ≡ d.mirror → local ≡ d.tree → dead ≡ dead_ids d.dead → IsJoinedTree mirror local dead slice merged → read ≡ readings (rows_of slice) → given ≡ parts → parts ≡ plan merged read
    → refusal run.limits (plan merged read) ≡ None → ((sheets after : List Sheet) (stamp : ℕ) → readings (rows_of sheets) ≡ read → AreRowsAfter sheets parts stamp after → HasItsRows (tree merged) (rows_of after))
    → Begins run time vec merged given next → Finishes d run time rows next
finishes d run time rows slice vec mirror local dead merged read given parts next sl ve mi lo de j re gi pl none st b =
    let whole : plan merged read ≡ plan merged (readings (rows_of rows)) = ap (plan merged) (re ∙ ap (λ s. readings (rows_of s)) sl) in
    record {
      merged = merged;
      joined = subst (λ s. IsJoinedTree d.mirror d.tree (dead_ids d.dead) s merged) sl
          (subst (λ x. IsJoinedTree d.mirror d.tree x slice merged) de (subst (λ l. IsJoinedTree d.mirror l dead slice merged) lo (subst (λ m. IsJoinedTree m local dead slice merged) mi j)));
      planned = plans_ok (refusal run.limits (plan merged (readings (rows_of rows)))) (Begins run time rows merged (plan merged (readings (rows_of rows))) next) (λ f. next ≡ Stop (fault.Plan f))
          (ap (refusal run.limits) (sym whole) ∙ none) (subst (λ p. Begins run time rows merged p next) (gi ∙ (pl ∙ whole)) (subst (λ v. Begins run time v merged given next) ve b));
      standing = λ _ after stamp w. st rows after stamp (sym (re ∙ ap (λ s. readings (rows_of s)) sl)) (subst (λ ps. AreRowsAfter rows ps stamp after) (sym (pl ∙ whole)) w);
    }
