-- What calls say of a text from a place on: a slice of it, up to its end.
use Rattle.std.proofs.Common.{◌≡◌, ℕ, ◌+◌, ◌-◌, ◌<◌, ◌≤◌, List, [], ◌∷◌, ◌++◌, length, take, drop, Option, Some, IfSome}
use Rattle.std.proofs.Common.{IfNone, refl, sym, subst, arith, length-drop}
use Rattle.std.proofs.lemmas.List.{take_rest}
use Rattle.ss_bso.specs.declared.account.Plain.{Plain}
use Rattle.ss_bso.specs.declared.changes.Kept.{Kept}
use Rattle.ss_laws.specs.Journal.{Journal}
use Rattle.ss_laws.specs.declared.journal.Entry.{Entry}
use Rattle.ss_dump.specs.declared.faults.LineFault.{LineFault}
use Rattle.ss_dump.specs.declared.faults.LineFault.TheVariants as line
use Rattle.ss_dump.specs.Fronts as dump
use Rattle.ss_dump.proofs.AtFront as opening
use Rattle.ss_dump.proofs.Undumped.{absent, present}
use Rattle.ss_log_lines.specs.LogLines.{IsLogFront}
use Rattle.ss_log_lines.specs.declared.lines.LogLine.TheVariants.{Log}
use Rattle.ss_logs.specs.declared.calls.Next.{Next}
use Rattle.ss_logs.specs.declared.calls.Next.TheVariants as next
use Rattle.ss_logs.specs.declared.calls.NextFront.{NextFront}
use Rattle.ss_logs.specs.declared.faults.LogFault.{LogFault}
use Rattle.ss_logs.specs.declared.faults.LogFault.TheVariants.{BadLine}
use Rattle.ss_logs.specs.Fronts.{AreCalls, AreReadCalls, AreReadTo, IsBadCall, IsBadFront, IsCallsFault, IsFrontFault}
use Rattle.ss_logs.specs.Fronts.{IsFrontLog, NoneBehind, next_line}
use Rattle.ss_logs.specs.Logs.{IsBadLine, account_at}
use Rattle.ss_logs.proofs.InParts.{all_calls, bad_behind, bad_call, bad_few, bad_opening, front_few, front_some}
use Rattle.ss_logs.proofs.InParts.{log_front, one_call, over_calls}
use Rattle.ss_logs.proofs.ToTheEnd.{one_read, read_few, refused}

-- a text from a place on
abbrev from : List ℕ → ℕ → List ℕ
from text k = take (length text - k) (drop k text)

-- ---- entries

pub none_at : (text : List ℕ) (es : List Entry) (used n : ℕ) (o : Option NextFront) → AreReadCalls text es used → n ≡ length es → ((f : NextFront) → o ≡ Some f → ⊥) → IfNone o (NoneBehind (from text used))
    → IsBadCall text (n + 1)
none_at text es used n o h e none i =
    subst (λ m. IsBadCall text (m + 1)) (sym e) (bad_call text es used h (subst NoneBehind (take_rest text used) (absent (NoneBehind (from text used)) o none i)))

pub over_at : (text : List ℕ) (es : List Entry) (used n : ℕ) → AreReadCalls text es used → n ≡ length es → length text ≤ used → IsBadCall text (n + 1)
over_at text es used n h e le = subst (λ m. IsBadCall text (m + 1)) (sym e) (bad_call text es used h (over_calls text used le))

next_at : (text : List ℕ) (used : ℕ) (o : Option NextFront) (f : NextFront) (n : Next) → o ≡ Some f → f.next ≡ n → IfSome o (λ f. IsLogFront (from text used) (next_line f.next) f.used)
    → IsLogFront (drop used text) (next_line n) f.used
next_at text used o f n e is h =
    let front = present (λ f. IsLogFront (from text used) (next_line f.next) f.used) o f e h in
    subst (λ t. IsLogFront t (next_line n) f.used) (take_rest text used) (subst (λ m. IsLogFront (from text used) (next_line m) f.used) is front)

pub call_at : (text : List ℕ) (es more : List Entry) (entry : Entry) (used : ℕ) (o : Option NextFront) (f : NextFront) → AreReadCalls text es used → o ≡ Some f → f.next ≡ next.Call entry
    → IfSome o (λ f. IsLogFront (from text used) (next_line f.next) f.used) → more ≡ es ++ entry ∷ [] → AreReadCalls text more (used + f.used)
call_at text es more entry used o f h e is i m =
    subst (λ es. AreReadCalls text es (used + f.used)) (sym m) (one_call text es entry used f.used h (next_at text used o f (next.Call entry) e is i))

pub end_at : (text : List ℕ) (es : List Entry) (used : ℕ) (o : Option NextFront) (f : NextFront) → AreReadCalls text es used → o ≡ Some f → f.next ≡ next.End
    → IfSome o (λ f. IsLogFront (from text used) (next_line f.next) f.used) → AreCalls text es (used + f.used)
end_at text es used o f h e is i = all_calls text es used f.used h (next_at text used o f next.End e is i)

-- ---- behind the line with which a log begins

pub opening_bad : (text : List ℕ) (moment most k n : ℕ) (fault : LineFault) → IsLogFront text (Log moment most) k → fault ≡ line.BadLine n → dump.IsFrontFault (from text k) fault → IsBadFront text (n + 1)
opening_bad text moment most k n fault f e h =
    bad_opening text moment most k n f (subst (λ t. dump.IsBadFront t n) (take_rest text k) (subst (dump.IsFrontFault (from text k)) e h))

pub opening_bad_few : (text : List ℕ) (k n : ℕ) (fault : LineFault) → fault ≡ line.BadLine n → dump.IsFrontFault (from text k) fault → n ≤ length text + 1
opening_bad_few text k n fault e h =
    let few : n ≤ length (drop k text) + 1 = opening.bad_few (drop k text) n (subst (λ t. dump.IsBadFront t n) (take_rest text k) (subst (dump.IsFrontFault (from text k)) e h)) in
    let long : length (drop k text) ≡ length text - k = length-drop k text in
    omega arith

-- an opening has no more lines than the text has bytes
pub opening_few : (text : List ℕ) (k used lines : ℕ) (kept : Kept) → dump.IsDumpFront (from text k) kept used lines → lines ≤ length text
opening_few text k used lines kept d =
    let front = subst (λ t. dump.IsDumpFront t kept used lines) (take_rest text k) d in
    let few : lines ≤ used = opening.front_few (drop k text) kept used lines front in
    let inside : used ≤ length (drop k text) = front.inside in
    let long : length (drop k text) ≡ length text - k = length-drop k text in
    omega arith

pub calls_bad : (text : List ℕ) (moment most k used lines n : ℕ) (kept : Kept) (fault : LogFault) → IsLogFront text (Log moment most) k → dump.IsDumpFront (from text k) kept used lines
    → fault ≡ BadLine n → IsCallsFault (from text (k + used)) fault → IsBadFront text (lines + 1 + n)
calls_bad text moment most k used lines n kept fault f d e h =
    bad_behind text moment most k used lines n kept f (subst (λ t. dump.IsDumpFront t kept used lines) (take_rest text k) d)
    (subst (λ t. IsBadCall t n) (take_rest text (k + used)) (subst (IsCallsFault (from text (k + used))) e h))

pub calls_bad_few : (text : List ℕ) (moment most k used lines n : ℕ) (kept : Kept) (fault : LogFault) → IsLogFront text (Log moment most) k → dump.IsDumpFront (from text k) kept used lines
    → fault ≡ BadLine n → IsCallsFault (from text (k + used)) fault → lines + 1 + n ≤ length text + 1
calls_bad_few text moment most k used lines n kept fault f d e h = bad_few text (lines + 1 + n) (calls_bad text moment most k used lines n kept fault f d e h)

pub front_at : (text : List ℕ) (moment most k used lines calls n : ℕ) (kept : Kept) (opening : Plain) (es : List Entry) → IsLogFront text (Log moment most) k → dump.IsDumpFront (from text k) kept used lines
    → AreCalls (from text (k + used)) es calls → n ≡ length es → opening ≡ account_at moment kept
    → IsFrontLog text (record { opening = opening; most = most; entries = es }) (k + used + calls) (lines + n + 2)
front_at text moment most k used lines calls n kept opening es f d h e o =
    subst (λ a. IsFrontLog text (record { opening = a; most = most; entries = es }) (k + used + calls) (lines + n + 2)) (sym o)
    (subst (λ m. IsFrontLog text (record { opening = account_at moment kept; most = most; entries = es }) (k + used + calls) (lines + m + 2)) (sym e)
    (log_front text moment most k used lines calls kept es f (subst (λ t. dump.IsDumpFront t kept used lines) (take_rest text k) d)
    (subst (λ t. AreCalls t es calls) (take_rest text (k + used)) h)))

-- so a log has no more lines than the text has bytes
pub front_at_few : (text : List ℕ) (moment most k used lines calls n : ℕ) (kept : Kept) (es : List Entry) → IsLogFront text (Log moment most) k → dump.IsDumpFront (from text k) kept used lines
    → AreCalls (from text (k + used)) es calls → n ≡ length es → lines + n + 2 ≤ length text
front_at_few text moment most k used lines calls n kept es f d h e =
    let front = front_at text moment most k used lines calls n kept (account_at moment kept) es f d h e refl in
    let few : lines + n + 2 ≤ k + used + calls = front_few text _ (k + used + calls) (lines + n + 2) front in
    let inside : k + used + calls ≤ length text = front.inside in
    omega arith

-- ---- logs

pub read_at : (text : List ℕ) (logs more : List Journal) (log : Journal) (used lines k n : ℕ) → AreReadTo text logs used lines → IsFrontLog (from text used) log k n → more ≡ logs ++ log ∷ []
    → AreReadTo text more (used + k) (lines + n)
read_at text logs more log used lines k n h f m =
    subst (λ logs. AreReadTo text logs (used + k) (lines + n)) (sym m) (one_read text logs log used lines k n h (subst (λ t. IsFrontLog t log k n) (take_rest text used) f))

-- so far there are no more lines than the text has bytes
pub lines_at : (text : List ℕ) (logs : List Journal) (log : Journal) (used lines k n : ℕ) → AreReadTo text logs used lines → IsFrontLog (from text used) log k n → lines + n ≤ length text
lines_at text logs log used lines k n h f =
    let r = one_read text logs log used lines k n h (subst (λ t. IsFrontLog t log k n) (take_rest text used) f) in
    let few : lines + n ≤ used + k = read_few text _ (used + k) (lines + n) r in
    let inside : used + k ≤ length text = r.inside in
    omega arith

pub more_at : (text : List ℕ) (log : Journal) (used k n : ℕ) → IsFrontLog (from text used) log k n → used < used + k
more_at text log used k n f = let some : 0 < k = front_some (from text used) log k n f in omega arith

pub refused_at : (text : List ℕ) (logs : List Journal) (used lines n : ℕ) (fault : LogFault) → AreReadTo text logs used lines → used < length text → fault ≡ BadLine n → IsFrontFault (from text used) fault
    → IsBadLine text (lines + n)
refused_at text logs used lines n fault h lt e b =
    refused text logs used lines n h lt (subst (λ t. IsBadFront t n) (take_rest text used) (subst (IsFrontFault (from text used)) e b))

pub refused_few : (text : List ℕ) (logs : List Journal) (used lines n : ℕ) (fault : LogFault) → AreReadTo text logs used lines → fault ≡ BadLine n → IsFrontFault (from text used) fault
    → lines + n ≤ length text + 1
refused_few text logs used lines n fault h e b =
    let few : n ≤ length (drop used text) + 1 = bad_few (drop used text) n (subst (λ t. IsBadFront t n) (take_rest text used) (subst (IsFrontFault (from text used)) e b)) in
    let long : length (drop used text) ≡ length text - used = length-drop used text in
    let before : lines ≤ used = read_few text logs used lines h in
    let inside : used ≤ length text = h.inside in
    omega arith
