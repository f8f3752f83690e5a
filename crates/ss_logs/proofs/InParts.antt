-- A log at the front of a text, from its parts, and where a text doesn't begin with one.
use Rattle.std.proofs.Common.{◌≡◌, ◌≢◌, ℕ, ◌+◌, ◌-◌, ◌<◌, ◌≤◌, ◌^◌, List, [], ◌∷◌, ◌++◌, length, map, take, drop}
use Rattle.std.proofs.Common.{append_assoc, append-nil, refl, sym, ap, ap₂, ◌∙◌, subst, arith, length-append}
use Rattle.std.proofs.Common.{length-drop}
use Rattle.std.specs.List.{AllByRecursion}
use Rattle.std.proofs.Math.ListN.{drop_of_length-le}
use Rattle.std.proofs.Math.Seq.{take-add}
use Rattle.std.proofs.lemmas.List.{length-map, length-take-le, map-append, map_push, take-append-drop}
use Rattle.ss_text.specs.Time.{last_stamp}
use Rattle.ss_bso.specs.declared.changes.Kept.{Kept}
use Rattle.ss_bso.specs.Changes.{kept_of}
use Rattle.ss_laws.specs.Journal.{Journal}
use Rattle.ss_laws.specs.declared.journal.Entry.{Entry}
use Rattle.ss_lines.specs.declared.lines.Line.{Line}
use Rattle.ss_lines.specs.declared.lines.Line.TheVariants.{End}
use Rattle.ss_dump.specs.Fronts as dump
use Rattle.ss_dump.specs.Telling.{kept_with_times}
use Rattle.ss_dump.proofs.AtFront.{dump_text_is, fresh_told}
use Rattle.ss_log_lines.specs.LogLines.{IsCall, IsLogFront, IsLogLine, NoLogLineBegins, log_line_text}
use Rattle.ss_log_lines.specs.declared.lines.LogLine.{LogLine}
use Rattle.ss_log_lines.specs.declared.lines.LogLine.TheVariants.{Log, Account, Call}
use Rattle.ss_log_lines.proofs.Fronts.{told_apart}
use Rattle.ss_logs.specs.declared.calls.Next.{Next}
use Rattle.ss_logs.specs.declared.calls.Next.TheVariants as next
use Rattle.ss_logs.specs.Fronts.{AreCalls, AreReadCalls, IsBadCall, IsBadFront, IsFrontLog, NoHead, NoneBehind}
use Rattle.ss_logs.specs.Fronts.{calls_of, next_line}
use Rattle.ss_logs.specs.Logs.{IsLog, account_at, call_lines, log_lines, log_text, text_of}
use Rattle.ss_logs.proofs.Apart.{calls_next, dump_goes_on, fork, openings_apart, same, longer, shorter, told_longer}
use Rattle.ss_logs.proofs.Apart.{told_same}
use Rattle.ss_logs.proofs.Lines.{all_append, all_back, lines_few, log_formed, log_text_is, no_front, same_text}
use Rattle.ss_logs.proofs.Lines.{text_append, text_one, told_text}

abbrev told : List Line → List LogLine
told ls = map (λ line. Account line) ls

-- a text after a line at its front
pub split : (text : List ℕ) (l : LogLine) (k : ℕ) → IsLogFront text l k → log_line_text l ++ drop k text ≡ text
split text l k h = ap (λ t. t ++ drop k text) (sym h.text_is) ∙ take-append-drop k text

-- ---- entries

-- a line that is neither an entry nor the end
pub other_line : (text : List ℕ) (l : LogLine) (k : ℕ) → IsLogFront text l k → ((n : Next) → l ≡ next_line n → ⊥) → NoneBehind text
other_line text l k h other n back form at =
    let r = told_apart (next_line n) l back (drop k text) form h.line (at ∙ sym (split text l k h)) in other n (sym r.0)

-- a line of an account, but not the end
pub other_account : (text : List ℕ) (l : Line) (k : ℕ) → IsLogFront text (Account l) k → l ≢ End → NoneBehind text
other_account text l k h other = other_line text (Account l) k h no
  where
    no : (n : Next) → Account l ≡ next_line n → ⊥
    no (next.Call entry) e = cc
    no next.End e = let same : l ≡ End = cc in other same

pub head_behind : (text : List ℕ) (moment most : ℕ) (k : ℕ) → IsLogFront text (Log moment most) k → NoneBehind text
head_behind text moment most k h = other_line text (Log moment most) k h no
  where
    no : (n : Next) → Log moment most ≡ next_line n → ⊥
    no (next.Call entry) e = cc
    no next.End e = cc

pub no_calls : (text : List ℕ) (es : List Entry) → es ≡ [] → AreReadCalls text es 0
no_calls text es none = subst (λ es. AreReadCalls text es 0) (sym none) (record { are = tt; inside = omega arith; text_is = refl })

pub one_call : (text : List ℕ) (es : List Entry) (e : Entry) (used k : ℕ) → AreReadCalls text es used → IsLogFront (drop used text) (Call e) k → AreReadCalls text (es ++ e ∷ []) (used + k)
one_call text es e used k h f = record {
  are = all_append IsCall es (e ∷ []) h.are (f.line, tt);
  inside = let d : length (drop used text) ≡ length text - used = length-drop used text in let i : k ≤ length (drop used text) = f.inside in let u : used ≤ length text = h.inside in omega arith;
  text_is = take-add used k text
      ∙ (ap₂ (λ a b. a ++ b) h.text_is f.text_is ∙ (sym (text_one (calls_of es) (Call e)) ∙ ap text_of (sym (map_push (λ x. Call x) es e))));
}

pub all_calls : (text : List ℕ) (es : List Entry) (used k : ℕ) → AreReadCalls text es used → IsLogFront (drop used text) (Account End) k → AreCalls text es (used + k)
all_calls text es used k h f = record {
  are = h.are;
  inside = let d : length (drop used text) ≡ length text - used = length-drop used text in let i : k ≤ length (drop used text) = f.inside in let u : used ≤ length text = h.inside in omega arith;
  text_is = take-add used k text ∙ (ap₂ (λ a b. a ++ b) h.text_is f.text_is ∙ sym (text_one (calls_of es) (Account End)));
}

pub bad_call : (text : List ℕ) (es : List Entry) (used : ℕ) → AreReadCalls text es used → NoneBehind (drop used text) → IsBadCall text (length es + 1)
bad_call text es used h none = record {
  entries = es;
  rest = drop used text;
  are = h.are;
  text_is = sym (ap (λ t. t ++ drop used text) (sym h.text_is) ∙ take-append-drop used text);
  none = none;
  number = refl;
}

-- where the text is over no line follows
pub over_calls : (text : List ℕ) (used : ℕ) → length text ≤ used → NoneBehind (drop used text)
over_calls text used le n back form at = no_front (next_line n) back (at ∙ drop_of_length-le text le)

-- ---- how a log begins

-- a log without entries
abbrev empty_log : ℕ → ℕ → Kept → Journal
empty_log moment most kept = record { opening = account_at moment kept; most = most; entries = [] }

begun : (moment most : ℕ) (kept : Kept) → moment ≤ last_stamp → most < 2 ^ 32 → dump.IsFormedInOrder kept → IsLog (empty_log moment most kept)
begun moment most kept h k t = record { moment = h; most = k; opening = t; entries = tt }

pub other_head : (text : List ℕ) (l : LogLine) (k : ℕ) → IsLogFront text l k → ((moment most : ℕ) → l ≡ Log moment most → ⊥) → NoHead text
other_head text l k h other moment most back form at =
    let r = told_apart (Log moment most) l back (drop k text) form h.line (at ∙ sym (split text l k h)) in other moment most (sym r.0)

pub no_head : (text : List ℕ) → NoLogLineBegins text → NoHead text
no_head text none moment most back form at = none (Log moment most) back form at

pub bad_head : (text : List ℕ) → NoHead text → IsBadFront text 1
bad_head text none = record {
  lines = [];
  rest = text;
  awaited = Log 0 0;
  going = record {
    log = empty_log 0 0 (kept_with_times 0 0 0);
    behind = told (dump.dump_lines (kept_with_times 0 0 0)) ++ Account End ∷ [];
    is = begun 0 0 (kept_with_times 0 0 0) (omega arith) (omega arith) fresh_told;
    lines_are = refl;
  };
  text_is = refl;
  none = λ l back g at.
      let first : Log g.log.opening.moment g.log.most ≡ l = heads (log_lines g.log) l g.behind g.lines_are in
      none g.log.opening.moment g.log.most back (g.is.moment, g.is.most) (ap (λ x. log_line_text x ++ back) first ∙ at);
  number = refl;
}
  where
    heads : {x : LogLine} {xs : List LogLine} (ys : List LogLine) (l : LogLine) (behind : List LogLine) → x ∷ xs ≡ l ∷ behind → x ≡ l
    heads ys l behind e = cc

-- ---- the opening

joined : (ls : List Line) (l : Line) (ms : List Line) (ps : List LogLine) → told (ls ++ l ∷ ms) ++ ps ≡ told ls ++ Account l ∷ (told ms ++ ps)
joined ls l ms ps = ap (λ t. t ++ ps) (map-append (λ line. Account line) ls (l ∷ ms)) ∙ append_assoc (told ls) (told (l ∷ ms)) ps

-- the dump that goes on with a line begins with no whole one
begun_dump : (lines : List Line) (awaited : Line) (g : dump.GoesOn lines awaited) (kept : Kept) → dump.IsFormedInOrder kept → (zs : List Line) → lines ≡ dump.dump_lines kept ++ zs → ⊥
begun_dump lines awaited g kept h [] e =
    dump_goes_on kept g.kept awaited g.behind h g.told (g.lines_are ∙ ap (λ ls. ls ++ awaited ∷ g.behind) (e ∙ append-nil (dump.dump_lines kept)))
begun_dump lines awaited g kept h (z ∷ zs) e =
    dump_goes_on kept g.kept z (zs ++ awaited ∷ g.behind) h g.told
    (g.lines_are ∙ (ap (λ ls. ls ++ awaited ∷ g.behind) e ∙ append_assoc (dump.dump_lines kept) (z ∷ zs) (awaited ∷ g.behind)))

-- the next line of a log that has told a part of its opening is the next line of this
next_told : (lines : List Line) (awaited : Line) → dump.GoesOn lines awaited → (kept : Kept) → dump.IsFormedInOrder kept → (ps : List LogLine) (l : LogLine) (behind : List LogLine)
    → told (dump.dump_lines kept) ++ ps ≡ told lines ++ l ∷ behind → (x : Line) × (l ≡ Account x) × dump.GoesOn lines x
next_told lines awaited g kept h ps l behind e =
    elim (fork (told (dump.dump_lines kept)) (told lines) ps (l ∷ behind) e) [
      | same q r ↦ absurd (begun_dump lines awaited g kept h [] (sym (told_same (dump.dump_lines kept) lines q) ∙ sym (append-nil (dump.dump_lines kept))))
      | longer c cs q r ↦ (
          let t = told_longer (dump.dump_lines kept) lines c cs q in
          let first : l ≡ c = cc in
          (t.0, first ∙ t.2, record { kept = kept; behind = t.1; told = h; lines_are = t.3 })
          )
      | shorter c cs q r ↦ (let t = told_longer lines (dump.dump_lines kept) c cs q in absurd (begun_dump lines awaited g kept h (t.0 ∷ t.1) t.3))
    ]

-- what stands behind the first line of a log
behind_head : (log : Journal) (moment most : ℕ) (l : LogLine) (ls behind : List LogLine) → log_lines log ≡ (Log moment most ∷ ls) ++ l ∷ behind
    → told (dump.dump_lines (kept_of log.opening)) ++ (call_lines log ++ Account End ∷ []) ≡ ls ++ l ∷ behind
behind_head log moment most l ls behind e = cc

pub bad_opening : (text : List ℕ) (moment most k n : ℕ) → IsLogFront text (Log moment most) k → dump.IsBadFront (drop k text) n → IsBadFront text (n + 1)
bad_opening text moment most k n f h = record {
  lines = Log moment most ∷ told h.lines;
  rest = h.rest;
  awaited = Account h.awaited;
  going = record {
    log = empty_log moment most h.going.kept;
    behind = told h.going.behind ++ Account End ∷ [];
    is = begun moment most h.going.kept f.line.0 f.line.1 h.going.told;
    lines_are = ap (λ ls. Log moment most ∷ ls)
        (ap (λ ls. told ls ++ Account End ∷ []) h.going.lines_are ∙ joined h.lines h.awaited h.going.behind (Account End ∷ []));
  };
  text_is = sym (split text (Log moment most) k f)
      ∙ (ap (λ t. log_line_text (Log moment most) ++ t) (h.text_is ∙ ap (λ t. t ++ h.rest) (sym (told_text h.lines)))
      ∙ sym (append_assoc (log_line_text (Log moment most)) (text_of (told h.lines)) h.rest));
  none = λ l back g at.
      let rest = behind_head g.log moment most l (told h.lines) g.behind g.lines_are in
      let t = next_told h.lines h.awaited h.going (kept_of g.log.opening) g.is.opening (call_lines g.log ++ Account End ∷ []) l g.behind rest in
      h.none t.0 back t.2 (ap (λ x. x ++ back) (sym (same_text t.0)) ∙ (ap (λ x. log_line_text x ++ back) (sym t.1) ∙ at));
  number = ap (λ m. m + 1) (h.number ∙ ap (λ m. m + 1) (sym (length-map h.lines (λ line. Account line)))) ∙ longer_by (told h.lines);
}
  where
    longer_by : (ls : List LogLine) → length ls + 1 + 1 ≡ length (Log moment most ∷ ls) + 1
    longer_by ls = omega arith

-- ---- behind the opening

-- the text of a head and an opening
fronts : (text : List ℕ) (moment most k used lines : ℕ) (kept : Kept) → IsLogFront text (Log moment most) k → dump.IsDumpFront (drop k text) kept used lines
    → take (k + used) text ≡ text_of (Log moment most ∷ told (dump.dump_lines kept))
fronts text moment most k used lines kept f d =
    take-add k used text ∙ ap₂ (λ a b. a ++ b) f.text_is (d.text_is ∙ (sym (dump_text_is kept) ∙ sym (told_text (dump.dump_lines kept))))

counted_behind : (moment most lines n : ℕ) (ls : List Line) (es : List Entry) → lines ≡ length ls → n ≡ length es + 1 → lines + 1 + n ≡ length (Log moment most ∷ (told ls ++ calls_of es)) + 1
counted_behind moment most lines n ls es h k =
    let a : length (told ls ++ calls_of es) ≡ length (told ls) + length (calls_of es) = length-append (told ls) (calls_of es) in
    let b : length (told ls) ≡ length ls = length-map ls (λ line. Account line) in
    let c : length (calls_of es) ≡ length es = length-map es (λ x. Call x) in
    omega arith

pub bad_behind : (text : List ℕ) (moment most k used lines n : ℕ) (kept : Kept) → IsLogFront text (Log moment most) k → dump.IsDumpFront (drop k text) kept used lines
    → IsBadCall (drop (k + used) text) n → IsBadFront text (lines + 1 + n)
bad_behind text moment most k used lines n kept f d h =
    let opening : List LogLine = told (dump.dump_lines kept) in
    let front : List LogLine = Log moment most ∷ opening in
    let calls : List LogLine = calls_of h.entries in
    record {
      lines = Log moment most ∷ (opening ++ calls);
      rest = h.rest;
      awaited = Account End;
      going = record {
        log = record { opening = account_at moment kept; most = most; entries = h.entries };
        behind = [];
        is = record { moment = f.line.0; most = f.line.1; opening = d.told; entries = h.are };
        lines_are = ap (λ ls. Log moment most ∷ ls) (sym (append_assoc opening calls (Account End ∷ [])));
      };
      text_is = sym (take-append-drop (k + used) text)
          ∙ (ap₂ (λ a b. a ++ b) (fronts text moment most k used lines kept f d) h.text_is
          ∙ (sym (append_assoc (text_of front) (text_of calls) h.rest) ∙ ap (λ t. t ++ h.rest) (sym (text_append front calls))));
      none = λ l back g at.
          let rest = behind_head g.log moment most l (opening ++ calls) g.behind g.lines_are ∙ append_assoc opening calls (l ∷ g.behind) in
          let apart = openings_apart (kept_of g.log.opening) kept (call_lines g.log ++ Account End ∷ []) (calls ++ l ∷ g.behind) g.is.opening d.told rest in
          let n = calls_next h.entries g.log.entries l g.behind apart.1 in
          let form = (all_back IsLogLine (Log moment most ∷ (opening ++ calls)) (l ∷ g.behind) (subst (AllByRecursion IsLogLine) g.lines_are (log_formed g.log g.is))).0 in
          h.none n.0 back (subst IsLogLine n.1 form) (ap (λ x. log_line_text x ++ back) (sym n.1) ∙ at);
      number = counted_behind moment most lines n (dump.dump_lines kept) h.entries d.counted h.number;
    }

-- ---- a log

text_in_parts : (moment most : ℕ) (kept : Kept) (es : List Entry)
    → text_of (Log moment most ∷ told (dump.dump_lines kept)) ++ text_of (calls_of es ++ Account End ∷ []) ≡ log_text (record { opening = account_at moment kept; most = most; entries = es })
text_in_parts moment most kept es =
    sym (text_append (Log moment most ∷ told (dump.dump_lines kept)) (calls_of es ++ Account End ∷ []))
    ∙ sym (log_text_is (record { opening = account_at moment kept; most = most; entries = es }))

counted_log : (moment most lines : ℕ) (ls : List Line) (es : List Entry) → lines ≡ length ls → lines + length es + 2 ≡ length (Log moment most ∷ (told ls ++ (calls_of es ++ Account End ∷ [])))
counted_log moment most lines ls es h =
    let a : length (told ls ++ (calls_of es ++ Account End ∷ [])) ≡ length (told ls) + length (calls_of es ++ Account End ∷ []) = length-append (told ls) (calls_of es ++ Account End ∷ []) in
    let b : length (told ls) ≡ length ls = length-map ls (λ line. Account line) in
    let c : length (calls_of es ++ Account End ∷ []) ≡ length (calls_of es) + 1 = length-append (calls_of es) (Account End ∷ []) in
    let d : length (calls_of es) ≡ length es = length-map es (λ x. Call x) in
    omega arith

pub front_inside : (text : List ℕ) (l : LogLine) (k used lines : ℕ) (kept : Kept) → IsLogFront text l k → dump.IsDumpFront (drop k text) kept used lines → k + used ≤ length text
front_inside text l k used lines kept f d =
    let a : length (drop k text) ≡ length text - k = length-drop k text in
    let b : used ≤ length (drop k text) = d.inside in
    let c : k ≤ length text = f.inside in
    omega arith

pub log_front : (text : List ℕ) (moment most k used lines calls : ℕ) (kept : Kept) (es : List Entry) → IsLogFront text (Log moment most) k → dump.IsDumpFront (drop k text) kept used lines
    → AreCalls (drop (k + used) text) es calls
    → IsFrontLog text (record { opening = account_at moment kept; most = most; entries = es }) (k + used + calls) (lines + length es + 2)
log_front text moment most k used lines calls kept es f d h = record {
  is = record { moment = f.line.0; most = f.line.1; opening = d.told; entries = h.are };
  inside = let a : length (drop (k + used) text) ≡ length text - (k + used) = length-drop (k + used) text in
      let b : calls ≤ length (drop (k + used) text) = h.inside in
      let c : k + used ≤ length text = front_inside text (Log moment most) k used lines kept f d in
      omega arith;
  text_is = take-add (k + used) calls text ∙ (ap₂ (λ a b. a ++ b) (fronts text moment most k used lines kept f d) h.text_is ∙ text_in_parts moment most kept es);
  counted = counted_log moment most lines (dump.dump_lines kept) es d.counted;
}

-- ---- how many lines there are

pub front_some : (text : List ℕ) (log : Journal) (used lines : ℕ) → IsFrontLog text log used lines → 0 < used
front_some text log used lines h =
    let few : length (log_lines log) ≤ length (text_of (log_lines log)) = lines_few (log_lines log) in
    let n : length (take used text) ≡ length (text_of (log_lines log)) = ap length (h.text_is ∙ log_text_is log) in
    let m : length (take used text) ≡ used = length-take-le used text h.inside in
    omega arith

pub front_few : (text : List ℕ) (log : Journal) (used lines : ℕ) → IsFrontLog text log used lines → lines ≤ used
front_few text log used lines h =
    let few : length (log_lines log) ≤ length (text_of (log_lines log)) = lines_few (log_lines log) in
    let n : length (take used text) ≡ length (text_of (log_lines log)) = ap length (h.text_is ∙ log_text_is log) in
    let m : length (take used text) ≡ used = length-take-le used text h.inside in
    let c : lines ≡ length (log_lines log) = h.counted in
    omega arith

pub bad_few : (text : List ℕ) (n : ℕ) → IsBadFront text n → n ≤ length text + 1
bad_few text n h =
    let few : length h.lines ≤ length (text_of h.lines) = lines_few h.lines in
    let t : length text ≡ length (text_of h.lines) + length h.rest = ap length h.text_is ∙ length-append (text_of h.lines) h.rest in
    let c : n ≡ length h.lines + 1 = h.number in
    omega arith
