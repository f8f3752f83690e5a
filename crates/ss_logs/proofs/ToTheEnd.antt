-- Logs one behind the other, and where a text isn't one of logs.
use Rattle.std.proofs.Common.{◌≡◌, ℕ, ◌+◌, ◌-◌, ◌<◌, ◌≤◌, List, [], ◌∷◌, ◌++◌, length, take, drop, append_assoc}
use Rattle.std.proofs.Common.{append-nil, refl, sym, ap, ap₂, ◌∙◌, subst, arith, length-append, length-drop}
use Rattle.std.specs.List.{AllByRecursion, flat_map}
use Rattle.std.proofs.Math.Seq.{take-add}
use Rattle.std.proofs.lemmas.List.{length-take-le, take-append-drop}
use Rattle.ss_laws.specs.Journal.{Journal}
use Rattle.ss_log_lines.specs.LogLines.{IsLogLine}
use Rattle.ss_log_lines.specs.declared.lines.LogLine.{LogLine}
use Rattle.ss_logs.specs.declared.faults.LogFault.{LogFault}
use Rattle.ss_logs.specs.declared.faults.LogFault.TheVariants.{BadLine, Memory}
use Rattle.ss_logs.specs.Fronts.{AreReadTo, GoesOn, IsBadFront, IsFrontLog}
use Rattle.ss_logs.specs.Logs.{AreLogs, IsBadLine, IsLog, IsWhyNoLogs, log_lines, log_text, logs_text, text_of}
use Rattle.ss_logs.proofs.Apart.{fork, lists_apart, logs_apart, longer, one_list, same, shorter}
use Rattle.ss_logs.proofs.Lines.{all_append, all_front, lines_apart, lines_few, logs_formed, logs_text_is, no_lines}
use Rattle.ss_logs.proofs.Lines.{text_append}

-- ---- one log more

lines_more : (logs : List Journal) (log : Journal) → flat_map log_lines (logs ++ log ∷ []) ≡ flat_map log_lines logs ++ log_lines log
lines_more [] log = append-nil (log_lines log)
lines_more (x ∷ xs) log = ap (λ t. log_lines x ++ t) (lines_more xs log) ∙ sym (append_assoc (log_lines x) (flat_map log_lines xs) (log_lines log))

text_more : (logs : List Journal) (log : Journal) → logs_text (logs ++ log ∷ []) ≡ logs_text logs ++ log_text log
text_more [] log = append-nil (log_text log)
text_more (x ∷ xs) log = ap (λ t. log_text x ++ t) (text_more xs log) ∙ sym (append_assoc (log_text x) (logs_text xs) (log_text log))

pub none_read : (text : List ℕ) (logs : List Journal) → logs ≡ [] → AreReadTo text logs 0 0
none_read text logs none = subst (λ logs. AreReadTo text logs 0 0) (sym none) (record { are = tt; inside = omega arith; text_is = refl; counted = refl })

pub one_read : (text : List ℕ) (logs : List Journal) (log : Journal) (used lines k n : ℕ) → AreReadTo text logs used lines → IsFrontLog (drop used text) log k n
    → AreReadTo text (logs ++ log ∷ []) (used + k) (lines + n)
one_read text logs log used lines k n h f = record {
  are = all_append IsLog logs (log ∷ []) h.are (f.is, tt);
  inside = let d : length (drop used text) ≡ length text - used = length-drop used text in let i : k ≤ length (drop used text) = f.inside in let u : used ≤ length text = h.inside in omega arith;
  text_is = take-add used k text ∙ (ap₂ (λ a b. a ++ b) h.text_is f.text_is ∙ sym (text_more logs log));
  counted = ap₂ (λ a b. a + b) h.counted f.counted ∙ (sym (length-append (flat_map log_lines logs) (log_lines log)) ∙ ap length (sym (lines_more logs log)));
}

pub read_few : (text : List ℕ) (logs : List Journal) (used lines : ℕ) → AreReadTo text logs used lines → lines ≤ used
read_few text logs used lines h =
    let few : length (flat_map log_lines logs) ≤ length (text_of (flat_map log_lines logs)) = lines_few (flat_map log_lines logs) in
    let n : length (take used text) ≡ length (text_of (flat_map log_lines logs)) = ap length (h.text_is ∙ logs_text_is logs) in
    let m : length (take used text) ≡ used = length-take-le used text h.inside in
    let c : lines ≡ length (flat_map log_lines logs) = h.counted in
    omega arith

-- ---- a bad line

nil_cons : {X : Type 0} (xs : List X) (y : X) (ys : List X) → [] ≡ xs ++ y ∷ ys → ⊥
nil_cons [] y ys e = cc
nil_cons (x ∷ xs) y ys e = cc

-- the log that goes on with a line begins with no whole one
begun_log : (lines : List LogLine) (awaited : LogLine) (g : GoesOn lines awaited) (log : Journal) → IsLog log → (zs : List LogLine) → lines ≡ log_lines log ++ zs → ⊥
begun_log lines awaited g log h zs e =
    let whole : log_lines g.log ++ [] ≡ log_lines log ++ (zs ++ awaited ∷ g.behind) =
    append-nil (log_lines g.log) ∙ (g.lines_are ∙ (ap (λ ls. ls ++ awaited ∷ g.behind) e ∙ append_assoc (log_lines log) zs (awaited ∷ g.behind))) in
    nil_cons zs awaited g.behind (logs_apart g.log log [] (zs ++ awaited ∷ g.behind) g.is h whole).1

-- where logs begin with lines with which a log begins that goes on, and with a line, this is a line with which it goes on
first_goes : (lines : List LogLine) (awaited : LogLine) → GoesOn lines awaited → (logs : List Journal) → AllByRecursion IsLog logs → (l : LogLine) (others : List LogLine)
    → flat_map log_lines logs ≡ lines ++ l ∷ others → GoesOn lines l
first_goes lines awaited g [] h l others e = absurd (nil_cons lines l others e)
first_goes lines awaited g (log ∷ logs) h l others e =
    elim (fork (log_lines log) lines (flat_map log_lines logs) (l ∷ others) e) [
      | same q r ↦ absurd (begun_log lines awaited g log h.0 [] (sym q ∙ sym (append-nil (log_lines log))))
      | longer c cs q r ↦ (let first : l ≡ c = cc in record { log = log; behind = cs; is = h.0; lines_are = q ∙ ap (λ x. lines ++ x ∷ cs) (sym first) })
      | shorter c cs q r ↦ absurd (begun_log lines awaited g log h.0 (c ∷ cs) q)
    ]

no_first : (lines : List LogLine) (awaited : LogLine) → GoesOn lines awaited → (logs : List Journal) → AllByRecursion IsLog logs → flat_map log_lines logs ≡ lines → lines ≡ []
no_first lines awaited g [] h e = sym e
no_first lines awaited g (log ∷ logs) h e = absurd (begun_log lines awaited g log h.0 (flat_map log_lines logs) (sym e))

bad_more : (text : List ℕ) (logs : List Journal) (used lines n : ℕ) → AreReadTo text logs used lines → used < length text → IsBadFront (drop used text) n → IsBadLine text (lines + n)
bad_more text logs used lines n h lt b =
    let before : List LogLine = flat_map log_lines logs in
    let awaited : List LogLine = b.awaited ∷ b.going.behind in
    record {
      lines = before ++ b.lines;
      behind = awaited;
      rest = b.rest;
      begin = record {
        logs = logs ++ b.going.log ∷ [];
        are = all_append IsLog logs (b.going.log ∷ []) h.are (b.going.is, tt);
        lines_are = lines_more logs b.going.log ∙ (ap (λ ls. before ++ ls) b.going.lines_are ∙ sym (append_assoc before b.lines awaited));
      };
      text_is = sym (take-append-drop used text)
          ∙ (ap₂ (λ x y. x ++ y) (h.text_is ∙ logs_text_is logs) b.text_is
          ∙ (sym (append_assoc (text_of before) (text_of b.lines) b.rest) ∙ ap (λ t. t ++ b.rest) (sym (text_append before b.lines))));
      none = λ l others back m at.
          let r = lists_apart logs m.logs (b.lines ++ l ∷ others) h.are m.are (m.lines_are ∙ append_assoc before b.lines (l ∷ others)) in
          b.none l back (first_goes b.lines b.awaited b.going r.0 r.3 l others r.2) at;
      over = λ m e.
          let r = lists_apart logs m.logs (b.lines ++ []) h.are m.are (m.lines_are ∙ append_assoc before b.lines []) in
          let none : b.lines ≡ [] = no_first b.lines b.awaited b.going r.0 r.3 (r.2 ∙ append-nil b.lines) in
          let rest : drop used text ≡ [] = b.text_is ∙ ap₂ (λ x y. text_of x ++ y) none e in
          let long : length (drop used text) ≡ length text - used = length-drop used text in
          let zero : length (drop used text) ≡ 0 = ap length rest in
          absurd (omega arith);
      number = ap₂ (λ x y. x + y) h.counted b.number ∙ counted before b.lines;
    }
  where
    counted : (xs ys : List LogLine) → length xs + (length ys + 1) ≡ length (xs ++ ys) + 1
    counted xs ys = let a : length (xs ++ ys) ≡ length xs + length ys = length-append xs ys in omega arith

pub refused : (text : List ℕ) (logs : List Journal) (used lines n : ℕ) → AreReadTo text logs used lines → used < length text → IsBadFront (drop used text) n → IsWhyNoLogs text (BadLine (lines + n))
refused text logs used lines n h lt b = bad_more text logs used lines n h lt b

-- ---- one text, one list of logs

pub one_text : (text : List ℕ) (logs others : List Journal) → AreLogs text logs → AreLogs text others → logs ≡ others
one_text text logs others h g =
    let same : text_of (flat_map log_lines logs) ≡ text_of (flat_map log_lines others) ++ [] =
    sym (logs_text_is logs) ∙ (sym h.text_is ∙ (g.text_is ∙ (logs_text_is others ∙ sym (append-nil (text_of (flat_map log_lines others)))))) in
    let r = lines_apart (flat_map log_lines logs) (flat_map log_lines others) [] (logs_formed logs h.are) (logs_formed others g.are) same in
    one_list logs others h.are g.are (r.1 ∙ (ap (λ ls. flat_map log_lines others ++ ls) (no_lines r.0 r.2) ∙ append-nil (flat_map log_lines others)))

-- no line of a text of logs is bad
clash : (text : List ℕ) (logs : List Journal) (n : ℕ) → AreLogs text logs → IsBadLine text n → ⊥
clash text logs n h b =
    let formed = all_front IsLogLine b.lines b.behind (subst (AllByRecursion IsLogLine) b.begin.lines_are (logs_formed b.begin.logs b.begin.are)) in
    let r = lines_apart (flat_map log_lines logs) b.lines b.rest (logs_formed logs h.are) formed (sym (logs_text_is logs) ∙ (sym h.text_is ∙ b.text_is)) in
    ends r.0 r.1 r.2
  where
    ends : (others : List LogLine) → flat_map log_lines logs ≡ b.lines ++ others → b.rest ≡ text_of others → ⊥
    ends [] e t = b.over (record { logs = logs; are = h.are; lines_are = e }) t
    ends (l ∷ ls) e t = b.none l ls (text_of ls) (record { logs = logs; are = h.are; lines_are = e }) (sym t)

pub not_refused : (text : List ℕ) (logs : List Journal) (fault : LogFault) → AreLogs text logs → IsWhyNoLogs text fault → fault ≡ Memory
not_refused text logs (BadLine n) h b = absurd (clash text logs n h b)
not_refused text logs Memory h b = refl
