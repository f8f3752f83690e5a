-- Lines of logs, one behind the other, and their texts.
use Rattle.std.proofs.Common.{◌≡◌, ℕ, ◌+◌, ◌<◌, ◌≤◌, List, [], ◌∷◌, ◌++◌, length, map, append_assoc, append-nil, refl}
use Rattle.std.proofs.Common.{sym, ap, ◌∙◌, arith, length-append}
use Rattle.std.specs.List.{AllByRecursion, flat_map}
use Rattle.ss_bso.specs.Changes.{kept_of}
use Rattle.ss_laws.specs.Journal.{Journal}
use Rattle.ss_lines.specs.Lines.{IsLine, line_text}
use Rattle.ss_lines.specs.declared.lines.Line.{Line}
use Rattle.ss_lines.specs.declared.lines.Line.TheVariants.{End}
use Rattle.ss_dump.specs.Dumps as dump
use Rattle.ss_dump.specs.Fronts.{dump_lines}
use Rattle.ss_dump.proofs.AtFront.{dump_formed, dump_text_is}
use Rattle.ss_log_lines.specs.LogLines.{IsCall, IsLogLine, log_line_text}
use Rattle.ss_log_lines.specs.declared.lines.LogLine.{LogLine}
use Rattle.ss_log_lines.specs.declared.lines.LogLine.TheVariants.{Log, Account}
use Rattle.ss_log_lines.proofs.Fronts.{some_text, told_apart}
use Rattle.ss_laws.specs.declared.journal.Entry.{Entry}
use Rattle.ss_logs.specs.Fronts.{calls_of}
use Rattle.ss_logs.specs.Logs.{IsLog, call_lines, log_lines, log_text, logs_text, text_of}

-- ---- texts of lines

pub text_append : (xs ys : List LogLine) → text_of (xs ++ ys) ≡ text_of xs ++ text_of ys
text_append [] ys = refl
text_append (x ∷ xs) ys = ap (λ t. log_line_text x ++ t) (text_append xs ys) ∙ sym (append_assoc (log_line_text x) (text_of xs) (text_of ys))

pub text_one : (xs : List LogLine) (l : LogLine) → text_of (xs ++ l ∷ []) ≡ text_of xs ++ log_line_text l
text_one xs l = text_append xs (l ∷ []) ∙ ap (λ t. text_of xs ++ t) (append-nil (log_line_text l))

-- a line of an account has the same text in a log
pub same_text : (l : Line) → log_line_text (Account l) ≡ line_text l
unfolding log_line_text line_text
same_text l = refl

pub told_text : (ls : List Line) → text_of (map (λ line. Account line) ls) ≡ dump.text_of ls
told_text [] = refl
told_text (l ∷ ls) = ap (λ t. t ++ text_of (map (λ line. Account line) ls)) (same_text l) ∙ ap (λ t. line_text l ++ t) (told_text ls)

-- the log of a journal is the text of its lines
pub log_text_is : (log : Journal) → log_text log ≡ text_of (log_lines log)
unfolding log_text
log_text_is log =
    let opening : List LogLine = map (λ line. Account line) (dump_lines (kept_of log.opening)) in
    let back : List LogLine = call_lines log ++ Account End ∷ [] in
    let middle : text_of opening ≡ dump.dump_text (kept_of log.opening) = told_text (dump_lines (kept_of log.opening)) ∙ dump_text_is (kept_of log.opening) in
    ap (λ t. log_line_text (Log log.opening.moment log.most) ++ t)
    (ap (λ t. dump.dump_text (kept_of log.opening) ++ t) (sym (text_one (call_lines log) (Account End)))
    ∙ (ap (λ t. t ++ text_of back) (sym middle) ∙ sym (text_append opening back)))

pub logs_text_is : (logs : List Journal) → logs_text logs ≡ text_of (flat_map log_lines logs)
logs_text_is [] = refl
logs_text_is (log ∷ logs) =
    ap (λ t. log_text log ++ t) (logs_text_is logs)
    ∙ (ap (λ t. t ++ text_of (flat_map log_lines logs)) (log_text_is log) ∙ sym (text_append (log_lines log) (flat_map log_lines logs)))

-- no line is empty
pub lines_few : (ls : List LogLine) → length ls ≤ length (text_of ls)
lines_few [] = omega arith
lines_few (l ∷ ls) =
    let some : 0 < length (log_line_text l) = some_length (log_line_text l) (some_text l) in
    let rest : length ls ≤ length (text_of ls) = lines_few ls in
    let n : length (log_line_text l ++ text_of ls) ≡ length (log_line_text l) + length (text_of ls) = length-append (log_line_text l) (text_of ls) in
    omega arith
  where
    some_length : (xs : List ℕ) → (xs ≡ [] → ⊥) → 0 < length xs
    some_length [] h = absurd (h refl)
    some_length (x ∷ xs) h = omega arith

-- ---- forms

pub all_append : {X : Type 0} (P : X → Type 0) (xs ys : List X) → AllByRecursion P xs → AllByRecursion P ys → AllByRecursion P (xs ++ ys)
all_append P [] ys h k = k
all_append P (x ∷ xs) ys h k = (h.0, all_append P xs ys h.1 k)

pub all_front : {X : Type 0} (P : X → Type 0) (xs ys : List X) → AllByRecursion P (xs ++ ys) → AllByRecursion P xs
all_front P [] ys h = tt
all_front P (x ∷ xs) ys h = (h.0, all_front P xs ys h.1)

pub all_back : {X : Type 0} (P : X → Type 0) (xs ys : List X) → AllByRecursion P (xs ++ ys) → AllByRecursion P ys
all_back P [] ys h = h
all_back P (x ∷ xs) ys h = all_back P xs ys h.1

all_told : (ls : List Line) → AllByRecursion IsLine ls → AllByRecursion IsLogLine (map (λ line. Account line) ls)
all_told [] h = tt
all_told (l ∷ ls) h = (h.0, all_told ls h.1)

pub all_calls : (es : List Entry) → AllByRecursion IsCall es → AllByRecursion IsLogLine (calls_of es)
all_calls [] h = tt
all_calls (e ∷ es) h = (h.0, all_calls es h.1)

-- the lines of a log have their forms
pub log_formed : (log : Journal) → IsLog log → AllByRecursion IsLogLine (log_lines log)
log_formed log h = (
  (h.moment, h.most),
  all_append IsLogLine (map (λ line. Account line) (dump_lines (kept_of log.opening))) (call_lines log ++ Account End ∷ [])
      (all_told (dump_lines (kept_of log.opening)) (dump_formed (kept_of log.opening) h.opening))
      (all_append IsLogLine (call_lines log) (Account End ∷ []) (all_calls log.entries h.entries) (tt, tt)),
)

pub logs_formed : (logs : List Journal) → AllByRecursion IsLog logs → AllByRecursion IsLogLine (flat_map log_lines logs)
logs_formed [] h = tt
logs_formed (log ∷ logs) h = all_append IsLogLine (log_lines log) (flat_map log_lines logs) (log_formed log h.0) (logs_formed logs h.1)

-- ---- a text is one list of lines

pub no_front : (l : LogLine) (rest : List ℕ) → log_line_text l ++ rest ≡ [] → ⊥
no_front l rest e = some_text l (nothing_front (log_line_text l) rest e)
  where
    nothing_front : (xs ys : List ℕ) → xs ++ ys ≡ [] → xs ≡ []
    nothing_front [] ys h = refl
    nothing_front (x ∷ xs) ys h = cc

-- where lines are the front of a text of lines, the others are the rest
pub lines_apart : (xs ys : List LogLine) (rest : List ℕ) → AllByRecursion IsLogLine xs → AllByRecursion IsLogLine ys → text_of xs ≡ text_of ys ++ rest
    → (others : List LogLine) × (xs ≡ ys ++ others) × (rest ≡ text_of others)
lines_apart xs [] rest h k e = (xs, refl, sym e)
lines_apart [] (y ∷ ys) rest h k e = absurd (no_front y (text_of ys ++ rest) (sym (append_assoc (log_line_text y) (text_of ys) rest) ∙ sym e))
lines_apart (x ∷ xs) (y ∷ ys) rest h k e =
    let same = told_apart x y (text_of xs) (text_of ys ++ rest) h.0 k.0 (e ∙ append_assoc (log_line_text y) (text_of ys) rest) in
    let r = lines_apart xs ys rest h.1 k.1 same.1 in
    (r.0, ap (λ l. l ∷ xs) same.0 ∙ ap (λ ls. y ∷ ls) r.1, r.2)

pub no_lines : (ls : List LogLine) → [] ≡ text_of ls → ls ≡ []
no_lines [] e = refl
no_lines (l ∷ ls) e = absurd (no_front l (text_of ls) (sym e))
