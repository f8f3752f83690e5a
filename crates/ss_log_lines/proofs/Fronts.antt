-- Lines of a log in texts: each ends at its one newline.
use Rattle.std.proofs.Common.{◌≡◌, ◌≢◌, ℕ, ◌+◌, ◌==◌, List, [], ◌∷◌, ◌++◌, length, take, Some, None, position}
use Rattle.std.proofs.Common.{append_assoc, refl, sym, ap, ap₂, ◌∙◌, arith, length-append}
use Rattle.std.proofs.Math.Seq.{take-append_seam}
use Rattle.serde_json.specs.Data.{array}
use Rattle.serde_json.specs.Read.{read}
use Rattle.serde_json.specs.Written.{compact_text}
use Rattle.ss_text.proofs.Basics.{some_same, none_some}
use Rattle.ss_lines.proofs.Fronts.{ends_so}
use Rattle.ss_lines.proofs.OneLine.{NoLine, break_at, cut}
use Rattle.ss_log_lines.specs.LogLines.{IsLogLine, NoLogLineBegins, log_line_text, log_list_of}
use Rattle.ss_log_lines.specs.Values.{log_line_from}
use Rattle.ss_log_lines.specs.declared.lines.LogLine.{LogLine}
use Rattle.ss_log_lines.proofs.Formed.{line_within}
use Rattle.ss_log_lines.proofs.Again.{again}
use Rattle.ss_log_lines.proofs.Within.{list_back, list_noline}

-- the text of a line without its newline
body : LogLine → List ℕ
body l = compact_text (array (log_list_of l))

body_is : (l : LogLine) → log_line_text l ≡ body l ++ 10 ∷ []
unfolding log_line_text body
body_is l = refl

body_noline : (l : LogLine) → IsLogLine l → NoLine (body l)
unfolding body
body_noline l h = list_noline (log_list_of l) (line_within l h)

shifted : (l : LogLine) (back : List ℕ) → log_line_text l ++ back ≡ body l ++ 10 ∷ back
shifted l back = ap (λ t. t ++ back) (body_is l) ∙ append_assoc (body l) (10 ∷ []) back

-- ---- one text, one line

same_body : (l m : LogLine) → IsLogLine l → IsLogLine m → body l ≡ body m → l ≡ m
unfolding body
same_body l m h k e =
    let same = some_same (sym (list_back (log_list_of l) (line_within l h)) ∙ (ap read e ∙ list_back (log_list_of m) (line_within m k))) in
    some_same (sym (again l h) ∙ (ap log_line_from same ∙ again m k))

pub told_apart : (l m : LogLine) (behind other : List ℕ) → IsLogLine l → IsLogLine m → log_line_text l ++ behind ≡ log_line_text m ++ other → (l ≡ m) × (behind ≡ other)
told_apart l m behind other h k e =
    let r = cut (body l) (body m) behind other (body_noline l h) (body_noline m k) (sym (shifted l behind) ∙ (e ∙ shifted m other)) in
    (same_body l m h k r.0, r.1)

-- ---- the last byte

pub ends_line : (l : LogLine) (text : List ℕ) (b : ℕ) → log_line_text l ≡ text ++ b ∷ [] → (compact_text (array (log_list_of l)) ≡ text) × (b ≡ 10)
unfolding body
ends_line l text b e = let r = ends_so (body l) text 10 b (sym (body_is l) ∙ e) in (r.0, sym r.1)

pub some_text : (l : LogLine) → log_line_text l ≢ []
some_text l e =
    let n : length (body l ++ 10 ∷ []) ≡ length (body l) + 1 = length-append (body l) (10 ∷ []) in
    let z : length (body l ++ 10 ∷ []) ≡ 0 = ap length (sym (body_is l) ∙ e) in
    omega arith

-- ---- the first newline

-- where a text begins with a line its first newline is that line's
begins_so : (l : LogLine) → IsLogLine l → (text back : List ℕ) → log_line_text l ++ back ≡ text → (k : ℕ) × (Some k ≡ position (λ b. b == 10) text) × (take (k + 1) text ≡ log_line_text l)
begins_so l h text back is = (
  length (body l),
  sym (ap (position (λ x. x == 10)) (sym is ∙ shifted l back) ∙ break_at (body l) back (body_noline l h)),
  let n : length (body l ++ 10 ∷ []) ≡ length (body l) + 1 = length-append (body l) (10 ∷ []) in
      ap₂ take (sym n) (sym is ∙ ap (λ t. t ++ back) (body_is l)) ∙ (take-append_seam (body l ++ 10 ∷ []) back ∙ sym (body_is l)),
)

pub none_there : (text : List ℕ) → None ≡ position (λ b. b == 10) text → NoLogLineBegins text
none_there text at l back h is = none_some (at ∙ sym (begins_so l h text back is).1)

pub none_read : (text : List ℕ) (k : ℕ) → Some k ≡ position (λ b. b == 10) text → ((l : LogLine) → IsLogLine l → log_line_text l ≡ take (k + 1) text → ⊥) → NoLogLineBegins text
none_read text k at none l back h is =
    let g = begins_so l h text back is in
    let same : g.0 ≡ k = some_same (g.1 ∙ sym at) in
    none l h (sym g.2 ∙ ap (λ m. take (m + 1) text) same)
