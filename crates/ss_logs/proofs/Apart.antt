-- Logs are told apart by their lines: none begins with another, so lines are of one list of logs.
use Rattle.std.proofs.Common.{◌≡◌, List, [], ◌∷◌, ◌++◌, map, append_assoc, append-nil, refl, sym, ap, ap₂, ◌∙◌}
use Rattle.std.specs.List.{AllByRecursion, flat_map}
use Rattle.ss_bso.specs.declared.changes.Kept.{Kept}
use Rattle.ss_bso.specs.Changes.{kept_of}
use Rattle.ss_laws.specs.Journal.{Journal}
use Rattle.ss_laws.specs.declared.journal.Entry.{Entry}
use Rattle.ss_lines.specs.declared.lines.Line.{Line}
use Rattle.ss_lines.specs.declared.lines.Line.TheVariants.{End}
use Rattle.ss_dump.specs.Fronts.{IsFormedInOrder, dump_lines}
use Rattle.ss_dump.proofs.AtFront.{one_dump_lines, whole_goes_on}
use Rattle.ss_log_lines.specs.declared.lines.LogLine.{LogLine}
use Rattle.ss_log_lines.specs.declared.lines.LogLine.TheVariants.{Log, Account}
use Rattle.ss_logs.specs.declared.calls.Next.{Next}
use Rattle.ss_logs.specs.declared.calls.Next.TheVariants as next
use Rattle.ss_logs.specs.Fronts.{calls_of, next_line}
use Rattle.ss_logs.specs.Logs.{IsLog, account_at, call_lines, log_lines}

-- ---- lists that begin alike

-- of two fronts of a list the shorter is a front of the other
pub data Fork {X : Type 0} (xs ys ps qs : List X) : Type 0 where
  same : xs ≡ ys → ps ≡ qs → Fork xs ys ps qs
  longer : (c : X) (cs : List X) → xs ≡ ys ++ c ∷ cs → qs ≡ c ∷ (cs ++ ps) → Fork xs ys ps qs
  shorter : (c : X) (cs : List X) → ys ≡ xs ++ c ∷ cs → ps ≡ c ∷ (cs ++ qs) → Fork xs ys ps qs

pub fork : {X : Type 0} (xs ys ps qs : List X) → xs ++ ps ≡ ys ++ qs → Fork xs ys ps qs
fork [] [] ps qs e = same refl e
fork [] (y ∷ ys) ps qs e = shorter y ys refl e
fork (x ∷ xs) [] ps qs e = longer x xs refl (sym e)
fork {X} (x ∷ xs) (y ∷ ys) ps qs e =
    let first : x ≡ y = cc in
    let rest : xs ++ ps ≡ ys ++ qs = cc in
    elim (fork xs ys ps qs rest) [
      | same q r ↦ same (ap₂ (λ a b. a ∷ b) first q) r
      | longer c cs q r ↦ longer c cs (ap₂ (λ a b. a ∷ b) first q) r
      | shorter c cs q r ↦ shorter c cs (ap₂ (λ a b. a ∷ b) (sym first) q) r
    ]

-- ---- the lines of an opening

abbrev told : List Line → List LogLine
told ls = map (λ line. Account line) ls

pub told_same : (ls ms : List Line) → told ls ≡ told ms → ls ≡ ms
told_same [] [] e = refl
told_same [] (m ∷ ms) e = cc
told_same (l ∷ ls) [] e = cc
told_same (l ∷ ls) (m ∷ ms) e =
    let first : l ≡ m = cc in
    let rest : told ls ≡ told ms = cc in
    ap₂ (λ a b. a ∷ b) first (told_same ls ms rest)

-- where the lines of an opening begin with others and a line, these are of the opening too
pub told_longer : (ls ms : List Line) (c : LogLine) (cs : List LogLine) → told ls ≡ told ms ++ c ∷ cs → (l : Line) × (behind : List Line) × (c ≡ Account l) × (ls ≡ ms ++ l ∷ behind)
told_longer [] [] c cs e = cc
told_longer [] (m ∷ ms) c cs e = cc
told_longer (l ∷ ls) [] c cs e = let first : c ≡ Account l = cc in (l, ls, first, refl)
told_longer (l ∷ ls) (m ∷ ms) c cs e =
    let first : l ≡ m = cc in
    let rest : told ls ≡ told ms ++ c ∷ cs = cc in
    let r = told_longer ls ms c cs rest in
    (r.0, r.1, r.2, ap₂ (λ a b. a ∷ b) first r.3)

-- no dump begins with another
pub dump_goes_on : (kept other : Kept) (c : Line) (cs : List Line) → IsFormedInOrder kept → IsFormedInOrder other → dump_lines other ≡ dump_lines kept ++ c ∷ cs → ⊥
dump_goes_on kept other c cs h g e = whole_goes_on kept c h (record { kept = other; behind = cs; told = g; lines_are = e })

pub openings_apart : (kept other : Kept) (ps qs : List LogLine) → IsFormedInOrder kept → IsFormedInOrder other → told (dump_lines kept) ++ ps ≡ told (dump_lines other) ++ qs → (kept ≡ other) × (ps ≡ qs)
openings_apart kept other ps qs h g e =
    elim (fork (told (dump_lines kept)) (told (dump_lines other)) ps qs e) [
      | same q r ↦ (one_dump_lines kept other h g (told_same (dump_lines kept) (dump_lines other) q), r)
      | longer c cs q r ↦ (let l = told_longer (dump_lines kept) (dump_lines other) c cs q in absurd (dump_goes_on other kept l.0 l.1 g h l.3))
      | shorter c cs q r ↦ (let l = told_longer (dump_lines other) (dump_lines kept) c cs q in absurd (dump_goes_on kept other l.0 l.1 h g l.3))
    ]

-- ---- entries

pub calls_apart : (es fs : List Entry) (ps qs : List LogLine) → calls_of es ++ Account End ∷ ps ≡ calls_of fs ++ Account End ∷ qs → (es ≡ fs) × (ps ≡ qs)
calls_apart [] [] ps qs e = (refl, cc)
calls_apart [] (f ∷ fs) ps qs e = cc
calls_apart (x ∷ es) [] ps qs e = cc
calls_apart (x ∷ es) (f ∷ fs) ps qs e =
    let first : x ≡ f = cc in
    let rest : calls_of es ++ Account End ∷ ps ≡ calls_of fs ++ Account End ∷ qs = cc in
    let r = calls_apart es fs ps qs rest in
    (ap₂ (λ a b. a ∷ b) first r.0, r.1)

-- behind entries of a log comes an entry or the end
pub calls_next : (es fs : List Entry) (l : LogLine) (behind : List LogLine) → calls_of fs ++ Account End ∷ [] ≡ calls_of es ++ l ∷ behind → (n : Next) × (l ≡ next_line n)
calls_next [] [] l behind e = (next.End, cc)
calls_next [] (f ∷ fs) l behind e = (next.Call f, cc)
calls_next (x ∷ es) [] l behind e = cc
calls_next (x ∷ es) (f ∷ fs) l behind e = let rest : calls_of fs ++ Account End ∷ [] ≡ calls_of es ++ l ∷ behind = cc in calls_next es fs l behind rest

-- ---- logs

-- the lines of a log and others, in three parts
pub parted : (log : Journal) (ps : List LogLine)
    → log_lines log ++ ps ≡ Log log.opening.moment log.most ∷ (told (dump_lines (kept_of log.opening)) ++ (call_lines log ++ Account End ∷ ps))
parted log ps =
    ap (λ ls. Log log.opening.moment log.most ∷ ls)
    (append_assoc (told (dump_lines (kept_of log.opening))) (call_lines log ++ Account End ∷ []) ps
    ∙ ap (λ ls. told (dump_lines (kept_of log.opening)) ++ ls) (append_assoc (call_lines log) (Account End ∷ []) ps))

same_log : (log other : Journal) → log.opening.moment ≡ other.opening.moment → log.most ≡ other.most → kept_of log.opening ≡ kept_of other.opening → log.entries ≡ other.entries → log ≡ other
same_log log other m n k e = λ i. record { opening = account_at (m i) (k i); most = n i; entries = e i }

pub logs_apart : (log other : Journal) (ps qs : List LogLine) → IsLog log → IsLog other → log_lines log ++ ps ≡ log_lines other ++ qs → (log ≡ other) × (ps ≡ qs)
logs_apart log other ps qs h g e =
    let parts : Log log.opening.moment log.most ∷ (told (dump_lines (kept_of log.opening)) ++ (call_lines log ++ Account End ∷ ps))
    ≡ Log other.opening.moment other.most ∷ (told (dump_lines (kept_of other.opening)) ++ (call_lines other ++ Account End ∷ qs)) =
    sym (parted log ps) ∙ (e ∙ parted other qs) in
    let head : Log log.opening.moment log.most ≡ Log other.opening.moment other.most = cc in
    let moment : log.opening.moment ≡ other.opening.moment = cc in
    let most : log.most ≡ other.most = cc in
    let rest : told (dump_lines (kept_of log.opening)) ++ (call_lines log ++ Account End ∷ ps) ≡ told (dump_lines (kept_of other.opening)) ++ (call_lines other ++ Account End ∷ qs) = cc in
    let r = openings_apart (kept_of log.opening) (kept_of other.opening) _ _ h.opening g.opening rest in
    let c = calls_apart log.entries other.entries ps qs r.1 in
    (same_log log other moment most r.0 c.0, c.1)

-- where logs begin with the lines of others, they begin with these
pub lists_apart : (logs others : List Journal) (ps : List LogLine) → AllByRecursion IsLog logs → AllByRecursion IsLog others → flat_map log_lines others ≡ flat_map log_lines logs ++ ps
    → (more : List Journal) × (others ≡ logs ++ more) × (flat_map log_lines more ≡ ps) × AllByRecursion IsLog more
lists_apart [] others ps h g e = (others, refl, e, g)
lists_apart (log ∷ logs) [] ps h g e = cc
lists_apart (log ∷ logs) (other ∷ others) ps h g e =
    let r = logs_apart other log (flat_map log_lines others) (flat_map log_lines logs ++ ps) g.0 h.0 (e ∙ append_assoc (log_lines log) (flat_map log_lines logs) ps) in
    let s = lists_apart logs others ps h.1 g.1 r.1 in
    (s.0, ap₂ (λ a b. a ∷ b) r.0 s.1, s.2, s.3)

no_logs : (logs : List Journal) → flat_map log_lines logs ≡ [] → logs ≡ []
no_logs [] e = refl
no_logs (log ∷ logs) e = cc

pub one_list : (logs others : List Journal) → AllByRecursion IsLog logs → AllByRecursion IsLog others → flat_map log_lines logs ≡ flat_map log_lines others → logs ≡ others
one_list logs others h g e =
    let r = lists_apart logs others [] h g (sym e ∙ sym (append-nil (flat_map log_lines logs))) in
    sym (r.1 ∙ (ap (λ more. logs ++ more) (no_logs r.0 r.2) ∙ append-nil logs))
