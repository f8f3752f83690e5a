-- Lines of a commit in texts: of which kind each is, and where it ends.
use Rattle.std.proofs.Common.{◌≡◌, ◌≢◌, ℕ, ◌+◌, ◌<◌, ◌==◌, List, [], ◌∷◌, ◌++◌, length, take, true, false, Option, Some}
use Rattle.std.proofs.Common.{None, option_map, position, append_assoc, refl, sym, ap, ap₂, ◌∙◌, arith, length-append}
use Rattle.std.proofs.Math.Seq.{take-append_seam}
use Rattle.json.specs.Print.{escape_byte}
use Rattle.serde_json.specs.Data.{array}
use Rattle.serde_json.specs.Written.{compact_text}
use Rattle.ss_lines.specs.Lines.{IsLine, line_text}
use Rattle.ss_lines.specs.declared.lines.Line.{Line}
use Rattle.ss_lines.specs.declared.lines.Line.TheVariants.{Account, Times, Collection, Row as RowLine, Batch}
use Rattle.ss_lines.specs.declared.lines.Line.TheVariants.{Part as PartLine, Digest, End}
use Rattle.ss_lines.proofs.Fronts.{body, body_is, body_noline}
use Rattle.ss_lines.proofs.OneLine.{NoLine, break_at}
use Rattle.ss_text.proofs.Basics.{no_way, none_some, some_same}
use Rattle.ss_commits.specs.declared.cutting.Front.{Front}
use Rattle.ss_commits.specs.declared.marks.Mark.{Mark}
use Rattle.ss_commits.specs.declared.marks.Mark.TheVariants.{Now, NoRow, NoCollection, NoBatch, NextParts}
use Rattle.ss_commits.specs.declared.notes.Note.{Note}
use Rattle.ss_commits.specs.declared.notes.Note.TheVariants.{Of, Beside}
use Rattle.ss_commits.specs.Commits.{IsMark, IsNote, is_marked, mark_list, mark_text, note_text}
use Rattle.ss_commits.proofs.Written.{noline}

-- ---- the first letter of a line

pub unmarked : (l : Line) → is_marked (line_text l) ≡ false
unfolding line_text escape_byte
unmarked Account = refl
unmarked (Times store last_delete counter) = refl
unmarked (Collection name modified) = refl
unmarked (RowLine r) = refl
unmarked (Batch counted collection begun) = refl
unmarked (PartLine p) = refl
unmarked (Digest digest) = refl
unmarked End = refl

pub marked : (m : Mark) → is_marked (mark_text m) ≡ true
unfolding escape_byte
marked (Now moment) = refl
marked (NoRow collection id) = refl
marked (NoCollection name) = refl
marked (NoBatch number) = refl
marked (NextParts number) = refl

-- ---- where a line ends

note_body : Note → List ℕ
note_body (Of l) = body l
note_body (Beside m) = compact_text (array (mark_list m))

note_is : (n : Note) → note_text n ≡ note_body n ++ 10 ∷ []
unfolding note_body
note_is (Of l) = body_is l
note_is (Beside m) = refl

note_noline : (n : Note) → IsNote n → NoLine (note_body n)
unfolding note_body
note_noline (Of l) h = body_noline l h
note_noline (Beside m) h = noline m h

long : (n : Note) → length (note_text n) ≡ length (note_body n) + 1
long n = ap length (note_is n) ∙ length-append (note_body n) (10 ∷ [])

-- where a text begins with a line its first newline is that line's
pub begins_so : (n : Note) → IsNote n → (text back : List ℕ) → note_text n ++ back ≡ text
    → (k : ℕ) × (position (λ b. b == 10) text ≡ Some k) × (length (note_text n) ≡ k + 1) × (take (k + 1) text ≡ note_text n)
begins_so n h text back is = (
  length (note_body n),
  ap (position (λ x. x == 10)) (sym is ∙ (ap (λ t. t ++ back) (note_is n) ∙ append_assoc (note_body n) (10 ∷ []) back)) ∙ break_at (note_body n) back (note_noline n h),
  long n,
  ap₂ take (sym (long n)) (sym is) ∙ take-append_seam (note_text n) back,
)

pub some_note : (n : Note) → note_text n ≢ []
some_note n e =
    let z : length (note_text n) ≡ 0 = ap length e in
    let s = long n in
    omega arith

-- ---- a line that was read

pub read_marked : (line : List ℕ) (o : Option Mark) → is_marked line ≡ true → ((m : Mark) → IsMark m → mark_text m ≡ line → o ≡ Some m)
    → (n : Note) → IsNote n → note_text n ≡ line → option_map (λ m. Beside m) o ≡ Some n
read_marked line o e all (Of l) h is = no_way (is_marked line) e (ap is_marked (sym is) ∙ unmarked l)
read_marked line o e all (Beside m) h is = ap (option_map (λ x. Beside x)) (all m h is)

pub read_unmarked : (line : List ℕ) (o : Option Line) → is_marked line ≡ false → ((l : Line) → IsLine l → line_text l ≡ line → o ≡ Some l)
    → (n : Note) → IsNote n → note_text n ≡ line → option_map (λ l. Of l) o ≡ Some n
read_unmarked line o e all (Of l) h is = ap (option_map (λ x. Of x)) (all l h is)
read_unmarked line o e all (Beside m) h is = no_way (is_marked line) (ap is_marked (sym is) ∙ marked m) e

-- ---- the line at the front of a text

abbrev front : Note → ℕ → Front
front n used = record { note = n; used = used }

pub no_end : (text : List ℕ) → None ≡ position (λ b. b == 10) text → (n : Note) (back : List ℕ) → IsNote n → note_text n ++ back ≡ text → ⊥
no_end text none n back h is = let g = begins_so n h text back is in none_some (none ∙ g.1)

pub no_note : (text : List ℕ) (k : ℕ) (o : Option Note) → Some k ≡ position (λ b. b == 10) text → ((n : Note) → IsNote n → note_text n ≡ take (k + 1) text → o ≡ Some n) → o ≡ None
    → (n : Note) (back : List ℕ) → IsNote n → note_text n ++ back ≡ text → ⊥
no_note text k o at all none n back h is =
    let g = begins_so n h text back is in
    let same : k ≡ g.0 = some_same (at ∙ g.1) in
    none_some (sym none ∙ all n h (sym g.3 ∙ ap (λ i. take (i + 1) text) (sym same)))

pub one_note : (text : List ℕ) (k : ℕ) (o : Option Note) (m : Note) → Some k ≡ position (λ b. b == 10) text → ((n : Note) → IsNote n → note_text n ≡ take (k + 1) text → o ≡ Some n) → o ≡ Some m
    → (n : Note) (back : List ℕ) → IsNote n → note_text n ++ back ≡ text → Some (front m (k + 1)) ≡ Some (front n (length (note_text n)))
one_note text k o m at all some n back h is =
    let g = begins_so n h text back is in
    let same : k ≡ g.0 = some_same (at ∙ g.1) in
    let note_same : m ≡ n = some_same (sym some ∙ all n h (sym g.3 ∙ ap (λ i. take (i + 1) text) (sym same))) in
    ap₂ (λ x u. Some (front x u)) note_same (ap (λ i. i + 1) same ∙ sym g.2)
