-- Remote rows one behind the other.
use Rattle.std.proofs.Common.{◌≡◌, ◌≢◌, ℕ, ◌+◌, ◌-◌, ◌≤◌, ◌==◌, List, [], ◌∷◌, ◌++◌, length, take, drop, Some, None}
use Rattle.std.proofs.Common.{is_some, position, append_assoc, append-nil, refl, sym, ap, ap₂, subst, ◌∙◌, arith}
use Rattle.std.proofs.Common.{length-drop}
use Rattle.std.specs.List.{AllByRecursion}
use Rattle.std.proofs.lemmas.List.{take-append-drop}
use Rattle.std.proofs.Math.Seq.{take-add}
use Rattle.ss_record.specs.declared.readings.Sheet.{Sheet}
use Rattle.ss_device.specs.Device.{AreById, row_ids}
use Rattle.ss_device.specs.Writing.{end_line}
use Rattle.ss_device_file.specs.declared.lines.Line.TheVariants.{End}
use Rattle.ss_device_file.proofs.Bodies.{has_break, line_body}
use Rattle.ss_run_edit.specs.declared.endings.Ending.{Ending}
use Rattle.ss_run_edit.specs.declared.endings.Ending.TheVariants as ending
use Rattle.ss_run_edit.specs.declared.remotes.Found.TheVariants as found
use Rattle.ss_run_edit.specs.Remotes.{ReadsRemotes, AreRemotes, IsNextRemote, IsRow, IsStuck, IsStuckAt, IsStuckBy}
use Rattle.ss_run_edit.specs.Remotes.{Stops}
use Rattle.ss_run_edit.specs.Remotes.{remote_line, remote_lines}
use Rattle.ss_run_edit.proofs.RemoteLines.{goes_on_with, remote_body}
use Rattle.ss_text.proofs.Basics.{some_same, none_some}

-- ---- nothing comes next

-- neither a row nor the end is there, where what is there up to the first line break is none
stuck_by : (rows : List Sheet) (rest : List ℕ)
    → ((r : Sheet) (back : List ℕ) → IsRow r → AreById (row_ids (rows ++ r ∷ [])) → (k : ℕ) → Some k ≡ position (λ b. b == 10) rest → take (k + 1) rest ≡ remote_line r → ⊥)
    → ((k : ℕ) → Some k ≡ position (λ b. b == 10) rest → take (k + 1) rest ≡ end_line → ⊥) → IsStuck rows rest
stuck_by rows rest row last = record {
  no_row = λ r back is by_id text. let g = goes_on_with (remote_line r) (remote_body r is) rest back text in row r back is by_id g.0 g.1 g.2;
  no_end = λ back text. let g = goes_on_with end_line (line_body End tt) rest back text in last g.0 g.1 g.2;
}

pub cut_short : (rows : List Sheet) (rest : List ℕ) (n : ℕ) → None ≡ position (λ b. b == 10) rest → IsStuckBy rows rest n (ending.Cut n)
cut_short rows rest n at = (stuck_by rows rest (λ r back is by_id k some text. none_some (at ∙ sym some)) (λ k some text. none_some (at ∙ sym some)), refl, has_break rest ∙ ap is_some (sym at))

pub bad_line : (rows : List Sheet) (rest : List ℕ) (n k : ℕ) → Some k ≡ position (λ b. b == 10) rest → take (k + 1) rest ≢ end_line
    → ((r : Sheet) → IsRow r → remote_line r ≡ take (k + 1) rest → AreById (row_ids (rows ++ r ∷ [])) → ⊥) → IsStuckBy rows rest n (ending.BadLine n)
bad_line rows rest n k at last none = (
  stuck_by rows rest
      (λ r back is by_id j some text. none r is (sym text ∙ ap (λ m. take (m + 1) rest) (some_same (some ∙ sym at))) by_id)
      (λ j some text. last (ap (λ m. take (m + 1) rest) (some_same (at ∙ sym some)) ∙ text)),
  refl,
  has_break rest ∙ ap is_some (sym at),
)

-- ---- rows so far

pub record AreSoFar (text : List ℕ) (rows : List Sheet) (used : ℕ) : Type 0 where
  pub rows_are : AreRemotes rows
  pub inside : used ≤ length text
  pub text_is : take used text ≡ remote_lines rows

no_rows : AreRemotes []
unfolding AreById Rattle.std.specs.List.Sorted.IsStrictlySortedBy
no_rows = record { form = tt; by_id = tt }

pub none_yet : (text : List ℕ) (rows : List Sheet) → rows ≡ [] → AreSoFar text rows 0
none_yet text rows e = subst (λ rs. AreSoFar text rs 0) (sym e) (record { rows_are = no_rows; inside = omega arith; text_is = refl })

all_more : (rows : List Sheet) (r : Sheet) → AllByRecursion IsRow rows → IsRow r → AllByRecursion IsRow (rows ++ r ∷ [])
all_more [] r a h = (h, tt)
all_more (q ∷ rows) r a h = (a.0, all_more rows r a.1 h)

lines_more : (rows : List Sheet) (r : Sheet) → remote_lines (rows ++ r ∷ []) ≡ remote_lines rows ++ remote_line r
lines_more [] r = append-nil (remote_line r)
lines_more (q ∷ rows) r = ap (λ t. remote_line q ++ t) (lines_more rows r) ∙ sym (append_assoc (remote_line q) (remote_lines rows) (remote_line r))

further : (text : List ℕ) (used long : ℕ) → used ≤ length text → long ≤ length (drop used text) → used + long ≤ length text
further text used long i l = let d : length (drop used text) ≡ length text - used = length-drop used text in omega arith

pub one_more : (text : List ℕ) (rows new : List Sheet) (used long : ℕ) (r : Sheet) → AreSoFar text rows used → IsNextRemote rows (drop used text) (found.Row r long) → new ≡ rows ++ r ∷ [] → AreSoFar text new (used + long)
one_more text rows new used long r h f e = subst (λ rs. AreSoFar text rs (used + long)) (sym e) (record {
  rows_are = record { form = all_more rows r h.rows_are.form f.0; by_id = f.1 };
  inside = further text used long h.inside f.3;
  text_is = take-add used long text ∙ (ap₂ (λ a b. a ++ b) h.text_is f.4 ∙ sym (lines_more rows r));
})

pub all_read : (text : List ℕ) (rows : List Sheet) (used long : ℕ) → AreSoFar text rows used → IsNextRemote rows (drop used text) (found.End long) → ReadsRemotes text rows (used + long)
all_read text rows used long h f = record {
  rows_are = h.rows_are;
  inside = further text used long h.inside f.0;
  text_is = take-add used long text ∙ ap₂ (λ a b. a ++ b) h.text_is f.1;
}

pub stuck_at : (text : List ℕ) (rows : List Sheet) (used before n : ℕ) (e : Ending) → AreSoFar text rows used → n ≡ before + length rows + 1 → IsStuckBy rows (drop used text) n e → IsStuckAt text before e
stuck_at text rows used before n e h is s = record {
  rows = rows;
  rest = drop used text;
  rows_are = h.rows_are;
  text_is = sym (ap (λ t. t ++ drop used text) (sym h.text_is) ∙ take-append-drop used text);
  stuck = subst (λ m. IsStuckBy rows (drop used text) m e) is s;
}

-- the text behind the rows so far goes on with nothing, for this reason
pub stops : (text : List ℕ) (rows : List Sheet) (used before n : ℕ) (e : Ending) → AreSoFar text rows used → n ≡ before + length rows + 1 → IsStuckBy rows (drop used text) n e → Stops text before e
stops text rows used before n (ending.Cut m) h is s = stuck_at text rows used before n (ending.Cut m) h is s
stops text rows used before n (ending.BadLine m) h is s = stuck_at text rows used before n (ending.BadLine m) h is s
stops text rows used before n ending.Memory h is s = tt
stops text rows used before n ending.Done h is s = absurd s
stops text rows used before n ending.OtherWords h is s = absurd s
stops text rows used before n ending.Unfit h is s = absurd s
stops text rows used before n ending.Input h is s = absurd s
stops text rows used before n ending.Output h is s = absurd s
stops text rows used before n (ending.BadTree id) h is s = absurd s
stops text rows used before n (ending.Refused f) h is s = absurd s
stops text rows used before n ending.TooLong h is s = absurd s
