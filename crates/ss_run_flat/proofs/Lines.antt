-- What a text goes on with: a row, the end, or neither.
use Rattle.std.proofs.Common.{◌≡◌, ℕ, ◌+◌, ◌<◌, ◌≤◌, ◌==◌, nat_lt, List, length, take, Some, None, is_some, position}
use Rattle.std.proofs.Common.{refl, sym, ap, subst, ◌∙◌}
use Rattle.std.proofs.lemmas.Bool.{ltb-true}
use Rattle.std.proofs.lemmas.Str.{IsUtf8-from_ascii}
use Rattle.ss_record.specs.declared.readings.Sheet.{Sheet}
use Rattle.ss_device.specs.Writing.{end_line, row_line}
use Rattle.ss_device_file.specs.declared.lines.Line.{Line}
use Rattle.ss_device_file.specs.declared.lines.Line.TheVariants.{Head, Synced, Row, Item, Dead, End}
use Rattle.ss_device_file.specs.Lines.{IsLine, line_text}
use Rattle.ss_device_file.proofs.Bodies.{goes_on, has_break}
use Rattle.ss_run_flat.specs.declared.endings.Ending.TheVariants.{Cut, BadLine}
use Rattle.ss_run_flat.specs.declared.files.Found.{Found}
use Rattle.ss_run_flat.specs.Files.{IsNextFound, IsRow, IsStuck, IsStuckBy, found_in}
use Rattle.ss_text.proofs.Basics.{some_same, none_some}
use Rattle.ss_text.proofs.NameLemmas.{IsAscii-from_list_all}

pub end_formed : IsLine End
unfolding end_line
end_formed = record { form = tt; utf8 = IsUtf8-from_ascii end_line (IsAscii-from_list_all (λ b. nat_lt b 128) (λ b q. ltb-true b 128 q) end_line refl) }

-- neither a row nor the end is there, where what is there up to the first line break is none
stuck_by : (rest : List ℕ)
    → ((r : Sheet) → IsRow r → (k : ℕ) → Some k ≡ position (λ b. b == 10) rest → take (k + 1) rest ≡ row_line r → ⊥)
    → ((k : ℕ) → Some k ≡ position (λ b. b == 10) rest → take (k + 1) rest ≡ end_line → ⊥) → IsStuck rest
stuck_by rest row last = record {
  no_row = λ r back is text. let g = goes_on (Row r) is.form rest back text in row r is g.0 g.1 g.2;
  no_end = λ back text. let g = goes_on End tt rest back text in last g.0 g.1 g.2;
}

pub cut_short : (rest : List ℕ) (n : ℕ) → None ≡ position (λ b. b == 10) rest → IsStuckBy rest n (Cut n)
cut_short rest n at = (stuck_by rest (λ r is k some text. none_some (at ∙ sym some)) (λ k some text. none_some (at ∙ sym some)), refl, has_break rest ∙ ap is_some (sym at))

pub bad_line : (rest : List ℕ) (n k : ℕ) → Some k ≡ position (λ b. b == 10) rest → ((r : Sheet) → IsRow r → row_line r ≡ take (k + 1) rest → ⊥) → (end_line ≡ take (k + 1) rest → ⊥) → IsStuckBy rest n (BadLine n)
bad_line rest n k at row last = (
  stuck_by rest
      (λ r is j some text. row r is (sym text ∙ ap (λ m. take (m + 1) rest) (some_same (some ∙ sym at))))
      (λ j some text. last (sym text ∙ ap (λ m. take (m + 1) rest) (some_same (some ∙ sym at)))),
  refl,
  has_break rest ∙ ap is_some (sym at),
)

-- ---- a line that was read

-- it is what comes next
pub line_found : (rest : List ℕ) (long : ℕ) (l : Line) (f : Found) → Some f ≡ found_in long l → IsLine l → line_text l ≡ take long rest → 0 < long → long ≤ length rest → IsNextFound rest f
line_found rest long (Row r) f e is text some inside = subst (λ (g : Found). IsNextFound rest g) (some_same (sym e)) (is, some, inside, sym text)
line_found rest long End f e is text some inside = subst (λ (g : Found). IsNextFound rest g) (some_same (sym e)) (inside, sym text)
line_found rest long (Head v) f e is text some inside = cc
line_found rest long (Synced t) f e is text some inside = cc
line_found rest long (Item i) f e is text some inside = cc
line_found rest long (Dead x t) f e is text some inside = cc

pub no_row_found : (long : ℕ) (l : Line) (r : Sheet) → None ≡ found_in long l → l ≡ Row r → ⊥
no_row_found long l r e is = none_some (e ∙ ap (found_in long) is)

pub no_end_found : (long : ℕ) (l : Line) → None ≡ found_in long l → l ≡ End → ⊥
no_end_found long l e is = none_some (e ∙ ap (found_in long) is)
