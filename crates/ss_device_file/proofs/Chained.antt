-- Lines one behind the other.
use Rattle.std.proofs.Common.{◌≡◌, ℕ, ◌+◌, ◌-◌, ◌≤◌, ◌==◌, true, false, List, [], ◌∷◌, ◌++◌, length, take, drop, Some}
use Rattle.std.proofs.Common.{None, is_some, position, append_assoc, append-nil, refl, sym, ap, ap₂, subst, ◌∙◌, arith}
use Rattle.std.proofs.Common.{length-drop}
use Rattle.std.proofs.lemmas.List.{take-append-drop}
use Rattle.std.proofs.Math.Seq.{take-add}
use Rattle.ss_device_file.specs.declared.lines.Line.{Line}
use Rattle.ss_device_file.specs.declared.faults.LinesFault.{LinesFault}
use Rattle.ss_device_file.specs.declared.faults.LinesFault.TheVariants.{Refused, Cut, Memory as NoRoom}
use Rattle.ss_device_file.specs.Lines.{AreLines, ComeAfter, IsLine, is_ended, line_text, may_come, text_of}
use Rattle.ss_device_file.specs.Files.{IsNextLine, IsStoppedBy, IsWhyNoFront}
use Rattle.ss_device_file.proofs.Bodies.{goes_on, has_break}
use Rattle.ss_text.proofs.Basics.{some_same, none_some}

come_more : (front ls : List Line) (l : Line) → ComeAfter front ls → may_come (front ++ ls) l ≡ true → IsLine l → ComeAfter front (ls ++ l ∷ [])
come_more front [] l h m k = (ap (λ f. may_come f l) (sym (append-nil front)) ∙ m, k, tt)
come_more front (x ∷ ls) l h m k = (h.0, h.1, come_more (front ++ x ∷ []) ls l h.2 (ap (λ f. may_come f l) (append_assoc front (x ∷ []) ls) ∙ m) k)

pub are_more : (ls : List Line) (l : Line) → AreLines ls → may_come ls l ≡ true → IsLine l → AreLines (ls ++ l ∷ [])
unfolding AreLines
are_more ls l h m k = come_more [] ls l h m k

pub are_none : AreLines []
unfolding AreLines
are_none = tt

pub text_more : (ls : List Line) (l : Line) → text_of (ls ++ l ∷ []) ≡ text_of ls ++ line_text l
text_more [] l = append-nil (line_text l)
text_more (x ∷ ls) l = ap (λ t. line_text x ++ t) (text_more ls l) ∙ sym (append_assoc (line_text x) (text_of ls) (line_text l))

-- ---- the next line

pub cut_short : (lines : List Line) (rest : List ℕ) → None ≡ position (λ b. b == 10) rest → (n : ℕ) → n ≡ length lines + 1 → IsStoppedBy lines rest (Cut n)
cut_short lines rest at n number =
    ((λ l back may line is. none_some (at ∙ sym (goes_on l line.form rest back is).1)), number, has_break rest ∙ ap is_some (sym at))

pub refused : (lines : List Line) (rest : List ℕ) (k : ℕ) → Some k ≡ position (λ b. b == 10) rest
    → ((l : Line) → IsLine l → line_text l ≡ take (k + 1) rest → may_come lines l ≡ true → ⊥) → (n : ℕ) → n ≡ length lines + 1 → IsStoppedBy lines rest (Refused n)
refused lines rest k at none n number = (
  (λ l back may line is.
      let g = goes_on l line.form rest back is in
      let same : g.0 ≡ k = some_same (g.1 ∙ sym at) in
      none l line (sym g.2 ∙ ap (λ m. take (m + 1) rest) same) may),
  number,
  has_break rest ∙ ap is_some (sym at),
)

-- ---- lines so far

pub record AreRead (text : List ℕ) (lines : List Line) (used : ℕ) : Type 0 where
  pub lines_are : AreLines lines
  pub inside : used ≤ length text
  pub text_is : take used text ≡ text_of lines

pub none_read : (text : List ℕ) (lines : List Line) → lines ≡ [] → AreRead text lines 0
none_read text lines e = subst (λ ls. AreRead text ls 0) (sym e) (record { lines_are = are_none; inside = omega arith; text_is = refl })

pub more_read : (text : List ℕ) (lines new : List Line) (used k : ℕ) (l : Line) → AreRead text lines used → IsNextLine lines (drop used text) l k → new ≡ lines ++ l ∷ [] → AreRead text new (used + k)
more_read text lines new used k l h n is = subst (λ ls. AreRead text ls (used + k)) (sym is) (record {
  lines_are = are_more lines l h.lines_are n.may n.line;
  inside = let d : length (drop used text) ≡ length text - used = length-drop used text in let i : k ≤ length (drop used text) = n.inside in let u = h.inside in omega arith;
  text_is = take-add used k text ∙ (ap₂ (λ a b. a ++ b) h.text_is n.text_is ∙ sym (text_more lines l));
})

pub stopped : (text : List ℕ) (lines : List Line) (used : ℕ) (f : LinesFault) → AreRead text lines used → is_ended lines ≡ false → IsStoppedBy lines (drop used text) f → IsWhyNoFront text f
stopped text lines used (Refused n) h e s = (drop used text, record { lines = lines; are = h.lines_are; unended = e; text_is = sym (ap (λ t. t ++ drop used text) (sym h.text_is) ∙ take-append-drop used text); none = s.0; number = s.1 }, s.2)
stopped text lines used (Cut n) h e s = (drop used text, record { lines = lines; are = h.lines_are; unended = e; text_is = sym (ap (λ t. t ++ drop used text) (sym h.text_is) ∙ take-append-drop used text); none = s.0; number = s.1 }, s.2)
stopped text lines used NoRoom h e s = tt
