-- A dump at the front of a text, which may go on behind it, and how a text that doesn't begin with one is refused.
use Rattle.std.specs.Prelude.{◌≡◌, ◌≤◌, ◌+◌, ◌++◌, ◌∷◌, [], ℕ, List, length, take, ⊤}
use Rattle.std.specs.List.{AllByRecursion}
use Rattle.ss_bso.specs.declared.changes.Kept.{Kept}
use Rattle.ss_lines.specs.Lines.{IsLine, line_text}
use Rattle.ss_lines.specs.declared.lines.Line.{Line}
use Rattle.ss_lines.specs.declared.lines.Line.TheVariants.{Digest, End}
use Rattle.ss_dump.specs.declared.faults.LineFault.{LineFault}
use Rattle.ss_dump.specs.declared.faults.LineFault.TheVariants.{BadLine, Memory}
use Rattle.ss_dump.specs.Dumps.{account_lines, body_text, digest_of, dump_text, in_order, text_of}

-- the lines of a dump
abbrev pub dump_lines : Kept → List Line
dump_lines kept = account_lines (in_order kept) ++ Digest (digest_of (body_text kept)) ∷ End ∷ []

-- the values of what is kept have their forms, and its lists are in order
pub record IsFormedInOrder (kept : Kept) : Type 0 where
  pub formed : AllByRecursion IsLine (account_lines kept)
  pub ordered : in_order kept ≡ kept

-- so many bytes at the front of the text, and so many lines, are the dump of this; an account need not be opened from it
pub record IsDumpFront (text : List ℕ) (kept : Kept) (used lines : ℕ) : Type 0 where
  pub told : IsFormedInOrder kept
  pub inside : used ≤ length text
  pub text_is : take used text ≡ dump_text kept
  pub counted : lines ≡ length (dump_lines kept)

-- in a dump that begins with these lines this one may come next
pub record GoesOn (lines : List Line) (l : Line) : Type 0 where
  pub kept : Kept
  pub behind : List Line
  pub told : IsFormedInOrder kept
  pub lines_are : dump_lines kept ≡ lines ++ l ∷ behind

-- The first line, from 1, that isn't the next one of a dump: the lines in front of it are those with which a dump begins,
-- which goes on, but with none that the text goes on with. So a digest that isn't that of the lines before it is such a line,
-- and where the text ends too early it is the line behind the last
pub record IsBadFront (text : List ℕ) (n : ℕ) : Type 0 where
  pub lines : List Line
  pub rest : List ℕ
  pub awaited : Line
  pub going : GoesOn lines awaited
  pub text_is : text ≡ text_of lines ++ rest
  pub none : (l : Line) (back : List ℕ) → GoesOn lines l → line_text l ++ back ≡ rest → ⊥
  pub number : n ≡ length lines + 1

-- why no dump stands at the front of a text
abbrev pub IsFrontFault : List ℕ → LineFault → Type 0
IsFrontFault text (BadLine n) = IsBadFront text n
IsFrontFault text Memory = ⊤
