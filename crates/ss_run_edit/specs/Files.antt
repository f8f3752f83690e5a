-- The device's file in a text, and why there is none.
use Rattle.std.specs.Prelude.{◌≡◌, ◌≢◌, ◌⊎◌, ◌+◌, ℕ, List, [], ◌++◌, true, length, ⊤}
use Rattle.ss_device_file.specs.declared.lines.Line.{Line}
use Rattle.ss_device_file.specs.declared.faults.LinesFault.TheVariants as lines
use Rattle.ss_device_file.specs.Lines.{AreLines, is_ended, text_of}
use Rattle.ss_device_file.specs.Files.{IsBadTree, IsWhyNoFront, HasUnseatedItem}
use Rattle.ss_run_edit.specs.declared.endings.Ending.{Ending}
use Rattle.ss_run_edit.specs.declared.endings.Ending.TheVariants.{Cut, BadLine, BadTree, Memory}

-- the text begins with the lines of a device's file
pub record BeginsWith (text : List ℕ) (ls : List Line) (back : List ℕ) : Type 0 where
  pub are : AreLines ls
  pub ended : is_ended ls ≡ true
  pub text_is : text ≡ text_of ls ++ back

-- the text begins with no device's file: it is cut where a line is still awaited, or a line is bad
abbrev pub IsNoFront : List ℕ → Ending → Type 0
IsNoFront text (Cut n) = IsWhyNoFront text (lines.Cut n)
IsNoFront text (BadLine n) = IsWhyNoFront text (lines.Refused n)
IsNoFront text Memory = ⊤
IsNoFront text ending = ⊥

-- the lines tell no device: an item has not its place, or the mirror has lost one
abbrev pub IsUntold : List Line → Ending → Type 0
IsUntold ls (BadTree id) = HasUnseatedItem ls id
IsUntold ls Memory = ⊤
IsUntold ls ending = ⊥

-- the text goes on behind the end of a device's file, in this line
pub record IsExcess (text : List ℕ) (n : ℕ) : Type 0 where
  pub lines : List Line
  pub back : List ℕ
  pub begins : BeginsWith text lines back
  pub more : back ≢ []
  pub number : n ≡ length lines + 1

-- the text is not the lines of a device's file
abbrev pub IsNoLines : List ℕ → Ending → Type 0
IsNoLines text (Cut n) = IsWhyNoFront text (lines.Cut n)
IsNoLines text (BadLine n) = IsWhyNoFront text (lines.Refused n) ⊎ IsExcess text n
IsNoLines text Memory = ⊤
IsNoLines text ending = ⊥

-- Why a text is no device's file. Where it ends, or has a last piece without a newline, and a line is still awaited, it is cut
abbrev pub IsNoDevice : List ℕ → Ending → Type 0
IsNoDevice text (Cut n) = IsWhyNoFront text (lines.Cut n)
IsNoDevice text (BadLine n) = IsWhyNoFront text (lines.Refused n) ⊎ IsExcess text n
IsNoDevice text (BadTree id) = IsBadTree text id
IsNoDevice text Memory = ⊤
IsNoDevice text ending = ⊥
