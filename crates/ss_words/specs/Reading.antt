-- A line read word by word. The proofs show that this reads just the lines that words write (`IsLine`).
use Rattle.std.specs.Prelude.{ℕ, Bool, ◌==◌, nat_lt, length, List, [], ◌∷◌, ◌++◌, Option, Some, None, codes, bytes_eq}
use Rattle.std.specs.Prelude.{option_and_then, if◌then◌else◌}
use Rattle.std.specs.List.{before_first, after_first, position_or_len}
use Rattle.ss_words.specs.declared.names.Name.{Name}
use Rattle.ss_words.specs.declared.names.OptionName.{OptionName}
use Rattle.ss_words.specs.declared.lines.Place.{Place}
use Rattle.ss_words.specs.declared.lines.Place.TheVariants.{Between, Value, Behind}
use Rattle.ss_words.specs.Names.{option_of, takes, has_value}
use Rattle.ss_words.specs.Lines.{Line, is_dashed}

-- a line with a further positional, and with a further option
abbrev pub with_positional : Line → List ℕ → Line
with_positional line word = record line { positionals = line.positionals ++ word ∷ [] }

abbrev pub with_option : Line → OptionName → List ℕ → Line
with_option line option value = record line { options = line.options ++ (option, value) ∷ [] }

-- the line so far, and the place in it
pub record Reading : Type 0 where
  pub place : Place
  pub line : Line

abbrev pub at : Place → Line → Reading
at place line = record { place = place; line = line }

-- what stands before the first `=` of a word, and where there is one what stands behind it
abbrev pub key_of : List ℕ → List ℕ
key_of word = before_first (λ b. b == 0x3d) word

abbrev pub value_in : List ℕ → Option (List ℕ)
value_in word = if nat_lt (position_or_len (λ b. b == 0x3d) word) (length word) then Some (after_first (λ b. b == 0x3d) word) else None

-- an option of the command, with the value that its word has
abbrev pub option_reading : Line → OptionName → Bool → Option (List ℕ) → Option Reading
option_reading line option valued (Some value) = if valued then Some (at Between (with_option line option value)) else None
option_reading line option valued None = if valued then Some (at (Value option) line) else Some (at Between (with_option line option []))

-- a word that begins with a dash
abbrev pub dash_reading : Name → Line → List ℕ → Option OptionName → Option Reading
dash_reading name line word None = None
dash_reading name line word (Some option) = if takes name option then option_reading line option (has_value option) (value_in word) else None

abbrev pub between : Name → Line → List ℕ → Option Reading
between name line word =
    if bytes_eq word (codes "--") then Some (at Behind line)
    else (if is_dashed word then dash_reading name line word (option_of (key_of word)) else Some (at Between (with_positional line word)))

-- the next word at a place of a line
abbrev pub step : Name → Place → Line → List ℕ → Option Reading
step name Between line word = between name line word
step name (Value option) line word = if is_dashed word then None else Some (at Between (with_option line option word))
step name Behind line word = Some (at Behind (with_positional line word))

-- the words end
abbrev pub line_at_end : Place → Line → Option Line
line_at_end Between line = Some line
line_at_end (Value option) line = None
line_at_end Behind line = Some line

-- the words from a place of a line on
abbrev pub read_from : Name → Place → Line → List (List ℕ) → Option Line
read_from name place line [] = line_at_end place line
read_from name place line (word ∷ words) = option_and_then (λ next. read_from name next.place next.line words) (step name place line word)

abbrev pub empty_line : Line
empty_line = record { positionals = []; options = [] }
