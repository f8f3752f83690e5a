-- Which positionals and options the words behind a command's name write (this project's).
use Rattle.std.specs.Prelude.{◌≡◌, ℕ, Bool, true, false, ◌&&◌, ◌==◌, not, List, [], ◌∷◌, ◌++◌, Option, Some, None}
use Rattle.std.specs.Prelude.{codes}
use Rattle.std.specs.List.{flat_map, filter_map, list_all}
use Rattle.ss_words.specs.declared.names.Name.{Name}
use Rattle.ss_words.specs.declared.names.OptionName.{OptionName}
use Rattle.ss_words.specs.Names.{option_text, takes, has_value}

-- a line: its positionals in order, and its options with their values in order; the value of an option without one is empty
pub record Line : Type 0 where
  pub positionals : List (List ℕ)
  pub options : List (OptionName × List ℕ)

-- a word of two or more characters that begins with a dash
abbrev pub is_dashed : List ℕ → Bool
is_dashed [] = false
is_dashed (first ∷ []) = false
is_dashed (first ∷ second ∷ others) = first == 0x2d

-- a positional, `--x=v`, `--x v`, or an option without a value
pub data Piece : Type 0 where
  Positional : List ℕ → Piece
  Joined : OptionName → List ℕ → Piece
  Apart : OptionName → List ℕ → Piece
  Bare : OptionName → Piece

-- the words that write a piece
abbrev pub piece_words : Piece → List (List ℕ)
piece_words (Positional word) = word ∷ []
piece_words (Joined option value) = (option_text option ++ codes "=" ++ value) ∷ []
piece_words (Apart option value) = option_text option ∷ value ∷ []
piece_words (Bare option) = option_text option ∷ []

-- a positional, or a value that is a word of its own, doesn't begin with a dash; the command has the option, with a value or without
abbrev pub fits : Name → Piece → Bool
fits name (Positional word) = not (is_dashed word)
fits name (Joined option value) = takes name option && has_value option
fits name (Apart option value) = takes name option && (has_value option && not (is_dashed value))
fits name (Bare option) = takes name option && not (has_value option)

abbrev pub positional_of : Piece → Option (List ℕ)
positional_of (Positional word) = Some word
positional_of (Joined option value) = None
positional_of (Apart option value) = None
positional_of (Bare option) = None

abbrev pub option_of_piece : Piece → Option (OptionName × List ℕ)
option_of_piece (Positional word) = None
option_of_piece (Joined option value) = Some (option, value)
option_of_piece (Apart option value) = Some (option, value)
option_of_piece (Bare option) = Some (option, [])

-- what follows the pieces: nothing, or `--` and further positionals
abbrev pub ending : Option (List (List ℕ)) → List (List ℕ)
ending None = []
ending (Some words) = codes "--" ∷ words

abbrev pub words_behind : Option (List (List ℕ)) → List (List ℕ)
words_behind None = []
words_behind (Some words) = words

-- the line that pieces, and what follows them, make
abbrev pub line_made : List Piece → Option (List (List ℕ)) → Line
line_made pieces behind = record {
  positionals = filter_map positional_of pieces ++ words_behind behind;
  options = filter_map option_of_piece pieces;
}

-- the words behind this command's name write this line
pub record IsLine (name : Name) (words : List (List ℕ)) (line : Line) : Type 0 where
  pub pieces : List Piece
  pub behind : Option (List (List ℕ))
  pub fit : list_all (fits name) pieces ≡ true
  pub words_are : words ≡ flat_map piece_words pieces ++ ending behind
  pub line_is : line ≡ line_made pieces behind
