-- The numbers of a JSON text that are kept as the characters that they have: each made a list of one string, or a
-- string with a mark at its front.
-- A text is cut into its strings, the longest runs of a number's bytes outside them, and the bytes between.
use Rattle.std.specs.Prelude.{ℕ, List, [], ◌∷◌, ◌++◌, Bool, true, false, ◌&&◌, ◌||◌, ◌==◌, nat_lt, if◌then◌else◌}
use Rattle.std.specs.Prelude.{Option, Some, None, bytes_eq, codes, count_by, length, take, drop, filter}
use Rattle.std.specs.List.{flat_map, list_any}
use Rattle.std.specs.Char.{is_ascii_digit}
use Rattle.json.specs.Word.{after_number}
use Rattle.ss_text.specs.declared.decimals.Change.{Change}
use Rattle.ss_text.specs.declared.decimals.Change.TheVariants.{Wrap, Mark, Unmark}

-- ---- the pieces of a text

-- a digit, a sign, a point, or the letter of an exponent
abbrev pub is_number_byte : ℕ → Bool
is_number_byte x = is_ascii_digit x || x == 43 || x == 45 || x == 46 || x == 101 || x == 69

-- where a byte stands: outside strings, inside one, or inside one behind a backslash
pub data Place : Type 0 where
  outside : Place
  inside : Place
  escaped : Place

-- where the byte after this one stands
abbrev pub next_place : Place → ℕ → Place
next_place outside x = if x == 34 then inside else outside
next_place inside x = if x == 34 then outside else (if x == 92 then escaped else inside)
next_place escaped x = inside

-- a run; what stands between the quotes of a string; what follows the quote of a string without an end; a byte between
pub data Piece : Type 0 where
  run : List ℕ → Piece
  text : List ℕ → Piece
  unended : List ℕ → Piece
  byte : ℕ → Piece

-- the pieces, with x at the front of the run that they begin with
abbrev pub with_front : ℕ → List Piece → List Piece
with_front x [] = run (x ∷ []) ∷ []
with_front x (run r ∷ ps) = run (x ∷ r) ∷ ps
with_front x (text s ∷ ps) = run (x ∷ []) ∷ text s ∷ ps
with_front x (unended s ∷ ps) = run (x ∷ []) ∷ unended s ∷ ps
with_front x (byte b ∷ ps) = run (x ∷ []) ∷ byte b ∷ ps

-- the pieces, with x at the front of the string that they begin with
abbrev pub with_character : ℕ → List Piece → List Piece
with_character x [] = []
with_character x (run r ∷ ps) = run r ∷ ps
with_character x (text s ∷ ps) = text (x ∷ s) ∷ ps
with_character x (unended s ∷ ps) = unended (x ∷ s) ∷ ps
with_character x (byte b ∷ ps) = byte b ∷ ps

-- the pieces with the byte before them; a quote outside begins the string that they begin with
abbrev pub with_byte : Place → ℕ → List Piece → List Piece
with_byte outside x ps = if x == 34 then ps else (if is_number_byte x then with_front x ps else byte x ∷ ps)
with_byte inside x ps = if x == 34 then text [] ∷ ps else with_character x ps
with_byte escaped x ps = with_character x ps

-- the pieces of nothing
abbrev pub at_end : Place → List Piece
at_end outside = []
at_end inside = unended [] ∷ []
at_end escaped = unended [] ∷ []

-- the pieces of what stands from a place on; from inside a string, that string is the first
unfoldable pub pieces : Place → List ℕ → List Piece
pieces place [] = at_end place
pieces place (x ∷ xs) = with_byte place x (pieces (next_place place x) xs)

-- the bytes of a piece
abbrev pub bytes_of_piece : Piece → List ℕ
bytes_of_piece (run r) = r
bytes_of_piece (text s) = 34 ∷ (s ++ 34 ∷ [])
bytes_of_piece (unended s) = 34 ∷ s
bytes_of_piece (byte b) = b ∷ []

-- ---- decimals

-- the whole text is a number of JSON (RFC 8259, section 6)
abbrev pub is_all : Option (List ℕ) → Bool
is_all None = false
is_all (Some []) = true
is_all (Some (x ∷ xs)) = false

-- a point or an exponent
abbrev pub is_point : ℕ → Bool
is_point x = x == 46 || x == 101 || x == 69

-- a point, an exponent, more than 18 digits, or -0
abbrev pub is_inexact : List ℕ → Bool
is_inexact r = list_any is_point r || nat_lt 18 (count_by is_ascii_digit r) || bytes_eq r (codes "-0")

-- a number that has a point, an exponent or more than 18 digits, or is -0
unfoldable pub is_decimal : List ℕ → Bool
is_decimal r = is_inexact r && is_all (after_number r)

-- the escape that marks a number among strings: U+0001
abbrev pub escape_mark : List ℕ
escape_mark = 92 ∷ 117 ∷ 48 ∷ 48 ∷ 48 ∷ 49 ∷ []

-- a string's characters begin with the mark
abbrev pub begins_marked : List ℕ → Bool
begins_marked s = bytes_eq (take 6 s) escape_mark

-- ---- how the pieces change

-- a decimal becomes a list of one string
abbrev pub wrapped_pieces : Piece → List Piece
wrapped_pieces (run r) = if is_decimal r then byte 91 ∷ text r ∷ byte 93 ∷ [] else run r ∷ []
wrapped_pieces (text s) = text s ∷ []
wrapped_pieces (unended s) = unended s ∷ []
wrapped_pieces (byte b) = byte b ∷ []

-- a decimal becomes a string of the mark and its characters, and a string that begins with the mark gets one more
abbrev pub marked_piece : Piece → Piece
marked_piece (run r) = if is_decimal r then text (escape_mark ++ r) else run r
marked_piece (text s) = if begins_marked s then text (escape_mark ++ s) else text s
marked_piece (unended s) = unended s
marked_piece (byte b) = byte b

-- a string of one mark and characters becomes these, and one that begins with two marks loses the first
abbrev pub unmarked_piece : Piece → Piece
unmarked_piece (run r) = run r
unmarked_piece (text s) = if begins_marked s then (if begins_marked (drop 6 s) then text (drop 6 s) else run (drop 6 s)) else text s
unmarked_piece (unended s) = unended s
unmarked_piece (byte b) = byte b

abbrev pub changed_piece : Change → Piece → List Piece
changed_piece Wrap p = wrapped_pieces p
changed_piece Mark p = marked_piece p ∷ []
changed_piece Unmark p = unmarked_piece p ∷ []

-- the text with its pieces changed
abbrev pub changed_text : Change → List ℕ → List ℕ
changed_text change t = flat_map bytes_of_piece (flat_map (changed_piece change) (pieces outside t))

-- the text with its decimals wrapped
abbrev pub wrapped_text : List ℕ → List ℕ
wrapped_text t = changed_text Wrap t

-- the text with its decimals marked
abbrev pub marked_text : List ℕ → List ℕ
marked_text t = changed_text Mark t

-- the text with its marked decimals as numbers again
abbrev pub unmarked_text : List ℕ → List ℕ
unmarked_text t = changed_text Unmark t

-- whether a piece is a decimal
abbrev pub is_wrapped : Piece → Bool
is_wrapped (run r) = is_decimal r
is_wrapped (text s) = false
is_wrapped (unended s) = false
is_wrapped (byte b) = false

-- how many decimals there are
abbrev pub count_of : List ℕ → ℕ
count_of t = length (filter is_wrapped (pieces outside t))
