-- The tokens of a JSON text in which nothing is to be wrapped, and what wrapping and marking make of tokens (RFC 8259).
use Rattle.std.specs.Prelude.{◌≡◌, ◌==◌, ℕ, true, false, List, [], ◌∷◌, ⊤, if◌then◌else◌}
use Rattle.std.specs.List.{list_all}
use Rattle.json.specs.Align.{is_good}
use Rattle.json.specs.Lex.{tokens}
use Rattle.json.specs.Token.{Token, begin_object, end_object, begin_array, end_array, key, string, number, boolean}
use Rattle.json.specs.Token.{null, bad}
use Rattle.json.specs.Print.{IsNumber}
use Rattle.ss_text.specs.Decimals.{is_decimal}

-- a number that stays as it is, or no number
abbrev pub IsWhole : Token → Type 0
IsWhole begin_object = ⊤
IsWhole end_object = ⊤
IsWhole begin_array = ⊤
IsWhole end_array = ⊤
IsWhole (key s) = ⊤
IsWhole (string s) = ⊤
IsWhole (number s) = IsNumber s × (is_decimal s ≡ false)
IsWhole (boolean b) = ⊤
IsWhole null = ⊤
IsWhole bad = ⊤

abbrev pub AreWhole : List Token → Type 0
AreWhole [] = ⊤
AreWhole (t ∷ ts) = IsWhole t × AreWhole ts

-- ---- wrapping and marking, in JSON's words

-- the text lexes: none of its tokens is a fault
abbrev pub Lexes : List ℕ → Type 0
Lexes text = list_all is_good (tokens text) ≡ true

-- a decimal becomes a list of one string with its characters, and all else stays
abbrev pub wrapped_token : Token → List Token
wrapped_token begin_object = begin_object ∷ []
wrapped_token end_object = end_object ∷ []
wrapped_token begin_array = begin_array ∷ []
wrapped_token end_array = end_array ∷ []
wrapped_token (key s) = key s ∷ []
wrapped_token (string s) = string s ∷ []
wrapped_token (number s) = if is_decimal s then begin_array ∷ string s ∷ end_array ∷ [] else number s ∷ []
wrapped_token (boolean b) = boolean b ∷ []
wrapped_token null = null ∷ []
wrapped_token bad = bad ∷ []

-- a string with U+0001 once more at its front, where it begins with that
abbrev pub marked_once_more : List ℕ → List ℕ
marked_once_more [] = []
marked_once_more (x ∷ s) = if x == 1 then 1 ∷ x ∷ s else x ∷ s

-- a decimal becomes a string of U+0001 and its characters, a string or a name that begins with U+0001 gets one more, and
-- all else stays
abbrev pub marked_token : Token → Token
marked_token begin_object = begin_object
marked_token end_object = end_object
marked_token begin_array = begin_array
marked_token end_array = end_array
marked_token (key s) = key (marked_once_more s)
marked_token (string s) = string (marked_once_more s)
marked_token (number s) = if is_decimal s then string (1 ∷ s) else number s
marked_token (boolean b) = boolean b
marked_token null = null
marked_token bad = bad
