-- Values as they are read from a marked text: a number with a point, an exponent or more than 18 digits, or `-0`, is a
-- string of U+0001 and its characters, and a string that begins with U+0001 has one more in front.
use Rattle.std.specs.Prelude.{◌&&◌, ◌||◌, ◌==◌, nat_lt, pos, negsuc, ℕ, ℤ, List, [], ◌∷◌, drop, Bool, true, false}
use Rattle.std.specs.Prelude.{if◌then◌else◌, Option, Some, None, option_and_then, is_some}
use Rattle.std.specs.Int.Signed.{lt_z}
use Rattle.serde_json.specs.Data.{Num, Data, null, boolean, number, string, array, object, Items, no_items, item}
use Rattle.serde_json.specs.Data.{Members, no_members, member}
use Rattle.serde_json.specs.Find.{as_str, as_u64, as_i64}
use Rattle.serde_json.specs.Written.{compact_text}
use Rattle.ss_text.specs.Decimals.{is_decimal, unmarked_text}

-- ---- strings

-- the text begins with U+0001
abbrev pub begins_marked : List ℕ → Bool
begins_marked [] = false
begins_marked (x ∷ s) = x == 1

-- a text as a marked text has it
unfoldable pub marked_string : List ℕ → List ℕ
marked_string s = if begins_marked s then 1 ∷ s else s

-- the text that a string of a marked text says; a marked number says none
unfoldable pub said_text : List ℕ → Option (List ℕ)
said_text [] = Some []
said_text (x ∷ s) = if x == 1 then (if begins_marked s then Some s else None) else Some (x ∷ s)

-- the text that a value says; a number, marked or not, is no string
abbrev pub string_of : Data → Option (List ℕ)
string_of d = option_and_then said_text (as_str d)

-- a text, or a decimal behind the mark
unfoldable pub is_string_or_decimal : List ℕ → Bool
is_string_or_decimal s = is_some (said_text s) || is_decimal (drop 1 s)

-- ---- values

-- a whole number of at most 18 digits, by what it is from 0 and below 0
abbrev pub has_few_digits : Option ℕ → Option ℤ → Bool
has_few_digits (Some n) z = nat_lt n 1000000000000000000
has_few_digits None None = false
has_few_digits None (Some z) = lt_z (negsuc 999999999999999999) z && lt_z z (pos 0)

unfoldable pub is_plain_number : Num → Bool
is_plain_number n = has_few_digits (as_u64 n) (as_i64 n)

-- a value in which no number is rounded, and no name of a member is a number
abbrev mutual
  pub is_plain : Data → Bool
  is_plain null = true
  is_plain (boolean b) = true
  is_plain (number n) = is_plain_number n
  is_plain (string s) = is_string_or_decimal s
  is_plain (array ds) = items_plain ds
  is_plain (object ms) = members_plain ms

  pub items_plain : Items → Bool
  items_plain no_items = true
  items_plain (item d ds) = is_plain d && items_plain ds

  pub members_plain : Members → Bool
  members_plain no_members = true
  members_plain (member k d ms) = is_some (said_text k) && (is_plain d && members_plain ms)

-- the compact text, in which each marked number stands with the characters that it had
abbrev pub plain_text : Data → List ℕ
plain_text d = unmarked_text (compact_text d)
