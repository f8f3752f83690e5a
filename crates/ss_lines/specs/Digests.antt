-- The form of a digest in text.
use Rattle.std.specs.Prelude.{ℕ, Bool, ◌&&◌, ◌||◌, ◌==◌, nat_le, List, length}
use Rattle.std.specs.List.{list_all}
use Rattle.std.specs.Char.{is_ascii_digit}

-- a hexadecimal digit, the letters in lower case
abbrev pub is_lower_hex : ℕ → Bool
is_lower_hex b = is_ascii_digit b || (nat_le 0x61 b && nat_le b 0x66)

-- the form of a SHA-256 in text: 64 such digits
abbrev pub is_digest : List ℕ → Bool
is_digest text = (length text == 64) && list_all is_lower_hex text
