-- The forms of ids and of names (SyncStorage API 1.5).
use Rattle.std.specs.Prelude.{ℕ, Bool, ◌&&◌, ◌||◌, ◌==◌, nat_le, List, length, Option, Some, None, if◌then◌else◌}
use Rattle.std.specs.List.{list_all}
use Rattle.std.specs.Char.{is_ascii_alphanumeric}

-- a printable byte of ASCII, the space among them
abbrev pub is_visible : ℕ → Bool
is_visible b = nat_le 0x20 b && nat_le b 0x7e

-- the form of an id: 1 to 64 printable bytes
abbrev pub is_id : List ℕ → Bool
is_id text = nat_le 1 (length text) && nat_le (length text) 64 && list_all is_visible text

-- a letter, a digit, `_`, `-` or `.`
abbrev pub is_name_byte : ℕ → Bool
is_name_byte b = is_ascii_alphanumeric b || b == 0x5f || b == 0x2d || b == 0x2e

-- the form of a collection's name: 1 to 32 such bytes
abbrev pub is_name : List ℕ → Bool
is_name text = nat_le 1 (length text) && nat_le (length text) 32 && list_all is_name_byte text

-- an id of a record
abbrev pub id_of : List ℕ → Option (List ℕ)
id_of text = if is_id text then Some text else None
