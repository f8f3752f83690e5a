-- The fields of a head (RFC 9112): how they are written, looked up and understood.
use Rattle.std.specs.Prelude.{ℕ, List, [], ◌∷◌, ◌++◌, reverse, Bool, false, not, ◌&&◌, ◌||◌, ◌==◌, if◌then◌else◌}
use Rattle.std.specs.Prelude.{Option, Some, None, codes}
use Rattle.std.specs.List.{flat_map, list_all, list_any, slice_split}
use Rattle.std.specs.Str.{str_eq_ignore_ascii_case}
use Rattle.ss_text.specs.Numbers.{number_of}
use Rattle.ss_http.specs.Limits.{most_length_digits}

-- a field: its name and its value, without the blanks around it
abbrev pub Line : Type 0
Line = List ℕ × List ℕ

-- a field as it is written: the name, a colon, a space, the value and a line end
abbrev pub line : Line → List ℕ
line field = field.0 ++ codes ": " ++ field.1 ++ codes "\r\n"

-- fields as they are written, one after the other
unfoldable pub lines : List Line → List ℕ
lines fields = flat_map line fields

-- the field, where it has a value
abbrev pub field_if : List ℕ → Option (List ℕ) → List Line
field_if name None = []
field_if name (Some value) = (name, value) ∷ []

-- the names are one, ASCII case aside
abbrev pub same_name : List ℕ → List ℕ → Bool
same_name a b = str_eq_ignore_ascii_case a b

-- the value of the first field of that name
abbrev pub first_named : List ℕ → List Line → Option (List ℕ)
first_named name [] = None
first_named name (f ∷ fs) = if same_name f.0 name then Some f.1 else first_named name fs

-- whether the text was read as the number n
abbrev pub is_number : ℕ → Option ℕ → Bool
is_number n None = false
is_number n (Some m) = m == n

-- a field that is no Content-Length, or one that says n
abbrev pub agrees : ℕ → Line → Bool
agrees n f = not (same_name f.0 (codes "Content-Length")) || is_number n (number_of most_length_digits f.1)

-- the length that the first says, if all say it
abbrev pub agreed_length : Option ℕ → List Line → Option ℕ
agreed_length None fields = None
agreed_length (Some n) fields = if list_all (agrees n) fields then Some n else None

-- of what the first Content-Length says, where there is one
abbrev pub announced_by : Option (List ℕ) → List Line → Option ℕ
announced_by None fields = Some 0
announced_by (Some text) fields = agreed_length (number_of most_length_digits text) fields

-- the length of the body that fields announce: 0 without a Content-Length; none where one isn't 1 to 18 digits, or where
-- two differ as numbers
unfoldable pub announced : List Line → Option ℕ
announced fields = announced_by (first_named (codes "Content-Length") fields) fields

-- the bytes from the first on that is no space
abbrev pub skip_spaces : List ℕ → List ℕ
skip_spaces [] = []
skip_spaces (b ∷ bytes) = if b == 32 then skip_spaces bytes else b ∷ bytes

-- the bytes without the spaces at both ends
unfoldable pub without_spaces : List ℕ → List ℕ
without_spaces bytes = reverse (skip_spaces (reverse (skip_spaces bytes)))

-- the words between commas, without the spaces around them
abbrev pub is_close : List ℕ → Bool
is_close word = same_name (without_spaces word) (codes "close")

-- `close` is one of the words between commas, in any ASCII case and with spaces around it
unfoldable pub holds_close : List ℕ → Bool
holds_close value = list_any is_close (slice_split (λ b. b == 44) value)

-- a field that ends the connection
abbrev pub closes : Line → Bool
closes f = same_name f.0 (codes "Connection") && holds_close f.1

-- a head of that minor version with those fields ends the connection: HTTP/1.0, or `Connection: close`
abbrev pub ends : ℕ → List Line → Bool
ends minor fields = minor == 0 || list_any closes fields
