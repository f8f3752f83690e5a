-- Fields of a head, and what their values say (RFC 9110).
use Rattle.std.specs.Prelude.{ℕ, Bool, false, ◌||◌, ◌==◌, List, map, find, bytes_eq, Option, codes}
use Rattle.std.specs.List.{slice_split}
use Rattle.std.specs.Option.{option_map_or}
use Rattle.httparse.specs.Grammar.{trim_ows}
use Rattle.form_urlencoded.specs.Form.{split_once}
use Rattle.ss_http.specs.Fields.{first_named}

-- a value without its parameters: what stands before the first semicolon, without blanks around it
unfoldable pub without_parameters : List ℕ → List ℕ
without_parameters value = trim_ows (split_once 0x3b value).0

-- the media ranges of an Accept field that are looked at
abbrev pub is_known : List ℕ → Bool
is_known range =
    bytes_eq range (codes "application/json") || bytes_eq range (codes "application/newlines")
    || bytes_eq range (codes "application/*") || bytes_eq range (codes "*/*")

-- the first media range of an Accept field that is looked at
abbrev pub first_known : List ℕ → Option (List ℕ)
first_known value = find is_known (map without_parameters (slice_split (λ b. b == 0x2c) value))

-- whether that one asks for an element a line
unfoldable pub accepts_lines : List ℕ → Bool
accepts_lines value = option_map_or (λ range. bytes_eq range (codes "application/newlines")) (first_known value) false

-- whether the fields ask for lists in lines
abbrev pub wants_lines : List (List ℕ × List ℕ) → Bool
wants_lines fields = option_map_or accepts_lines (first_named (codes "Accept") fields) false
