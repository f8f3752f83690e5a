-- Payloads as JSON: which are read, and what stands in their members.
use Rattle.std.specs.Prelude.{◌&&◌, nat_le, ℕ, List, [], ◌∷◌, Bool, true, false, not, if◌then◌else◌, Option, Some, None}
use Rattle.std.specs.Prelude.{option_map, option_and_then, unwrap_or, is_some, bytes_eq}
use Rattle.json.specs.Json.{document}
use Rattle.serde_json.specs.Data.{Data, null, boolean, number, string, array, object, Items, no_items, item, Members}
use Rattle.serde_json.specs.Data.{no_members, member, depth}
use Rattle.serde_json.specs.Read.{read}
use Rattle.serde_json.specs.Find.{as_object}
use Rattle.ss_text.specs.Decimals.{marked_text}
use Rattle.ss_record.specs.Ids.{has}
use Rattle.ss_record.specs.Marks.{string_of, is_plain}

-- the text is JSON (RFC 8259); so each name in it is a string, also in a member that a later one of its name replaces
abbrev pub is_json : List ℕ → Bool
is_json text = is_some (document text)

-- the members of a text that is a JSON object of at most 126 levels, as its marked text is read: a number that would be
-- rounded is kept as its characters, behind a mark
unfoldable pub payload_members : List ℕ → Option Members
payload_members text =
    if is_json text then option_and_then (λ d. if nat_le (depth d) 126 && is_plain d then as_object d else None) (read (marked_text text))
    else None

-- ---- members

-- the members whose names are not among these
abbrev pub without : List (List ℕ) → Members → Members
without names no_members = no_members
without names (member k d ms) = if has k names then without names ms else member k d (without names ms)

-- no member has one of these names
abbrev pub lacks : List (List ℕ) → Members → Bool
lacks names no_members = true
lacks names (member k d ms) = not (has k names) && lacks names ms

-- the strings of a list of strings
abbrev pub strings : Items → Option (List (List ℕ))
strings no_items = Some []
strings (item d ds) = option_and_then (λ s. option_map (λ ss. s ∷ ss) (strings ds)) (string_of d)

-- the list of strings that a value is
abbrev pub string_list : Data → Option (List (List ℕ))
string_list null = None
string_list (boolean b) = None
string_list (number n) = None
string_list (string s) = None
string_list (array ds) = strings ds
string_list (object ms) = None

-- a member that is this string
abbrev pub is_string : List ℕ → Option Data → Bool
is_string s None = false
is_string s (Some d) = unwrap_or (option_map (bytes_eq s) (string_of d)) false

-- a member that is `true`
abbrev pub is_true : Option Data → Bool
is_true None = false
is_true (Some null) = false
is_true (Some (boolean b)) = b
is_true (Some (number n)) = false
is_true (Some (string s)) = false
is_true (Some (array ds)) = false
is_true (Some (object ms)) = false
