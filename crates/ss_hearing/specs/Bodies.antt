-- Bodies as JSON (RFC 8259), in which a number is the characters that it has.
use Rattle.std.specs.Prelude.{ℕ, List, [], ◌∷◌, if◌then◌else◌, Option, Some, None, option_map, option_and_then}
use Rattle.std.specs.Str.{is_utf8}
use Rattle.json.specs.Json.{Json, Items, no_items, item, document}
use Rattle.json.specs.Find.{get, as_str, as_number}
use Rattle.ss_text.specs.Names.{is_id}
use Rattle.ss_text.specs.Time.{stamp_of}

-- go on with the value, or stop where there is none
infixl 10 ◌>>=◌
abbrev pub ◌>>=◌ : {A B : Type 0} → Option A → (A → Option B) → Option B
None >>= f = None
(Some x) >>= f = f x

-- the JSON value of a body
unfoldable pub json_of : List ℕ → Option Json
json_of body = if is_utf8 body then document body else None

-- the string that a member is; of equal members the last
abbrev pub string_in : List ℕ → Json → Option (List ℕ)
string_in name d = option_and_then as_str (get name d)

-- the characters of the number that a member is
abbrev pub number_in : List ℕ → Json → Option (List ℕ)
number_in name d = option_and_then as_number (get name d)

-- the time that a member is: a number whose characters are a time
unfoldable pub stamp_in : List ℕ → Json → Option ℕ
stamp_in name d = option_and_then stamp_of (number_in name d)

-- a text, where it has the form of an id
abbrev pub id_text : List ℕ → Option (List ℕ)
id_text text = if is_id text then Some text else None

-- the id that a value is: a string of that form
unfoldable pub id_of : Json → Option (List ℕ)
id_of d = option_and_then id_text (as_str d)

-- what the items of a list say, where each says something
abbrev pub each : {A : Type 0} → (Json → Option A) → Items → Option (List A)
each f no_items = Some []
each f (item d ds) = option_and_then (λ x. option_map (λ xs. x ∷ xs) (each f ds)) (f d)
