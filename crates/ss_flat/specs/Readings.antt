-- What a row of a collection without a tree says (the records are this project's profile of Firefox's history and forms).
use Rattle.std.specs.Prelude.{ℕ, ◌==◌, List, [], ◌∷◌, Bool, false, not, if◌then◌else◌, nat_lt, Option, Some, None}
use Rattle.std.specs.Prelude.{is_some, option_map, option_and_then, unwrap_or, bytes_eq, codes}
use Rattle.serde_json.specs.Data.{Data, Items, no_items, item}
use Rattle.serde_json.specs.Find.{get, as_null, as_bool, as_str, as_number, as_u64, as_array, as_object}
use Rattle.ss_text.specs.Decimals.{count_of}
use Rattle.ss_bso.specs.Members.{json_of}
use Rattle.ss_bso.specs.declared.rows.Row.{Row}
use Rattle.ss_flat.specs.declared.kinds.FlatKind.{FlatKind}
use Rattle.ss_flat.specs.declared.kinds.FlatKind.TheVariants.{History, Forms}
use Rattle.ss_flat.specs.declared.visits.Visit.{Visit}
use Rattle.ss_flat.specs.declared.reading.Said.{Said}
use Rattle.ss_flat.specs.declared.reading.Reading.{Reading}
use Rattle.ss_flat.specs.declared.reading.Reading.TheVariants.{Record, Tombstone, Skipped}

-- the string that a member is
abbrev pub string_of : Option Data → Option (List ℕ)
string_of member = option_and_then as_str member

-- a string, null or absent; both of these are the empty text
unfoldable pub title_of : Option Data → Option (List ℕ)
title_of None = Some []
title_of (Some d) = if is_some (as_null d) then Some [] else as_str d

-- a whole number from 0 that is below a limit
unfoldable pub number_below : ℕ → Option Data → Option ℕ
number_below limit member = option_and_then (λ n. if nat_lt n limit then Some n else None) (option_and_then (λ d. option_and_then as_u64 (as_number d)) member)

-- an object with a `date` of at most 18 digits and a `type` from 0 to 255
unfoldable pub visit_of : Data → Option Visit
visit_of d =
    option_and_then (λ date. option_map (λ kind. record { date = date; kind = kind }) (number_below 256 (get (codes "type") d)))
    (number_below 1000000000000000000 (get (codes "date") d))

-- the visits of a list of such objects
abbrev pub visits_in : Items → Option (List Visit)
visits_in no_items = Some []
visits_in (item d ds) = option_and_then (λ v. option_map (λ vs. v ∷ vs) (visits_in ds)) (visit_of d)

unfoldable pub visits_of : Option Data → Option (List Visit)
visits_of member = option_and_then visits_in (option_and_then as_array member)

-- a record of history: its address, its title and its visits
unfoldable pub history_of : Data → Option Said
history_of d =
    option_and_then (λ address.
    option_and_then (λ title.
    option_map (λ visits. record { first = address; second = title; visits = visits })
    (visits_of (get (codes "visits") d)))
    (title_of (get (codes "title") d)))
    (string_of (get (codes "histUri") d))

-- a record of forms: its name and its value
unfoldable pub form_of : Data → Option Said
form_of d =
    option_and_then (λ name.
    option_map (λ value. record { first = name; second = value; visits = [] })
    (string_of (get (codes "value") d)))
    (string_of (get (codes "name") d))

abbrev pub said_of : FlatKind → Data → Option Said
said_of History d = history_of d
said_of Forms d = form_of d

-- a member that is this string, and one that is `true`
unfoldable pub is_text : List ℕ → Option Data → Bool
is_text s member = unwrap_or (option_map (bytes_eq s) (string_of member)) false

unfoldable pub is_true : Option Data → Bool
is_true member = unwrap_or (option_and_then as_bool member) false

-- what an object says of the id of its row: that it is deleted, or a record; nothing where it has another id
unfoldable pub object_reading : FlatKind → List ℕ → Data → Reading
object_reading kind id d =
    if not (is_text id (get (codes "id") d)) then Skipped
    else (if is_true (get (codes "deleted") d) then Tombstone
    else unwrap_or (option_map (λ said. Record said) (said_of kind d)) Skipped)

-- what a value says; only an object says something
unfoldable pub value_reading : FlatKind → List ℕ → Option Data → Reading
value_reading kind id None = Skipped
value_reading kind id (Some d) = if is_some (as_object d) then object_reading kind id d else Skipped

-- what a row says: its payload is JSON in which no number has a point, an exponent or more than 18 digits, or is -0
unfoldable pub reading : FlatKind → Row → Reading
reading kind row = if count_of row.payload == 0 then value_reading kind row.id (json_of row.payload) else Skipped
