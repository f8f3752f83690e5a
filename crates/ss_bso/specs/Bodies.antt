-- What the body of a POST says: the records that can be put and those that failed, or the first element against it
-- (SyncStorage API 1.5).
use Rattle.std.specs.Prelude.{◌≡◌, ℕ, ◌+◌, List, [], ◌∷◌, ◌++◌, map, Bool, is_some, if◌then◌else◌, Option, Some, None}
use Rattle.std.specs.Prelude.{Result, Ok, Err, option_and_then, codes, ⊤}
use Rattle.std.specs.List.{filter_map}
use Rattle.serde_json.specs.Data.{Data, Items, no_items, item}
use Rattle.serde_json.specs.Find.{get, as_str, as_array}
use Rattle.ss_text.specs.Names.{is_id}
use Rattle.ss_text.specs.Texts.{lines_of}
use Rattle.ss_bso.specs.Members.{parsed_body, fields_of}
use Rattle.ss_bso.specs.declared.parts.Fields.{Fields}
use Rattle.ss_bso.specs.declared.parts.Reason.{Reason}
use Rattle.ss_bso.specs.declared.parts.Part.{Part}
use Rattle.ss_bso.specs.declared.parts.Records.{Records}
use Rattle.ss_bso.specs.declared.bodies.BodyFault.{BodyFault}
use Rattle.ss_bso.specs.declared.bodies.BodyFault.TheVariants as fault

-- the id of an object: its member, where that is a string with the form of an id
unfoldable pub id_of : Data → Option (List ℕ)
id_of d = option_and_then (λ text. if is_id text then Some text else None) (option_and_then as_str (get (codes "id") d))

-- the part of an id and fields, where there are both
abbrev pub part_with : Option (List ℕ) → Result Fields Reason → Option Part
part_with (Some id) (Ok fields) = Some (record { id = id; fields = fields })
part_with (Some id) (Err reason) = None
part_with None fields = None

-- the failure of an id whose fields are refused
abbrev pub failure_with : Option (List ℕ) → Result Fields Reason → Option (List ℕ × Reason)
failure_with (Some id) (Err reason) = Some (id, reason)
failure_with (Some id) (Ok fields) = None
failure_with None fields = None

-- what an element gives; it is None where it is no JSON
abbrev pub part_of : Option Data → Option Part
part_of element = option_and_then (λ d. part_with (id_of d) (fields_of d)) element

abbrev pub failed_of : Option Data → Option (List ℕ × Reason)
failed_of element = option_and_then (λ d. failure_with (id_of d) (fields_of d)) element

-- the fault of the element at a place: it is no JSON, or no object with an id
abbrev pub fault_at : ℕ → Option Data → Option BodyFault
fault_at place None = Some fault.NotJson
fault_at place (Some d) = if is_some (id_of d) then None else Some (fault.NoId place)

-- the fault of the first element that has one; places count from this one
abbrev pub first_fault : ℕ → List (Option Data) → Option BodyFault
first_fault place [] = None
first_fault place (e ∷ es) = if is_some (fault_at place e) then fault_at place e else first_fault (place + 1) es

abbrev pub or_fault : {A : Type 0} → Option BodyFault → A → Result A BodyFault
or_fault None x = Ok x
or_fault (Some f) x = Err f

-- the records that can be put and those that failed, each in the order of the body; places count from 1
unfoldable pub records_of : List (Option Data) → Result Records BodyFault
records_of es = or_fault (first_fault 1 es) (record { parts = filter_map part_of es; failed = filter_map failed_of es })

abbrev pub items_list : Items → List (Option Data)
items_list no_items = []
items_list (item d ds) = Some d ∷ items_list ds

abbrev pub list_records : Option Items → Result Records BodyFault
list_records None = Err fault.NotList
list_records (Some ds) = records_of (items_list ds)

-- the body is one JSON list
abbrev pub json_records : Option Data → Result Records BodyFault
json_records None = Err fault.NotJson
json_records (Some d) = list_records (as_array d)

-- the records that the body of a POST gives, or what is wrong with it: one object a line, or one JSON list
unfoldable pub records_of_text : Bool → List ℕ → Result Records BodyFault
records_of_text lines text = if lines then records_of (map parsed_body (lines_of text)) else json_records (parsed_body text)

-- the answer is that one, unless memory ran out
abbrev pub GivesRecords : Result Records BodyFault → Result Records BodyFault → Type 0
GivesRecords (Ok records) answer = answer ≡ Ok records
GivesRecords (Err fault.NotJson) answer = answer ≡ Err fault.NotJson
GivesRecords (Err fault.NotList) answer = answer ≡ Err fault.NotList
GivesRecords (Err (fault.NoId place)) answer = answer ≡ Err (fault.NoId place)
GivesRecords (Err fault.Memory) answer = ⊤

-- new is old with that element at its end, where there is one
abbrev pub Grows : {A : Type 0} → List A → List A → Option A → Type 0
Grows old new None = new ≡ old
Grows old new (Some x) = new ≡ old ++ x ∷ []
