-- What the members of a JSON object say of a record's fields (SyncStorage API 1.5).
use Rattle.std.specs.Prelude.{◌≡◌, ℕ, ℤ, List, length, ◌&&◌, nat_lt, nat_le, is_some, if◌then◌else◌, Option, Some, None}
use Rattle.std.specs.Prelude.{Result, Ok, Err, option_and_then, codes, ⊤}
use Rattle.std.specs.Str.{is_utf8}
use Rattle.std.specs.Int.Signed.{le_z}
use Rattle.serde_json.specs.Data.{Data}
use Rattle.serde_json.specs.Read.{read}
use Rattle.serde_json.specs.Find.{get, as_null, as_str, as_number, as_i64, as_u64, as_object}
use Rattle.ss_text.specs.Decimals.{wrapped_text}
use Rattle.ss_bso.specs.Limits.{most_record_payload_bytes, least_sortindex, most_sortindex, most_ttl}
use Rattle.ss_bso.specs.declared.parts.Field.{Field}
use Rattle.ss_bso.specs.declared.parts.Field.TheVariants.{Keep, Clear, Set}
use Rattle.ss_bso.specs.declared.parts.Fields.{Fields}
use Rattle.ss_bso.specs.declared.parts.Reason.{Reason}
use Rattle.ss_bso.specs.declared.parts.Reason.TheVariants.{Payload, TooLarge, Sortindex, Ttl}
use Rattle.ss_bso.specs.declared.members.FieldsFault.{FieldsFault}
use Rattle.ss_bso.specs.declared.members.FieldsFault.TheVariants as fault

-- the JSON value of bytes as serde_json reads them, of equal members the last; None where they are no JSON
abbrev pub json_of : List ℕ → Option Data
json_of bytes = if is_utf8 bytes then read bytes else None

-- the JSON value of a text once its decimals are wrapped
unfoldable pub parsed_body : List ℕ → Option Data
parsed_body text = json_of (wrapped_text text)

-- an absent member keeps the field, null clears it, and another value is read
abbrev pub member_field : {A : Type 0} → (Data → Result (Field A) Reason) → Option Data → Result (Field A) Reason
member_field value None = Ok Keep
member_field value (Some d) = if is_some (as_null d) then Ok Clear else value d

-- a payload: a string of at most so many bytes
abbrev pub payload_value : Option (List ℕ) → Result (Field (List ℕ)) Reason
payload_value None = Err Payload
payload_value (Some text) = if nat_lt most_record_payload_bytes (length text) then Err TooLarge else Ok (Set text)

-- a sortindex: a whole number from -999,999,999 to 999,999,999
abbrev pub sortindex_value : Option ℤ → Result (Field ℤ) Reason
sortindex_value None = Err Sortindex
sortindex_value (Some z) = if le_z least_sortindex z && le_z z most_sortindex then Ok (Set z) else Err Sortindex

-- a ttl: a whole number from 0 to 999,999,999
abbrev pub ttl_value : Option ℕ → Result (Field ℕ) Reason
ttl_value None = Err Ttl
ttl_value (Some n) = if nat_le n most_ttl then Ok (Set n) else Err Ttl

unfoldable pub payload_of : Option Data → Result (Field (List ℕ)) Reason
payload_of member = member_field (λ d. payload_value (as_str d)) member

unfoldable pub sortindex_of : Option Data → Result (Field ℤ) Reason
sortindex_of member = member_field (λ d. sortindex_value (option_and_then as_i64 (as_number d))) member

unfoldable pub ttl_of : Option Data → Result (Field ℕ) Reason
ttl_of member = member_field (λ d. ttl_value (option_and_then as_u64 (as_number d))) member

-- go on with the value, or stop with the first fault
infixl 10 ◌>>=◌
abbrev pub ◌>>=◌ : {A B E : Type 0} → Result A E → (A → Result B E) → Result B E
(Ok x) >>= f = f x
(Err e) >>= f = Err e

-- the fields of an object's members, or the first reason against them
unfoldable pub fields_of : Data → Result Fields Reason
fields_of d = do
  payload ← payload_of (get (codes "payload") d)
  sortindex ← sortindex_of (get (codes "sortindex") d)
  ttl ← ttl_of (get (codes "ttl") d)
  Ok (record { payload = payload; sortindex = sortindex; ttl = ttl })

abbrev pub bad : {A : Type 0} → Result A Reason → Result A FieldsFault
bad (Ok x) = Ok x
bad (Err reason) = Err (fault.Bad reason)

abbrev pub fields_of_json : Option Data → Result Fields FieldsFault
fields_of_json None = Err fault.NotJson
fields_of_json (Some d) = if is_some (as_object d) then bad (fields_of d) else Err fault.NotObject

-- the fields that the body of a PUT gives, or what is wrong with it
unfoldable pub fields_of_text : List ℕ → Result Fields FieldsFault
fields_of_text text = fields_of_json (parsed_body text)

-- the answer is that one, unless memory ran out
abbrev pub GivesFields : Result Fields FieldsFault → Result Fields FieldsFault → Type 0
GivesFields (Ok fields) answer = answer ≡ Ok fields
GivesFields (Err fault.NotJson) answer = answer ≡ Err fault.NotJson
GivesFields (Err fault.NotObject) answer = answer ≡ Err fault.NotObject
GivesFields (Err (fault.Bad reason)) answer = answer ≡ Err (fault.Bad reason)
GivesFields (Err fault.Memory) answer = ⊤
