-- Why a plan isn't sent: the server's limits.
use Rattle.std.specs.Prelude.{ℕ, min, List, [], nat_lt, if◌then◌else◌, Option, Some, None, length, find, sum_by}
use Rattle.std.specs.Prelude.{option_map, codes}
use Rattle.serde_json.specs.Data.{string, array, object, no_items, item, no_members, member}
use Rattle.serde_json.specs.Written.{compact_text}
use Rattle.ss_bso.specs.declared.parts.Field.{Field}
use Rattle.ss_bso.specs.declared.parts.Field.TheVariants.{Keep, Clear, Set}
use Rattle.ss_bso.specs.declared.parts.Part.{Part}
use Rattle.ss_plan.specs.declared.limits.Limits.{Limits}
use Rattle.ss_plan.specs.declared.limits.PlanFault.{PlanFault}
use Rattle.ss_plan.specs.declared.limits.PlanFault.TheVariants.{RecordTooLarge, BodyTooLarge, TooManyRecords}
use Rattle.ss_plan.specs.declared.limits.PlanFault.TheVariants.{TooManyBytes}
use Rattle.ss_bso.specs.Put.{payload_set}

-- the payload bytes of a part
abbrev pub payload_bytes : Part → ℕ
payload_bytes part = length (payload_set part.fields.payload)

-- the body with a part alone: a JSON list of its object, which has its id and its payload
unfoldable pub lone_body : Part → List ℕ
lone_body part =
    compact_text (array (item (object (member (codes "id") (string part.id) (member (codes "payload") (string (payload_set part.fields.payload)) no_members))) no_items))

-- its bytes: those of the object and of two brackets
abbrev pub body_bytes : Part → ℕ
body_bytes part = length (lone_body part)

-- the payload bytes of all parts, counted up to the greatest u64
unfoldable pub total_bytes : List Part → ℕ
total_bytes parts = min (sum_by payload_bytes parts) 18446744073709551615

-- the first part of which this number is above the most
abbrev pub first_over : (Part → ℕ) → ℕ → List Part → Option Part
first_over number most parts = find (λ part. nat_lt most (number part)) parts

-- the number, where it is above the most
abbrev pub over : ℕ → ℕ → Option ℕ
over most n = if nat_lt most n then Some n else None

-- the first fault that there is
abbrev pub or_else : Option PlanFault → Option PlanFault → Option PlanFault
or_else (Some fault) other = Some fault
or_else None other = other

-- the refusal, of several the first in this order
unfoldable pub refusal : Limits → List Part → Option PlanFault
refusal limits parts =
    or_else (option_map (λ p. RecordTooLarge p.id (payload_bytes p)) (first_over payload_bytes limits.max_record_payload_bytes parts))
    (or_else (option_map (λ p. BodyTooLarge p.id (body_bytes p)) (first_over body_bytes limits.max_request_bytes parts))
    (or_else (option_map TooManyRecords (over limits.max_total_records (length parts)))
    (option_map TooManyBytes (over limits.max_total_bytes (total_bytes parts)))))
