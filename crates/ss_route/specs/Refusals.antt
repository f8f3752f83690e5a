-- What a message is told that isn't routed (SyncStorage API 1.5; which status has which word is this project's).
use Rattle.std.specs.Prelude.{◌≡◌, ℕ, List, [], ◌∷◌, ◌++◌, Some, None, Result, Ok, Err, codes, ⊤}
use Rattle.ss_bso.specs.declared.bodies.BodyFault.{BodyFault}
use Rattle.ss_bso.specs.declared.bodies.BodyFault.TheVariants as of_body
use Rattle.ss_bso.specs.declared.members.FieldsFault.{FieldsFault}
use Rattle.ss_bso.specs.declared.members.FieldsFault.TheVariants as of_fields
use Rattle.ss_bso.specs.declared.parts.Reason.{Reason}
use Rattle.ss_bso.specs.declared.parts.Reason.TheVariants as reasons
use Rattle.ss_query.specs.declared.queries.QueryFault.{QueryFault}
use Rattle.ss_query.specs.declared.queries.QueryFault.TheVariants as of_query
use Rattle.ss_query.specs.declared.replies.Body.TheVariants.{Empty, Code, Said as Word}
use Rattle.ss_query.specs.declared.replies.Said.{Said}
use Rattle.ss_query.specs.declared.replies.Said.TheVariants as words
use Rattle.ss_route.specs.declared.routed.Local.{Local}
use Rattle.ss_route.specs.declared.routed.Stop.{Stop}
use Rattle.ss_route.specs.declared.routed.Stop.TheVariants.{Refused, Memory}

-- a status with a word
abbrev pub local_with_word : ℕ → Said → Local
local_with_word status word = record { status = status; body = Word word; allow = None }

-- 400 with a code
abbrev pub code : ℕ → Local
code number = record { status = 400; body = Code number; allow = None }

-- names between commas, each comma with a space
abbrev pub comma_list : List (List ℕ) → List ℕ
comma_list [] = []
comma_list (name ∷ []) = name
comma_list (name ∷ other ∷ names) = name ++ codes ", " ++ comma_list (other ∷ names)

-- 405 with the methods that are allowed
abbrev pub not_allowed : List (List ℕ) → Local
not_allowed names = record { status = 405; body = Empty; allow = Some (comma_list names) }

-- what a query is told that is refused
abbrev pub query_refusal : QueryFault → Local
query_refusal of_query.BadIds = local_with_word 400 words.Ids
query_refusal (of_query.TooManyIds n) = code 17
query_refusal of_query.BadStamp = local_with_word 400 words.Stamp
query_refusal of_query.BadLimit = local_with_word 400 words.Limit
query_refusal of_query.BadOffset = local_with_word 400 words.Offset
query_refusal of_query.BadSort = local_with_word 400 words.Sort
query_refusal of_query.Memory = local_with_word 507 words.Memory

-- what a PUT is told whose body gives no fields: no JSON, no record, or a payload that is too large
abbrev pub reason_refusal : Reason → Local
reason_refusal reasons.Payload = code 8
reason_refusal reasons.TooLarge = code 17
reason_refusal reasons.Sortindex = code 8
reason_refusal reasons.Ttl = code 8

abbrev pub fields_refusal : FieldsFault → Local
fields_refusal of_fields.NotJson = code 6
fields_refusal of_fields.NotObject = code 8
fields_refusal (of_fields.Bad reason) = reason_refusal reason
fields_refusal of_fields.Memory = local_with_word 507 words.Memory

-- what a POST is told whose body gives no records
abbrev pub body_refusal : BodyFault → Local
body_refusal of_body.NotJson = code 6
body_refusal of_body.NotList = code 8
body_refusal (of_body.NoId place) = code 8
body_refusal of_body.Memory = local_with_word 507 words.Memory

-- what was read, or what is told of the fault
abbrev pub or_refusal : {A F : Type 0} → (F → Local) → Result A F → Result A Local
or_refusal told (Ok x) = Ok x
or_refusal told (Err fault) = Err (told fault)

-- a call's answer is that one, unless memory ran out
abbrev pub Settles : {A : Type 0} → Result A Stop → Result A Local → Type 0
Settles (Ok x) answer = answer ≡ Ok x
Settles (Err (Refused local)) answer = answer ≡ Err local
Settles (Err Memory) answer = ⊤

-- routing stops where a query is refused: by what that is told, or by want of memory
abbrev pub stop_of : QueryFault → Stop
stop_of of_query.BadIds = Refused (query_refusal of_query.BadIds)
stop_of (of_query.TooManyIds n) = Refused (query_refusal (of_query.TooManyIds n))
stop_of of_query.BadStamp = Refused (query_refusal of_query.BadStamp)
stop_of of_query.BadLimit = Refused (query_refusal of_query.BadLimit)
stop_of of_query.BadOffset = Refused (query_refusal of_query.BadOffset)
stop_of of_query.BadSort = Refused (query_refusal of_query.BadSort)
stop_of of_query.Memory = Memory
