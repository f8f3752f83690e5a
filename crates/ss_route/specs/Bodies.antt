-- The types of bodies, and what the bodies of PUT and POST give (SyncStorage API 1.5).
use Rattle.std.specs.Prelude.{ℕ, ◌+◌, Bool, true, false, not, ◌&&◌, ◌||◌, nat_le, List, length, bytes_eq, Option, Some}
use Rattle.std.specs.Prelude.{None, ok_or, Result, Ok, Err, if◌then◌else◌, codes}
use Rattle.std.specs.Option.{option_map_or}
use Rattle.std.specs.Str.{str_eq_ignore_ascii_case}
use Rattle.ss_bso.specs.declared.parts.Fields.{Fields}
use Rattle.ss_bso.specs.declared.parts.Records.{Records}
use Rattle.ss_bso.specs.Members.{fields_of_text}
use Rattle.ss_bso.specs.Bodies.{records_of_text}
use Rattle.ss_query.specs.declared.replies.Said.TheVariants as words
use Rattle.ss_bso.specs.Members.{◌>>=◌}
use Rattle.ss_bso.specs.Limits.{part_bytes}
use Rattle.ss_query.specs.Fit.{most_post_records, most_post_bytes}
use Rattle.ss_route.specs.declared.routed.Local.{Local}
use Rattle.ss_http.specs.Fields.{first_named}
use Rattle.ss_route.specs.Fields.{without_parameters}
use Rattle.ss_route.specs.Refusals.{local_with_word, code, or_refusal, fields_refusal, body_refusal}

-- a content coding other than `identity`
abbrev pub is_coded : List (List ℕ × List ℕ) → Bool
is_coded fields = option_map_or (λ coding. not (bytes_eq coding (codes "identity"))) (first_named (codes "Content-Encoding") fields) false

-- whether a body of this type is one object a line; None where the type isn't read. Lines are a POST's alone
unfoldable pub lines_of_type : Bool → List ℕ → Option Bool
lines_of_type posts type =
    if str_eq_ignore_ascii_case type (codes "application/json") || str_eq_ignore_ascii_case type (codes "text/plain") then Some false
    else (if posts && str_eq_ignore_ascii_case type (codes "application/newlines") then Some true else None)

-- a body without a type is JSON
abbrev pub lines_of_field : Bool → Option (List ℕ) → Option Bool
lines_of_field posts None = Some false
lines_of_field posts (Some value) = lines_of_type posts (without_parameters value)

-- whether a body is one object a line: it must have no coding, and a type that is read
unfoldable pub is_in_lines : Bool → List (List ℕ × List ℕ) → Result Bool Local
is_in_lines posts fields =
    if is_coded fields then Err (local_with_word 415 words.Type)
    else ok_or (lines_of_field posts (first_named (codes "Content-Type") fields)) (local_with_word 415 words.Type)

-- the fields that the body of a PUT gives
unfoldable pub fields_in : List ℕ → Result Fields Local
fields_in body = or_refusal fields_refusal (fields_of_text body)

-- the records of a POST must be within its limits
abbrev pub within_limits : Records → Result Records Local
within_limits records =
    if nat_le (length records.parts + length records.failed) most_post_records && nat_le (part_bytes records.parts) most_post_bytes
    then Ok records else Err (code 17)

-- the records that the body of a POST gives
unfoldable pub records_in : Bool → List ℕ → Result Records Local
records_in lines body = do
  records ← or_refusal body_refusal (records_of_text lines body)
  within_limits records
