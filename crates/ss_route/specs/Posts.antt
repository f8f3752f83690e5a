-- What a POST says besides its body: its batch, and the sizes that it announces (SyncStorage API 1.5).
use Rattle.std.specs.Prelude.{ℕ, Bool, true, false, nat_le, is_some, List, [], ◌∷◌, bytes_eq, decimal, Option, Some}
use Rattle.std.specs.Prelude.{None, option_and_then, unwrap_or, Result, Ok, Err, if◌then◌else◌, codes}
use Rattle.std.specs.List.{list_all}
use Rattle.std.specs.Option.{option_map_or}
use Rattle.base64.specs.GeneralPurpose.{encode_of, decoded_of}
use Rattle.base64.specs.Engines.{url_safe_no_pad}
use Rattle.ss_text.specs.Numbers.{number_of}
use Rattle.ss_query.specs.declared.requests.Mode.{Mode}
use Rattle.ss_query.specs.declared.requests.Mode.TheVariants.{Plain, Begin, Append, Commit}
use Rattle.ss_query.specs.declared.replies.Said.TheVariants as words
use Rattle.ss_query.specs.Parameters.{parameter}
use Rattle.ss_bso.specs.Members.{◌>>=◌}
use Rattle.ss_bso.specs.Limits.{most_batch_records, most_batch_bytes}
use Rattle.ss_query.specs.Fit.{most_post_records, most_post_bytes}
use Rattle.ss_route.specs.declared.routed.Local.{Local}
use Rattle.ss_http.specs.Fields.{first_named}
use Rattle.ss_route.specs.Refusals.{local_with_word, code}
use Rattle.ss_route.specs.Targets.{positive_of}

-- the id of a batch: the base64 of RFC 4648 for URLs, without padding, of its number's decimal text
unfoldable pub token : ℕ → List ℕ
token number = encode_of url_safe_no_pad (decimal number)

-- the number from 1 to 999,999,999,999 of which a text is the id; no other text of the same bytes counts
unfoldable pub batch_of : List ℕ → Option ℕ
batch_of text = option_and_then (positive_of 12) (decoded_of url_safe_no_pad text)

-- whether a POST commits: `commit` must be `true`, and stand beside `batch`
abbrev pub commits_in : Option (List ℕ) → Option (List ℕ) → Result Bool Local
commits_in batch None = Ok false
commits_in None (Some commit) = Err (local_with_word 400 words.Commit)
commits_in (Some batch) (Some commit) = if bytes_eq commit (codes "true") then Ok true else Err (local_with_word 400 words.Commit)

-- a batch that goes on, or ends
abbrev pub continues : Bool → Option ℕ → Result Mode Local
continues commits None = Err (local_with_word 400 words.Batch)
continues false (Some number) = Ok (Append number)
continues true (Some number) = Ok (Commit number)

-- `batch` must be `true` or the id of a batch; one that begins and is committed at once is a plain POST
abbrev pub batch_in : Bool → Option (List ℕ) → Result Mode Local
batch_in commits None = Ok Plain
batch_in commits (Some batch) =
    if bytes_eq batch (codes "true") then Ok (if commits then Plain else Begin) else continues commits (batch_of batch)

-- how the records of a POST are taken
abbrev pub mode_of : Option (List ℕ) → Option (List ℕ) → Result Mode Local
mode_of batch commit = do
  commits ← commits_in batch commit
  batch_in commits batch

unfoldable pub mode_in : List ℕ → Result Mode Local
mode_in query = mode_of (parameter (codes "batch") query) (parameter (codes "commit") query)

-- whether a query names a batch, with whatever value
abbrev pub names_batch : List ℕ → Bool
names_batch query = is_some (parameter (codes "batch") query)

-- the sizes that a POST may announce, each with its limit; those of the whole batch count where one is named
abbrev pub sizes : Bool → List (List ℕ × ℕ)
sizes batch =
    (codes "X-Weave-Records", most_post_records) ∷ (codes "X-Weave-Bytes", most_post_bytes)
    ∷ (if batch then ((codes "X-Weave-Total-Records", most_batch_records) ∷ (codes "X-Weave-Total-Bytes", most_batch_bytes) ∷ []) else [])

-- a size is announced in 1 to 15 digits, or not at all
abbrev pub is_readable : List (List ℕ × List ℕ) → List ℕ × ℕ → Bool
is_readable fields size = option_map_or (λ value. is_some (number_of 15 value)) (first_named size.0 fields) true

-- an announced size is within its limit
abbrev pub is_within : List (List ℕ × List ℕ) → List ℕ × ℕ → Bool
is_within fields size =
    option_map_or (λ value. nat_le (unwrap_or (number_of 15 value) 0) size.1) (first_named size.0 fields) true

-- all announced sizes must be numbers, and then within their limits
unfoldable pub announced_in : Bool → List (List ℕ × List ℕ) → Result (Unit {0}) Local
announced_in batch fields =
    if list_all (is_readable fields) (sizes batch)
    then (if list_all (is_within fields) (sizes batch) then Ok tt else Err (code 17))
    else Err (local_with_word 400 words.Announce)
