-- The texts of bodies (SyncStorage API 1.5): JSON without spaces (RFC 8259).
use Rattle.std.specs.Prelude.{ℕ, ℤ, ◌*◌, ◌/◌, Bool, List, [], ◌++◌, map, flat_map, ◌∷◌, Option, Some, None}
use Rattle.std.specs.Prelude.{if◌then◌else◌, codes, decimal}
use Rattle.std.specs.Fmt.{signed_decimal}
use Rattle.std.specs.List.{join_with_byte}
use Rattle.serde_json.specs.Data.{string}
use Rattle.serde_json.specs.Written.{compact_text}
use Rattle.ss_text.specs.Time.{stamp_text}
use Rattle.ss_bso.specs.Limits.{most_post_records, most_post_bytes, most_batch_records, most_batch_bytes}
use Rattle.ss_bso.specs.Limits.{most_record_payload_bytes, most_account_payload_bytes}
use Rattle.ss_http.specs.Limits.{most_body_bytes}
use Rattle.ss_bso.specs.declared.rows.Row.{Row}
use Rattle.ss_bso.specs.declared.parts.Reason.{Reason}
use Rattle.ss_query.specs.declared.replies.Body.{Body}
use Rattle.ss_query.specs.declared.replies.Body.TheVariants.{Times, Counts, Usage, Quota, Limits, Gone, Ids, Rows}
use Rattle.ss_query.specs.declared.replies.Body.TheVariants.{Posted, Staged, One, At, Empty, Code, Said as Word}
use Rattle.ss_query.specs.declared.replies.Said.{Said}
use Rattle.ss_query.specs.declared.replies.Said.TheVariants as words
use Rattle.ss_query.specs.Reasons.{reason_name}
use Rattle.ss_route.specs.Posts.{token}

-- a string in JSON
unfoldable pub json_text : List ℕ → List ℕ
json_text text = compact_text (string text)

-- a list of JSON texts, and an object of members
unfoldable pub list_text : List (List ℕ) → List ℕ
list_text elements = codes "[" ++ join_with_byte 0x2c elements ++ codes "]"

unfoldable pub object_text : List (List ℕ) → List ℕ
object_text members = codes "{" ++ join_with_byte 0x2c members ++ codes "}"

-- JSON texts, each with a newline behind it
unfoldable pub lines_text : List (List ℕ) → List ℕ
lines_text elements = flat_map (λ element. element ++ codes "\n") elements

-- the elements of a list in the form that is asked for
abbrev pub elements_text : Bool → List (List ℕ) → List ℕ
elements_text lines elements = if lines then lines_text elements else list_text elements

-- a member of an object
unfoldable pub member_text : List ℕ → List ℕ → List ℕ
member_text name value = json_text name ++ codes ":" ++ value

-- the sortindex of a record, where it has one
unfoldable pub sortindex_text : Option ℤ → List ℕ
sortindex_text None = []
sortindex_text (Some index) = codes ",\"sortindex\":" ++ signed_decimal index

-- a record
unfoldable pub row_text : Row → List ℕ
row_text row =
    codes "{\"id\":" ++ json_text row.id ++ codes ",\"modified\":" ++ stamp_text row.modified ++ codes ",\"payload\":" ++ json_text row.payload
    ++ sortindex_text row.sortindex ++ codes "}"

-- payload bytes in KB, rounded down to hundredths
unfoldable pub kilobytes_text : ℕ → List ℕ
kilobytes_text bytes = stamp_text (bytes * 100 / 1024)

-- the failed records of a POST, each with a list of its one reason
abbrev pub failure_text : List ℕ × Reason → List ℕ
failure_text failure = member_text failure.0 (codes "[\"" ++ reason_name failure.1 ++ codes "\"]")

-- what a POST is told of its records
unfoldable pub records_text : List (List ℕ) → List (List ℕ × Reason) → List ℕ
records_text success failed =
    codes ",\"success\":" ++ list_text (map json_text success) ++ codes ",\"failed\":" ++ object_text (map failure_text failed) ++ codes "}"

-- a word of an error body
abbrev pub word_text : Said → List ℕ
word_text words.Account = codes "account"
word_text words.Announce = codes "announce"
word_text words.Batch = codes "batch"
word_text words.Batches = codes "batches"
word_text words.Clock = codes "clock"
word_text words.Commit = codes "commit"
word_text words.Condition = codes "condition"
word_text words.Head = codes "head"
word_text words.Ids = codes "ids"
word_text words.Item = codes "item"
word_text words.Keeper = codes "keeper"
word_text words.Length = codes "length"
word_text words.Limit = codes "limit"
word_text words.Memory = codes "memory"
word_text words.Modified = codes "modified"
word_text words.Offset = codes "offset"
word_text words.Path = codes "path"
word_text words.Size = codes "size"
word_text words.Sort = codes "sort"
word_text words.Stamp = codes "stamp"
word_text words.Term = codes "term"
word_text words.Type = codes "type"

-- the limits of the server, by their names in its configuration
abbrev pub limits : List (List ℕ × ℕ)
limits =
    (codes "max_request_bytes", most_body_bytes) ∷ (codes "max_post_records", most_post_records) ∷ (codes "max_post_bytes", most_post_bytes)
    ∷ (codes "max_total_records", most_batch_records) ∷ (codes "max_total_bytes", most_batch_bytes) ∷ (codes "max_record_payload_bytes", most_record_payload_bytes)
    ∷ []

unfoldable pub limits_text : List ℕ
limits_text = object_text (map (λ limit. member_text limit.0 (decimal limit.1)) limits)

-- a body; the lines are asked of lists alone
unfoldable pub body_text : Bool → Body → List ℕ
body_text lines (Times times) = object_text (map (λ entry. member_text entry.0 (stamp_text entry.1)) times)
body_text lines (Counts counts) = object_text (map (λ entry. member_text entry.0 (decimal entry.1)) counts)
body_text lines (Usage usage) = object_text (map (λ entry. member_text entry.0 (kilobytes_text entry.1)) usage)
body_text lines (Quota used) = codes "[" ++ kilobytes_text used ++ codes "," ++ kilobytes_text most_account_payload_bytes ++ codes "]"
body_text lines Limits = limits_text
body_text lines (Gone time) = codes "{\"modified\":" ++ stamp_text time ++ codes "}"
body_text lines (Ids ids) = elements_text lines (map json_text ids)
body_text lines (Rows rows) = elements_text lines (map row_text rows)
body_text lines (Posted modified success failed) = codes "{\"modified\":" ++ stamp_text modified ++ records_text success failed
body_text lines (Staged batch success failed) = codes "{\"batch\":\"" ++ token batch ++ codes "\"" ++ records_text success failed
body_text lines (One row) = row_text row
body_text lines (At time) = stamp_text time
body_text lines Empty = []
body_text lines (Code code) = decimal code
body_text lines (Word word) = codes "\"" ++ word_text word ++ codes "\""
