-- The limits of an account, of what a request brings and of a batch (this project), and the numbers that they are limits of.
-- Payload bytes are the UTF-8 bytes of the decoded string. The constants of the code are proved to be these.
use Rattle.std.specs.Prelude.{ℕ, ℤ, pos, negsuc, ◌+◌, Bool, ◌||◌, nat_lt, List, length, filter, sum_by, bytes_eq}
use Rattle.ss_bso.specs.declared.rows.Row.{Row}
use Rattle.ss_bso.specs.declared.parts.Part.{Part}
use Rattle.ss_bso.specs.declared.parts.Field.{Field}
use Rattle.ss_bso.specs.Put.{field_value}

-- the most bytes of one payload
abbrev pub most_record_payload_bytes : ℕ
most_record_payload_bytes = 2097152

-- the least sortindex, -999,999,999, and the greatest (SyncStorage API 1.5: at most 9 digits)
abbrev pub least_sortindex : ℤ
least_sortindex = negsuc 999999998

abbrev pub most_sortindex : ℤ
most_sortindex = pos 999999999

-- the greatest ttl, in seconds (SyncStorage API 1.5: at most 9 digits)
abbrev pub most_ttl : ℕ
most_ttl = 999999999

-- the most records of one POST; those that failed count too
abbrev pub most_post_records : ℕ
most_post_records = 100

-- the most payload bytes of the records of one POST that didn't fail
abbrev pub most_post_bytes : ℕ
most_post_bytes = 2097152

-- the most ids of one list in a request
abbrev pub most_ids : ℕ
most_ids = 100

-- the most payload bytes of an account's rows
abbrev pub most_account_payload_bytes : ℕ
most_account_payload_bytes = 134217728

-- the most rows and collections of an account, together
abbrev pub most_rows_and_collections : ℕ
most_rows_and_collections = 200000

-- the most parts of a batch
abbrev pub most_batch_records : ℕ
most_batch_records = 20000

-- the most payload bytes of a batch
abbrev pub most_batch_bytes : ℕ
most_batch_bytes = 16777216

-- the most live batches of an account
abbrev pub most_live_batches : ℕ
most_live_batches = 4

-- the rows of a collection
abbrev pub rows_of : List ℕ → List Row → List Row
rows_of collection rows = filter (λ row. bytes_eq row.collection collection) rows

-- the payload bytes of rows
abbrev pub row_bytes : List Row → ℕ
row_bytes rows = sum_by (λ row. length row.payload) rows

-- whether rows and so many collections are more than an account may have
abbrev pub is_too_much : List Row → ℕ → Bool
is_too_much rows collections = nat_lt most_account_payload_bytes (row_bytes rows) || nat_lt most_rows_and_collections (length rows + collections)

-- the payload bytes that a part brings
abbrev pub payload_size : Field (List ℕ) → ℕ
payload_size payload = field_value payload 0 0 (λ text. length text)

-- the payload bytes of the parts of a request or a batch
abbrev pub part_bytes : List Part → ℕ
part_bytes parts = sum_by (λ part. payload_size part.fields.payload) parts
