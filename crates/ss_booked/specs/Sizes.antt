-- What a journal counts for its entries, and when it is full (limits of this project).
use Rattle.std.specs.Prelude.{◌≡◌, ◌<◌, ℕ, ◌+◌, ◌*◌, ◌/◌, ◌==◌, Bool, ◌||◌, nat_le, nat_lt, List, length, take, sum_by}
use Rattle.std.specs.Prelude.{Option, Some, None, if◌then◌else◌}
use Rattle.std.specs.Option.{option_map_or}
use Rattle.ss_bso.specs.Limits.{part_bytes, payload_size}
use Rattle.ss_query.specs.declared.requests.Request.{Request}
use Rattle.ss_query.specs.declared.requests.Request.TheVariants.{Post, List as ListOf, DeleteIds, Put}
use Rattle.ss_desk.specs.declared.journaled.Full.{Full}
use Rattle.ss_laws.specs.declared.journal.Entry.{Entry}
use Rattle.ss_laws.specs.Journal.{Journal}

-- the most entries of a journal
abbrev pub most_entries : ℕ
most_entries = 200000

-- a journal of so many bytes is full
abbrev pub most_journal_bytes : ℕ
most_journal_bytes = 67108864

-- what a journal counts for an entry beside its payloads, and once more for each part, failed record and listed id
abbrev pub entry_bytes : ℕ
entry_bytes = 256

-- the parts, the failed records and the listed ids of a request
abbrev pub count_of_items : Request → ℕ
count_of_items (Post collection records mode cond) = length records.parts + length records.failed
count_of_items (ListOf collection query cond) = option_map_or (λ ids. length ids) query.ids 0
count_of_items (DeleteIds collection ids cond) = length ids
count_of_items _ = 0

-- the payload bytes of a request's parts or fields
abbrev pub payload_of : Request → ℕ
payload_of (Post collection records mode cond) = part_bytes records.parts
payload_of (Put collection id fields cond) = payload_size fields.payload
payload_of _ = 0

-- the bytes that a journal counts for a request: 256, 256 more for each part, failed record and listed id, and the payload bytes
abbrev pub request_bytes : Request → ℕ
request_bytes request = entry_bytes + entry_bytes * count_of_items request + payload_of request

-- the bytes that a journal counts for its entries
abbrev pub journal_bytes : List Entry → ℕ
journal_bytes entries = sum_by (λ entry. request_bytes entry.request) entries

-- whether a journal has no room for a call
abbrev pub is_full : Journal → Bool
is_full journal = (length journal.entries == journal.most) || nat_le most_journal_bytes (journal_bytes journal.entries)

-- whether a journal is more than half full, by its entries or by its bytes
abbrev pub is_half_full : Journal → Bool
is_half_full journal = nat_lt (journal.most / 2) (length journal.entries) || nat_lt (most_journal_bytes / 2) (journal_bytes journal.entries)

-- the two numbers of a journal that is full
abbrev pub full_of : Journal → Option Full
full_of journal = if is_full journal then Some (record { entries = length journal.entries; bytes = journal_bytes journal.entries }) else None

-- each entry of a journal was made while it had room for a call
abbrev pub HadRoom : Journal → Type 0
HadRoom journal = (k : ℕ) → k < length journal.entries → full_of (record journal { entries = take k journal.entries }) ≡ None
