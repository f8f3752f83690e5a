-- What a request that isn't refused is told.
use Rattle.std.specs.Prelude.{ℕ, ◌+◌, Bool, List, map, length, Option, Some, None, if◌then◌else◌}
use Rattle.std.specs.Option.{option_map_or}
use Rattle.std.specs.Ordering.{is_lt}
use Rattle.ss_text.specs.Texts.{sorted, text_cmp, once_by}
use Rattle.ss_bso.specs.declared.rows.Row.{Row}
use Rattle.ss_bso.specs.declared.parts.Records.{Records}
use Rattle.ss_bso.specs.declared.parts.Reason.{Reason}
use Rattle.ss_bso.specs.declared.account.Plain.{Plain}
use Rattle.ss_bso.specs.Account.{row_at}
use Rattle.ss_bso.specs.Limits.{rows_of, row_bytes}
use Rattle.ss_bso.specs.Write.{ids_of}
use Rattle.ss_query.specs.declared.requests.Query.{Query}
use Rattle.ss_query.specs.declared.requests.Mode.{Mode}
use Rattle.ss_query.specs.declared.requests.Mode.TheVariants.{Plain as PlainPost, Begin, Append, Commit}
use Rattle.ss_query.specs.declared.requests.Info.{Info as InfoKind}
use Rattle.ss_query.specs.declared.requests.Info.TheVariants.{Collections, Counts, Usage, Quota, Configuration}
use Rattle.ss_query.specs.declared.requests.Request.{Request}
use Rattle.ss_query.specs.declared.requests.Request.TheVariants.{Info, DeleteAll, List as ListOf, Post}
use Rattle.ss_query.specs.declared.requests.Request.TheVariants.{DeleteCollection, DeleteIds, Get, Put, Delete}
use Rattle.ss_query.specs.declared.replies.Picked.{Picked}
use Rattle.ss_query.specs.declared.replies.Body.{Body}
use Rattle.ss_query.specs.declared.replies.Body.TheVariants.{Times, Counts as CountsBody, Usage as UsageBody}
use Rattle.ss_query.specs.declared.replies.Body.TheVariants.{Quota as QuotaBody, Limits, Gone, Ids, Rows, Posted}
use Rattle.ss_query.specs.declared.replies.Body.TheVariants.{Staged, One, At, Empty}
use Rattle.ss_query.specs.Answer.{answer}

-- names upwards by bytes
abbrev pub by_name : List (List ℕ × ℕ) → List (List ℕ × ℕ)
by_name entries = sorted (λ entry other. is_lt (text_cmp entry.0 other.0)) entries

-- each collection, also an empty one, with a number that its rows give
abbrev pub per_collection : (List Row → ℕ) → Plain → List (List ℕ × ℕ)
per_collection number account = map (λ entry. (entry.0, number (rows_of entry.0 account.rows))) (by_name account.collections)

-- what is told of the account as a whole
abbrev pub info_body : Plain → InfoKind → Body
info_body account Collections = Times (by_name account.collections)
info_body account Counts = CountsBody (per_collection length account)
info_body account Usage = UsageBody (per_collection row_bytes account)
info_body account Quota = QuotaBody (row_bytes account.rows)
info_body account Configuration = Limits

-- the records that failed, each id once, in the order of first appearance, with its first reason
abbrev pub first_failures : List (List ℕ × Reason) → List (List ℕ × Reason)
first_failures failed = once_by (λ failure. failure.0) failed

-- what a POST is told: the ids of its own good parts, each once, and its own failed records
abbrev pub post_body : Plain → Records → Mode → ℕ → Body
post_body account records PlainPost time = Posted time (ids_of records.parts) (first_failures records.failed)
post_body account records Begin time = Staged (account.counter + 1) (ids_of records.parts) (first_failures records.failed)
post_body account records (Append number) time = Staged number (ids_of records.parts) (first_failures records.failed)
post_body account records (Commit number) time = Posted time (ids_of records.parts) (first_failures records.failed)

-- the answer to a query of a collection, which is empty where the collection is absent
abbrev pub picked_rows : Plain → List ℕ → Query → Picked
picked_rows account collection query = answer (rows_of collection account.rows) query

-- the rows, or their ids alone
abbrev pub rows_body : Bool → List Row → Body
rows_body full rows = if full then Rows rows else Ids (map (λ row. row.id) rows)

-- the body of a request that isn't refused; the time is the stamp after a write, and otherwise the target's (a GET of an absent item is
-- refused before, so its empty body is never reached)
abbrev pub body_of : Plain → Request → ℕ → Body
body_of account (Info what cond) time = info_body account what
body_of account (DeleteAll cond) time = Gone time
body_of account (ListOf collection query cond) time = rows_body query.full (picked_rows account collection query).rows
body_of account (Post collection records mode cond) time = post_body account records mode time
body_of account (DeleteCollection collection cond) time = Gone time
body_of account (DeleteIds collection ids cond) time = Gone time
body_of account (Get collection id cond) time = option_map_or (λ row. One row) (row_at collection id account.rows) Empty
body_of account (Put collection id fields cond) time = At time
body_of account (Delete collection id cond) time = Gone time

-- 202 for a batch that stays open
abbrev pub post_status : Mode → ℕ
post_status PlainPost = 200
post_status Begin = 202
post_status (Append number) = 202
post_status (Commit number) = 200

-- the status of a request that is not refused
abbrev pub ok_status : Request → ℕ
ok_status (Post collection records mode cond) = post_status mode
ok_status _ = 200

-- the page of a list: how many rows it has, and where the next begins
abbrev pub count_of : Plain → Request → Option ℕ
count_of account (ListOf collection query cond) = Some (length (picked_rows account collection query).rows)
count_of account _ = None

-- where the next page of a list begins
abbrev pub next_of : Plain → Request → Option ℕ
next_of account (ListOf collection query cond) = (picked_rows account collection query).next
next_of account _ = None
