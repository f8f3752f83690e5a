-- The requests that a sync client sends, as it writes them.
use Rattle.std.specs.Prelude.{◌≡◌, ◌⊎◌, ℕ, ◌≤◌, ◌<◌, true, false, List, [], ◌++◌, map, length, All, Option, Some, None}
use Rattle.std.specs.Prelude.{IfSome, if◌then◌else◌, codes, decimal, ⊤}
use Rattle.std.specs.List.{list_all}
use Rattle.std.specs.Str.{IsUtf8}
use Rattle.ss_text.specs.Time.{stamp_text, last_stamp}
use Rattle.ss_text.specs.declared.stamps.Cond.{Cond}
use Rattle.ss_text.specs.declared.stamps.Cond.TheVariants.{Free, IfModified, IfUnmodified, IfAbsent}
use Rattle.ss_bso.specs.declared.parts.Field.{Field}
use Rattle.ss_bso.specs.declared.parts.Field.TheVariants.{Keep, Clear, Set}
use Rattle.ss_bso.specs.declared.parts.Part.{Part}
use Rattle.ss_text.specs.Names.{is_id}
use Rattle.ss_http.specs.Requests.{IsCond, is_host_byte, request_text, message_sent}
use Rattle.ss_http.specs.declared.message.Message.{Message}
use Rattle.ss_query.specs.Refused.{condition_of, with_condition}
use Rattle.ss_query.specs.declared.requests.Info.TheVariants.{Configuration}
use Rattle.ss_query.specs.declared.requests.Mode.{Mode}
use Rattle.ss_query.specs.declared.requests.Mode.TheVariants.{Plain, Begin, Append, Commit}
use Rattle.ss_query.specs.declared.requests.Query.{Query}
use Rattle.ss_query.specs.declared.requests.Request.{Request}
use Rattle.ss_query.specs.declared.requests.Request.TheVariants.{Info, List as ListOf, Post}
use Rattle.ss_query.specs.declared.requests.Sort.TheVariants.{Newest, Oldest}
use Rattle.ss_route.specs.Conditions.{cond_meant}
use Rattle.ss_route.specs.Posts.{token}
use Rattle.ss_route.specs.declared.manner.Manner.{Manner}
use Rattle.ss_route.specs.Texts.{json_text, list_text}
use Rattle.ss_http.specs.Limits.{most_body_bytes, most_host_bytes}
use Rattle.ss_bso.specs.Put.{payload_set}

-- the query of a page of 1,000 whole records, the oldest first: of all, or of those that are newer than a time
abbrev pub page : Option ℕ → ℕ → Query
page newer offset = record { ids = None; newer = newer; older = None; limit = Some 1000; offset = offset; sort = Oldest; full = true }

-- the query of the list of all ids
abbrev pub all_ids : Query
all_ids = record { ids = None; newer = None; older = None; limit = None; offset = 0; sort = Newest; full = false }

-- a first page has no condition and begins at the front; a later one asks that nothing has changed
abbrev pub IsPageAt : ℕ → Cond → Type 0
IsPageAt offset Free = offset ≡ 0
IsPageAt offset (IfModified time) = ⊥
IsPageAt offset (IfUnmodified time) = ⊤
IsPageAt offset IfAbsent = ⊥

-- a condition that nothing has changed
abbrev pub IsIfUnmodified : Cond → Type 0
IsIfUnmodified Free = ⊥
IsIfUnmodified (IfModified time) = ⊥
IsIfUnmodified (IfUnmodified time) = ⊤
IsIfUnmodified IfAbsent = ⊥

-- the lists that are asked for: a page, or all ids where nothing has changed
abbrev pub IsSentList : Query → Cond → Type 0
IsSentList query cond = ((query ≡ page query.newer query.offset) × IsPageAt query.offset cond) ⊎ ((query ≡ all_ids) × IsIfUnmodified cond)

-- a record that sets its payload and says nothing of the other fields
pub record IsUpload (part : Part) : Type 0 where
  pub text : List ℕ
  pub payload : part.fields.payload ≡ Set text
  pub sortindex : part.fields.sortindex ≡ Keep
  pub ttl : part.fields.ttl ≡ Keep

-- the requests that are written: for the limits of the server, for a page of the bookmarks or the list of their ids, and to
-- upload bookmarks
abbrev pub IsSentRequest : Request → Type 0
IsSentRequest (Info what cond) = (what ≡ Configuration) × (cond ≡ Free)
IsSentRequest (ListOf collection query cond) = (collection ≡ codes "bookmarks") × IsSentList query cond
IsSentRequest (Post collection records mode cond) = (collection ≡ codes "bookmarks") × (records.failed ≡ []) × All IsUpload records.parts × IsIfUnmodified cond
IsSentRequest _ = ⊥

-- a request with its condition as it is meant in a manner
abbrev pub request_meant : Manner → Request → Request
request_meant manner request = with_condition (cond_meant manner (condition_of request)) request

-- a host of 1 to 1,030 visible bytes
abbrev pub IsHost : List ℕ → Type 0
IsHost host = (0 < length host) × (length host ≤ most_host_bytes) × (list_all is_host_byte host ≡ true)

abbrev pub method_of : Request → List ℕ
method_of (Post collection records mode cond) = codes "POST"
method_of _ = codes "GET"

-- where the targets of an account begin
unfoldable pub account_path : ℕ → List ℕ
account_path uid = codes "/1.5/" ++ decimal uid

-- a later page names its offset
abbrev pub offset_text : ℕ → Cond → List ℕ
offset_text offset Free = []
offset_text offset (IfModified time) = []
offset_text offset (IfUnmodified time) = codes "&offset=" ++ decimal offset
offset_text offset IfAbsent = []

-- a page of newer records names their time
abbrev pub newer_text : Option ℕ → List ℕ
newer_text None = []
newer_text (Some since) = codes "&newer=" ++ stamp_text since

-- what a list's target says behind the account: the parameters of a page, or none
abbrev pub listed_text : Query → Cond → List ℕ
listed_text query cond =
    if query.full then codes "/storage/bookmarks?full=1&sort=oldest&limit=1000" ++ newer_text query.newer ++ offset_text query.offset cond else codes "/storage/bookmarks"

-- how the records of a POST are taken
abbrev pub mode_text : Mode → List ℕ
mode_text Plain = []
mode_text Begin = codes "?batch=true"
mode_text (Append batch) = codes "?batch=" ++ token batch
mode_text (Commit batch) = codes "?batch=" ++ token batch ++ codes "&commit=true"

-- the target of a request
unfoldable pub target_of : ℕ → Request → List ℕ
target_of uid (Info what cond) = account_path uid ++ codes "/info/configuration"
target_of uid (ListOf collection query cond) = account_path uid ++ listed_text query cond
target_of uid (Post collection records mode cond) = account_path uid ++ codes "/storage/bookmarks" ++ mode_text mode
target_of uid _ = []

-- a record in the body of a POST
unfoldable pub upload_text : Part → List ℕ
upload_text part =
    codes "{\"id\":" ++ json_text part.id ++ codes ",\"payload\":" ++ json_text (payload_set part.fields.payload) ++ codes "}"

abbrev pub uploads_text : List Part → List ℕ
uploads_text parts = list_text (map upload_text parts)

-- the body of a request
abbrev pub body_sent : Request → Option (List ℕ)
body_sent (Post collection records mode cond) = Some (uploads_text records.parts)
body_sent _ = None

-- the bytes of a request, and the message that a server reads
abbrev pub request_sent : ℕ → List ℕ → Request → List ℕ
request_sent uid host request = request_text (method_of request) (target_of uid request) host (condition_of request) (body_sent request)

abbrev pub message_of : ℕ → List ℕ → Request → Message
message_of uid host request = message_sent (method_of request) (target_of uid request) host (condition_of request) (body_sent request)

-- the numbers of a request are those that can be read: an offset of at most 9 digits, a batch's number from 1 to 999,999,999,999, and a body
-- that isn't too large
abbrev pub IsReadableBatch : Mode → Type 0
IsReadableBatch Plain = ⊤
IsReadableBatch Begin = ⊤
IsReadableBatch (Append batch) = (1 ≤ batch) × (batch ≤ 999999999999)
IsReadableBatch (Commit batch) = (1 ≤ batch) × (batch ≤ 999999999999)

-- the values of a request are those of its types: ids have the form of ids, payloads are texts, and a condition and a page of newer
-- records have a time
abbrev pub HasTypes : Request → Type 0
HasTypes (ListOf collection query cond) = IfSome query.newer (λ since. since ≤ last_stamp) × IsCond cond
HasTypes (Post collection records mode cond) = All (λ part. (is_id part.id ≡ true) × IsUtf8 (payload_set part.fields.payload)) records.parts × IsCond cond
HasTypes _ = ⊤

abbrev pub IsReadable : Request → Type 0
IsReadable (ListOf collection query cond) = query.offset ≤ 999999999
IsReadable (Post collection records mode cond) = IsReadableBatch mode × (length (uploads_text records.parts) ≤ most_body_bytes)
IsReadable _ = ⊤
