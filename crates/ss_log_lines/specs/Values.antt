-- What a JSON value says as a line of a log, for private clauses; a line may be told that isn't written so.
use Rattle.std.specs.Prelude.{◌∷◌, [], ℕ, List, if◌then◌else◌, Option, Some, None, option_map, option_and_then}
use Rattle.std.specs.Prelude.{bytes_eq, codes}
use Rattle.serde_json.specs.Data.{Data, Items, no_items, item}
use Rattle.serde_json.specs.Find.{as_array, as_bool, as_str, at}
use Rattle.ss_text.specs.Time.{stamp_of}
use Rattle.ss_text.specs.declared.stamps.Cond.{Cond}
use Rattle.ss_text.specs.declared.stamps.Cond.TheVariants.{Free, IfModified, IfUnmodified, IfAbsent}
use Rattle.ss_bso.specs.declared.parts.Fields.{Fields}
use Rattle.ss_bso.specs.declared.parts.Part.{Part}
use Rattle.ss_bso.specs.declared.parts.Reason.{Reason}
use Rattle.ss_bso.specs.declared.parts.Reason.TheVariants.{Payload, TooLarge, Sortindex, Ttl}
use Rattle.ss_query.specs.declared.requests.Info.{Info as Asked}
use Rattle.ss_query.specs.declared.requests.Info.TheVariants.{Collections, Counts, Usage, Quota, Configuration}
use Rattle.ss_query.specs.declared.requests.Mode.{Mode}
use Rattle.ss_query.specs.declared.requests.Mode.TheVariants.{Plain, Begin, Append, Commit}
use Rattle.ss_query.specs.declared.requests.Query.{Query}
use Rattle.ss_query.specs.declared.requests.Request.{Request}
use Rattle.ss_query.specs.declared.requests.Request.TheVariants.{Info, DeleteAll, List as ListOf, Post}
use Rattle.ss_query.specs.declared.requests.Request.TheVariants.{DeleteCollection, DeleteIds, Get, Put, Delete}
use Rattle.ss_query.specs.declared.requests.Sort.{Sort}
use Rattle.ss_query.specs.declared.requests.Sort.TheVariants.{Newest, Oldest, Index}
use Rattle.ss_query.specs.declared.replies.Mark.{Mark}
use Rattle.ss_query.specs.declared.replies.Mark.TheVariants.{Done, Keeper, Memory}
use Rattle.ss_laws.specs.declared.journal.Entry.{Entry}
use Rattle.ss_lines.specs.Values.{field_of, id_at, integer_of, line_from, name_at, natural_at, optional_of}
use Rattle.ss_text.specs.Names.{id_of}
use Rattle.ss_lines.specs.Values.{seconds_of, text_at, time_at}
use Rattle.ss_log_lines.specs.declared.requests.Kind.{Kind}
use Rattle.ss_log_lines.specs.declared.requests.Kind.TheVariants as kind
use Rattle.ss_log_lines.specs.declared.told.Tag.{Tag}
use Rattle.ss_log_lines.specs.declared.told.Tag.TheVariants as tag
use Rattle.ss_log_lines.specs.declared.lines.LogLine.{LogLine}
use Rattle.ss_log_lines.specs.declared.lines.LogLine.TheVariants.{Log, Account, Call}

-- ---- words

abbrev pub asked_of : List ℕ → Option Asked
asked_of word =
    if bytes_eq word (codes "collections") then Some Collections
    else (if bytes_eq word (codes "counts") then Some Counts
    else (if bytes_eq word (codes "usage") then Some Usage
    else (if bytes_eq word (codes "quota") then Some Quota
    else (if bytes_eq word (codes "configuration") then Some Configuration else None))))

abbrev pub sort_of : List ℕ → Option Sort
sort_of word =
    if bytes_eq word (codes "newest") then Some Newest
    else (if bytes_eq word (codes "oldest") then Some Oldest
    else (if bytes_eq word (codes "index") then Some Index else None))

abbrev pub reason_of : List ℕ → Option Reason
reason_of word =
    if bytes_eq word (codes "payload") then Some Payload
    else (if bytes_eq word (codes "payload size") then Some TooLarge
    else (if bytes_eq word (codes "sortindex") then Some Sortindex
    else (if bytes_eq word (codes "ttl") then Some Ttl else None)))

abbrev pub mark_of : List ℕ → Option Mark
mark_of word =
    if bytes_eq word (codes "done") then Some Done
    else (if bytes_eq word (codes "keeper") then Some Keeper
    else (if bytes_eq word (codes "memory") then Some Memory else None))

abbrev pub kind_of : List ℕ → Option Kind
kind_of word =
    if bytes_eq word (codes "info") then Some kind.Info
    else (if bytes_eq word (codes "deleteall") then Some kind.DeleteAll
    else (if bytes_eq word (codes "list") then Some kind.List
    else (if bytes_eq word (codes "post") then Some kind.Post
    else (if bytes_eq word (codes "drop") then Some kind.DeleteCollection
    else (if bytes_eq word (codes "dropids") then Some kind.DeleteIds
    else (if bytes_eq word (codes "get") then Some kind.Get
    else (if bytes_eq word (codes "put") then Some kind.Put
    else (if bytes_eq word (codes "delete") then Some kind.Delete else None))))))))

-- ---- lists

-- what each value of a list says, where each says something
abbrev pub all_from : {X : Type 0} → (Data → Option X) → Items → Option (List X)
all_from told no_items = Some []
all_from told (item d ds) = option_and_then (λ x. option_map (λ xs. x ∷ xs) (all_from told ds)) (told d)

abbrev pub list_from : {X : Type 0} → (Data → Option X) → Data → Option (List X)
list_from told d = option_and_then (all_from told) (as_array d)

abbrev pub id_from : Data → Option (List ℕ)
id_from d = option_and_then id_of (as_str d)

abbrev pub time_from : Data → Option ℕ
time_from d = option_and_then stamp_of (as_str d)

-- ---- the parts of a request

abbrev pub cond_tagged : Data → Option (List ℕ) → Option Cond
cond_tagged d None = Some Free
cond_tagged d (Some word) =
    if bytes_eq word (codes "modified") then option_map (λ since. IfModified since) (time_at 1 d)
    else (if bytes_eq word (codes "unmodified") then option_map (λ since. IfUnmodified since) (time_at 1 d)
    else (if bytes_eq word (codes "absent") then Some IfAbsent else None))

unfoldable pub cond_from : Data → Option Cond
cond_from d = cond_tagged d (text_at 0 d)

abbrev pub mode_tagged : Data → Option (List ℕ) → Option Mode
mode_tagged d None = Some Plain
mode_tagged d (Some word) =
    if bytes_eq word (codes "begin") then Some Begin
    else (if bytes_eq word (codes "append") then option_map (λ batch. Append batch) (natural_at 1 d)
    else (if bytes_eq word (codes "commit") then option_map (λ batch. Commit batch) (natural_at 1 d) else None))

unfoldable pub mode_from : Data → Option Mode
mode_from d = mode_tagged d (text_at 0 d)

-- what is said of a record by three values
unfoldable pub fields_told : Option Data → Option Data → Option Data → Option Fields
fields_told payload sortindex ttl =
    option_and_then (λ p. option_and_then (λ s. option_map (λ t. record { payload = p; sortindex = s; ttl = t })
    (option_and_then (field_of seconds_of) ttl)) (option_and_then (field_of integer_of) sortindex)) (option_and_then (field_of as_str) payload)

abbrev pub fields_from : Data → Option Fields
fields_from d = fields_told (at 0 d) (at 1 d) (at 2 d)

unfoldable pub part_from : Data → Option Part
part_from d = option_and_then (λ id. option_map (λ fields. record { id = id; fields = fields }) (fields_told (at 1 d) (at 2 d) (at 3 d))) (id_at 0 d)

unfoldable pub failure_from : Data → Option (List ℕ × Reason)
failure_from d = option_and_then (λ id. option_map (λ reason. (id, reason)) (option_and_then reason_of (text_at 1 d))) (id_at 0 d)

unfoldable pub query_from : Data → Option Query
query_from d =
    option_and_then (λ ids.
    option_and_then (λ newer.
    option_and_then (λ older.
    option_and_then (λ limit.
    option_and_then (λ offset.
    option_and_then (λ sort.
    option_map (λ full. record { ids = ids; newer = newer; older = older; limit = limit; offset = offset; sort = sort; full = full })
    (option_and_then as_bool (at 6 d))) (option_and_then sort_of (text_at 5 d))) (option_and_then seconds_of (at 4 d)))
    (option_and_then (optional_of seconds_of) (at 3 d))) (option_and_then (optional_of time_from) (at 2 d)))
    (option_and_then (optional_of time_from) (at 1 d))) (option_and_then (optional_of (list_from id_from)) (at 0 d))

-- ---- requests

abbrev pub cond_at : ℕ → Data → Option Cond
cond_at k d = option_and_then cond_from (at k d)

unfoldable pub info_from : Data → Option Request
info_from d = option_and_then (λ what. option_map (λ cond. Info what cond) (cond_at 2 d)) (option_and_then asked_of (text_at 1 d))

unfoldable pub delete_all_from : Data → Option Request
delete_all_from d = option_map (λ cond. DeleteAll cond) (cond_at 1 d)

unfoldable pub list_request_from : Data → Option Request
list_request_from d =
    option_and_then (λ collection. option_and_then (λ query. option_map (λ cond. ListOf collection query cond) (cond_at 3 d))
    (option_and_then query_from (at 2 d))) (name_at 1 d)

unfoldable pub post_from : Data → Option Request
post_from d =
    option_and_then (λ collection.
    option_and_then (λ mode.
    option_and_then (λ parts.
    option_and_then (λ failed.
    option_map (λ cond. Post collection (record { parts = parts; failed = failed }) mode cond)
    (cond_at 5 d)) (option_and_then (list_from failure_from) (at 4 d))) (option_and_then (list_from part_from) (at 3 d)))
    (option_and_then mode_from (at 2 d))) (name_at 1 d)

unfoldable pub delete_collection_from : Data → Option Request
delete_collection_from d = option_and_then (λ collection. option_map (λ cond. DeleteCollection collection cond) (cond_at 2 d)) (name_at 1 d)

unfoldable pub delete_ids_from : Data → Option Request
delete_ids_from d =
    option_and_then (λ collection. option_and_then (λ ids. option_map (λ cond. DeleteIds collection ids cond) (cond_at 3 d))
    (option_and_then (list_from id_from) (at 2 d))) (name_at 1 d)

unfoldable pub get_from : Data → Option Request
get_from d = option_and_then (λ collection. option_and_then (λ id. option_map (λ cond. Get collection id cond) (cond_at 3 d)) (id_at 2 d)) (name_at 1 d)

unfoldable pub put_from : Data → Option Request
put_from d =
    option_and_then (λ collection. option_and_then (λ id. option_and_then (λ fields. option_map (λ cond. Put collection id fields cond) (cond_at 4 d))
    (option_and_then fields_from (at 3 d))) (id_at 2 d)) (name_at 1 d)

unfoldable pub delete_from : Data → Option Request
delete_from d = option_and_then (λ collection. option_and_then (λ id. option_map (λ cond. Delete collection id cond) (cond_at 3 d)) (id_at 2 d)) (name_at 1 d)

-- the request of a kind that a list is
abbrev pub of_kind : Kind → Data → Option Request
of_kind kind.Info d = info_from d
of_kind kind.DeleteAll d = delete_all_from d
of_kind kind.List d = list_request_from d
of_kind kind.Post d = post_from d
of_kind kind.DeleteCollection d = delete_collection_from d
of_kind kind.DeleteIds d = delete_ids_from d
of_kind kind.Get d = get_from d
of_kind kind.Put d = put_from d
of_kind kind.Delete d = delete_from d

unfoldable pub request_from : Data → Option Request
request_from d = option_and_then (λ k. of_kind k d) (option_and_then kind_of (text_at 0 d))

-- ---- lines

unfoldable pub entry_from : Data → Option Entry
entry_from d =
    option_and_then (λ ticket.
    option_and_then (λ pass.
    option_and_then (λ now.
    option_and_then (λ mark.
    option_map (λ request. record { ticket = ticket; pass = pass; now = now; request = request; mark = mark })
    (option_and_then request_from (at 5 d))) (option_and_then mark_of (text_at 4 d))) (natural_at 3 d)) (option_and_then seconds_of (at 2 d))) (natural_at 1 d)

unfoldable pub log_from : Data → Option LogLine
log_from d = option_and_then (λ moment. option_map (λ most. Log moment most) (option_and_then seconds_of (at 3 d))) (time_at 2 d)

-- the kind of line that a first text names
abbrev pub tag_of : List ℕ → Tag
tag_of word = if bytes_eq word (codes "log") then tag.Log else (if bytes_eq word (codes "call") then tag.Call else tag.Account)

-- the line of a kind that a list is
abbrev pub log_line_of_tag : Tag → Data → Option LogLine
log_line_of_tag tag.Log d = log_from d
log_line_of_tag tag.Call d = option_map (λ entry. Call entry) (entry_from d)
log_line_of_tag tag.Account d = option_map (λ line. Account line) (line_from d)

unfoldable pub log_line_from : Data → Option LogLine
log_line_from d = option_and_then (λ kind. log_line_of_tag kind d) (option_map tag_of (text_at 0 d))
