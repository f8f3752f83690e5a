-- What a line of a log is written as nests no deeper than five lists.
use Rattle.std.proofs.Common.{ℕ, suc, ◌^◌, ◌<◌, List, map, Option, Some, None, codes, refl, lit<}
use Rattle.std.specs.Prelude.{FitsSigned}
use Rattle.std.specs.Int.{w32}
use Rattle.std.specs.List.{AllByRecursion}
use Rattle.std.specs.Str.{IsUtf8}
use Rattle.json.proofs.Printed.Utf8.{IsUtf8-are_ascii}
use Rattle.serde_json.specs.Data.{Data, string}
use Rattle.serde_json.specs.View.{items_of}
use Rattle.ss_text.proofs.NameLemmas.{IsUtf8-from_id, IsUtf8-from_name}
use Rattle.ss_text.proofs.StampTexts.{stamp_is_utf8}
use Rattle.ss_text.specs.declared.stamps.Cond.{Cond}
use Rattle.ss_text.specs.declared.stamps.Cond.TheVariants.{Free, IfModified, IfUnmodified, IfAbsent}
use Rattle.ss_bso.specs.declared.parts.Fields.{Fields}
use Rattle.ss_bso.specs.declared.parts.Part.{Part}
use Rattle.ss_bso.specs.declared.parts.Reason.{Reason}
use Rattle.ss_bso.specs.declared.parts.Reason.TheVariants.{Payload, TooLarge, Sortindex, Ttl}
use Rattle.ss_query.specs.declared.requests.Info.{Info as Asked}
use Rattle.ss_query.specs.declared.requests.Info.TheVariants.{Collections, Counts, Usage, Quota, Configuration}
use Rattle.ss_query.specs.declared.requests.Mode.{Mode}
use Rattle.ss_query.specs.declared.requests.Mode.TheVariants.{Plain, Begin, Append, Commit}
use Rattle.ss_query.specs.declared.requests.Query.{Query}
use Rattle.ss_query.specs.declared.requests.Request.{Request}
use Rattle.ss_query.specs.declared.requests.Request.TheVariants.{Info, DeleteAll, List as ListOf, Post}
use Rattle.ss_query.specs.declared.requests.Request.TheVariants.{DeleteCollection, DeleteIds, Get, Put, Delete}
use Rattle.ss_query.specs.declared.requests.Sort.{Sort}
use Rattle.ss_query.specs.declared.requests.Sort.TheVariants.{Newest, Oldest, Index}
use Rattle.ss_query.specs.declared.replies.Mark.{Mark}
use Rattle.ss_query.specs.declared.replies.Mark.TheVariants.{Done, Keeper, Memory}
use Rattle.ss_laws.specs.declared.journal.Entry.{Entry}
use Rattle.ss_lines.specs.Lines.{IsPart, OfOption, field, integer, natural, optional, time}
use Rattle.ss_lines.proofs.Told.{field_flat, integer_flat, line_flat, seconds_flat}
use Rattle.ss_query.specs.Reasons.{reason_name}
use Rattle.ss_log_lines.specs.Requests.{AreFields, IsCond, IsFailure, IsId, IsMode, IsQuery, IsRequest, IsTime}
use Rattle.ss_log_lines.specs.Requests.{asked_word, cond_data, failure_data, fields_data, data_of_list, mode_data}
use Rattle.ss_log_lines.specs.Requests.{part_data, query_data, request_data, sort_word}
use Rattle.ss_log_lines.specs.LogLines.{IsEntry, IsLogLine, call_list, log_list_of, mark_word}
use Rattle.ss_log_lines.specs.declared.lines.LogLine.{LogLine}
use Rattle.ss_log_lines.specs.declared.lines.LogLine.TheVariants.{Log, Account, Call}
use Rattle.ss_log_lines.proofs.Within.{AreWithin, IsWithin, all_within, flat_are_within, flat_within}

-- ---- words

asked_utf8 : (w : Asked) → IsUtf8 (asked_word w)
asked_utf8 Collections = IsUtf8-are_ascii (codes "collections") refl
asked_utf8 Counts = IsUtf8-are_ascii (codes "counts") refl
asked_utf8 Usage = IsUtf8-are_ascii (codes "usage") refl
asked_utf8 Quota = IsUtf8-are_ascii (codes "quota") refl
asked_utf8 Configuration = IsUtf8-are_ascii (codes "configuration") refl

sort_utf8 : (s : Sort) → IsUtf8 (sort_word s)
sort_utf8 Newest = IsUtf8-are_ascii (codes "newest") refl
sort_utf8 Oldest = IsUtf8-are_ascii (codes "oldest") refl
sort_utf8 Index = IsUtf8-are_ascii (codes "index") refl

reason_utf8 : (r : Reason) → IsUtf8 (reason_name r)
reason_utf8 Payload = IsUtf8-are_ascii (codes "payload") refl
reason_utf8 TooLarge = IsUtf8-are_ascii (codes "payload size") refl
reason_utf8 Sortindex = IsUtf8-are_ascii (codes "sortindex") refl
reason_utf8 Ttl = IsUtf8-are_ascii (codes "ttl") refl

mark_utf8 : (m : Mark) → IsUtf8 (mark_word m)
mark_utf8 Done = IsUtf8-are_ascii (codes "done") refl
mark_utf8 Keeper = IsUtf8-are_ascii (codes "keeper") refl
mark_utf8 Memory = IsUtf8-are_ascii (codes "memory") refl

-- ---- the parts of a request

cond_within : (k : Cond) → IsCond k → IsWithin 3 (cond_data k)
cond_within Free h = tt
cond_within (IfModified since) h = (IsUtf8-are_ascii (codes "modified") refl, (stamp_is_utf8 since h, tt))
cond_within (IfUnmodified since) h = (IsUtf8-are_ascii (codes "unmodified") refl, (stamp_is_utf8 since h, tt))
cond_within IfAbsent h = (IsUtf8-are_ascii (codes "absent") refl, tt)

mode_within : (m : Mode) → IsMode m → IsWithin 3 (mode_data m)
mode_within Plain h = tt
mode_within Begin h = (IsUtf8-are_ascii (codes "begin") refl, tt)
mode_within (Append batch) h = (IsUtf8-are_ascii (codes "append") refl, (h, tt))
mode_within (Commit batch) h = (IsUtf8-are_ascii (codes "commit") refl, (h, tt))

optional_within : {X : Type 0} (k : ℕ) (written : X → Data) (P : X → Type 0) → ((x : X) → P x → IsWithin k (written x)) → (o : Option X) → OfOption P o → IsWithin k (optional written o)
optional_within k written P all None h = tt
optional_within k written P all (Some x) h = all x h

ids_within : (k : ℕ) (ids : List (List ℕ)) → AllByRecursion IsId ids → AreWithin k (items_of (map string ids))
ids_within k ids h = all_within k string IsId (λ id i. IsUtf8-from_id id i) ids h

query_within : (q : Query) → IsQuery q → IsWithin 3 (query_data q)
query_within q h =
    let ids = optional_within 2 (data_of_list string) (AllByRecursion IsId) (λ xs a. ids_within 1 xs a) q.ids h.ids in
    let newer = optional_within 2 time IsTime (λ t i. stamp_is_utf8 t i) q.newer h.newer in
    let older = optional_within 2 time IsTime (λ t i. stamp_is_utf8 t i) q.older h.older in
    let limit = optional_within 2 natural (λ n. n < 2 ^ 32) (λ n few. seconds_flat n few) q.limit h.limit in
    (ids, (newer, (older, (limit, (seconds_flat q.offset h.offset, (sort_utf8 q.sort, (tt, tt)))))))

payload_within : (k : ℕ) (id : List ℕ) (f : Fields) → AreFields id f → IsWithin (suc k) (field string f.payload)
payload_within k id f h = flat_within k (field string f.payload) (field_flat string IsUtf8 (λ s u. u) f.payload h.payload)

sortindex_within : (k : ℕ) (id : List ℕ) (f : Fields) → AreFields id f → IsWithin (suc k) (field integer f.sortindex)
sortindex_within k id f h = flat_within k (field integer f.sortindex) (field_flat integer (λ z. FitsSigned w32 z) integer_flat f.sortindex h.sortindex)

ttl_within : (k : ℕ) (id : List ℕ) (f : Fields) → AreFields id f → IsWithin (suc k) (field natural f.ttl)
ttl_within k id f h = flat_within k (field natural f.ttl) (field_flat natural (λ n. n < 2 ^ 32) seconds_flat f.ttl h.ttl)

fields_within : (id : List ℕ) (f : Fields) → AreFields id f → IsWithin 3 (fields_data f)
fields_within id f h = (payload_within 1 id f h, (sortindex_within 1 id f h, (ttl_within 1 id f h, tt)))

part_within : (p : Part) → IsPart p → IsWithin 2 (part_data p)
part_within p h = (IsUtf8-from_id p.id h.id, (payload_within 0 p.id p.fields h, (sortindex_within 0 p.id p.fields h, (ttl_within 0 p.id p.fields h, tt))))

failure_within : (f : List ℕ × Reason) → IsFailure f → IsWithin 2 (failure_data f)
failure_within f h = (IsUtf8-from_id f.0 h, (reason_utf8 f.1, tt))

-- ---- requests

pub request_within : (r : Request) → IsRequest r → IsWithin 4 (request_data r)
request_within (Info what cond) h = (IsUtf8-are_ascii (codes "info") refl, (asked_utf8 what, (cond_within cond h, tt)))
request_within (DeleteAll cond) h = (IsUtf8-are_ascii (codes "deleteall") refl, (cond_within cond h, tt))
request_within (ListOf collection query cond) h =
    (IsUtf8-are_ascii (codes "list") refl, (IsUtf8-from_name collection h.0, (query_within query h.1, (cond_within cond h.2, tt))))
request_within (Post collection records mode cond) h =
    let parts = all_within 2 part_data IsPart part_within records.parts h.1 in
    let failed = all_within 2 failure_data IsFailure failure_within records.failed h.2 in
    (IsUtf8-are_ascii (codes "post") refl, (IsUtf8-from_name collection h.0, (mode_within mode h.3, (parts, (failed, (cond_within cond h.4, tt))))))
request_within (DeleteCollection collection cond) h = (IsUtf8-are_ascii (codes "drop") refl, (IsUtf8-from_name collection h.0, (cond_within cond h.1, tt)))
request_within (DeleteIds collection ids cond) h =
    (IsUtf8-are_ascii (codes "dropids") refl, (IsUtf8-from_name collection h.0, (ids_within 2 ids h.1, (cond_within cond h.2, tt))))
request_within (Get collection id cond) h =
    (IsUtf8-are_ascii (codes "get") refl, (IsUtf8-from_name collection h.0, (IsUtf8-from_id id h.1, (cond_within cond h.2, tt))))
request_within (Put collection id fields cond) h =
    (IsUtf8-are_ascii (codes "put") refl, (IsUtf8-from_name collection h.0, (IsUtf8-from_id id h.1.id, (fields_within id fields h.1, (cond_within cond h.2, tt)))))
request_within (Delete collection id cond) h =
    (IsUtf8-are_ascii (codes "delete") refl, (IsUtf8-from_name collection h.0, (IsUtf8-from_id id h.1, (cond_within cond h.2, tt))))

-- ---- lines

entry_within : (e : Entry) → IsEntry e → AreWithin 4 (call_list e)
entry_within e h =
    (IsUtf8-are_ascii (codes "call") refl, (h.ticket, (seconds_flat e.pass h.pass, (h.now, (mark_utf8 e.mark, (request_within e.request h.request, tt))))))

pub line_within : (l : LogLine) → IsLogLine l → AreWithin 4 (log_list_of l)
line_within (Log moment most) h = (IsUtf8-are_ascii (codes "log") refl, (lit< tt, (stamp_is_utf8 moment h.0, (seconds_flat most h.1, tt))))
line_within (Account line) h = flat_are_within 3 _ (line_flat line h)
line_within (Call entry) h = entry_within entry h.entry
