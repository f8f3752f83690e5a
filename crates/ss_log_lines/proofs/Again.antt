-- Lines of a log as JSON values: what is written for a line is read back as it.
use Rattle.std.proofs.Common.{◌≡◌, ℕ, ℤ, ◌^◌, ◌<◌, Bool, true, cond, List, [], ◌∷◌, map, Option, Some, None, option_map}
use Rattle.std.proofs.Common.{option_and_then, refl, sym, ap, ap₂, subst, ◌∙◌}
use Rattle.std.specs.Prelude.{FitsSigned}
use Rattle.std.specs.Int.{w32}
use Rattle.std.specs.List.{AllByRecursion}
use Rattle.std.specs.Str.{IsUtf8}
use Rattle.serde_json.specs.Data.{Data, array, string}
use Rattle.serde_json.specs.Find.{as_str}
use Rattle.serde_json.specs.Read.{read}
use Rattle.serde_json.specs.View.{items_of}
use Rattle.serde_json.specs.Written.{compact_text}
use Rattle.ss_text.specs.Names.{is_name}
use Rattle.ss_text.proofs.Basics.{none_some, some_same}
use Rattle.ss_text.proofs.StampTexts.{stamp_again}
use Rattle.ss_text.specs.declared.stamps.Cond.{Cond}
use Rattle.ss_text.specs.declared.stamps.Cond.TheVariants.{Free, IfModified, IfUnmodified, IfAbsent}
use Rattle.ss_bso.specs.declared.parts.Field.{Field}
use Rattle.ss_bso.specs.declared.parts.Fields.{Fields}
use Rattle.ss_bso.specs.declared.parts.Part.{Part}
use Rattle.ss_bso.specs.declared.parts.Reason.{Reason}
use Rattle.ss_bso.specs.declared.parts.Reason.TheVariants.{Payload, TooLarge, Sortindex, Ttl}
use Rattle.ss_query.specs.declared.requests.Info.{Info as Asked}
use Rattle.ss_query.specs.declared.requests.Info.TheVariants.{Collections, Counts, Usage, Quota, Configuration}
use Rattle.ss_query.specs.declared.requests.Mode.{Mode}
use Rattle.ss_query.specs.declared.requests.Mode.TheVariants.{Plain, Begin, Append, Commit}
use Rattle.ss_query.specs.declared.requests.Query.{Query}
use Rattle.ss_query.specs.declared.requests.Request.{Request}
use Rattle.ss_query.specs.declared.requests.Request.TheVariants.{Info, DeleteAll, List as ListOf, Post}
use Rattle.ss_query.specs.declared.requests.Request.TheVariants.{DeleteCollection, DeleteIds, Get, Put, Delete}
use Rattle.ss_query.specs.declared.requests.Sort.{Sort}
use Rattle.ss_query.specs.declared.requests.Sort.TheVariants.{Newest, Oldest, Index}
use Rattle.ss_query.specs.declared.replies.Mark.{Mark}
use Rattle.ss_query.specs.declared.replies.Mark.TheVariants.{Done, Keeper, Memory}
use Rattle.ss_laws.specs.declared.journal.Entry.{Entry}
use Rattle.ss_lines.specs.Lines.{IsPart, field, integer, natural, optional, time}
use Rattle.ss_lines.specs.Values.{field_of, integer_of, name_of, optional_of, seconds_of}
use Rattle.ss_text.specs.Names.{id_of}
use Rattle.ss_lines.specs.declared.lines.Line.TheVariants as told
use Rattle.ss_lines.proofs.Told.{field_back, integer_back, integer_more, integer_other, optional_back, seconds_back}
use Rattle.ss_lines.proofs.Told.{told_again}
use Rattle.ss_query.specs.Reasons.{reason_name}
use Rattle.ss_log_lines.specs.Requests.{AreFields, IsCond, IsFailure, IsId, IsMode, IsQuery, IsRequest, IsTime}
use Rattle.ss_log_lines.specs.Requests.{asked_word, cond_data, failure_data, data_of_list, mode_data, part_data}
use Rattle.ss_log_lines.specs.Requests.{query_data, request_data, sort_word}
use Rattle.ss_log_lines.specs.LogLines.{IsEntry, IsLogLine, call_list, log_list_of, mark_word}
use Rattle.ss_log_lines.specs.Values.{all_from, asked_of, cond_from, delete_all_from, delete_collection_from}
use Rattle.ss_log_lines.specs.Values.{delete_from, delete_ids_from, entry_from, failure_from, fields_told, get_from}
use Rattle.ss_log_lines.specs.Values.{id_from, info_from, list_from, list_request_from, log_from, log_line_from}
use Rattle.ss_log_lines.specs.Values.{mark_of, mode_from, part_from, post_from, put_from, query_from, reason_of}
use Rattle.ss_log_lines.specs.Values.{request_from, sort_of, time_from}
use Rattle.ss_log_lines.specs.declared.lines.LogLine.{LogLine}
use Rattle.ss_log_lines.specs.declared.lines.LogLine.TheVariants.{Log, Account, Call}
use Rattle.ss_log_lines.proofs.Within as within
use Rattle.ss_log_lines.proofs.Formed.{line_within}

-- ---- words

asked_back : (w : Asked) → asked_of (asked_word w) ≡ Some w
asked_back Collections = refl
asked_back Counts = refl
asked_back Usage = refl
asked_back Quota = refl
asked_back Configuration = refl

sort_back : (s : Sort) → sort_of (sort_word s) ≡ Some s
sort_back Newest = refl
sort_back Oldest = refl
sort_back Index = refl

reason_back : (r : Reason) → reason_of (reason_name r) ≡ Some r
reason_back Payload = refl
reason_back TooLarge = refl
reason_back Sortindex = refl
reason_back Ttl = refl

mark_back : (m : Mark) → mark_of (mark_word m) ≡ Some m
mark_back Done = refl
mark_back Keeper = refl
mark_back Memory = refl

-- ---- the parts of a request

all_back : {X : Type 0} (tell : Data → Option X) (written : X → Data) (P : X → Type 0) → ((x : X) → P x → tell (written x) ≡ Some x) → (xs : List X) → AllByRecursion P xs
    → all_from tell (items_of (map written xs)) ≡ Some xs
all_back tell written P back [] h = refl
all_back tell written P back (x ∷ xs) h =
    ap₂ (λ a b. option_and_then (λ y. option_map (λ ys. y ∷ ys) b) a) (back x h.0) (all_back tell written P back xs h.1)

named : {X : Type 0} (name : List ℕ) (f : List ℕ → Option X) → is_name name ≡ true → option_and_then f (name_of name) ≡ f name
named name f h = ap (λ b. option_and_then f (cond b (Some name) None)) h

identified : {X : Type 0} (id : List ℕ) (f : List ℕ → Option X) → IsId id → option_and_then f (id_of id) ≡ f id
identified id f h = ap (λ b. option_and_then f (cond b (Some id) None)) h

id_back : (id : List ℕ) → IsId id → id_from (string id) ≡ Some id
id_back id h = ap (λ b. cond b (Some id) None) h

time_back : (t : ℕ) → IsTime t → time_from (time t) ≡ Some t
time_back t h = stamp_again t h

ids_back : (ids : List (List ℕ)) → AllByRecursion IsId ids → list_from id_from (data_of_list string ids) ≡ Some ids
ids_back ids h = all_back id_from string IsId id_back ids h

cond_back : (k : Cond) → IsCond k → cond_from (cond_data k) ≡ Some k
unfolding cond_from
cond_back Free h = refl
cond_back (IfModified since) h = ap (option_map (λ t. IfModified t)) (stamp_again since h)
cond_back (IfUnmodified since) h = ap (option_map (λ t. IfUnmodified t)) (stamp_again since h)
cond_back IfAbsent h = refl

mode_back : (m : Mode) → IsMode m → mode_from (mode_data m) ≡ Some m
unfolding mode_from
mode_back Plain h = refl
mode_back Begin h = refl
mode_back (Append batch) h = refl
mode_back (Commit batch) h = refl

-- fields by what is told of them
abbrev fields_by : Option (Field (List ℕ)) → Option (Field ℤ) → Option (Field ℕ) → Option Fields
fields_by payload sortindex ttl = option_and_then (λ p. option_and_then (λ s. option_map (λ t. record { payload = p; sortindex = s; ttl = t }) ttl) sortindex) payload

fields_back : (id : List ℕ) (f : Fields) → AreFields id f → fields_told (Some (field string f.payload)) (Some (field integer f.sortindex)) (Some (field natural f.ttl)) ≡ Some f
unfolding fields_told
fields_back id f h =
    let payload = field_back as_str string IsUtf8 (λ s. refl) (λ s. refl) (λ s u. refl) f.payload h.payload in
    let sortindex = field_back integer_of integer (λ z. FitsSigned w32 z) integer_other integer_more integer_back f.sortindex h.sortindex in
    let ttl = field_back seconds_of natural (λ n. n < 2 ^ 32) (λ n. refl) (λ n. refl) seconds_back f.ttl h.ttl in
    ap₂ (λ a b. fields_by a b (field_of seconds_of (field natural f.ttl))) payload sortindex ∙ ap (λ c. fields_by (Some f.payload) (Some f.sortindex) c) ttl

abbrev part_by : Option (List ℕ) → Option Fields → Option Part
part_by told_id fields = option_and_then (λ id. option_map (λ f. record { id = id; fields = f }) fields) told_id

part_back : (p : Part) → IsPart p → part_from (part_data p) ≡ Some p
unfolding part_from
part_back p h = ap₂ part_by (ap (λ b. cond b (Some p.id) None) h.id) (fields_back p.id p.fields h)

abbrev failure_by : Option (List ℕ) → Option Reason → Option (List ℕ × Reason)
failure_by told_id reason = option_and_then (λ id. option_map (λ r. (id, r)) reason) told_id

failure_back : (f : List ℕ × Reason) → IsFailure f → failure_from (failure_data f) ≡ Some f
unfolding failure_from
failure_back f h = ap₂ failure_by (ap (λ b. cond b (Some f.0) None) h) (reason_back f.1)

-- a query by what is told of its values
abbrev query_by : Option (Option (List (List ℕ))) → Option (Option ℕ) → Option (Option ℕ) → Option (Option ℕ) → Option ℕ → Option Sort → Bool → Option Query
query_by ids newer older limit offset sort full =
    option_and_then (λ ids.
    option_and_then (λ newer.
    option_and_then (λ older.
    option_and_then (λ limit.
    option_and_then (λ offset.
    option_and_then (λ sort. Some (record { ids = ids; newer = newer; older = older; limit = limit; offset = offset; sort = sort; full = full }))
    sort) offset) limit) older) newer) ids

query_back : (q : Query) → IsQuery q → query_from (query_data q) ≡ Some q
unfolding query_from
query_back q h =
    let ids = optional_back (list_from id_from) (data_of_list string) (AllByRecursion IsId) (λ xs. refl) ids_back q.ids h.ids in
    let newer = optional_back time_from time IsTime (λ t. refl) time_back q.newer h.newer in
    let older = optional_back time_from time IsTime (λ t. refl) time_back q.older h.older in
    let limit = optional_back seconds_of natural (λ n. n < 2 ^ 32) (λ n. refl) seconds_back q.limit h.limit in
    ap₂ (λ a b. query_by a b (optional_of time_from (optional time q.older)) (optional_of seconds_of (optional natural q.limit)) (seconds_of (natural q.offset)) (sort_of (sort_word q.sort)) q.full) ids newer
    ∙ (ap₂ (λ a b. query_by (Some q.ids) (Some q.newer) a b (seconds_of (natural q.offset)) (sort_of (sort_word q.sort)) q.full) older limit
    ∙ ap₂ (λ a b. query_by (Some q.ids) (Some q.newer) (Some q.older) (Some q.limit) a b q.full) (seconds_back q.offset h.offset) (sort_back q.sort))

-- ---- requests

post_back : (collection : List ℕ) (parts : List Part) (failed : List (List ℕ × Reason)) (mode : Mode) (k : Cond) → IsRequest (Post collection (record { parts = parts; failed = failed }) mode k)
    → post_from (request_data (Post collection (record { parts = parts; failed = failed }) mode k)) ≡ Some (Post collection (record { parts = parts; failed = failed }) mode k)
unfolding post_from
post_back collection parts failed mode k h =
    let some_parts = all_back part_from part_data IsPart part_back parts h.1 in
    let some_failed = all_back failure_from failure_data IsFailure failure_back failed h.2 in
    named collection
    (λ c. option_and_then (λ m. option_and_then (λ ps. option_and_then (λ fs. option_map (λ y. Post c (record { parts = ps; failed = fs }) m y)
    (cond_from (cond_data k))) (list_from failure_from (data_of_list failure_data failed))) (list_from part_from (data_of_list part_data parts))) (mode_from (mode_data mode))) h.0
    ∙ (ap₂ (λ a b. option_and_then (λ m. option_and_then (λ ps. option_and_then (λ fs. option_map (λ y. Post collection (record { parts = ps; failed = fs }) m y)
    (cond_from (cond_data k))) (list_from failure_from (data_of_list failure_data failed))) b) a) (mode_back mode h.3) some_parts
    ∙ ap₂ (λ a b. option_and_then (λ fs. option_map (λ y. Post collection (record { parts = parts; failed = fs }) mode y) b) a) some_failed (cond_back k h.4))

put_back : (collection id : List ℕ) (f : Fields) (k : Cond) → IsRequest (Put collection id f k) → put_from (request_data (Put collection id f k)) ≡ Some (Put collection id f k)
unfolding put_from
put_back collection id f k h =
    named collection
    (λ c. option_and_then (λ i. option_and_then (λ x. option_map (λ y. Put c i x y) (cond_from (cond_data k)))
    (fields_told (Some (field string f.payload)) (Some (field integer f.sortindex)) (Some (field natural f.ttl)))) (id_of id)) h.0
    ∙ (identified id
    (λ i. option_and_then (λ x. option_map (λ y. Put collection i x y) (cond_from (cond_data k)))
    (fields_told (Some (field string f.payload)) (Some (field integer f.sortindex)) (Some (field natural f.ttl)))) h.1.id
    ∙ ap₂ (λ a b. option_and_then (λ x. option_map (λ y. Put collection id x y) b) a) (fields_back id f h.1) (cond_back k h.2))

request_back : (r : Request) → IsRequest r → request_from (request_data r) ≡ Some r
unfolding request_from info_from delete_all_from list_request_from delete_collection_from delete_ids_from get_from delete_from
request_back (Info what k) h = ap₂ (λ a b. option_and_then (λ w. option_map (λ y. Info w y) b) a) (asked_back what) (cond_back k h)
request_back (DeleteAll k) h = ap (option_map (λ y. DeleteAll y)) (cond_back k h)
request_back (ListOf collection query k) h =
    named collection (λ c. option_and_then (λ x. option_map (λ y. ListOf c x y) (cond_from (cond_data k))) (query_from (query_data query))) h.0
    ∙ ap₂ (λ a b. option_and_then (λ x. option_map (λ y. ListOf collection x y) b) a) (query_back query h.1) (cond_back k h.2)
request_back (Post collection records mode k) h = post_back collection records.parts records.failed mode k h
request_back (DeleteCollection collection k) h =
    named collection (λ c. option_map (λ y. DeleteCollection c y) (cond_from (cond_data k))) h.0 ∙ ap (option_map (λ y. DeleteCollection collection y)) (cond_back k h.1)
request_back (DeleteIds collection ids k) h =
    named collection (λ c. option_and_then (λ x. option_map (λ y. DeleteIds c x y) (cond_from (cond_data k))) (list_from id_from (data_of_list string ids))) h.0
    ∙ ap₂ (λ a b. option_and_then (λ x. option_map (λ y. DeleteIds collection x y) b) a) (ids_back ids h.1) (cond_back k h.2)
request_back (Get collection id k) h =
    named collection (λ c. option_and_then (λ i. option_map (λ y. Get c i y) (cond_from (cond_data k))) (id_of id)) h.0
    ∙ (identified id (λ i. option_map (λ y. Get collection i y) (cond_from (cond_data k))) h.1 ∙ ap (option_map (λ y. Get collection id y)) (cond_back k h.2))
request_back (Put collection id fields k) h = put_back collection id fields k h
request_back (Delete collection id k) h =
    named collection (λ c. option_and_then (λ i. option_map (λ y. Delete c i y) (cond_from (cond_data k))) (id_of id)) h.0
    ∙ (identified id (λ i. option_map (λ y. Delete collection i y) (cond_from (cond_data k))) h.1 ∙ ap (option_map (λ y. Delete collection id y)) (cond_back k h.2))

-- ---- lines

-- an entry by what is told of its values
abbrev entry_by : ℕ → Option ℕ → ℕ → Option Mark → Option Request → Option Entry
entry_by ticket pass now mark request =
    option_and_then (λ p. option_and_then (λ m. option_map (λ r. record { ticket = ticket; pass = p; now = now; request = r; mark = m }) request) mark) pass

entry_back : (e : Entry) → IsEntry e → entry_from (array (call_list e)) ≡ Some e
unfolding entry_from
entry_back e h =
    ap₂ (λ a b. entry_by e.ticket a e.now b (request_from (request_data e.request))) (seconds_back e.pass h.pass) (mark_back e.mark)
    ∙ ap (λ c. entry_by e.ticket (Some e.pass) e.now (Some e.mark) c) (request_back e.request h.request)

pub again : (l : LogLine) → IsLogLine l → log_line_from (array (log_list_of l)) ≡ Some l
unfolding log_line_from log_from
again (Log moment most) h = ap₂ (λ a b. option_and_then (λ t. option_map (λ n. Log t n) b) a) (stamp_again moment h.0) (seconds_back most h.1)
again (Account told.Account) h = ap (option_map (λ l. Account l)) (told_again told.Account h)
again (Account (told.Times a b n)) h = ap (option_map (λ l. Account l)) (told_again (told.Times a b n) h)
again (Account (told.Collection name t)) h = ap (option_map (λ l. Account l)) (told_again (told.Collection name t) h)
again (Account (told.Row row)) h = ap (option_map (λ l. Account l)) (told_again (told.Row row) h)
again (Account (told.Batch n name t)) h = ap (option_map (λ l. Account l)) (told_again (told.Batch n name t) h)
again (Account (told.Part part)) h = ap (option_map (λ l. Account l)) (told_again (told.Part part) h)
again (Account (told.Digest d)) h = ap (option_map (λ l. Account l)) (told_again (told.Digest d) h)
again (Account told.End) h = ap (option_map (λ l. Account l)) (told_again told.End h)
again (Call entry) h = ap (option_map (λ e. Call e)) (entry_back entry h.entry)

-- ---- the text of a line's list

pub told_in : (d : Data) (text : List ℕ) → read text ≡ Some d → (l : LogLine) → IsLogLine l → compact_text (array (log_list_of l)) ≡ text → log_line_from d ≡ Some l
told_in d text r l h is =
    let same : array (log_list_of l) ≡ d = some_same (sym (within.list_back (log_list_of l) (line_within l h)) ∙ (ap read is ∙ r)) in
    ap log_line_from (sym same) ∙ again l h

pub none_told : (text : List ℕ) → (IsUtf8 text → read text ≡ None) → (l : LogLine) → IsLogLine l → compact_text (array (log_list_of l)) ≡ text → ⊥
none_told text none l h is =
    none_some (sym (none (subst IsUtf8 is (within.list_utf8 (log_list_of l) (line_within l h)))) ∙ (ap read (sym is) ∙ within.list_back (log_list_of l) (line_within l h)))
