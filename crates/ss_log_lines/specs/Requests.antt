-- The text of a request, as a journal has it (the format is this project's): what is written of each of its parts.
use Rattle.std.specs.Prelude.{◌≡◌, ◌≤◌, ◌<◌, ◌^◌, ◌∷◌, [], ℕ, List, map, true, codes, ⊤}
use Rattle.std.specs.List.{AllByRecursion}
use Rattle.serde_json.specs.Data.{Data, array, boolean, string}
use Rattle.serde_json.specs.View.{items_of}
use Rattle.ss_text.specs.Names.{is_id, is_name}
use Rattle.ss_text.specs.Time.{last_stamp}
use Rattle.ss_text.specs.declared.stamps.Cond.{Cond}
use Rattle.ss_text.specs.declared.stamps.Cond.TheVariants.{Free, IfModified, IfUnmodified, IfAbsent}
use Rattle.ss_bso.specs.declared.parts.Fields.{Fields}
use Rattle.ss_bso.specs.declared.parts.Part.{Part}
use Rattle.ss_bso.specs.declared.parts.Reason.{Reason}
use Rattle.ss_query.specs.declared.requests.Info.{Info as Asked}
use Rattle.ss_query.specs.declared.requests.Info.TheVariants.{Collections, Counts, Usage, Quota, Configuration}
use Rattle.ss_query.specs.declared.requests.Mode.{Mode}
use Rattle.ss_query.specs.declared.requests.Mode.TheVariants.{Plain, Begin, Append, Commit}
use Rattle.ss_query.specs.declared.requests.Query.{Query}
use Rattle.ss_query.specs.declared.requests.Request.{Request}
use Rattle.ss_query.specs.declared.requests.Request.TheVariants.{Info, DeleteAll, List as ListOf, Post}
use Rattle.ss_query.specs.declared.requests.Request.TheVariants.{DeleteCollection, DeleteIds, Get, Put, Delete}
use Rattle.ss_query.specs.declared.requests.Sort.{Sort}
use Rattle.ss_query.specs.declared.requests.Sort.TheVariants.{Newest, Oldest, Index}
use Rattle.ss_query.specs.Reasons.{reason_name}
use Rattle.ss_lines.specs.Lines.{IsPart, OfOption, field, integer, natural, optional, time}

-- ---- lists

abbrev pub list_data : List Data → Data
list_data ds = array (items_of ds)

abbrev pub data_of_list : {X : Type 0} → (X → Data) → List X → Data
data_of_list written xs = list_data (map written xs)

-- ---- words

abbrev pub asked_word : Asked → List ℕ
asked_word Collections = codes "collections"
asked_word Counts = codes "counts"
asked_word Usage = codes "usage"
asked_word Quota = codes "quota"
asked_word Configuration = codes "configuration"

abbrev pub sort_word : Sort → List ℕ
sort_word Newest = codes "newest"
sort_word Oldest = codes "oldest"
sort_word Index = codes "index"

-- ---- the parts of a request

-- a condition: nothing, or a word with its time
abbrev pub cond_data : Cond → Data
cond_data Free = list_data []
cond_data (IfModified since) = list_data (string (codes "modified") ∷ time since ∷ [])
cond_data (IfUnmodified since) = list_data (string (codes "unmodified") ∷ time since ∷ [])
cond_data IfAbsent = list_data (string (codes "absent") ∷ [])

-- which records of a collection are asked for: `null` where nothing is said
abbrev pub query_data : Query → Data
query_data q =
    list_data (optional (data_of_list string) q.ids ∷ optional time q.newer ∷ optional time q.older ∷ optional natural q.limit ∷ natural q.offset
    ∷ string (sort_word q.sort) ∷ boolean q.full ∷ [])

abbrev pub mode_data : Mode → Data
mode_data Plain = list_data []
mode_data Begin = list_data (string (codes "begin") ∷ [])
mode_data (Append batch) = list_data (string (codes "append") ∷ natural batch ∷ [])
mode_data (Commit batch) = list_data (string (codes "commit") ∷ natural batch ∷ [])

-- what is said of a record: its payload, its sortindex and its ttl
abbrev pub fields_data : Fields → Data
fields_data f = list_data (field string f.payload ∷ field integer f.sortindex ∷ field natural f.ttl ∷ [])

abbrev pub part_data : Part → Data
part_data p = list_data (string p.id ∷ field string p.fields.payload ∷ field integer p.fields.sortindex ∷ field natural p.fields.ttl ∷ [])

abbrev pub failure_data : List ℕ × Reason → Data
failure_data f = list_data (string f.0 ∷ string (reason_name f.1) ∷ [])

-- ---- requests

abbrev pub request_data : Request → Data
request_data (Info what cond) = list_data (string (codes "info") ∷ string (asked_word what) ∷ cond_data cond ∷ [])
request_data (DeleteAll cond) = list_data (string (codes "deleteall") ∷ cond_data cond ∷ [])
request_data (ListOf collection query cond) = list_data (string (codes "list") ∷ string collection ∷ query_data query ∷ cond_data cond ∷ [])
request_data (Post collection records mode cond) =
    list_data (string (codes "post") ∷ string collection ∷ mode_data mode ∷ data_of_list part_data records.parts ∷ data_of_list failure_data records.failed ∷ cond_data cond ∷ [])
request_data (DeleteCollection collection cond) = list_data (string (codes "drop") ∷ string collection ∷ cond_data cond ∷ [])
request_data (DeleteIds collection ids cond) = list_data (string (codes "dropids") ∷ string collection ∷ data_of_list string ids ∷ cond_data cond ∷ [])
request_data (Get collection id cond) = list_data (string (codes "get") ∷ string collection ∷ string id ∷ cond_data cond ∷ [])
request_data (Put collection id fields cond) = list_data (string (codes "put") ∷ string collection ∷ string id ∷ fields_data fields ∷ cond_data cond ∷ [])
request_data (Delete collection id cond) = list_data (string (codes "delete") ∷ string collection ∷ string id ∷ cond_data cond ∷ [])

-- ---- which requests there are: each value has the form of its type

abbrev pub IsId : List ℕ → Type 0
IsId id = is_id id ≡ true

abbrev pub IsTime : ℕ → Type 0
IsTime t = t ≤ last_stamp

abbrev pub IsCond : Cond → Type 0
IsCond Free = ⊤
IsCond (IfModified since) = IsTime since
IsCond (IfUnmodified since) = IsTime since
IsCond IfAbsent = ⊤

pub record IsQuery (q : Query) : Type 0 where
  pub ids : OfOption (AllByRecursion IsId) q.ids
  pub newer : OfOption IsTime q.newer
  pub older : OfOption IsTime q.older
  pub limit : OfOption (λ n. n < 2 ^ 32) q.limit
  pub offset : q.offset < 2 ^ 32

abbrev pub IsMode : Mode → Type 0
IsMode Plain = ⊤
IsMode Begin = ⊤
IsMode (Append batch) = batch < 2 ^ 64
IsMode (Commit batch) = batch < 2 ^ 64

abbrev pub IsFailure : List ℕ × Reason → Type 0
IsFailure f = IsId f.0

-- what is said of a record's fields, as a part without regard to its id
abbrev pub AreFields : List ℕ → Fields → Type 0
AreFields id fields = IsPart (record { id = id; fields = fields })

abbrev pub IsRequest : Request → Type 0
IsRequest (Info what cond) = IsCond cond
IsRequest (DeleteAll cond) = IsCond cond
IsRequest (ListOf collection query cond) = (is_name collection ≡ true) × IsQuery query × IsCond cond
IsRequest (Post collection records mode cond) =
    (is_name collection ≡ true) × AllByRecursion IsPart records.parts × AllByRecursion IsFailure records.failed × IsMode mode × IsCond cond
IsRequest (DeleteCollection collection cond) = (is_name collection ≡ true) × IsCond cond
IsRequest (DeleteIds collection ids cond) = (is_name collection ≡ true) × AllByRecursion IsId ids × IsCond cond
IsRequest (Get collection id cond) = (is_name collection ≡ true) × IsId id × IsCond cond
IsRequest (Put collection id fields cond) = (is_name collection ≡ true) × AreFields id fields × IsCond cond
IsRequest (Delete collection id cond) = (is_name collection ≡ true) × IsId id × IsCond cond
