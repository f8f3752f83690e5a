-- A request that is routed may be asked: a POST is within its limits, and a list of ids isn't too long.
use Rattle.std.proofs.Common.{◌≡◌, ℕ, ◌+◌, ◌≤◌, List, length, Bool, true, false, cond, nat_le, Option, Some, None, refl}
use Rattle.std.proofs.Common.{ap, subst, is_some, codes}
use Rattle.std.proofs.lemmas.Bool.{and_parts, leb-true}
use Rattle.std.specs.Option.{ForSome}
use Rattle.std.specs.Prelude.{Result, Ok, Err}
use Rattle.ss_text.specs.declared.stamps.Cond.{Cond}
use Rattle.ss_bso.specs.Limits.{part_bytes}
use Rattle.ss_bso.specs.declared.parts.Records.{Records}
use Rattle.ss_http.specs.declared.message.Message.{Message}
use Rattle.ss_query.specs.Fit.{IsFitRequest, most_post_records, most_post_bytes}
use Rattle.ss_query.specs.Parameters.{as_some, optional, or_default, ids_in, stamp_in, limit_in, offset_in}
use Rattle.ss_bso.specs.Members.{◌>>=◌}
use Rattle.ss_query.specs.Parameters.{sort_in, ids_of_text, query_of_text, most_ids, parameter}
use Rattle.ss_query.specs.declared.requests.Mode.{Mode}
use Rattle.ss_query.specs.declared.requests.Sort.{Sort}
use Rattle.ss_query.specs.declared.requests.Sort.TheVariants.{Newest}
use Rattle.ss_query.specs.declared.queries.QueryFault.{QueryFault}
use Rattle.ss_query.specs.declared.requests.Query.{Query}
use Rattle.ss_query.specs.declared.requests.Request.{Request}
use Rattle.ss_query.specs.declared.requests.Request.TheVariants.{Info, DeleteAll, List as ListOf, Post, Put, Get}
use Rattle.ss_query.specs.declared.requests.Request.TheVariants.{Delete}
use Rattle.ss_route.specs.declared.asked.Asked.{Asked}
use Rattle.ss_route.specs.declared.asked.Asked.TheVariants.{DeleteEverything, TellOf, OfCollection, OfItem}
use Rattle.ss_route.specs.declared.asked.CollectionAct.{CollectionAct}
use Rattle.ss_route.specs.declared.asked.CollectionAct.TheVariants as collections
use Rattle.ss_route.specs.declared.asked.ItemAct.{ItemAct}
use Rattle.ss_route.specs.declared.asked.ItemAct.TheVariants as items
use Rattle.ss_route.specs.declared.manner.Manner.{Manner}
use Rattle.ss_route.specs.declared.methods.Method.{Method}
use Rattle.ss_route.specs.declared.routed.Local.{Local}
use Rattle.ss_route.specs.declared.routed.Routed.{Routed}
use Rattle.ss_route.specs.declared.routed.Routed.TheVariants.{Ask}
use Rattle.ss_route.specs.Asking.{method_in, asked_in, name_in, id_in}
use Rattle.ss_route.specs.Bodies.{is_in_lines, fields_in, records_in, within_limits}
use Rattle.ss_route.specs.Conditions.{condition_in}
use Rattle.ss_route.specs.Fields.{wants_lines}
use Rattle.ss_route.specs.Posts.{mode_in, names_batch, announced_in}
use Rattle.ss_bso.specs.Bodies.{records_of_text}
use Rattle.ss_route.specs.Refusals.{or_refusal, query_refusal, body_refusal}
use Rattle.ss_route.specs.Targets.{query_of, named_in, account_in}
use Rattle.ss_route.specs.Routing.{is_get, asking, request_in, collection_request, item_request, list_request}
use Rattle.ss_route.specs.Routing.{post_request, delete_request, put_request, deletes, AsksFit}

-- what went on came from a value
record Came {A B E : Type 0} (x : Result A E) (f : A → Result B E) (y : B) : Type 0 where
  value : A
  was : x ≡ Ok value
  then : f value ≡ Ok y

came : {A B E : Type 0} (x : Result A E) (f : A → Result B E) (y : B) → (x >>= f) ≡ Ok y → Came x f y
came (Ok v) f y e = record { value = v; was = refl; then = e }
came (Err fault) f y e = absurd (cc)

-- what was read wasn't refused
read : {A F : Type 0} (told : F → Local) (x : Result A F) (y : A) → or_refusal told x ≡ Ok y → x ≡ Ok y
read told (Ok x) y e = cc
read told (Err fault) y e = absurd (cc)

few : {F : Type 0} (b c : Bool) (xs ids : List (List ℕ)) (f g : F) → cond b (cond c (Ok xs) (Err f)) (Err g) ≡ Ok ids → (c ≡ true) × (xs ≡ ids)
few true true xs ids f g e = (refl, cc)
few true false xs ids f g e = absurd (cc)
few false c xs ids f g e = absurd (cc)

ids_fit : (value : List ℕ) (ids : List (List ℕ)) → ids_in value ≡ Ok ids → length ids ≤ most_ids
unfolding ids_in
ids_fit value ids e =
    let parts = few _ _ _ ids _ _ e in
    subst (λ list. length list ≤ most_ids) parts.1 (leb-true _ _ parts.0)

some_fit : (r : Result (List (List ℕ)) QueryFault) (ids : Option (List (List ℕ))) → ((list : List (List ℕ)) → r ≡ Ok list → length list ≤ most_ids)
    → as_some r ≡ Ok ids → ForSome ids (λ list. length list ≤ most_ids)
some_fit (Ok list) ids fit e other is =
    let same : list ≡ other = cc in
    subst (λ list. length list ≤ most_ids) same (fit list refl)
some_fit (Err fault) ids fit e other is = absurd (cc)

optional_fit : (value : Option (List ℕ)) (ids : Option (List (List ℕ))) → optional ids_in value ≡ Ok ids → ForSome ids (λ list. length list ≤ most_ids)
optional_fit None ids e other is = absurd (cc)
optional_fit (Some value) ids e other is = some_fit (ids_in value) ids (ids_fit value) e other is

text_fit : (text : List ℕ) (ids : Option (List (List ℕ))) → ids_of_text text ≡ Ok ids → ForSome ids (λ list. length list ≤ most_ids)
unfolding ids_of_text
text_fit text ids e = optional_fit _ ids e

same_value : {A F : Type 0} (r : Result A F) (x y : A) → r ≡ Ok x → r ≡ Ok y → x ≡ y
same_value r x y e f = cc

-- the ids of a query are those that were read
query_ids : {F : Type 0} (ids : Result (Option (List (List ℕ))) F) (newer older limit : Result (Option ℕ) F) (offset : Result ℕ F) (sort : Result Sort F) (full : Bool)
    (query : Query)
    → (do
      ids ← ids
      newer ← newer
      older ← older
      limit ← limit
      offset ← offset
      sort ← sort
      Ok (record { ids = ids; newer = newer; older = older; limit = limit; offset = offset; sort = sort; full = full })) ≡ Ok query
    → ids ≡ Ok query.ids
query_ids (Ok ids) (Ok newer) (Ok older) (Ok limit) (Ok offset) (Ok sort) full query e =
    let made : Query = record { ids = ids; newer = newer; older = older; limit = limit; offset = offset; sort = sort; full = full } in
    ap (λ (q : Query). Ok q.ids) (same_value _ made query refl e)
query_ids (Err f) newer older limit offset sort full query e = absurd (cc)
query_ids (Ok ids) (Err f) older limit offset sort full query e = absurd (cc)
query_ids (Ok ids) (Ok newer) (Err f) limit offset sort full query e = absurd (cc)
query_ids (Ok ids) (Ok newer) (Ok older) (Err f) offset sort full query e = absurd (cc)
query_ids (Ok ids) (Ok newer) (Ok older) (Ok limit) (Err f) sort full query e = absurd (cc)
query_ids (Ok ids) (Ok newer) (Ok older) (Ok limit) (Ok offset) (Err f) full query e = absurd (cc)

query_fit : (text : List ℕ) (query : Query) → query_of_text text ≡ Ok query → ForSome query.ids (λ list. length list ≤ most_ids)
unfolding query_of_text
query_fit text query e =
    text_fit text query.ids
    (query_ids (ids_of_text text) (optional stamp_in (parameter (codes "newer") text)) (optional stamp_in (parameter (codes "older") text))
    (optional limit_in (parameter (codes "limit") text)) (or_default 0 offset_in (parameter (codes "offset") text))
    (or_default Newest sort_in (parameter (codes "sort") text)) (is_some (parameter (codes "full") text)) query e)

kept : {A F : Type 0} (b : Bool) (x y : A) (f : F) → cond b (Ok x) (Err f) ≡ Ok y → (b ≡ true) × (x ≡ y)
kept true x y f e = (refl, cc)
kept false x y f e = absurd (cc)

-- within the limits of one POST
Within : Records → Type 0
Within records = (length records.parts + length records.failed ≤ most_post_records) × (part_bytes records.parts ≤ most_post_bytes)

within_fit : (records out : Records) → within_limits records ≡ Ok out → Within out
unfolding Within
within_fit records out e =
    let parts = kept _ records out _ e in
    let two = and_parts (nat_le (length records.parts + length records.failed) most_post_records) (nat_le (part_bytes records.parts) most_post_bytes) parts.0 in
    subst Within parts.1 (leb-true _ _ two.0, leb-true _ _ two.1)

records_fit : (lines : Bool) (body : List ℕ) (records : Records) → records_in lines body ≡ Ok records → Within records
unfolding records_in
records_fit lines body records e = let all = came (or_refusal body_refusal (records_of_text lines body)) within_limits records e in within_fit all.value records all.then

is_fit : {F : Type 0} (r : Result Request F) (made request : Request) → r ≡ Ok made → r ≡ Ok request → IsFitRequest made → IsFitRequest request
is_fit r made request e f fit = subst IsFitRequest (same_value r made request e f) fit

list_fit : (collection : List ℕ) (cond : Cond) (m : Message) (request : Request) → list_request collection cond m ≡ Ok request → IsFitRequest request
unfolding list_request
list_fit collection cond m request e =
    let query = came (or_refusal query_refusal (query_of_text (query_of m.target))) (λ query. Ok (ListOf collection query cond)) request e in
    is_fit _ (ListOf collection query.value cond) request refl query.then (query_fit _ query.value (read _ _ _ query.was))

post_fit : (collection : List ℕ) (cond : Cond) (m : Message) (request : Request) → post_request collection cond m ≡ Ok request → IsFitRequest request
unfolding post_request Within
post_fit collection cond m request e =
    let with : Mode → Records → Result Request Local = λ mode records. Ok (Post collection records mode cond) in
    let mode = came (mode_in (query_of m.target))
    (λ mode. announced_in (names_batch (query_of m.target)) m.fields >>= (λ announced. is_in_lines true m.fields >>= (λ lines. records_in lines m.body >>= with mode))) request e in
    let announced = came (announced_in (names_batch (query_of m.target)) m.fields)
    (λ announced. is_in_lines true m.fields >>= (λ lines. records_in lines m.body >>= with mode.value)) request mode.then in
    let lines = came (is_in_lines true m.fields) (λ lines. records_in lines m.body >>= with mode.value) request announced.then in
    let records = came (records_in lines.value m.body) (with mode.value) request lines.then in
    is_fit _ (Post collection records.value mode.value cond) request refl records.then (records_fit lines.value m.body records.value records.was)

deletes_fit : (collection : List ℕ) (cond : Cond) (ids : Option (List (List ℕ))) → ForSome ids (λ list. length list ≤ most_ids) → IsFitRequest (deletes collection cond ids)
deletes_fit collection cond None fit = tt
deletes_fit collection cond (Some ids) fit = fit ids refl

delete_fit : (collection : List ℕ) (cond : Cond) (m : Message) (request : Request) → delete_request collection cond m ≡ Ok request → IsFitRequest request
unfolding delete_request
delete_fit collection cond m request e =
    let ids = came (or_refusal query_refusal (ids_of_text (query_of m.target))) (λ ids. Ok (deletes collection cond ids)) request e in
    is_fit _ (deletes collection cond ids.value) request refl ids.then (deletes_fit collection cond ids.value (text_fit _ ids.value (read _ _ _ ids.was)))

put_fit : (collection id : List ℕ) (cond : Cond) (m : Message) (request : Request) → put_request collection id cond m ≡ Ok request → IsFitRequest request
unfolding put_request
put_fit collection id cond m request e =
    let lines = came (is_in_lines false m.fields) (λ lines. fields_in m.body >>= (λ fields. Ok (Put collection id fields cond))) request e in
    let fields = came (fields_in m.body) (λ fields. Ok (Put collection id fields cond)) request lines.then in
    is_fit _ (Put collection id fields.value cond) request refl fields.then tt

collection_fit : (act : CollectionAct) (collection : List ℕ) (cond : Cond) (m : Message) (request : Request)
    → collection_request act collection cond m ≡ Ok request → IsFitRequest request
collection_fit collections.List collection cond m request e = list_fit collection cond m request e
collection_fit collections.Post collection cond m request e = post_fit collection cond m request e
collection_fit collections.Delete collection cond m request e = delete_fit collection cond m request e

item_fit : (act : ItemAct) (collection id : List ℕ) (cond : Cond) (m : Message) (request : Request)
    → item_request act collection id cond m ≡ Ok request → IsFitRequest request
item_fit items.Get collection id cond m request e = is_fit _ (Get collection id cond) request refl e tt
item_fit items.Put collection id cond m request e = put_fit collection id cond m request e
item_fit items.Delete collection id cond m request e = is_fit _ (Delete collection id cond) request refl e tt

request_fit : (manner : Manner) (asked : Asked) (method : Method) (m : Message) (request : Request) → request_in manner asked method m ≡ Ok request → IsFitRequest request
unfolding request_in
request_fit manner DeleteEverything method m request e =
    let cond = came (condition_in manner (is_get method) m.fields) (λ cond. Ok (DeleteAll cond)) request e in
    is_fit _ (DeleteAll cond.value) request refl cond.then tt
request_fit manner (TellOf what) method m request e =
    let cond = came (condition_in manner (is_get method) m.fields) (λ cond. Ok (Info what cond)) request e in
    is_fit _ (Info what cond.value) request refl cond.then tt
request_fit manner (OfCollection act collection) method m request e =
    let name = came (name_in collection) (λ name. condition_in manner (is_get method) m.fields >>= (λ cond. collection_request act name cond m)) request e in
    let cond = came (condition_in manner (is_get method) m.fields) (λ cond. collection_request act name.value cond m) request name.then in
    collection_fit act name.value cond.value m request cond.then
request_fit manner (OfItem act collection id) method m request e =
    let name = came (name_in collection) (λ name. id_in id >>= (λ id. condition_in manner (is_get method) m.fields >>= (λ cond. item_request act name id cond m))) request e in
    let item = came (id_in id) (λ id. condition_in manner (is_get method) m.fields >>= (λ cond. item_request act name.value id cond m)) request name.then in
    let cond = came (condition_in manner (is_get method) m.fields) (λ cond. item_request act name.value item.value cond m) request item.then in
    item_fit act name.value item.value cond.value m request cond.then

-- what is asked may be asked
pub asks_fit : (manner : Manner) (m : Message) (routed : Routed) → asking manner m ≡ Ok routed → AsksFit routed
unfolding asking
asks_fit manner m routed e =
    let ask : ℕ → Request → Result Routed Local = λ uid request. Ok (Ask uid request (wants_lines m.fields)) in
    let method = came (method_in m.method)
    (λ method. named_in m.target >>= (λ named. account_in named.uid >>= (λ uid. asked_in named.place method >>= (λ asked. request_in manner asked method m >>= ask uid)))) routed e in
    let named = came (named_in m.target)
    (λ named. account_in named.uid >>= (λ uid. asked_in named.place method.value >>= (λ asked. request_in manner asked method.value m >>= ask uid))) routed method.then in
    let uid = came (account_in named.value.uid)
    (λ uid. asked_in named.value.place method.value >>= (λ asked. request_in manner asked method.value m >>= ask uid)) routed named.then in
    let asked = came (asked_in named.value.place method.value) (λ asked. request_in manner asked method.value m >>= ask uid.value) routed uid.then in
    let request = came (request_in manner asked.value method.value m) (ask uid.value) routed asked.then in
    subst AsksFit (same_value _ _ routed refl request.then) (request_fit manner asked.value method.value m request.value request.was)
