-- Routing: what a message asks, and of which account, or the first rule that refuses it (SyncStorage API 1.5; the order of the
-- rules is this project's). A line of `routing_of_message`, and of the requests that it makes, is one rule.
use Rattle.std.specs.Prelude.{◌≡◌, ℕ, Bool, true, false, List, Option, Some, None, Result, Ok, Err, ⊤}
use Rattle.ss_text.specs.declared.stamps.Cond.{Cond}
use Rattle.ss_http.specs.declared.message.Message.{Message}
use Rattle.ss_query.specs.Parameters.{query_of_text, ids_of_text}
use Rattle.ss_bso.specs.Members.{◌>>=◌}
use Rattle.ss_query.specs.declared.requests.Request.{Request}
use Rattle.ss_query.specs.declared.requests.Request.TheVariants.{Info, DeleteAll, List as ListOf, Post}
use Rattle.ss_query.specs.declared.requests.Request.TheVariants.{DeleteCollection, DeleteIds, Get, Put, Delete}
use Rattle.ss_query.specs.Fit.{IsFitRequest}
use Rattle.ss_route.specs.declared.manner.Manner.{Manner}
use Rattle.ss_route.specs.declared.methods.Method.{Method}
use Rattle.ss_route.specs.declared.methods.Method.TheVariants as methods
use Rattle.ss_route.specs.declared.asked.Asked.{Asked}
use Rattle.ss_route.specs.declared.asked.Asked.TheVariants.{DeleteEverything, TellOf, OfCollection, OfItem}
use Rattle.ss_route.specs.declared.asked.CollectionAct.{CollectionAct}
use Rattle.ss_route.specs.declared.asked.CollectionAct.TheVariants as collections
use Rattle.ss_route.specs.declared.asked.ItemAct.{ItemAct}
use Rattle.ss_route.specs.declared.asked.ItemAct.TheVariants as items
use Rattle.ss_route.specs.declared.routed.Local.{Local as Told}
use Rattle.ss_route.specs.declared.routed.Routed.{Routed}
use Rattle.ss_route.specs.declared.routed.Routed.TheVariants.{Ask, Local, Memory}
use Rattle.ss_route.specs.Asking.{method_in, asked_in, name_in, id_in}
use Rattle.ss_route.specs.Bodies.{is_in_lines, fields_in, records_in}
use Rattle.ss_route.specs.Conditions.{condition_in}
use Rattle.ss_route.specs.Fields.{wants_lines}
use Rattle.ss_route.specs.Posts.{mode_in, names_batch, announced_in}
use Rattle.ss_route.specs.Refusals.{or_refusal, query_refusal}
use Rattle.ss_route.specs.Targets.{query_of, named_in, account_in}

abbrev pub is_get : Method → Bool
is_get methods.Get = true
is_get methods.Put = false
is_get methods.Post = false
is_get methods.Delete = false

-- a GET of a collection
unfoldable pub list_request : List ℕ → Cond → Message → Result Request Told
list_request collection cond m = do
  query ← or_refusal query_refusal (query_of_text (query_of m.target))
  Ok (ListOf collection query cond)

-- a POST
unfoldable pub post_request : List ℕ → Cond → Message → Result Request Told
post_request collection cond m = do
  mode ← mode_in (query_of m.target)
  announced ← announced_in (names_batch (query_of m.target)) m.fields
  lines ← is_in_lines true m.fields
  records ← records_in lines m.body
  Ok (Post collection records mode cond)

-- a DELETE of a collection, or of the items that its query names
abbrev pub deletes : List ℕ → Cond → Option (List (List ℕ)) → Request
deletes collection cond None = DeleteCollection collection cond
deletes collection cond (Some ids) = DeleteIds collection ids cond

unfoldable pub delete_request : List ℕ → Cond → Message → Result Request Told
delete_request collection cond m = do
  ids ← or_refusal query_refusal (ids_of_text (query_of m.target))
  Ok (deletes collection cond ids)

-- a PUT
unfoldable pub put_request : List ℕ → List ℕ → Cond → Message → Result Request Told
put_request collection id cond m = do
  lines ← is_in_lines false m.fields
  fields ← fields_in m.body
  Ok (Put collection id fields cond)

abbrev pub collection_request : CollectionAct → List ℕ → Cond → Message → Result Request Told
collection_request collections.List collection cond m = list_request collection cond m
collection_request collections.Post collection cond m = post_request collection cond m
collection_request collections.Delete collection cond m = delete_request collection cond m

abbrev pub item_request : ItemAct → List ℕ → List ℕ → Cond → Message → Result Request Told
item_request items.Get collection id cond m = Ok (Get collection id cond)
item_request items.Put collection id cond m = put_request collection id cond m
item_request items.Delete collection id cond m = Ok (Delete collection id cond)

-- what is asked, with its names, its condition, its query, its announced sizes, its type and its body, tested in this order
unfoldable pub request_in : Manner → Asked → Method → Message → Result Request Told
request_in manner DeleteEverything method m = do
  cond ← condition_in manner (is_get method) m.fields
  Ok (DeleteAll cond)
request_in manner (TellOf what) method m = do
  cond ← condition_in manner (is_get method) m.fields
  Ok (Info what cond)
request_in manner (OfCollection act collection) method m = do
  collection ← name_in collection
  cond ← condition_in manner (is_get method) m.fields
  collection_request act collection cond m
request_in manner (OfItem act collection id) method m = do
  collection ← name_in collection
  id ← id_in id
  cond ← condition_in manner (is_get method) m.fields
  item_request act collection id cond m

-- the first refusal, or what is asked
unfoldable pub asking : Manner → Message → Result Routed Told
asking manner m = do
  method ← method_in m.method
  named ← named_in m.target
  uid ← account_in named.uid
  asked ← asked_in named.place method
  request ← request_in manner asked method m
  Ok (Ask uid request (wants_lines m.fields))

abbrev pub settled_routing : Result Routed Told → Routed
settled_routing (Ok routed) = routed
settled_routing (Err local) = Local local

-- routing, in a manner of reading conditions
abbrev pub routing_of_message : Manner → Message → Routed
routing_of_message manner m = settled_routing (asking manner m)

-- a call's answer is that one, unless memory ran out
abbrev pub IsAnswerOfRouting : Routed → Routed → Type 0
IsAnswerOfRouting (Ask uid request newlines) answer = answer ≡ Ask uid request newlines
IsAnswerOfRouting (Local local) answer = answer ≡ Local local
IsAnswerOfRouting Memory answer = ⊤

-- a request that was routed is one that may be asked
abbrev pub AsksFit : Routed → Type 0
AsksFit (Ask uid request newlines) = IsFitRequest request
AsksFit (Local local) = ⊤
AsksFit Memory = ⊤
