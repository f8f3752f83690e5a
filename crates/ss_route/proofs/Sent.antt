-- A request that is sent is routed as it was meant.
use Rattle.std.proofs.Common.{◌≡◌, ℕ, suc, ◌+◌, ◌^◌, ◌/◌, ◌%◌, ◌<◌, ◌≤◌, List, [], ◌∷◌, length, nat_le, Bool, true}
use Rattle.std.proofs.Common.{false, ◌&&◌, cond, Option, Some, None, option_and_then, codes, decimal, refl, sym, ap}
use Rattle.std.proofs.Common.{ap₂, ◌∙◌, subst, arith, lit<, le-leb, append_assoc, append-nil, ◌++◌, ⊎_elim}
use Rattle.std.proofs.lemmas.Fmt.{decimal_nonempty}
use Rattle.std.proofs.lemmas.List.Folds.{list_all-append}
use Rattle.std.proofs.lemmas.List.Sums.{sum_by-cons}
use Rattle.std.specs.Char.{is_ascii_digit}
use Rattle.std.specs.List.{list_all, AllByRecursion, All}
use Rattle.std.specs.Prelude.{Result, Ok, Err, ok_or, is_some, IfSome}
use Rattle.std.specs.Str.{IsUtf8}
use Rattle.httparse.specs.Grammar.{trim_ows}
use Rattle.ss_text.specs.Names.{is_id}
use Rattle.ss_text.specs.Numbers.{number_of}
use Rattle.ss_text.specs.Time.{stamp_text, stamp_of, last_stamp, two_digits}
use Rattle.ss_text.specs.declared.stamps.Cond.{Cond}
use Rattle.ss_text.specs.declared.stamps.Cond.TheVariants.{Free, IfModified, IfUnmodified, IfAbsent}
use Rattle.ss_bso.specs.Limits.{part_bytes, payload_size}
use Rattle.ss_bso.specs.declared.parts.Part.{Part}
use Rattle.ss_bso.specs.declared.parts.Records.{Records}
use Rattle.ss_http.specs.Requests.{IsCond, request_fields}
use Rattle.ss_http.specs.declared.message.Message.{Message}
use Rattle.ss_query.specs.Fit.{IsFitRequest, most_post_records, most_post_bytes}
use Rattle.ss_query.specs.Parameters.{as_some, optional, or_default, ids_in, stamp_in, limit_in, offset_in}
use Rattle.ss_bso.specs.Members.{◌>>=◌}
use Rattle.ss_query.specs.Parameters.{sort_in, ids_of_text, query_of_text, parameter}
use Rattle.ss_query.specs.declared.queries.QueryFault.{QueryFault}
use Rattle.ss_query.specs.declared.queries.QueryFault.TheVariants as of_query
use Rattle.ss_query.specs.declared.replies.Said.TheVariants as words
use Rattle.ss_query.specs.declared.requests.Info.TheVariants.{Configuration}
use Rattle.ss_query.specs.declared.requests.Mode.{Mode}
use Rattle.ss_query.specs.declared.requests.Mode.TheVariants.{Plain, Begin, Append, Commit}
use Rattle.ss_query.specs.declared.requests.Query.{Query}
use Rattle.ss_query.specs.declared.requests.Request.{Request}
use Rattle.ss_query.specs.declared.requests.Request.TheVariants.{Info, DeleteAll, List as ListOf, Post}
use Rattle.ss_query.specs.declared.requests.Request.TheVariants.{DeleteCollection, DeleteIds, Put, Get as GetItem}
use Rattle.ss_query.specs.declared.requests.Request.TheVariants.{Delete as DeleteItem}
use Rattle.ss_query.specs.declared.requests.Sort.TheVariants.{Newest}
use Rattle.ss_route.specs.declared.asked.Asked.{Asked}
use Rattle.ss_route.specs.declared.asked.Asked.TheVariants.{TellOf, OfCollection}
use Rattle.ss_route.specs.declared.asked.CollectionAct.{CollectionAct}
use Rattle.ss_route.specs.declared.asked.CollectionAct.TheVariants as collections
use Rattle.ss_route.specs.declared.manner.Manner.{Manner}
use Rattle.ss_route.specs.declared.manner.Manner.TheVariants.{Profile, Browser}
use Rattle.ss_route.specs.declared.methods.Method.{Method}
use Rattle.ss_route.specs.declared.methods.Method.TheVariants as methods
use Rattle.ss_route.specs.declared.routed.Local.{Local}
use Rattle.ss_route.specs.declared.routed.Routed.{Routed}
use Rattle.ss_route.specs.declared.routed.Routed.TheVariants.{Ask}
use Rattle.ss_route.specs.declared.targets.Named.{Named}
use Rattle.ss_route.specs.declared.targets.Place.TheVariants.{About, Collection}
use Rattle.ss_route.specs.Asking.{method_in, asked_in, name_in}
use Rattle.ss_route.specs.Bodies.{is_in_lines, lines_of_type, records_in, within_limits}
use Rattle.ss_route.specs.Conditions.{condition_in, is_beyond_stamps, cond_meant, stamp_said, time_in}
use Rattle.ss_route.specs.Fields.{wants_lines, without_parameters}
use Rattle.ss_route.specs.Posts.{token, batch_of, mode_of, mode_in, batch_in, continues, names_batch, announced_in}
use Rattle.ss_route.specs.Refusals.{local_with_word, code, or_refusal, query_refusal, body_refusal}
use Rattle.ss_route.specs.Routing.{is_get, asking, settled_routing, routing_of_message, request_in, collection_request}
use Rattle.ss_route.specs.Routing.{list_request, post_request}
use Rattle.ss_route.specs.Sending.{IsSentRequest, HasTypes, IsReadable, IsReadableBatch, IsPageAt, IsSentList}
use Rattle.ss_route.specs.Sending.{IsIfUnmodified}
use Rattle.ss_route.specs.Sending.{IsUpload, page, all_ids, account_path, target_of, uploads_text}
use Rattle.ss_bso.specs.Put.{payload_set}
use Rattle.ss_route.specs.Sending.{message_of, request_meant}
use Rattle.ss_route.specs.Targets.{query_of, named_by, named_in, place_of, info_of, account_in}
use Rattle.ss_route.proofs.Composed.{Pair, is_plain, IsPlainSegment, IsPlainPair, ArePlainSegments, ArePlainPairs}
use Rattle.ss_route.proofs.Composed.{target_text, first_value, path_again, parameter_again}
use Rattle.ss_route.proofs.Tokens.{decimal_is_plain, stamp_is_plain, token_is_plain, number_back, uid_back, batch_back}
use Rattle.ss_route.proofs.Tokens.{token_is_not_true}
use Rattle.ss_route.proofs.Uploads.{IsPart, uploads_are_read}
use Rattle.ss_text.proofs.StampTexts.{stamp_again}

-- a step that goes on
pub on : {A B E : Type 0} (x : Result A E) (v : A) (f : A → Result B E) (y : B) → x ≡ Ok v → f v ≡ Ok y → (x >>= f) ≡ Ok y
on x v f y e then = ap (λ r. r >>= f) e ∙ then

-- ---- targets

abbrev pub bookmarks : ℕ → List (List ℕ)
bookmarks uid = codes "1.5" ∷ decimal uid ∷ codes "storage" ∷ codes "bookmarks" ∷ []

abbrev pub configuration : ℕ → List (List ℕ)
configuration uid = codes "1.5" ∷ decimal uid ∷ codes "info" ∷ codes "configuration" ∷ []

segment : (xs : List ℕ) → 0 < length xs → list_all is_plain xs ≡ true → IsPlainSegment xs
segment xs some h = record { some = some; plain = h }

pair : (name value : List ℕ) → list_all is_plain name ≡ true → list_all is_plain value ≡ true → IsPlainPair (name, value)
pair name value h g = record { name = h; value = g }

pub bookmarks_plain : (uid : ℕ) → uid < 2 ^ 64 → ArePlainSegments (bookmarks uid)
bookmarks_plain uid h =
    (lit< tt, (segment _ (lit< tt) refl, (segment (decimal uid) (decimal_nonempty uid h) (decimal_is_plain uid h), (segment _ (lit< tt) refl, (segment _ (lit< tt) refl, tt)))))

pub configuration_plain : (uid : ℕ) → uid < 2 ^ 64 → ArePlainSegments (configuration uid)
configuration_plain uid h =
    (lit< tt, (segment _ (lit< tt) refl, (segment (decimal uid) (decimal_nonempty uid h) (decimal_is_plain uid h), (segment _ (lit< tt) refl, (segment _ (lit< tt) refl, tt)))))

named_bookmarks : (uid : ℕ) (pairs : List Pair) → uid < 2 ^ 64 → ArePlainPairs pairs
    → named_in (target_text (bookmarks uid) pairs) ≡ Ok (record { uid = decimal uid; place = Collection (codes "bookmarks") })
unfolding named_in named_by place_of
named_bookmarks uid pairs h g = ap (λ s. ok_or (option_and_then named_by s) (local_with_word 404 words.Path)) (path_again (bookmarks uid) pairs (bookmarks_plain uid h) g)

named_configuration : (uid : ℕ) → uid < 2 ^ 64 → named_in (target_text (configuration uid) []) ≡ Ok (record { uid = decimal uid; place = About Configuration })
unfolding named_in named_by place_of info_of
named_configuration uid h = ap (λ s. ok_or (option_and_then named_by s) (local_with_word 404 words.Path)) (path_again (configuration uid) [] (configuration_plain uid h) tt)

account_back : (uid : ℕ) → 1 ≤ uid → uid ≤ 4294967295 → account_in (decimal uid) ≡ Ok uid
account_back uid above below = ap (λ o. ok_or o (local_with_word 401 words.Account)) (uid_back uid above below)

-- ---- the rules

asked_again : (manner : Manner) (m : Message) (method : Method) (named : Named) (uid : ℕ) (asked : Asked) (request : Request)
    → method_in m.method ≡ Ok method → named_in m.target ≡ Ok named → account_in named.uid ≡ Ok uid → asked_in named.place method ≡ Ok asked
    → request_in manner asked method m ≡ Ok request → wants_lines m.fields ≡ false → asking manner m ≡ Ok (Ask uid request false)
unfolding asking
asked_again manner m method named uid asked request a b c d e f =
    let ask : ℕ → Request → Result Routed Local = λ uid request. Ok (Ask uid request (wants_lines m.fields)) in
    let y : Routed = Ask uid request (wants_lines m.fields) in
    let whole =
    on (method_in m.method) method
    (λ method. named_in m.target >>= (λ named. account_in named.uid >>= (λ uid. asked_in named.place method >>= (λ asked. request_in manner asked method m >>= ask uid)))) y a
    (on (named_in m.target) named (λ named. account_in named.uid >>= (λ uid. asked_in named.place method >>= (λ asked. request_in manner asked method m >>= ask uid))) y b
    (on (account_in named.uid) uid (λ uid. asked_in named.place method >>= (λ asked. request_in manner asked method m >>= ask uid)) y c
    (on (asked_in named.place method) asked (λ asked. request_in manner asked method m >>= ask uid) y d (on (request_in manner asked method m) request (ask uid) y e refl)))) in
    whole ∙ ap (λ lines. Ok (Ask uid request lines)) f

asked_bookmarks : (manner : Manner) (m : Message) (method : Method) (act : CollectionAct) (uid : ℕ) (pairs : List Pair) (cond : Cond) (request : Request)
    → method_in m.method ≡ Ok method → m.target ≡ target_text (bookmarks uid) pairs → ArePlainPairs pairs → 1 ≤ uid → uid ≤ 4294967295
    → asked_in (Collection (codes "bookmarks")) method ≡ Ok (OfCollection act (codes "bookmarks")) → condition_in manner (is_get method) m.fields ≡ Ok cond
    → collection_request act (codes "bookmarks") cond m ≡ Ok request → wants_lines m.fields ≡ false → asking manner m ≡ Ok (Ask uid request false)
unfolding request_in name_in
asked_bookmarks manner m method act uid pairs cond request a target plain above below d condition body f =
    let few : uid < 2 ^ 64 = omega arith in
    asked_again manner m method (record { uid = decimal uid; place = Collection (codes "bookmarks") }) uid (OfCollection act (codes "bookmarks")) request a
    (ap named_in target ∙ named_bookmarks uid pairs few plain) (account_back uid above below) d
    (on (condition_in manner (is_get method) m.fields) cond (λ cond. collection_request act (codes "bookmarks") cond m) request condition body) f

-- ---- conditions

free_again : (manner : Manner) (gets : Bool) (host : List ℕ) → condition_in manner gets (request_fields host Free None) ≡ Ok Free
unfolding condition_in
free_again manner gets host = refl

-- a stamp's text has a point, so it isn't beyond the stamps
nor_false : (a b c : Bool) → c ≡ false → (a && b && c) ≡ false
nor_false true true c e = e
nor_false true false c e = refl
nor_false false b c e = refl

and_false : (a b : Bool) → b ≡ false → (a && b) ≡ false
and_false true b e = e
and_false false b e = refl

has_point : (time : ℕ) → list_all is_ascii_digit (stamp_text time) ≡ false
unfolding stamp_text
has_point time =
    list_all-append is_ascii_digit (decimal (time / 100)) (46 ∷ two_digits (time % 100))
    ∙ and_false (list_all is_ascii_digit (decimal (time / 100))) _ refl

not_beyond : (time : ℕ) → is_beyond_stamps (stamp_text time) ≡ false
not_beyond time = nor_false (nat_le 11 (length (stamp_text time))) (nat_le (length (stamp_text time)) 18) (list_all is_ascii_digit (stamp_text time)) (has_point time)

said_again : (manner : Manner) (time : ℕ) → time ≤ last_stamp → stamp_said manner (stamp_text time) ≡ Some time
said_again Profile time h = stamp_again time h
said_again Browser time h = ap (λ beyond. cond beyond (Some last_stamp) (stamp_of (stamp_text time))) (not_beyond time) ∙ stamp_again time h

time_back : (manner : Manner) (time : ℕ) → time ≤ last_stamp
    → (time_in manner (stamp_text time) >>= (λ time. Ok (cond_meant manner (IfUnmodified time)))) ≡ Ok (cond_meant manner (IfUnmodified time))
time_back manner time h = ap (λ o. ok_or o (local_with_word 400 words.Condition) >>= (λ time. Ok (cond_meant manner (IfUnmodified time)))) (said_again manner time h)

unmodified_again : (manner : Manner) (gets : Bool) (host : List ℕ) (time : ℕ) (body : Option (List ℕ)) → time ≤ last_stamp
    → condition_in manner gets (request_fields host (IfUnmodified time) body) ≡ Ok (cond_meant manner (IfUnmodified time))
unfolding condition_in
unmodified_again manner gets host time None h = time_back manner time h
unmodified_again manner gets host time (Some body) h = time_back manner time h

-- what a request without a condition means
free_meant : (manner : Manner) → cond_meant manner Free ≡ Free
free_meant Profile = refl
free_meant Browser = refl

-- ---- a page

query_from : (ids newer older limit offset sort full : Option (List ℕ)) → Result Query QueryFault
query_from ids newer older limit offset sort full = do
  ids ← optional ids_in ids
  newer ← optional stamp_in newer
  older ← optional stamp_in older
  limit ← optional limit_in limit
  offset ← or_default 0 offset_in offset
  sort ← or_default Newest sort_in sort
  Ok (record { ids = ids; newer = newer; older = older; limit = limit; offset = offset; sort = sort; full = is_some full })

from_parameters : (text : List ℕ) → query_of_text text ≡ query_from (parameter (codes "ids") text) (parameter (codes "newer") text) (parameter (codes "older") text)
    (parameter (codes "limit") text) (parameter (codes "offset") text) (parameter (codes "sort") text) (parameter (codes "full") text)
unfolding query_of_text ids_of_text query_from
from_parameters text = refl

-- a page of newer records names their time
abbrev pub newer_pairs : Option ℕ → List Pair
newer_pairs None = []
newer_pairs (Some since) = (codes "newer", stamp_text since) ∷ []

abbrev pub first_pairs : Option ℕ → List Pair
first_pairs newer = (codes "full", codes "1") ∷ (codes "sort", codes "oldest") ∷ (codes "limit", codes "1000") ∷ newer_pairs newer

abbrev pub later_pairs : Option ℕ → ℕ → List Pair
later_pairs newer offset = (codes "full", codes "1") ∷ (codes "sort", codes "oldest") ∷ (codes "limit", codes "1000") ∷ (newer_pairs newer ++ (codes "offset", decimal offset) ∷ [])

abbrev pub IsTime : Option ℕ → Type 0
IsTime newer = IfSome newer (λ since. since ≤ last_stamp)

pub first_plain : (newer : Option ℕ) → IsTime newer → ArePlainPairs (first_pairs newer)
first_plain None h = (pair _ _ refl refl, (pair _ _ refl refl, (pair _ _ refl refl, tt)))
first_plain (Some since) h = (pair _ _ refl refl, (pair _ _ refl refl, (pair _ _ refl refl, (pair _ _ refl (stamp_is_plain since h), tt))))

pub later_plain : (newer : Option ℕ) (offset : ℕ) → IsTime newer → offset < 2 ^ 64 → ArePlainPairs (later_pairs newer offset)
later_plain None offset known h = (pair _ _ refl refl, (pair _ _ refl refl, (pair _ _ refl refl, (pair _ _ refl (decimal_is_plain offset h), tt))))
later_plain (Some since) offset known h =
    (pair _ _ refl refl, (pair _ _ refl refl, (pair _ _ refl refl, (pair _ _ refl (stamp_is_plain since known), (pair _ _ refl (decimal_is_plain offset h), tt)))))

abbrev time_value : Option ℕ → Option (List ℕ)
time_value None = None
time_value (Some since) = Some (stamp_text since)

newer_again : (newer : Option ℕ) → IsTime newer → optional stamp_in (time_value newer) ≡ Ok newer
newer_again None h = refl
newer_again (Some since) h = ap (λ o. as_some (ok_or o of_query.BadStamp)) (stamp_again since h)

offset_again : (offset : ℕ) → offset ≤ 999999999 → or_default 0 offset_in (Some (decimal offset)) ≡ Ok offset
unfolding offset_in
offset_again offset h = ap (λ o. ok_or o of_query.BadOffset) (number_back 9 offset (lit< tt) (omega arith) (omega arith))

page_query : (time place : Option (List ℕ)) (newer : Option ℕ) (offset : ℕ) → optional stamp_in time ≡ Ok newer → or_default 0 offset_in place ≡ Ok offset
    → query_from None time None (Some (codes "1000")) place (Some (codes "oldest")) (Some (codes "1")) ≡ Ok (page newer offset)
unfolding query_from limit_in sort_in number_of
page_query time place newer offset e h =
    let found : Option ℕ → ℕ → Result Query QueryFault = λ newer offset. Ok (page newer offset) in
    ap (λ r. r >>= (λ newer. or_default 0 offset_in place >>= found newer)) e ∙ ap (λ r. r >>= found newer) h

all_query : query_from None None None None None None None ≡ Ok all_ids
unfolding query_from
all_query = refl

parameters_are : (segments : List (List ℕ)) (pairs : List Pair) (query : Query) → ArePlainSegments segments → ArePlainPairs pairs
    → query_from (first_value (codes "ids") pairs) (first_value (codes "newer") pairs) (first_value (codes "older") pairs) (first_value (codes "limit") pairs)
    (first_value (codes "offset") pairs) (first_value (codes "sort") pairs) (first_value (codes "full") pairs) ≡ Ok query
    → query_of_text (query_of (target_text segments pairs)) ≡ Ok query
parameters_are segments pairs query h g e =
    from_parameters (query_of (target_text segments pairs))
    ∙ (λ i. query_from (parameter_again (codes "ids") segments pairs h g i) (parameter_again (codes "newer") segments pairs h g i) (parameter_again (codes "older") segments pairs h g i)
    (parameter_again (codes "limit") segments pairs h g i) (parameter_again (codes "offset") segments pairs h g i) (parameter_again (codes "sort") segments pairs h g i)
    (parameter_again (codes "full") segments pairs h g i))
    ∙ e

listed_again : (m : Message) (cond : Cond) (query : Query) → query_of_text (query_of m.target) ≡ Ok query
    → list_request (codes "bookmarks") cond m ≡ Ok (ListOf (codes "bookmarks") query cond)
unfolding list_request
listed_again m cond query e = ap (λ r. or_refusal query_refusal r >>= (λ query. Ok (ListOf (codes "bookmarks") query cond))) e

get_asks : (act : CollectionAct) → asked_in (Collection (codes "bookmarks")) methods.Get ≡ Ok (OfCollection collections.List (codes "bookmarks"))
unfolding asked_in
get_asks act = refl

get_is : method_in (codes "GET") ≡ Ok methods.Get
unfolding method_in
get_is = refl

no_lines : (host : List ℕ) (cond : Cond) (body : Option (List ℕ)) → wants_lines (request_fields host cond body) ≡ false
no_lines host Free None = refl
no_lines host Free (Some body) = refl
no_lines host (IfModified time) None = refl
no_lines host (IfModified time) (Some body) = refl
no_lines host (IfUnmodified time) None = refl
no_lines host (IfUnmodified time) (Some body) = refl
no_lines host IfAbsent None = refl
no_lines host IfAbsent (Some body) = refl

pub first_target : (uid : ℕ) (newer : Option ℕ) → target_of uid (ListOf (codes "bookmarks") (page newer 0) Free) ≡ target_text (bookmarks uid) (first_pairs newer)
unfolding target_of account_path
first_target uid None = simp (append_assoc, append-nil)
first_target uid (Some since) = simp (append_assoc, append-nil)

pub later_target : (uid : ℕ) (newer : Option ℕ) (offset time : ℕ) → target_of uid (ListOf (codes "bookmarks") (page newer offset) (IfUnmodified time)) ≡ target_text (bookmarks uid) (later_pairs newer offset)
unfolding target_of account_path
later_target uid None offset time = simp (append_assoc, append-nil)
later_target uid (Some since) offset time = simp (append_assoc, append-nil)

pub ids_target : (uid time : ℕ) → target_of uid (ListOf (codes "bookmarks") all_ids (IfUnmodified time)) ≡ target_text (bookmarks uid) []
unfolding target_of account_path
ids_target uid time = simp (append_assoc, append-nil)

-- a list whose target has these pairs is asked for again
list_goes : (manner : Manner) (uid : ℕ) (host : List ℕ) (query : Query) (cond : Cond) (pairs : List Pair) → 1 ≤ uid → uid ≤ 4294967295 → target_of uid (ListOf (codes "bookmarks") query cond) ≡ target_text (bookmarks uid) pairs
    → ArePlainPairs pairs → condition_in manner true (request_fields host cond None) ≡ Ok (cond_meant manner cond)
    → query_from (first_value (codes "ids") pairs) (first_value (codes "newer") pairs) (first_value (codes "older") pairs) (first_value (codes "limit") pairs)
    (first_value (codes "offset") pairs) (first_value (codes "sort") pairs) (first_value (codes "full") pairs) ≡ Ok query
    → asking manner (message_of uid host (ListOf (codes "bookmarks") query cond)) ≡ Ok (Ask uid (ListOf (codes "bookmarks") query (cond_meant manner cond)) false)
list_goes manner uid host query cond pairs above below target plain condition found =
    let request = ListOf (codes "bookmarks") query cond in
    let m = message_of uid host request in
    let few : uid < 2 ^ 64 = omega arith in
    asked_bookmarks manner m methods.Get collections.List uid pairs (cond_meant manner cond) (ListOf (codes "bookmarks") query (cond_meant manner cond)) get_is target plain above below (get_asks collections.List) condition
    (listed_again m (cond_meant manner cond) query (ap (λ target. query_of_text (query_of target)) target ∙ parameters_are (bookmarks uid) pairs query (bookmarks_plain uid few) plain found)) (no_lines host cond None)

first_page : (manner : Manner) (uid : ℕ) (newer : Option ℕ) (host : List ℕ) → 1 ≤ uid → uid ≤ 4294967295 → IsTime newer
    → asking manner (message_of uid host (ListOf (codes "bookmarks") (page newer 0) Free)) ≡ Ok (Ask uid (ListOf (codes "bookmarks") (page newer 0) (cond_meant manner Free)) false)
first_page manner uid newer host above below known =
    list_goes manner uid host (page newer 0) Free (first_pairs newer) above below (first_target uid newer) (first_plain newer known)
    (free_again manner true host ∙ ap Ok (sym (free_meant manner))) (found newer known)
  where
    found : (t : Option ℕ) → IsTime t → query_from (first_value (codes "ids") (first_pairs t)) (first_value (codes "newer") (first_pairs t)) (first_value (codes "older") (first_pairs t)) (first_value (codes "limit") (first_pairs t))
        (first_value (codes "offset") (first_pairs t)) (first_value (codes "sort") (first_pairs t)) (first_value (codes "full") (first_pairs t)) ≡ Ok (page t 0)
    found None h = page_query None None None 0 refl refl
    found (Some since) h = page_query (Some (stamp_text since)) None (Some since) 0 (newer_again (Some since) h) refl

later_page : (manner : Manner) (uid : ℕ) (newer : Option ℕ) (offset time : ℕ) (host : List ℕ) → 1 ≤ uid → uid ≤ 4294967295 → IsTime newer → offset ≤ 999999999 → time ≤ last_stamp
    → asking manner (message_of uid host (ListOf (codes "bookmarks") (page newer offset) (IfUnmodified time)))
    ≡ Ok (Ask uid (ListOf (codes "bookmarks") (page newer offset) (cond_meant manner (IfUnmodified time))) false)
later_page manner uid newer offset time host above below known within moment =
    list_goes manner uid host (page newer offset) (IfUnmodified time) (later_pairs newer offset) above below (later_target uid newer offset time) (later_plain newer offset known (omega arith))
    (unmodified_again manner true host time None moment) (found newer known)
  where
    found : (t : Option ℕ) → IsTime t → query_from (first_value (codes "ids") (later_pairs t offset)) (first_value (codes "newer") (later_pairs t offset)) (first_value (codes "older") (later_pairs t offset))
        (first_value (codes "limit") (later_pairs t offset)) (first_value (codes "offset") (later_pairs t offset)) (first_value (codes "sort") (later_pairs t offset)) (first_value (codes "full") (later_pairs t offset)) ≡ Ok (page t offset)
    found None h = page_query None (Some (decimal offset)) None offset refl (offset_again offset within)
    found (Some since) h = page_query (Some (stamp_text since)) (Some (decimal offset)) (Some since) offset (newer_again (Some since) h) (offset_again offset within)

ids_listed : (manner : Manner) (uid time : ℕ) (host : List ℕ) → 1 ≤ uid → uid ≤ 4294967295 → time ≤ last_stamp
    → asking manner (message_of uid host (ListOf (codes "bookmarks") all_ids (IfUnmodified time))) ≡ Ok (Ask uid (ListOf (codes "bookmarks") all_ids (cond_meant manner (IfUnmodified time))) false)
ids_listed manner uid time host above below known =
    list_goes manner uid host all_ids (IfUnmodified time) [] above below (ids_target uid time) tt (unmodified_again manner true host time None known) all_query

-- ---- the limits of the server

pub configuration_target : (uid : ℕ) → target_of uid (Info Configuration Free) ≡ target_text (configuration uid) []
unfolding target_of account_path
configuration_target uid = simp (append_assoc, append-nil)

told_of : (manner : Manner) (m : Message) → condition_in manner true m.fields ≡ Ok Free → request_in manner (TellOf Configuration) methods.Get m ≡ Ok (Info Configuration Free)
unfolding request_in
told_of manner m e = ap (λ r. r >>= (λ cond. Ok (Info Configuration cond))) e

tell_asks : asked_in (About Configuration) methods.Get ≡ Ok (TellOf Configuration)
unfolding asked_in
tell_asks = refl

limits_asked : (manner : Manner) (uid : ℕ) (host : List ℕ) → 1 ≤ uid → uid ≤ 4294967295 → asking manner (message_of uid host (Info Configuration Free)) ≡ Ok (Ask uid (Info Configuration Free) false)
limits_asked manner uid host above below =
    let m = message_of uid host (Info Configuration Free) in
    let few : uid < 2 ^ 64 = omega arith in
    asked_again manner m methods.Get (record { uid = decimal uid; place = About Configuration }) uid (TellOf Configuration) (Info Configuration Free) get_is
    (ap named_in (configuration_target uid) ∙ named_configuration uid few) (account_back uid above below) tell_asks (told_of manner m (free_again manner true host)) (no_lines host Free None)

limits_meant : (manner : Manner) (uid : ℕ) (host : List ℕ) → 1 ≤ uid → uid ≤ 4294967295
    → asking manner (message_of uid host (Info Configuration Free)) ≡ Ok (Ask uid (Info Configuration (cond_meant manner Free)) false)
limits_meant manner uid host above below =
    limits_asked manner uid host above below ∙ ap (λ condition. Ok (Ask uid (Info Configuration condition) false)) (sym (free_meant manner))

-- ---- a POST

abbrev pub mode_pairs : Mode → List Pair
mode_pairs Plain = []
mode_pairs Begin = (codes "batch", codes "true") ∷ []
mode_pairs (Append batch) = (codes "batch", token batch) ∷ []
mode_pairs (Commit batch) = (codes "batch", token batch) ∷ (codes "commit", codes "true") ∷ []

pub mode_plain : (mode : Mode) → IsReadableBatch mode → ArePlainPairs (mode_pairs mode)
mode_plain Plain h = tt
mode_plain Begin h = (pair _ _ refl refl, tt)
mode_plain (Append batch) h = (pair _ _ refl (token_is_plain batch (omega (arith, h.1))), tt)
mode_plain (Commit batch) h = (pair _ _ refl (token_is_plain batch (omega (arith, h.1))), (pair _ _ refl refl, tt))

token_mode : (commits : Bool) (n : ℕ) (mode : Mode) → 1 ≤ n → n ≤ 999999999999 → continues commits (Some n) ≡ Ok mode → batch_in commits (Some (token n)) ≡ Ok mode
token_mode commits n mode above below e =
    ap (λ test. cond test (Ok (cond commits Plain Begin)) (continues commits (batch_of (token n)))) (token_is_not_true n above below)
    ∙ ap (continues commits) (batch_back n above below) ∙ e

modes_again : (mode : Mode) → IsReadableBatch mode → mode_of (first_value (codes "batch") (mode_pairs mode)) (first_value (codes "commit") (mode_pairs mode)) ≡ Ok mode
modes_again Plain h = refl
modes_again Begin h = refl
modes_again (Append batch) h = token_mode false batch (Append batch) h.0 h.1 refl
modes_again (Commit batch) h = token_mode true batch (Commit batch) h.0 h.1 refl

mode_again : (uid : ℕ) (mode : Mode) → uid < 2 ^ 64 → IsReadableBatch mode → mode_in (query_of (target_text (bookmarks uid) (mode_pairs mode))) ≡ Ok mode
unfolding mode_in
mode_again uid mode few h =
    (λ i. mode_of (parameter_again (codes "batch") (bookmarks uid) (mode_pairs mode) (bookmarks_plain uid few) (mode_plain mode h) i)
    (parameter_again (codes "commit") (bookmarks uid) (mode_pairs mode) (bookmarks_plain uid few) (mode_plain mode h) i))
    ∙ modes_again mode h

nothing_announced : (batch : Bool) (host : List ℕ) (time : ℕ) (body : List ℕ) → announced_in batch (request_fields host (IfUnmodified time) (Some body)) ≡ Ok tt
unfolding announced_in
nothing_announced true host time body = refl
nothing_announced false host time body = refl

json_again : (host : List ℕ) (time : ℕ) (body : List ℕ) → is_in_lines true (request_fields host (IfUnmodified time) (Some body)) ≡ Ok false
unfolding is_in_lines lines_of_type without_parameters trim_ows
json_again host time body = refl

-- what holds of each element holds of the first and of the others
all_by_recursion : {X : Type 0} (P : X → Type 0) (xs : List X) → All P xs → AllByRecursion P xs
all_by_recursion P [] h = tt
all_by_recursion P (x ∷ xs) h = (h 0 x (omega arith), all_by_recursion P xs (λ k d few. h (suc k) d (omega arith)))

size_set : (part : Part) → IsUpload part → payload_size part.fields.payload ≡ length (payload_set part.fields.payload)
size_set part h = ap payload_size h.payload ∙ sym (ap (λ field. length (payload_set field)) h.payload)

parts_are : (parts : List Part) → AllByRecursion IsUpload parts → AllByRecursion (λ part. (is_id part.id ≡ true) × IsUtf8 (payload_set part.fields.payload)) parts
    → part_bytes parts ≤ most_post_bytes → AllByRecursion IsPart parts
parts_are [] uploads typed few = tt
parts_are (part ∷ parts) uploads typed few =
    let sum = sum_by-cons (λ (part : Part). payload_size part.fields.payload) part parts in
    let here = size_set part uploads.0 in
    (record { id = typed.0.0; sets = uploads.0; payload = typed.0.1; size = omega (arith, sum, here, few) }, parts_are parts uploads.1 typed.1 (omega (arith, sum, few)))

fits_again : (records : Records) → length records.parts + length records.failed ≤ most_post_records → part_bytes records.parts ≤ most_post_bytes → within_limits records ≡ Ok records
fits_again records number bytes =
    ap₂ (λ s t. cond (s && t) (Ok records) (Err (code 17))) (le-leb (length records.parts + length records.failed) most_post_records number) (le-leb (part_bytes records.parts) most_post_bytes bytes)

records_again : (parts : List Part) → AllByRecursion IsPart parts → length parts + 0 ≤ most_post_records → part_bytes parts ≤ most_post_bytes
    → records_in false (uploads_text parts) ≡ Ok (record { parts = parts; failed = [] })
unfolding records_in
records_again parts are number bytes =
    ap (λ r. or_refusal body_refusal r >>= within_limits) (uploads_are_read parts are) ∙ fits_again (record { parts = parts; failed = [] }) number bytes

post_is : method_in (codes "POST") ≡ Ok methods.Post
unfolding method_in
post_is = refl

post_asks : asked_in (Collection (codes "bookmarks")) methods.Post ≡ Ok (OfCollection collections.Post (codes "bookmarks"))
unfolding asked_in
post_asks = refl

pub mode_target : (uid : ℕ) (records : Records) (mode : Mode) (cond : Cond) → target_of uid (Post (codes "bookmarks") records mode cond) ≡ target_text (bookmarks uid) (mode_pairs mode)
unfolding target_of account_path
mode_target uid records Plain c = refl
mode_target uid records Begin c = refl
mode_target uid records (Append batch) c = refl
mode_target uid records (Commit batch) c = refl

posted_again : (m : Message) (records : Records) (mode : Mode) (cond : Cond)
    → mode_in (query_of m.target) ≡ Ok mode → announced_in (names_batch (query_of m.target)) m.fields ≡ Ok tt → is_in_lines true m.fields ≡ Ok false
    → records_in false m.body ≡ Ok records → post_request (codes "bookmarks") cond m ≡ Ok (Post (codes "bookmarks") records mode cond)
unfolding post_request
posted_again m records mode cond a b c d =
    let with : Mode → Records → Result Request Local = λ mode records. Ok (Post (codes "bookmarks") records mode cond) in
    let y = Post (codes "bookmarks") records mode cond in
    on (mode_in (query_of m.target)) mode
    (λ mode. announced_in (names_batch (query_of m.target)) m.fields >>= (λ announced. is_in_lines true m.fields >>= (λ lines. records_in lines m.body >>= with mode))) y a
    (on (announced_in (names_batch (query_of m.target)) m.fields) tt (λ announced. is_in_lines true m.fields >>= (λ lines. records_in lines m.body >>= with mode)) y b
    (on (is_in_lines true m.fields) false (λ lines. records_in lines m.body >>= with mode) y c (on (records_in false m.body) records (with mode) y d refl)))

upload : (manner : Manner) (uid time : ℕ) (host : List ℕ) (parts : List Part) (mode : Mode) → 1 ≤ uid → uid ≤ 4294967295 → time ≤ last_stamp → IsReadableBatch mode
    → AllByRecursion IsPart parts → length parts + 0 ≤ most_post_records → part_bytes parts ≤ most_post_bytes
    → (let request : Request = Post (codes "bookmarks") (record { parts = parts; failed = [] }) mode (IfUnmodified time) in
    asking manner (message_of uid host request) ≡ Ok (Ask uid (request_meant manner request) false))
upload manner uid time host parts mode above below known readable are number bytes =
    let records : Records = record { parts = parts; failed = [] } in
    let request = Post (codes "bookmarks") records mode (IfUnmodified time) in
    let m = message_of uid host request in
    let few : uid < 2 ^ 64 = omega arith in
    let target = mode_target uid records mode (IfUnmodified time) in
    let body = uploads_text parts in
    asked_bookmarks manner m methods.Post collections.Post uid (mode_pairs mode) (cond_meant manner (IfUnmodified time)) (request_meant manner request) post_is target (mode_plain mode readable) above below post_asks
    (unmodified_again manner false host time (Some body) known)
    (posted_again m records mode (cond_meant manner (IfUnmodified time)) (ap (λ target. mode_in (query_of target)) target ∙ mode_again uid mode few readable)
    (nothing_announced (names_batch (query_of m.target)) host time body) (json_again host time body) (records_again parts are number bytes))
    (no_lines host (IfUnmodified time) (Some body))

-- ---- the law

abbrev Goes : Manner → ℕ → List ℕ → Request → Type 0
Goes manner uid host request = asking manner (message_of uid host request) ≡ Ok (Ask uid (request_meant manner request) false)

page_goes : (manner : Manner) (uid : ℕ) (newer : Option ℕ) (offset : ℕ) (host : List ℕ) (cond : Cond) → 1 ≤ uid → uid ≤ 4294967295 → IsTime newer → IsPageAt offset cond → offset ≤ 999999999 → IsCond cond
    → Goes manner uid host (ListOf (codes "bookmarks") (page newer offset) cond)
page_goes manner uid newer offset host Free above below known at within typed = subst (λ offset. Goes manner uid host (ListOf (codes "bookmarks") (page newer offset) Free)) (sym at) (first_page manner uid newer host above below known)
page_goes manner uid newer offset host (IfModified time) above below known at within typed = absurd at
page_goes manner uid newer offset host IfAbsent above below known at within typed = absurd at
page_goes manner uid newer offset host (IfUnmodified time) above below known at within typed = later_page manner uid newer offset time host above below known within typed

ids_go : (manner : Manner) (uid : ℕ) (host : List ℕ) (cond : Cond) → 1 ≤ uid → uid ≤ 4294967295 → IsIfUnmodified cond → IsCond cond → Goes manner uid host (ListOf (codes "bookmarks") all_ids cond)
ids_go manner uid host Free above below at typed = absurd at
ids_go manner uid host (IfModified time) above below at typed = absurd at
ids_go manner uid host IfAbsent above below at typed = absurd at
ids_go manner uid host (IfUnmodified time) above below at typed = ids_listed manner uid time host above below typed

lists_go : (manner : Manner) (uid : ℕ) (host : List ℕ) (query : Query) (cond : Cond) → 1 ≤ uid → uid ≤ 4294967295 → IsTime query.newer → IsSentList query cond → query.offset ≤ 999999999 → IsCond cond
    → Goes manner uid host (ListOf (codes "bookmarks") query cond)
lists_go manner uid host query cond above below known listed within typed =
    ⊎_elim
    (λ is. subst (λ query. Goes manner uid host (ListOf (codes "bookmarks") query cond)) (sym is.0) (page_goes manner uid query.newer query.offset host cond above below known is.1 within typed))
    (λ is. subst (λ query. Goes manner uid host (ListOf (codes "bookmarks") query cond)) (sym is.0) (ids_go manner uid host cond above below is.1 typed)) listed

post_goes : (manner : Manner) (uid : ℕ) (host : List ℕ) (parts : List Part) (mode : Mode) (cond : Cond) → 1 ≤ uid → uid ≤ 4294967295 → IsIfUnmodified cond → IsCond cond → IsReadableBatch mode
    → AllByRecursion IsPart parts → length parts + 0 ≤ most_post_records → part_bytes parts ≤ most_post_bytes
    → Goes manner uid host (Post (codes "bookmarks") (record { parts = parts; failed = [] }) mode cond)
post_goes manner uid host parts mode Free above below at typed readable are number bytes = absurd at
post_goes manner uid host parts mode (IfModified time) above below at typed readable are number bytes = absurd at
post_goes manner uid host parts mode IfAbsent above below at typed readable are number bytes = absurd at
post_goes manner uid host parts mode (IfUnmodified time) above below at typed readable are number bytes = upload manner uid time host parts mode above below typed readable are number bytes

goes : (manner : Manner) (uid : ℕ) (host : List ℕ) (request : Request) → 1 ≤ uid → uid ≤ 4294967295 → HasTypes request → IsSentRequest request → IsFitRequest request → IsReadable request → Goes manner uid host request
goes manner uid host (Info what cond) above below typed sent fit readable =
    subst (λ what. Goes manner uid host (Info what cond)) (sym sent.0) (subst (λ cond. Goes manner uid host (Info Configuration cond)) (sym sent.1) (limits_meant manner uid host above below))
goes manner uid host (DeleteAll cond) above below typed sent fit readable = absurd sent
goes manner uid host (ListOf collection query cond) above below typed sent fit readable =
    subst (λ collection. Goes manner uid host (ListOf collection query cond)) (sym sent.0)
    (lists_go manner uid host query cond above below typed.0 sent.1 readable typed.1)
goes manner uid host (Post collection records mode cond) above below typed sent fit readable =
    let are = parts_are records.parts (all_by_recursion IsUpload records.parts sent.2) (all_by_recursion _ records.parts typed.0) fit.1 in
    let number : length records.parts + 0 ≤ most_post_records = omega (arith, fit.0) in
    let made : Records = record { parts = records.parts; failed = [] } in
    let same : made ≡ records = λ i. record { parts = records.parts; failed = sym sent.1 i } in
    subst (λ collection. Goes manner uid host (Post collection records mode cond)) (sym sent.0)
    (subst (λ records. Goes manner uid host (Post (codes "bookmarks") records mode cond)) same (post_goes manner uid host records.parts mode cond above below sent.3 typed.1 readable.0 are number fit.1))
goes manner uid host (DeleteCollection collection cond) above below typed sent fit readable = absurd sent
goes manner uid host (DeleteIds collection ids cond) above below typed sent fit readable = absurd sent
goes manner uid host (GetItem collection id cond) above below typed sent fit readable = absurd sent
goes manner uid host (Put collection id fields cond) above below typed sent fit readable = absurd sent
goes manner uid host (DeleteItem collection id cond) above below typed sent fit readable = absurd sent

pub sent_is_meant : (manner : Manner) (uid : ℕ) (host : List ℕ) (request : Request) → 1 ≤ uid → uid ≤ 4294967295 → HasTypes request → IsSentRequest request → IsFitRequest request → IsReadable request
    → routing_of_message manner (message_of uid host request) ≡ Ask uid (request_meant manner request) false
sent_is_meant manner uid host request above below typed sent fit readable = ap settled_routing (goes manner uid host request above below typed sent fit readable)

-- by the profile a request is meant as it is
as_it_is : (request : Request) → request_meant Profile request ≡ request
as_it_is (Info what cond) = refl
as_it_is (DeleteAll cond) = refl
as_it_is (ListOf collection query cond) = refl
as_it_is (Post collection records mode cond) = refl
as_it_is (DeleteCollection collection cond) = refl
as_it_is (DeleteIds collection ids cond) = refl
as_it_is (GetItem collection id cond) = refl
as_it_is (Put collection id fields cond) = refl
as_it_is (DeleteItem collection id cond) = refl

pub sent_is_routed : (uid : ℕ) (host : List ℕ) (request : Request) → 1 ≤ uid → uid ≤ 4294967295 → HasTypes request → IsSentRequest request → IsFitRequest request → IsReadable request
    → routing_of_message Profile (message_of uid host request) ≡ Ask uid request false
sent_is_routed uid host request above below typed sent fit readable =
    sent_is_meant Profile uid host request above below typed sent fit readable ∙ ap (λ asked. Ask uid asked false) (as_it_is request)
