-- The bytes of a request that is sent are read as its message.
use Rattle.std.proofs.Common.{◌≡◌, ℕ, ◌<◌, ◌≤◌, List, [], ◌++◌, length, true, Option, Some, None, codes, decimal, refl}
use Rattle.std.proofs.Common.{sym, ap, ◌∙◌, subst, arith, lit<, length-append, append_assoc, ◌∷◌, ◌/◌, ◌%◌, ⊎_elim}
use Rattle.std.proofs.lemmas.Fmt.{length-decimal-le}
use Rattle.std.specs.Prelude.{IfSome}
use Rattle.std.specs.List.{list_all}
use Rattle.std.specs.Str.{IsUtf8}
use Rattle.httparse.specs.Grammar.{is_token, is_token_byte, is_uri_byte}
use Rattle.ss_text.specs.Time.{stamp_text, two_digits}
use Rattle.ss_text.specs.declared.stamps.Cond.{Cond}
use Rattle.ss_text.specs.declared.stamps.Cond.TheVariants.{Free, IfModified, IfUnmodified, IfAbsent}
use Rattle.ss_bso.specs.declared.parts.Records.{Records}
use Rattle.ss_http.specs.Messages.{ReadsMessage}
use Rattle.ss_http.specs.Requests.{IsCond, IsSendable}
use Rattle.ss_http.proofs.Asking.{request_read}
use Rattle.ss_query.specs.Refused.{condition_of}
use Rattle.ss_query.specs.declared.requests.Info.TheVariants.{Configuration}
use Rattle.ss_query.specs.declared.requests.Mode.{Mode}
use Rattle.ss_query.specs.declared.requests.Mode.TheVariants.{Plain, Begin, Append, Commit}
use Rattle.ss_query.specs.declared.requests.Query.{Query}
use Rattle.ss_query.specs.declared.requests.Request.{Request}
use Rattle.ss_query.specs.declared.requests.Request.TheVariants.{Info, DeleteAll, List as ListOf, Post}
use Rattle.ss_query.specs.declared.requests.Request.TheVariants.{DeleteCollection, DeleteIds, Put, Get as GetItem}
use Rattle.ss_query.specs.declared.requests.Request.TheVariants.{Delete as DeleteItem}
use Rattle.ss_route.specs.Posts.{token}
use Rattle.ss_route.specs.Sending.{IsSentRequest, HasTypes, IsReadable, IsReadableBatch, IsPageAt, IsSentList}
use Rattle.ss_route.specs.Sending.{IsIfUnmodified}
use Rattle.ss_route.specs.Sending.{IsHost, page, all_ids, newer_text, account_path, mode_text, target_of, uploads_text}
use Rattle.ss_route.specs.Sending.{method_of, body_sent, request_sent, message_of}
use Rattle.ss_route.proofs.Composed.{Pair, ArePlainSegments, ArePlainPairs, target_text, target_uri, target_utf8}
use Rattle.ss_route.proofs.Sent.{bookmarks, configuration, bookmarks_plain, configuration_plain, IsTime, first_pairs}
use Rattle.ss_route.proofs.Sent.{first_plain, later_pairs, later_plain, first_target, later_target, ids_target}
use Rattle.ss_route.proofs.Sent.{configuration_target, mode_pairs, mode_plain, mode_target}
use Rattle.ss_route.proofs.Tokens.{token_short}
use Rattle.ss_http.specs.Limits.{most_method_bytes, most_target_bytes}
use Rattle.ss_http.specs.declared.limits.TheConstants.{BODY_ROOM}

-- ---- the size of a target

abbrev IsTargetSize : List ℕ → Type 0
IsTargetSize target = (0 < length target) × (length target ≤ most_target_bytes)

behind_account : (uid : ℕ) (rest : List ℕ) → uid ≤ 4294967295 → length rest ≤ 7900 → IsTargetSize (account_path uid ++ rest)
unfolding account_path
behind_account uid rest below few =
    let digits = length-decimal-le 10 uid (lit< tt) (omega arith) (omega arith) in
    let outer = length-append (codes "/1.5/" ++ decimal uid) rest in
    let inner = length-append (codes "/1.5/") (decimal uid) in
    let head : length (codes "/1.5/") ≡ 5 = refl in
    (omega (arith, outer, inner, head), omega (arith, outer, inner, head, digits, few))

behind_both : (uid : ℕ) (path rest : List ℕ) → uid ≤ 4294967295 → length path ≤ 100 → length rest ≤ 100 → IsTargetSize (account_path uid ++ path ++ rest)
behind_both uid path rest below few less =
    let whole = length-append path rest in
    subst IsTargetSize (sym (append_assoc (account_path uid) path rest)) (behind_account uid (path ++ rest) below (omega (arith, whole, few, less)))

configuration_size : (uid : ℕ) → uid ≤ 4294967295 → IsTargetSize (target_of uid (Info Configuration Free))
unfolding target_of
configuration_size uid below = behind_account uid (codes "/info/configuration") below (omega arith)

newer_size : (newer : Option ℕ) → IsTime newer → length (newer_text newer) ≤ 20
unfolding stamp_text
newer_size None h = omega arith
newer_size (Some since) h =
    let digits = length-decimal-le 10 (since / 100) (lit< tt) (omega arith) (omega arith) in
    let time = length-append (decimal (since / 100)) (46 ∷ two_digits (since % 100)) in
    let last : length (46 ∷ two_digits (since % 100)) ≡ 3 = refl in
    let whole = length-append (codes "&newer=") (stamp_text since) in
    let head : length (codes "&newer=") ≡ 7 = refl in
    omega (arith, digits, time, last, whole, head)

offset_size : (offset : ℕ) → offset ≤ 999999999 → length (codes "&offset=" ++ decimal offset) ≤ 20
offset_size offset within =
    let digits = length-decimal-le 9 offset (lit< tt) (omega arith) (omega arith) in
    let whole = length-append (codes "&offset=") (decimal offset) in
    let head : length (codes "&offset=") ≡ 8 = refl in
    omega (arith, digits, whole, head)

page_size : (newer : Option ℕ) (place : List ℕ) → IsTime newer → length place ≤ 20 → length (codes "/storage/bookmarks?full=1&sort=oldest&limit=1000" ++ newer_text newer ++ place) ≤ 7900
page_size newer place known few =
    let time = newer_size newer known in
    let outer = length-append (codes "/storage/bookmarks?full=1&sort=oldest&limit=1000" ++ newer_text newer) place in
    let inner = length-append (codes "/storage/bookmarks?full=1&sort=oldest&limit=1000") (newer_text newer) in
    let head : length (codes "/storage/bookmarks?full=1&sort=oldest&limit=1000") ≡ 48 = refl in
    omega (arith, time, outer, inner, head, few)

first_size : (uid : ℕ) (newer : Option ℕ) → uid ≤ 4294967295 → IsTime newer → IsTargetSize (target_of uid (ListOf (codes "bookmarks") (page newer 0) Free))
unfolding target_of
first_size uid newer below known = behind_account uid _ below (page_size newer [] known (omega arith))

later_size : (uid : ℕ) (newer : Option ℕ) (offset time : ℕ) → uid ≤ 4294967295 → IsTime newer → offset ≤ 999999999 → IsTargetSize (target_of uid (ListOf (codes "bookmarks") (page newer offset) (IfUnmodified time)))
unfolding target_of
later_size uid newer offset time below known within = behind_account uid _ below (page_size newer (codes "&offset=" ++ decimal offset) known (offset_size offset within))

ids_size : (uid time : ℕ) → uid ≤ 4294967295 → IsTargetSize (target_of uid (ListOf (codes "bookmarks") all_ids (IfUnmodified time)))
unfolding target_of
ids_size uid time below = behind_account uid (codes "/storage/bookmarks") below (omega arith)

mode_size : (mode : Mode) → IsReadableBatch mode → length (mode_text mode) ≤ 100
mode_size Plain h = omega arith
mode_size Begin h = omega arith
mode_size (Append batch) h =
    let short = token_short batch h.1 in
    let whole = length-append (codes "?batch=") (token batch) in
    let head : length (codes "?batch=") ≡ 7 = refl in
    omega (arith, short, whole, head)
mode_size (Commit batch) h =
    let short = token_short batch h.1 in
    let outer = length-append (codes "?batch=" ++ token batch) (codes "&commit=true") in
    let inner = length-append (codes "?batch=") (token batch) in
    let head : length (codes "?batch=") ≡ 7 = refl in
    let end : length (codes "&commit=true") ≡ 12 = refl in
    omega (arith, short, outer, inner, head, end)

post_size : (uid : ℕ) (records : Records) (mode : Mode) (cond : Cond) → uid ≤ 4294967295 → IsReadableBatch mode
    → IsTargetSize (target_of uid (Post (codes "bookmarks") records mode cond))
unfolding target_of
post_size uid records mode cond below readable =
    behind_both uid (codes "/storage/bookmarks") (mode_text mode) below (omega arith) (mode_size mode readable)

-- ---- the parts of a request make a message

composed : (method target host : List ℕ) (cond : Cond) (body : Option (List ℕ)) (segments : List (List ℕ)) (pairs : List Pair)
    → (is_token method ≡ true) × (length method ≤ most_method_bytes) → target ≡ target_text segments pairs → ArePlainSegments segments → ArePlainPairs pairs → IsTargetSize target
    → IsHost host → IsCond cond → IfSome body (λ b. length b ≤ BODY_ROOM) → IsSendable method target host cond body
composed method target host cond body segments pairs name same plain pairs_plain size visible stamp small = record {
  token = name;
  target_size = size;
  target_bytes = ap (list_all is_uri_byte) same ∙ target_uri segments pairs plain pairs_plain;
  target_text = subst IsUtf8 (sym same) (target_utf8 segments pairs plain pairs_plain);
  host_size = (visible.0, visible.1);
  host_bytes = visible.2;
  stamp = stamp;
  size = small;
}

get_name : (is_token (codes "GET") ≡ true) × (length (codes "GET") ≤ most_method_bytes)
unfolding is_token_byte
get_name = (refl, omega arith)

post_name : (is_token (codes "POST") ≡ true) × (length (codes "POST") ≤ most_method_bytes)
unfolding is_token_byte
post_name = (refl, omega arith)

abbrev Sendable : ℕ → List ℕ → Request → Type 0
Sendable uid host request = IsSendable (method_of request) (target_of uid request) host (condition_of request) (body_sent request)

limits_sendable : (uid : ℕ) (host : List ℕ) → uid ≤ 4294967295 → IsHost host → Sendable uid host (Info Configuration Free)
limits_sendable uid host below visible =
    composed (codes "GET") (target_of uid (Info Configuration Free)) host Free None (configuration uid) [] get_name (configuration_target uid)
    (configuration_plain uid (omega arith)) tt (configuration_size uid below) visible tt tt

page_sendable : (uid : ℕ) (newer : Option ℕ) (offset : ℕ) (host : List ℕ) (cond : Cond) → uid ≤ 4294967295 → IsHost host → IsTime newer → IsPageAt offset cond → offset ≤ 999999999 → IsCond cond
    → Sendable uid host (ListOf (codes "bookmarks") (page newer offset) cond)
page_sendable uid newer offset host Free below visible known at within typed =
    subst (λ offset. Sendable uid host (ListOf (codes "bookmarks") (page newer offset) Free)) (sym at)
    (composed (codes "GET") (target_of uid (ListOf (codes "bookmarks") (page newer 0) Free)) host Free None (bookmarks uid) (first_pairs newer) get_name (first_target uid newer)
    (bookmarks_plain uid (omega arith)) (first_plain newer known) (first_size uid newer below known) visible tt tt)
page_sendable uid newer offset host (IfModified time) below visible known at within typed = absurd at
page_sendable uid newer offset host IfAbsent below visible known at within typed = absurd at
page_sendable uid newer offset host (IfUnmodified time) below visible known at within typed =
    composed (codes "GET") (target_of uid (ListOf (codes "bookmarks") (page newer offset) (IfUnmodified time))) host (IfUnmodified time) None (bookmarks uid) (later_pairs newer offset)
    get_name (later_target uid newer offset time) (bookmarks_plain uid (omega arith)) (later_plain newer offset known (omega arith)) (later_size uid newer offset time below known within) visible typed tt

ids_sendable : (uid : ℕ) (host : List ℕ) (cond : Cond) → uid ≤ 4294967295 → IsHost host → IsIfUnmodified cond → IsCond cond → Sendable uid host (ListOf (codes "bookmarks") all_ids cond)
ids_sendable uid host Free below visible at typed = absurd at
ids_sendable uid host (IfModified time) below visible at typed = absurd at
ids_sendable uid host IfAbsent below visible at typed = absurd at
ids_sendable uid host (IfUnmodified time) below visible at typed =
    composed (codes "GET") (target_of uid (ListOf (codes "bookmarks") all_ids (IfUnmodified time))) host (IfUnmodified time) None (bookmarks uid) []
    get_name (ids_target uid time) (bookmarks_plain uid (omega arith)) tt (ids_size uid time below) visible typed tt

list_sendable : (uid : ℕ) (host : List ℕ) (query : Query) (cond : Cond) → uid ≤ 4294967295 → IsHost host → IsTime query.newer → IsSentList query cond → query.offset ≤ 999999999 → IsCond cond
    → Sendable uid host (ListOf (codes "bookmarks") query cond)
list_sendable uid host query cond below visible known listed within typed =
    ⊎_elim
    (λ is. subst (λ query. Sendable uid host (ListOf (codes "bookmarks") query cond)) (sym is.0) (page_sendable uid query.newer query.offset host cond below visible known is.1 within typed))
    (λ is. subst (λ query. Sendable uid host (ListOf (codes "bookmarks") query cond)) (sym is.0) (ids_sendable uid host cond below visible is.1 typed)) listed

post_sendable : (uid : ℕ) (host : List ℕ) (records : Records) (mode : Mode) (cond : Cond) → uid ≤ 4294967295 → IsHost host → IsCond cond → IsReadableBatch mode
    → length (uploads_text records.parts) ≤ BODY_ROOM → Sendable uid host (Post (codes "bookmarks") records mode cond)
post_sendable uid host records mode cond below visible typed readable small =
    composed (codes "POST") (target_of uid (Post (codes "bookmarks") records mode cond)) host cond (Some (uploads_text records.parts)) (bookmarks uid) (mode_pairs mode)
    post_name (mode_target uid records mode cond) (bookmarks_plain uid (omega arith)) (mode_plain mode readable) (post_size uid records mode cond below readable) visible typed small

sendable : (uid : ℕ) (host : List ℕ) (request : Request) → uid ≤ 4294967295 → IsHost host → HasTypes request → IsSentRequest request → IsReadable request → Sendable uid host request
sendable uid host (Info what cond) below visible typed sent readable =
    subst (λ what. Sendable uid host (Info what cond)) (sym sent.0) (subst (λ cond. Sendable uid host (Info Configuration cond)) (sym sent.1) (limits_sendable uid host below visible))
sendable uid host (DeleteAll cond) below visible typed sent readable = absurd sent
sendable uid host (ListOf collection query cond) below visible typed sent readable =
    subst (λ collection. Sendable uid host (ListOf collection query cond)) (sym sent.0)
    (list_sendable uid host query cond below visible typed.0 sent.1 readable typed.1)
sendable uid host (Post collection records mode cond) below visible typed sent readable =
    subst (λ collection. Sendable uid host (Post collection records mode cond)) (sym sent.0)
    (post_sendable uid host records mode cond below visible typed.1 readable.0 readable.1)
sendable uid host (DeleteCollection collection cond) below visible typed sent readable = absurd sent
sendable uid host (DeleteIds collection ids cond) below visible typed sent readable = absurd sent
sendable uid host (GetItem collection id cond) below visible typed sent readable = absurd sent
sendable uid host (Put collection id fields cond) below visible typed sent readable = absurd sent
sendable uid host (DeleteItem collection id cond) below visible typed sent readable = absurd sent

pub sent_is_read : (uid : ℕ) (host : List ℕ) (request : Request) (rest : List ℕ) → uid ≤ 4294967295 → IsHost host → HasTypes request → IsSentRequest request → IsReadable request
    → ReadsMessage (request_sent uid host request ++ rest) (message_of uid host request) rest
sent_is_read uid host request rest below visible typed sent readable =
    request_read (method_of request) (target_of uid request) host (condition_of request) (body_sent request) rest (sendable uid host request below visible typed sent readable)
