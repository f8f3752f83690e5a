-- A written request is a head of the grammar with its body, and is read as its message.
use Rattle.std.proofs.Common.{eq-eqb, ◌≡◌, ℕ, ◌^◌, ◌<◌, ◌≤◌, List, [], ◌∷◌, ◌++◌, length, map, Bool, true, false, ◌&&◌}
use Rattle.std.proofs.Common.{cond, Option, Some, None, option_map, IfSome, decimal, codes, refl, sym, ap, ◌∙◌, arith}
use Rattle.std.proofs.Common.{lit≤, append_assoc, length-append}
use Rattle.std.proofs.lemmas.Bool.{and_parts, ltb-true}
use Rattle.std.proofs.lemmas.List.{length-map}
use Rattle.std.proofs.lemmas.List.Sums.{AllPass-from_list_all}
use Rattle.std.proofs.lemmas.List.Elements.{All-from_recursion}
use Rattle.std.specs.List.{list_all, list_any}
use Rattle.httparse.specs.Grammar.{IsField, crlf, print_request, RequestHead, IsRequestHead, is_token_byte, is_uri_byte}
use Rattle.httparse.proofs.GrammarLemmas.{print_request-append}
use Rattle.ss_text.specs.Time.{stamp_text}
use Rattle.ss_text.specs.declared.stamps.Cond.{Cond}
use Rattle.ss_text.specs.declared.stamps.Cond.TheVariants.{Free, IfModified, IfUnmodified, IfAbsent}
use Rattle.ss_http.specs.declared.message.Message.{Message}
use Rattle.ss_http.specs.Fields.{Line, lines, first_named, announced, announced_by, agreed_length, agrees, is_number}
use Rattle.ss_http.specs.Fields.{closes, ends}
use Rattle.ss_http.specs.Messages.{ReadsMessage, fields_of}
use Rattle.ss_http.specs.Requests.{cond_fields, content_fields, request_fields, body_bytes, request_text, message_sent}
use Rattle.ss_http.specs.Requests.{IsCond, IsSendable}
use Rattle.ss_http.proofs.Written.{field_of, lines_print, Fit, fit-append, are_fields, values_are, if_long}
use Rattle.ss_http.proofs.Written.{lines_length, decimal_long, stamp_long}
use Rattle.ss_http.proofs.Values.{decimal_is_bare, stamp_is_bare, visible_is_bare, number_again}
use Rattle.ss_http.specs.Limits.{most_host_bytes}
use Rattle.ss_http.specs.declared.limits.TheConstants.{BODY_ROOM, HEAD_ROOM}

abbrev pub request_tree : List ℕ → List ℕ → List ℕ → Cond → Option (List ℕ) → RequestHead
request_tree method target host cond body =
    record { blank = []; method = method; target = target; minor = 1; line_end = crlf; fields = map field_of (request_fields host cond body); last = crlf }

request_is_head : (method target host : List ℕ) (cond : Cond) (body : Option (List ℕ)) (rest : List ℕ)
    → request_text method target host cond body ++ rest ≡ print_request (request_tree method target host cond body) ++ (body_bytes body ++ rest)
unfolding request_text
request_is_head method target host cond body rest =
    regroup method target (lines (request_fields host cond body)) (body_bytes body)
    ∙ ap (λ l. method ++ 32 ∷ (target ++ 32 ∷ (codes "HTTP/1.1" ++ (codes "\r\n" ++ ((l ++ codes "\r\n") ++ (body_bytes body ++ rest)))))) (sym (lines_print (request_fields host cond body)))
    ∙ sym (print_request-append (request_tree method target host cond body) (body_bytes body ++ rest))
  where
    regroup : (m t l b : List ℕ) → ((m ++ codes " " ++ t ++ codes " HTTP/1.1\r\n") ++ l ++ codes "\r\n" ++ b) ++ rest
        ≡ m ++ 32 ∷ (t ++ 32 ∷ (codes "HTTP/1.1" ++ (codes "\r\n" ++ ((l ++ codes "\r\n") ++ (b ++ rest)))))
    regroup m t l b = simp append_assoc

-- ---- the fields

content_fit : (body : Option (List ℕ)) → IfSome body (λ b. length b ≤ BODY_ROOM) → Fit (content_fields body)
unfolding is_token_byte
content_fit None h = tt
content_fit (Some b) h =
    let few : length b < 2 ^ 64 = omega arith in
    (record { name = refl; value = visible_is_bare _ refl }, (record { name = refl; value = decimal_is_bare (length b) few }, tt))

cond_fit : (cond : Cond) → IsCond cond → Fit (cond_fields cond)
unfolding is_token_byte
cond_fit Free h = tt
cond_fit (IfModified since) h = (record { name = refl; value = stamp_is_bare since h }, tt)
cond_fit (IfUnmodified since) h = (record { name = refl; value = stamp_is_bare since h }, tt)
cond_fit IfAbsent h = (record { name = refl; value = stamp_is_bare 0 (omega arith) }, tt)

request_fit : (method target host : List ℕ) (cond : Cond) (body : Option (List ℕ)) → IsSendable method target host cond body → Fit (request_fields host cond body)
unfolding is_token_byte
request_fit method target host cond body s =
    (record { name = refl; value = visible_is_bare host s.host_bytes }, fit-append (cond_fields cond) (content_fields body) (cond_fit cond s.stamp) (content_fit body s.size))

is_tree : (method target host : List ℕ) (cond : Cond) (body : Option (List ℕ)) → IsSendable method target host cond body → IsRequestHead (request_tree method target host cond body)
is_tree method target host cond body s =
    let parts = and_parts _ (list_all is_token_byte method) s.token.0 in
    record {
      method = (ltb-true 0 (length method) parts.0, AllPass-from_list_all is_token_byte method parts.1);
      target = (s.target_size.0, AllPass-from_list_all is_uri_byte target s.target_bytes);
      target_text = s.target_text;
      minor = lit≤ tt;
      fields = All-from_recursion IsField (map field_of (request_fields host cond body)) (are_fields (request_fields host cond body) (request_fit method target host cond body s));
    }

-- ---- what they announce

no_coding : (host : List ℕ) (cond : Cond) (body : Option (List ℕ)) → first_named (codes "Transfer-Encoding") (request_fields host cond body) ≡ None
no_coding host Free None = refl
no_coding host Free (Some b) = refl
no_coding host (IfModified since) None = refl
no_coding host (IfModified since) (Some b) = refl
no_coding host (IfUnmodified since) None = refl
no_coding host (IfUnmodified since) (Some b) = refl
no_coding host IfAbsent None = refl
no_coding host IfAbsent (Some b) = refl

length_said : (host : List ℕ) (cond : Cond) (body : Option (List ℕ)) → first_named (codes "Content-Length") (request_fields host cond body) ≡ option_map (λ b. decimal (length b)) body
length_said host Free None = refl
length_said host Free (Some b) = refl
length_said host (IfModified since) None = refl
length_said host (IfModified since) (Some b) = refl
length_said host (IfUnmodified since) None = refl
length_said host (IfUnmodified since) (Some b) = refl
length_said host IfAbsent None = refl
length_said host IfAbsent (Some b) = refl

abbrev if_said : Bool → ℕ → Option ℕ
if_said t n = cond t (Some n) None

agrees_itself : (n : ℕ) → n ≤ BODY_ROOM → agrees n (codes "Content-Length", decimal n) ≡ true
agrees_itself n few = ap (is_number n) (number_again n (omega arith)) ∙ eq-eqb n n refl

all_said : (host : List ℕ) (cond : Cond) (b : List ℕ) → length b ≤ BODY_ROOM → list_all (agrees (length b)) (request_fields host cond (Some b)) ≡ true
all_said host Free b few = ap (λ t. t && true) (agrees_itself (length b) few)
all_said host (IfModified since) b few = ap (λ t. t && true) (agrees_itself (length b) few)
all_said host (IfUnmodified since) b few = ap (λ t. t && true) (agrees_itself (length b) few)
all_said host IfAbsent b few = ap (λ t. t && true) (agrees_itself (length b) few)

announces_body : (host : List ℕ) (cond : Cond) (body : Option (List ℕ)) → IfSome body (λ b. length b ≤ BODY_ROOM) → announced (request_fields host cond body) ≡ Some (length (body_bytes body))
unfolding announced
announces_body host cond None few = ap (λ o. announced_by o (request_fields host cond None)) (length_said host cond None)
announces_body host cond (Some b) few =
    ap (λ o. announced_by o (request_fields host cond (Some b))) (length_said host cond (Some b))
    ∙ ap (λ o. agreed_length o (request_fields host cond (Some b))) (number_again (length b) (omega arith))
    ∙ ap (λ t. if_said t (length b)) (all_said host cond b few)

stays_open : (host : List ℕ) (cond : Cond) (body : Option (List ℕ)) → list_any closes (request_fields host cond body) ≡ false
stays_open host Free None = refl
stays_open host Free (Some b) = refl
stays_open host (IfModified since) None = refl
stays_open host (IfModified since) (Some b) = refl
stays_open host (IfUnmodified since) None = refl
stays_open host (IfUnmodified since) (Some b) = refl
stays_open host IfAbsent None = refl
stays_open host IfAbsent (Some b) = refl

-- ---- how long a head is

field_count : (host : List ℕ) (cond : Cond) (body : Option (List ℕ)) → length (request_fields host cond body) ≤ 4
field_count host Free None = lit≤ tt
field_count host Free (Some b) = lit≤ tt
field_count host (IfModified since) None = lit≤ tt
field_count host (IfModified since) (Some b) = lit≤ tt
field_count host (IfUnmodified since) None = lit≤ tt
field_count host (IfUnmodified since) (Some b) = lit≤ tt
field_count host IfAbsent None = lit≤ tt
field_count host IfAbsent (Some b) = lit≤ tt

content_long : (body : Option (List ℕ)) → IfSome body (λ b. length b ≤ BODY_ROOM) → length (lines (content_fields body)) ≤ 100
unfolding lines
content_long None h = lit≤ tt
content_long (Some b) h =
    let few : length b < 2 ^ 64 = omega arith in
    let x = if_long (codes "Content-Type") (Some (codes "application/json")) 22 (lit≤ tt) in
    let y = if_long (codes "Content-Length") (Some (decimal (length b))) 20 (decimal_long (length b) few) in
    omega (arith, lines_length ((codes "Content-Type", codes "application/json") ∷ []) ((codes "Content-Length", decimal (length b)) ∷ []))

cond_long : (cond : Cond) → IsCond cond → length (lines (cond_fields cond)) ≤ 100
unfolding lines
cond_long Free h = lit≤ tt
cond_long (IfModified since) h = let x = if_long (codes "X-If-Modified-Since") (Some (stamp_text since)) 23 (stamp_long since h) in omega arith
cond_long (IfUnmodified since) h = let x = if_long (codes "X-If-Unmodified-Since") (Some (stamp_text since)) 23 (stamp_long since h) in omega arith
cond_long IfAbsent h = let x = if_long (codes "X-If-Unmodified-Since") (Some (stamp_text 0)) 23 (stamp_long 0 (omega arith)) in omega arith

lines_short : (method target host : List ℕ) (cond : Cond) (body : Option (List ℕ)) → IsSendable method target host cond body → length (lines (request_fields host cond body)) ≤ 2000
lines_short method target host cond body s =
    omega (
      arith,
      lines_length ((codes "Host", host) ∷ []) (cond_fields cond ++ content_fields body),
      if_long (codes "Host") (Some host) most_host_bytes s.host_size.1,
      lines_length (cond_fields cond) (content_fields body),
      cond_long cond s.stamp,
      content_long body s.size,
    )

head_short : (method target host : List ℕ) (cond : Cond) (body : Option (List ℕ)) → IsSendable method target host cond body → length (print_request (request_tree method target host cond body)) ≤ HEAD_ROOM
head_short method target host cond body s =
    let tree = request_tree method target host cond body in
    let section = lines (request_fields host cond body) ++ codes "\r\n" in
    let text = print_request-append tree [] ∙ ap (λ l. method ++ 32 ∷ (target ++ 32 ∷ (codes "HTTP/1.1" ++ (codes "\r\n" ++ ((l ++ codes "\r\n") ++ []))))) (lines_print (request_fields host cond body)) in
    omega (
      arith,
      ap length text,
      length-append (print_request tree) [],
      length-append method (32 ∷ (target ++ 32 ∷ (codes "HTTP/1.1" ++ (codes "\r\n" ++ (section ++ []))))),
      length-append target (32 ∷ (codes "HTTP/1.1" ++ (codes "\r\n" ++ (section ++ [])))),
      length-append section [],
      length-append (lines (request_fields host cond body)) (codes "\r\n"),
      lines_short method target host cond body s,
      s.token.1,
      s.target_size.1,
    )

-- ---- the law

same_message : (method target body : List ℕ) (fs gs : List Line) → fs ≡ gs → list_any closes gs ≡ false
    → ◌≡◌ {A = Message} (record { method = method; target = target; fields = gs; body = body; last = false }) (record { method = method; target = target; fields = fs; body = body; last = ends 1 fs })
same_message method target body fs gs same stays =
    λ i. record { method = method; target = target; fields = sym same i; body = body; last = (sym stays ∙ ap (list_any closes) (sym same)) i }

-- a written request is read as its message
pub request_read : (method target host : List ℕ) (cond : Cond) (body : Option (List ℕ)) (rest : List ℕ) → IsSendable method target host cond body
    → ReadsMessage (request_text method target host cond body ++ rest) (message_sent method target host cond body) rest
request_read method target host cond body rest s =
    let values = values_are (request_fields host cond body) (request_fit method target host cond body s) in
    record {
      head = request_tree method target host cond body;
      body = body_bytes body;
      is_head = record {
        grammar = is_tree method target host cond body s;
        size = head_short method target host cond body s;
        count = omega (arith, field_count host cond body, length-map (request_fields host cond body) field_of);
      };
      announces = record {
        plain = ap (first_named (codes "Transfer-Encoding")) values ∙ no_coding host cond body;
        size = ap announced values ∙ announces_body host cond body s.size;
      };
      limit = within body s.size;
      bytes = request_is_head method target host cond body rest;
      says = same_message method target (body_bytes body) (fields_of (request_tree method target host cond body)) (request_fields host cond body) values (stays_open host cond body);
    }
  where
    within : (b : Option (List ℕ)) → IfSome b (λ b. length b ≤ BODY_ROOM) → length (body_bytes b) ≤ BODY_ROOM
    within None h = lit≤ tt
    within (Some b) h = h
