-- The bytes of a request that a client sends (RFC 9112), with the conditions of the SyncStorage API 1.5.
use Rattle.std.specs.Prelude.{◌≡◌, ◌≤◌, ◌<◌, ℕ, List, [], ◌∷◌, ◌++◌, length, Bool, true, false, ◌&&◌, nat_le, Option}
use Rattle.std.specs.Prelude.{Some, None, codes, decimal, IfSome, ⊤}
use Rattle.std.specs.List.{list_all}
use Rattle.std.specs.Str.{IsUtf8}
use Rattle.httparse.specs.Grammar.{is_token, is_uri_byte}
use Rattle.ss_text.specs.Time.{stamp_text, last_stamp}
use Rattle.ss_text.specs.declared.stamps.Cond.{Cond}
use Rattle.ss_text.specs.declared.stamps.Cond.TheVariants.{Free, IfModified, IfUnmodified, IfAbsent}
use Rattle.ss_http.specs.declared.message.Message.{Message}
use Rattle.ss_http.specs.Fields.{Line, lines}
use Rattle.ss_http.specs.Limits.{most_body_bytes, most_host_bytes, most_method_bytes, most_target_bytes}

-- the field of a condition; that a target isn't there is said as browsers say it
abbrev pub cond_fields : Cond → List Line
cond_fields Free = []
cond_fields (IfModified since) = (codes "X-If-Modified-Since", stamp_text since) ∷ []
cond_fields (IfUnmodified since) = (codes "X-If-Unmodified-Since", stamp_text since) ∷ []
cond_fields IfAbsent = (codes "X-If-Unmodified-Since", stamp_text 0) ∷ []

-- the fields on a body
abbrev pub content_fields : Option (List ℕ) → List Line
content_fields None = []
content_fields (Some body) = (codes "Content-Type", codes "application/json") ∷ (codes "Content-Length", decimal (length body)) ∷ []

-- the fields of a request, in their order
abbrev pub request_fields : List ℕ → Cond → Option (List ℕ) → List Line
request_fields host cond body = (codes "Host", host) ∷ (cond_fields cond ++ content_fields body)

-- the bytes of a body
abbrev pub body_bytes : Option (List ℕ) → List ℕ
body_bytes None = []
body_bytes (Some body) = body

-- the first line
abbrev pub request_line : List ℕ → List ℕ → List ℕ
request_line method target = method ++ codes " " ++ target ++ codes " HTTP/1.1\r\n"

-- a request: its first line, its fields, an empty line and its body
unfoldable pub request_text : List ℕ → List ℕ → List ℕ → Cond → Option (List ℕ) → List ℕ
request_text method target host cond body =
    request_line method target ++ lines (request_fields host cond body) ++ codes "\r\n" ++ body_bytes body

-- the message that a server reads of a request
abbrev pub message_sent : List ℕ → List ℕ → List ℕ → Cond → Option (List ℕ) → Message
message_sent method target host cond body =
    record { method = method; target = target; fields = request_fields host cond body; body = body_bytes body; last = false }

-- a byte that a host may have
abbrev pub is_host_byte : ℕ → Bool
is_host_byte b = nat_le 0x21 b && nat_le b 0x7e

-- the stamp of a condition is one
abbrev pub IsCond : Cond → Type 0
IsCond Free = ⊤
IsCond (IfModified since) = since ≤ last_stamp
IsCond (IfUnmodified since) = since ≤ last_stamp
IsCond IfAbsent = ⊤

-- parts that make a message: a short method, a target, a host of 1 to 1,030 visible bytes and a body that isn't too large
pub record IsSendable (method target host : List ℕ) (cond : Cond) (body : Option (List ℕ)) : Type 0 where
  pub token : (is_token method ≡ true) × (length method ≤ most_method_bytes)
  pub target_size : (0 < length target) × (length target ≤ most_target_bytes)
  pub target_bytes : list_all is_uri_byte target ≡ true
  pub target_text : IsUtf8 target
  pub host_size : (0 < length host) × (length host ≤ most_host_bytes)
  pub host_bytes : list_all is_host_byte host ≡ true
  pub stamp : IsCond cond
  pub size : IfSome body (λ b. length b ≤ most_body_bytes)
