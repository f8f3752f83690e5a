-- Messages of a client (RFC 9112), over httparse's grammar of heads.
use Rattle.std.specs.Prelude.{◌≡◌, ◌≤◌, ℕ, List, [], ◌∷◌, ◌++◌, length, map, None, Some, codes}
use Rattle.httparse.specs.Grammar.{RequestHead, IsRequestHead, print_request}
use Rattle.httparse.specs.Spans.{name_and_value}
use Rattle.ss_http.specs.declared.message.Message.{Message}
use Rattle.ss_http.specs.Fields.{Line, first_named, announced, ends}
use Rattle.ss_http.specs.Limits.{most_body_bytes, most_head_bytes, most_fields}

-- the fields of a head
abbrev pub fields_of : RequestHead → List Line
fields_of h = map name_and_value h.fields

-- a head that a message may begin with: it has at most 64 fields and 16,384 bytes
pub record IsHead (h : RequestHead) : Type 0 where
  pub grammar : IsRequestHead h
  pub size : length (print_request h) ≤ most_head_bytes
  pub count : length h.fields ≤ most_fields

-- buf begins with such a head
pub record BeginsWith (buf : List ℕ) (h : RequestHead) : Type 0 where
  pub is_head : IsHead h
  pub after : List ℕ
  pub bytes : buf ≡ print_request h ++ after

-- the fields announce a body of n bytes: no Transfer-Encoding, and no length but n
pub record Announces (fields : List Line) (n : ℕ) : Type 0 where
  pub plain : first_named (codes "Transfer-Encoding") fields ≡ None
  pub size : announced fields ≡ Some n

-- what a head and a body say
abbrev pub message_of : RequestHead → List ℕ → Message
message_of h body =
    record { method = h.method; target = h.target; fields = fields_of h; body = body; last = ends h.minor (fields_of h) }

-- buf is the message m and then rest
pub record ReadsMessage (buf : List ℕ) (m : Message) (rest : List ℕ) : Type 0 where
  pub head : RequestHead
  pub body : List ℕ
  pub is_head : IsHead head
  pub announces : Announces (fields_of head) (length body)
  pub limit : length body ≤ most_body_bytes
  pub bytes : buf ≡ print_request head ++ (body ++ rest)
  pub says : m ≡ message_of head body

-- no front of buf is a message
abbrev pub NoMessage : List ℕ → Type 0
NoMessage buf = (m : Message) (rest : List ℕ) → ReadsMessage buf m rest → ⊥

-- and none is, whatever bytes follow
abbrev pub NeverMessage : List ℕ → Type 0
NeverMessage buf = (more : List ℕ) → NoMessage (buf ++ more)

-- input is these messages and then rest
abbrev pub Reads : List ℕ → List Message → List ℕ → Type 0
Reads input [] rest = input ≡ rest
Reads input (m ∷ ms) rest = (after : List ℕ) × ReadsMessage input m after × Reads after ms rest

-- and no front of the rest is a message
abbrev pub Splits : List ℕ → List Message → List ℕ → Type 0
Splits input messages rest = Reads input messages rest × NoMessage rest
