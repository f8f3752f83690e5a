-- What a client hears of a response (RFC 9112), over httparse's grammar of heads.
use Rattle.std.specs.Prelude.{◌≡◌, ◌≤◌, ◌<◌, ◌^◌, ◌⊎◌, ℕ, ◌+◌, List, [], ◌++◌, length, map, ◌∷◌, true, ◌==◌}
use Rattle.std.specs.Prelude.{if◌then◌else◌, Option, Some, None, option_map, option_and_then, codes, decimal, IfSome}
use Rattle.std.specs.Prelude.{IsSome, Result, Ok, Err, ⊤}
use Rattle.std.specs.List.{list_all}
use Rattle.httparse.specs.Grammar as grammar
use Rattle.httparse.specs.Grammar.{IsResponseHead, print_response, ReadsResponse, status_code, trim_ows, is_value_byte}
use Rattle.httparse.specs.Spans.{name_and_value}
use Rattle.ss_outside.specs.Told.{Meanings, IsUsedUp}
use Rattle.ss_outside.specs.Causes.{Rose}
use Rattle.ss_text.specs.Numbers.{number_of}
use Rattle.ss_text.specs.Time.{stamp_of, last_stamp}
use Rattle.ss_http.specs.declared.response.ResponseHead.{ResponseHead}
use Rattle.ss_http.specs.declared.heard.Heard.{Heard}
use Rattle.ss_http.specs.declared.heard.HeardFault.{HeardFault}
use Rattle.ss_http.specs.declared.heard.HeardFault.TheVariants as faults
use Rattle.ss_http.specs.Fields.{Line, first_named, ends}
use Rattle.ss_http.specs.Limits.{most_head_bytes, most_heard_bytes, most_length_digits, most_fields}

-- the fields of a head
abbrev pub values_of : grammar.ResponseHead → List Line
values_of h = map name_and_value h.fields

-- a head that a response may begin with: it has at most 64 fields and 16,384 bytes
pub record IsAnswerHead (h : grammar.ResponseHead) : Type 0 where
  pub grammar : IsResponseHead h
  pub size : length (print_response h) ≤ most_head_bytes
  pub count : length h.fields ≤ most_fields

-- buf begins with such a head
pub record AnswersWith (buf : List ℕ) (h : grammar.ResponseHead) : Type 0 where
  pub is_head : IsAnswerHead h
  pub after : List ℕ
  pub bytes : buf ≡ print_response h ++ after

-- how many bytes the body has: none at 304, else as many as the first Content-Length says in 1 to 18 digits
abbrev pub size_of : ℕ → List Line → Option ℕ
size_of status fields = if status == 304 then Some 0 else option_and_then (number_of most_length_digits) (first_named (codes "Content-Length") fields)

-- the head has a body of n bytes: no Transfer-Encoding, and that size
pub record HasBody (h : grammar.ResponseHead) (n : ℕ) : Type 0 where
  pub plain : first_named (codes "Transfer-Encoding") (values_of h) ≡ None
  pub size : size_of (status_code h) (values_of h) ≡ Some n

-- what a head and a body say; a time that is no stamp counts as absent
abbrev pub heard_from : grammar.ResponseHead → List ℕ → Heard
heard_from h body = record {
  status = status_code h;
  modified = option_and_then stamp_of (first_named (codes "X-Last-Modified") (values_of h));
  next = first_named (codes "X-Weave-Next-Offset") (values_of h);
  body = body;
  last = ends h.minor (values_of h);
}

-- input is a response that is heard so, and then rest
pub record Hears (input : List ℕ) (heard : Heard) (rest : List ℕ) : Type 0 where
  pub head : grammar.ResponseHead
  pub body : List ℕ
  pub is_head : IsAnswerHead head
  pub sized : HasBody head (length body)
  pub limit : length body ≤ most_heard_bytes
  pub bytes : input ≡ print_response head ++ (body ++ rest)
  pub says : heard ≡ heard_from head body

-- ---- faults

-- no front of buf is a head
abbrev pub NoAnswerHead : List ℕ → Type 0
NoAnswerHead buf = (h : grammar.ResponseHead) → AnswersWith buf h → ⊥

-- whatever follows, no head with at most 64 fields stands at the front
abbrev pub NeverAnswers : List ℕ → Type 0
NeverAnswers buf = (more : List ℕ) (h : grammar.ResponseHead) (rest : List ℕ) → ReadsResponse (buf ++ more) h rest → most_fields < length h.fields

-- the head isn't whole, and may still be within its limit
abbrev pub LacksHead : List ℕ → Type 0
LacksHead buf = (length buf < most_head_bytes) × NoAnswerHead buf

-- the head is there, and its body isn't whole
pub record LacksBody (buf : List ℕ) : Type 0 where
  pub head : grammar.ResponseHead
  pub n : ℕ
  pub begins : AnswersWith buf head
  pub sized : HasBody head n
  pub limit : n ≤ most_heard_bytes
  pub short : length buf < length (print_response head) + n

-- the head has a Transfer-Encoding
pub record HasCoding (buf : List ℕ) : Type 0 where
  pub head : grammar.ResponseHead
  pub begins : AnswersWith buf head
  pub coded : IsSome (first_named (codes "Transfer-Encoding") (values_of head))

-- the head has no size
pub record HasNoSize (buf : List ℕ) : Type 0 where
  pub head : grammar.ResponseHead
  pub begins : AnswersWith buf head
  pub plain : first_named (codes "Transfer-Encoding") (values_of head) ≡ None
  pub sizeless : size_of (status_code head) (values_of head) ≡ None

-- the head's body of n bytes is too large
pub record HasLarge (n : ℕ) (buf : List ℕ) : Type 0 where
  pub head : grammar.ResponseHead
  pub begins : AnswersWith buf head
  pub sized : HasBody head n
  pub above : most_heard_bytes < n

-- the bytes begin no response that is read: no head comes of them whatever follows; as many came as a head may have, and hold
-- none; or the head has a Transfer-Encoding, or no size
pub data IsBad (buf : List ℕ) : Type 0 where
  headless : NeverAnswers buf → IsBad buf
  endless : most_head_bytes ≤ length buf → NoAnswerHead buf → IsBad buf
  coded : HasCoding buf → IsBad buf
  unsized : HasNoSize buf → IsBad buf

-- what the bytes that were read are where a call answers this fault
abbrev pub IsHeardFault : HeardFault → List ℕ → Type 0
IsHeardFault faults.Cut bytes = LacksHead bytes ⊎ LacksBody bytes
IsHeardFault faults.Bad bytes = IsBad bytes
IsHeardFault (faults.TooLarge n) bytes = HasLarge n bytes
IsHeardFault faults.ReadFault bytes = ⊤
IsHeardFault faults.Memory bytes = ⊤

-- the bytes that were read are the whole response and nothing behind it; or what the fault says
abbrev pub Hearing : Result Heard HeardFault → List ℕ → Type 0
Hearing (Ok heard) bytes = Hears bytes heard []
Hearing (Err e) bytes = IsHeardFault e bytes

-- the input ended, where the fault says so
abbrev pub EndsHearing : HeardFault → Meanings → Type 0
EndsHearing faults.Cut now = IsUsedUp now
EndsHearing _ now = ⊤

-- the source's count of faults rises in a call that answers ReadFault, and in no other
abbrev pub RisesHearing : HeardFault → ℕ → ℕ → Type 0
RisesHearing faults.ReadFault before now = Rose before now
RisesHearing _ before now = now ≡ before

-- ---- the responses of this crate

-- what a written response says
abbrev pub heard_of_response : ResponseHead → List ℕ → Heard
heard_of_response head body = record { status = head.status; modified = head.modified; next = option_map decimal head.next; body = body; last = head.last }

-- a value of bytes that a field may have, with no blank at its ends
pub record IsBare (value : List ℕ) : Type 0 where
  pub back : trim_ows (32 ∷ value) ≡ value
  pub bytes : list_all is_value_byte value ≡ true

-- methods that fit an Allow field
abbrev pub IsAllow : List ℕ → Type 0
IsAllow value = IsBare value × (length value ≤ 1000)

-- a response that is read back: a status of three digits, numbers within their bounds, and no body at 304
pub record IsSound (head : ResponseHead) (body : List ℕ) : Type 0 where
  pub status : (100 ≤ head.status) × (head.status < 1000)
  pub moment : head.moment ≤ last_stamp
  pub modified : IfSome head.modified (λ s. s ≤ last_stamp)
  pub count : IfSome head.count (λ n. n < 2 ^ 64)
  pub next : IfSome head.next (λ n. n < 2 ^ 64)
  pub allow : IfSome head.allow IsAllow
  pub size : length body ≤ most_heard_bytes
  pub empty : head.status ≡ 304 → body ≡ []

-- what a fault says where a whole response stands at the front of all that was there: the input had more, or it is no fault of the bytes
abbrev pub AfterAll : HeardFault → List ℕ → Type 0
AfterAll faults.Cut left = 0 < length left
AfterAll faults.Bad left = ⊥
AfterAll (faults.TooLarge n) left = ⊥
AfterAll faults.ReadFault left = ⊤
AfterAll faults.Memory left = ⊤
