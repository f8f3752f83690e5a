-- Why the bytes that were read give no message.
use Rattle.std.specs.Prelude.{◌≡◌, ◌<◌, ◌≤◌, ◌⊎◌, ℕ, ◌+◌, List, [], ◌++◌, length, Option, None, Some, IsSome, codes, ⊤}
use Rattle.httparse.specs.Grammar.{RequestHead, print_request, ReadsRequest}
use Rattle.ss_http.specs.declared.fault.MsgFault.{MsgFault}
use Rattle.ss_http.specs.declared.fault.MsgFault.TheVariants as faults
use Rattle.ss_http.specs.Fields.{first_named, announced}
use Rattle.ss_http.specs.Messages.{BeginsWith, Announces, NoMessage, fields_of}
use Rattle.ss_http.specs.Limits.{most_body_bytes, most_head_bytes, most_fields}

-- no front of buf is a head
abbrev pub NoHead : List ℕ → Type 0
NoHead buf = (h : RequestHead) → BeginsWith buf h → ⊥

-- whatever follows, no head with at most 64 fields stands at the front
abbrev pub NeverHead : List ℕ → Type 0
NeverHead buf = (more : List ℕ) (h : RequestHead) (rest : List ℕ) → ReadsRequest (buf ++ more) h rest → most_fields < length h.fields

-- the head isn't whole, and may still be within its limit
abbrev pub WantsHead : List ℕ → Type 0
WantsHead buf = (0 < length buf) × (length buf < most_head_bytes) × NoHead buf

-- the head is there, and the body that it announces isn't whole
pub record WantsBody (buf : List ℕ) : Type 0 where
  pub head : RequestHead
  pub n : ℕ
  pub begins : BeginsWith buf head
  pub announces : Announces (fields_of head) n
  pub limit : n ≤ most_body_bytes
  pub short : length buf < length (print_request head) + n

-- the head has a Transfer-Encoding
pub record HasTransferCoding (buf : List ℕ) : Type 0 where
  pub head : RequestHead
  pub begins : BeginsWith buf head
  pub coded : IsSome (first_named (codes "Transfer-Encoding") (fields_of head))

-- the head has no Transfer-Encoding, and a Content-Length that isn't 1 to 18 digits, or two that differ
pub record HasFaultyLength (buf : List ℕ) : Type 0 where
  pub head : RequestHead
  pub begins : BeginsWith buf head
  pub plain : first_named (codes "Transfer-Encoding") (fields_of head) ≡ None
  pub unmeasured : announced (fields_of head) ≡ None

-- the head announces a body of n bytes, which are too many
pub record IsTooLarge (n : ℕ) (buf : List ℕ) : Type 0 where
  pub head : RequestHead
  pub begins : BeginsWith buf head
  pub announces : Announces (fields_of head) n
  pub above : most_body_bytes < n

-- what the bytes are where a call answers this fault
abbrev pub IsMessageFault : MsgFault → List ℕ → Type 0
IsMessageFault faults.End bytes = bytes ≡ []
IsMessageFault faults.Cut bytes = WantsHead bytes ⊎ WantsBody bytes
IsMessageFault faults.BadHead bytes = NeverHead bytes
IsMessageFault faults.HeadTooLong bytes = (most_head_bytes ≤ length bytes) × NoHead bytes
IsMessageFault faults.Coded bytes = HasTransferCoding bytes
IsMessageFault faults.BadLength bytes = HasFaultyLength bytes
IsMessageFault (faults.TooLarge n) bytes = IsTooLarge n bytes
IsMessageFault faults.ReadFault bytes = NoMessage bytes
IsMessageFault faults.Memory bytes = ⊤

-- the fault that a further call gives too; after a failed read and for want of memory the call can be made again
abbrev pub lasting : MsgFault → Option MsgFault
lasting faults.End = Some faults.End
lasting faults.Cut = Some faults.Cut
lasting faults.BadHead = Some faults.BadHead
lasting faults.HeadTooLong = Some faults.HeadTooLong
lasting faults.Coded = Some faults.Coded
lasting faults.BadLength = Some faults.BadLength
lasting (faults.TooLarge n) = Some (faults.TooLarge n)
lasting faults.ReadFault = None
lasting faults.Memory = None

-- the faults that no further bytes mend, and which are answered by a response
abbrev pub IsRefusal : MsgFault → Type 0
IsRefusal faults.End = ⊥
IsRefusal faults.Cut = ⊥
IsRefusal faults.BadHead = ⊤
IsRefusal faults.HeadTooLong = ⊤
IsRefusal faults.Coded = ⊤
IsRefusal faults.BadLength = ⊤
IsRefusal (faults.TooLarge n) = ⊤
IsRefusal faults.ReadFault = ⊥
IsRefusal faults.Memory = ⊥
