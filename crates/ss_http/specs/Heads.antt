-- What stands at the front of a buffer.
use Rattle.std.specs.Prelude.{◌≡◌, ◌≤◌, ◌<◌, ℕ, List, length}
use Rattle.httparse.specs.Grammar.{RequestHead, print_request, HasNoRequest}
use Rattle.ss_http.specs.declared.head.Head.{Head}
use Rattle.ss_http.specs.declared.head.Found.{Found}
use Rattle.ss_http.specs.declared.head.Found.TheVariants.{Whole, Unfinished, Refused}
use Rattle.ss_http.specs.Fields.{ends}
use Rattle.ss_http.specs.Messages.{BeginsWith, Announces, fields_of}
use Rattle.ss_http.specs.Faults.{IsRefusal, IsMessageFault}
use Rattle.ss_http.specs.Limits.{most_body_bytes, most_head_bytes}

-- buf begins with a head of these parts, and it announces so large a body
pub record IsHeadAt (buf : List ℕ) (head : Head) : Type 0 where
  pub tree : RequestHead
  pub begins : BeginsWith buf tree
  pub announces : Announces (fields_of tree) head.body
  pub limit : head.body ≤ most_body_bytes
  pub size : head.size ≡ length (print_request tree)
  pub method : head.method ≡ tree.method
  pub target : head.target ≡ tree.target
  pub fields : head.fields ≡ fields_of tree
  pub last : head.last ≡ ends tree.minor (fields_of tree)

-- there is a head; there is none yet; there is none that is answered, whatever follows
abbrev pub Finds : Found → List ℕ → Type 0
Finds (Whole head) buf = IsHeadAt buf head
Finds Unfinished buf = (length buf < most_head_bytes) × HasNoRequest buf
Finds (Refused fault) buf = IsRefusal fault × IsMessageFault fault buf
