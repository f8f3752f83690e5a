-- What the steps of reading a response find.
use Rattle.std.specs.Prelude.{◌≡◌, ◌<◌, ◌≤◌, ℕ, List, [], ◌∷◌, length, Option, Some, None, option_and_then, codes}
use Rattle.std.specs.Prelude.{Result, Ok, Err, ⊤}
use Rattle.httparse.specs.Grammar as grammar
use Rattle.httparse.specs.Grammar.{status_code, ReadsResponse, HasNoResponse}
use Rattle.ss_outside.specs.Told.{Meanings, IsUsedUp}
use Rattle.ss_text.specs.Time.{stamp_of}
use Rattle.ss_http.specs.declared.answer.Answer.{Answer}
use Rattle.ss_http.specs.declared.answer.Looked.{Looked}
use Rattle.ss_http.specs.declared.answer.Looked.TheVariants.{Whole, Unfinished, Refused}
use Rattle.ss_http.specs.declared.heard.HeardFault.{HeardFault}
use Rattle.ss_http.specs.declared.heard.HeardFault.TheVariants as faults
use Rattle.ss_http.specs.Fields.{first_named, ends}
use Rattle.ss_http.specs.Hearing.{AnswersWith, HasBody, IsHeardFault, values_of}
use Rattle.ss_http.specs.Limits.{most_head_bytes, most_heard_bytes}

-- buf begins with a head that says this
pub record IsAnswerAt (buf : List ℕ) (answer : Answer) : Type 0 where
  pub tree : grammar.ResponseHead
  pub begins : AnswersWith buf tree
  pub sized : HasBody tree answer.size
  pub limit : answer.size ≤ most_heard_bytes
  pub status : answer.status ≡ status_code tree
  pub modified : answer.modified ≡ option_and_then stamp_of (first_named (codes "X-Last-Modified") (values_of tree))
  pub next : answer.next ≡ first_named (codes "X-Weave-Next-Offset") (values_of tree)
  pub last : answer.last ≡ ends tree.minor (values_of tree)

-- a head that stands at the front of buf is all of it
abbrev pub IsNoLonger : List ℕ → Type 0
IsNoLonger buf = (h : grammar.ResponseHead) (rest : List ℕ) → ReadsResponse buf h rest → rest ≡ []

-- the faults of a head
abbrev pub IsOfHead : HeardFault → Type 0
IsOfHead faults.Bad = ⊤
IsOfHead (faults.TooLarge n) = ⊤
IsOfHead _ = ⊥

-- there is a head; there is none yet; there is none that is read
abbrev pub Looks : Looked → List ℕ → Type 0
Looks (Whole answer) buf = IsAnswerAt buf answer
Looks Unfinished buf = (length buf < most_head_bytes) × HasNoResponse buf
Looks (Refused fault) buf = IsOfHead fault × IsHeardFault fault buf

-- the byte that a read brought, if it brought one
abbrev pub byte_of : {E : Type 0} → Result (Option ℕ) E → List ℕ
byte_of (Ok (Some b)) = b ∷ []
byte_of (Ok None) = []
byte_of (Err e) = []

-- no byte comes at the input's end alone
abbrev pub EndsWithout : {E : Type 0} → Result (Option ℕ) E → Meanings → Type 0
EndsWithout (Ok (Some b)) now = ⊤
EndsWithout (Ok None) now = IsUsedUp now
EndsWithout (Err e) now = ⊤

-- what the body's bytes are where a call that waits for so many answers this fault
abbrev pub IsShortBody : HeardFault → ℕ → List ℕ → Type 0
IsShortBody faults.Cut size bytes = length bytes < size
IsShortBody faults.ReadFault size bytes = ⊤
IsShortBody faults.Memory size bytes = ⊤
IsShortBody _ size bytes = ⊥
