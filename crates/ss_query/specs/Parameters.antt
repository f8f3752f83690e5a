-- What the text of a query says (SyncStorage API 1.5, GET of a collection).
use Rattle.std.specs.Prelude.{◌≡◌, ℕ, ◌==◌, nat_le, List, [], ◌∷◌, length, bytes_eq, is_some, if◌then◌else◌, Option}
use Rattle.std.specs.Prelude.{Some, None, ok_or, Result, Ok, Err, codes, ⊤}
use Rattle.std.specs.List.{list_all, slice_split}
use Rattle.std.specs.Str.Lossy.{utf8_lossy}
use Rattle.form_urlencoded.specs.Form.{raw_pairs, decode}
use Rattle.ss_text.specs.Names.{is_id}
use Rattle.ss_text.specs.Numbers.{number_of}
use Rattle.ss_text.specs.Time.{stamp_of}
use Rattle.ss_query.specs.declared.requests.Query.{Query}
use Rattle.ss_query.specs.declared.requests.Sort.{Sort}
use Rattle.ss_query.specs.declared.requests.Sort.TheVariants.{Newest, Oldest, Index}
pub use Rattle.ss_bso.specs.Limits.{most_ids}
use Rattle.ss_query.specs.declared.queries.QueryFault.{QueryFault}
use Rattle.ss_query.specs.declared.queries.QueryFault.TheVariants as fault
use Rattle.ss_bso.specs.Members.{◌>>=◌}

-- the text of a name or a value
abbrev pub text_of : List ℕ → List ℕ
text_of bytes = utf8_lossy (decode bytes)

-- the value of the first of these pairs that has this name
abbrev pub first_in : List ℕ → List (List ℕ × List ℕ) → Option (List ℕ)
first_in name [] = None
first_in name (pair ∷ pairs) = if bytes_eq (text_of pair.0) name then Some (text_of pair.1) else first_in name pairs

-- a parameter of a query: of equal names the first counts
unfoldable pub parameter : List ℕ → List ℕ → Option (List ℕ)
parameter name query = first_in name (raw_pairs query)

-- ids between commas, none empty; at most so many
unfoldable pub ids_in : List ℕ → Result (List (List ℕ)) QueryFault
ids_in value =
    let pieces = slice_split (λ b. b == 0x2c) value in
    if list_all is_id pieces then (if nat_le (length pieces) most_ids then Ok pieces else Err (fault.TooManyIds (length pieces))) else Err fault.BadIds

-- a time
abbrev pub stamp_in : List ℕ → Result ℕ QueryFault
stamp_in value = ok_or (stamp_of value) fault.BadStamp

-- a limit: 1 to 9 digits of a number other than 0
abbrev pub limit_of : Option ℕ → Result ℕ QueryFault
limit_of None = Err fault.BadLimit
limit_of (Some n) = if n == 0 then Err fault.BadLimit else Ok n

unfoldable pub limit_in : List ℕ → Result ℕ QueryFault
limit_in value = limit_of (number_of 9 value)

-- an offset: 1 to 9 digits
unfoldable pub offset_in : List ℕ → Result ℕ QueryFault
offset_in value = ok_or (number_of 9 value) fault.BadOffset

-- an order by its name
unfoldable pub sort_in : List ℕ → Result Sort QueryFault
sort_in value =
    if bytes_eq value (codes "newest") then Ok Newest
    else (if bytes_eq value (codes "oldest") then Ok Oldest else (if bytes_eq value (codes "index") then Ok Index else Err fault.BadSort))

-- a parameter that is given is read; one that isn't is none
abbrev pub as_some : {A : Type 0} → Result A QueryFault → Result (Option A) QueryFault
as_some (Ok x) = Ok (Some x)
as_some (Err f) = Err f

abbrev pub optional : {A : Type 0} → (List ℕ → Result A QueryFault) → Option (List ℕ) → Result (Option A) QueryFault
optional read None = Ok None
optional read (Some value) = as_some (read value)

-- a parameter that is given is read; one that isn't has its default
abbrev pub or_default : {A : Type 0} → A → (List ℕ → Result A QueryFault) → Option (List ℕ) → Result A QueryFault
or_default default read None = Ok default
or_default default read (Some value) = read value

-- the ids that a query names, if it does
unfoldable pub ids_of_text : List ℕ → Result (Option (List (List ℕ))) QueryFault
ids_of_text text = optional ids_in (parameter (codes "ids") text)

-- the query that a text says, or what is wrong with it, in this order; other parameters aren't looked at
unfoldable pub query_of_text : List ℕ → Result Query QueryFault
query_of_text text = do
  ids ← ids_of_text text
  newer ← optional stamp_in (parameter (codes "newer") text)
  older ← optional stamp_in (parameter (codes "older") text)
  limit ← optional limit_in (parameter (codes "limit") text)
  offset ← or_default 0 offset_in (parameter (codes "offset") text)
  sort ← or_default Newest sort_in (parameter (codes "sort") text)
  Ok (record { ids = ids; newer = newer; older = older; limit = limit; offset = offset; sort = sort; full = is_some (parameter (codes "full") text) })

-- the answer is that one, unless memory ran out
abbrev pub Gives : {A : Type 0} → Result A QueryFault → Result A QueryFault → Type 0
Gives (Ok x) answer = answer ≡ Ok x
Gives (Err fault.BadIds) answer = answer ≡ Err fault.BadIds
Gives (Err (fault.TooManyIds n)) answer = answer ≡ Err (fault.TooManyIds n)
Gives (Err fault.BadStamp) answer = answer ≡ Err fault.BadStamp
Gives (Err fault.BadLimit) answer = answer ≡ Err fault.BadLimit
Gives (Err fault.BadOffset) answer = answer ≡ Err fault.BadOffset
Gives (Err fault.BadSort) answer = answer ≡ Err fault.BadSort
Gives (Err fault.Memory) answer = ⊤
