-- What a contract sees of a drawer.
use Rattle.std.specs.Prelude.{ℕ, ◌<◌, ◌^◌, length, Bool, true, false, not, cond, List, [], ◌∷◌, filter, find, bytes_eq}
use Rattle.std.specs.Option.{option_to_list}
use Rattle.ss_bso.specs.Write.{is_among}
use Rattle.ss_query.specs.declared.requests.Query.{Query}
use Rattle.ss_query.specs.Answer.{is_asked}
use Rattle.ss_bso.specs.declared.rows.Row.{Row}

-- the rows in the order of time, and how many more fit without memory
pub record HeldRows : Type 0 where
  pub rows : List Row
  pub spare : ℕ

-- a row's payload can be counted in 64 bits
abbrev pub HasCountablePayload : Row → Type 0
HasCountablePayload row = length row.payload < 2 ^ 64

-- whether there is a row
abbrev pub some_rows : List Row → Bool
some_rows [] = false
some_rows (row ∷ rows) = true

-- whether a row has this id
abbrev pub has_id : List ℕ → Row → Bool
has_id id row = bytes_eq row.id id

-- the rows without the one of an id
abbrev pub rows_but_id : List ℕ → List Row → List Row
rows_but_id id rows = filter (λ row. not (has_id id row)) rows

-- the row of an id, where a query asks for it and the id is not among those before
abbrev pub picked_row : Query → List Row → List (List ℕ) → List ℕ → List Row
picked_row query rows before id = cond (is_among before id) [] (filter (is_asked query) (option_to_list (find (has_id id) rows)))
