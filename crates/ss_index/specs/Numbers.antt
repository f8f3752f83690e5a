-- What is counted of each collection.
use Rattle.std.specs.Prelude.{ℕ, min, cond, List, [], ◌∷◌, ◌++◌, length, map}
use Rattle.ss_text.specs.Texts.{once_by}
use Rattle.ss_bso.specs.declared.rows.Row.{Row}
use Rattle.ss_bso.specs.Limits.{rows_of, row_bytes}
use Rattle.ss_query.specs.Told.{by_name}
use Rattle.ss_index.specs.declared.numbers.Measure.{Measure}
use Rattle.ss_index.specs.declared.numbers.Measure.TheVariants.{Rows, Bytes}
use Rattle.ss_index.specs.Held.{HeldRows, some_rows}

-- the collections of rows, each once
abbrev pub names_of : List Row → List (List ℕ)
names_of rows = once_by (λ name. name) (map (λ row. row.collection) rows)

-- each collection that has a row, upwards by name, with a number that its rows give
abbrev pub per_name : (List Row → ℕ) → List Row → List (List ℕ × ℕ)
per_name number rows = by_name (map (λ name. (name, number (rows_of name rows))) (names_of rows))

-- a number, or the greatest of 64 bits where it is more
abbrev pub capped_number : ℕ → ℕ
capped_number number = min number 18446744073709551615

-- what is counted of rows
abbrev pub measured_rows : Measure → List Row → ℕ
measured_rows Rows rows = length rows
measured_rows Bytes rows = capped_number (row_bytes rows)

-- a drawer's collection with what is counted of it, where it has a row
abbrev pub entry_of : Measure → List ℕ × HeldRows → List (List ℕ × ℕ)
entry_of measure drawer = cond (some_rows drawer.1.rows) ((drawer.0, measured_rows measure drawer.1.rows) ∷ []) []

abbrev pub entries_of : Measure → List (List ℕ × HeldRows) → List (List ℕ × ℕ)
entries_of measure [] = []
entries_of measure (drawer ∷ drawers) = entry_of measure drawer ++ entries_of measure drawers
