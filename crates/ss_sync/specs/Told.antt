-- Rows as they are gathered by id.
use Rattle.std.specs.Prelude.{ℕ, List, Option, map, option_map}
use Rattle.std.specs.BTreeMap.{get, BTreeMap}
use Rattle.ss_text.specs.Texts.{text_cmp}
use Rattle.ss_record.specs.declared.readings.Sheet.{Sheet}
use Rattle.ss_sync.specs.declared.written.Told.{Told}

-- the row of an id of which this is told
abbrev pub row_of : List ℕ → Told → Sheet
row_of x t = record { id = x; modified = t.modified; payload = t.payload }

-- the row of an id
abbrev pub row_at : BTreeMap (List ℕ) Told → List ℕ → Option Sheet
row_at rows x = option_map (row_of x) (get text_cmp rows x)

-- the rows of ids and what is told of them
abbrev pub rows_of : List (List ℕ × Told) → List Sheet
rows_of es = map (λ e. row_of e.0 e.1) es
