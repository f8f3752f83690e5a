-- Rows by id.
use Rattle.std.specs.Prelude.{List, map, ℕ}
use Rattle.std.specs.List.Sorted.{IsStrictlySortedBy}
use Rattle.ss_text.specs.Texts.{text_cmp}
use Rattle.ss_record.specs.declared.readings.Sheet.{Sheet}

-- the ids of rows
abbrev pub ids_of : List Sheet → List (List ℕ)
ids_of sheets = map (λ s. s.id) sheets

-- the rows stand by id, each id once
abbrev pub AreById : List Sheet → Type 0
AreById sheets = IsStrictlySortedBy text_cmp (ids_of sheets)
