-- What stands in a line that is written, for private clauses.
use Rattle.std.specs.Prelude.{◌++◌, ◌∷◌, [], ℕ, List}
use Rattle.std.specs.List.{flat_map}
use Rattle.serde_json.specs.Data.{Data, Items, array, item, no_items, null, string}
use Rattle.serde_json.specs.Written.{compact_text}
use Rattle.ss_lines.specs.declared.cells.Cell.{Cell}
use Rattle.ss_lines.specs.declared.cells.Cell.TheVariants.{Text, Time, Natural, Integer, Null, Empty}
use Rattle.ss_lines.specs.Lines.{integer, natural, time}

-- the value that is written
abbrev pub data_of : Cell → Data
data_of (Text s) = string s.now
data_of (Time t) = time t
data_of (Natural n) = natural n
data_of (Integer z) = integer z
data_of Null = null
data_of Empty = array no_items

abbrev pub items_of : List Cell → Items
items_of [] = no_items
items_of (c ∷ cs) = item (data_of c) (items_of cs)

-- the values behind the first one, each with its comma
abbrev pub cells_text : List Cell → List ℕ
cells_text cs = flat_map (λ c. 44 ∷ compact_text (data_of c)) cs

-- the line of a first text and values
abbrev pub list_text : List ℕ → List Cell → List ℕ
list_text tag cs = compact_text (array (item (string tag) (items_of cs))) ++ 10 ∷ []
