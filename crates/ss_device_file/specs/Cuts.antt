-- The pieces of an item's line, for private clauses.
use Rattle.std.specs.Prelude.{◌≡◌, ◌==◌, ◌++◌, ℕ, List, Bool, false, bytes_eq, codes, length, take}
use Rattle.std.specs.List.{list_any}
use Rattle.ss_device_file.specs.declared.cuts.ItemCut.{ItemCut}

-- how an item's line begins
unfoldable pub item_front : List ℕ
item_front = codes "[\"item\","

abbrev pub begins_as_item : List ℕ → Bool
begins_as_item line = bytes_eq item_front (take (length item_front) line)

-- the line of an item, by the digits of its time and its record
unfoldable pub item_pieces : List ℕ → List ℕ → List ℕ
item_pieces digits record_text = item_front ++ digits ++ codes "," ++ record_text ++ codes "]\n"

-- there is no comma
abbrev pub NoComma : List ℕ → Type 0
NoComma digits = list_any (λ b. b == 44) digits ≡ false

abbrev pub digits_and_record : ItemCut → List ℕ × List ℕ
digits_and_record cut = (cut.digits.now, cut.text.now)
