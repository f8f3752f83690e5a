-- The rows of a fetch (SyncStorage API 1.5 has the pages; that no id comes twice, and what a mirror is good for, is this
-- project's).
use Rattle.std.specs.Prelude.{ℕ, List, [], ◌∷◌, Bool, true, not, ◌&&◌, ◌||◌, filter}
use Rattle.std.specs.List.{list_all}
use Rattle.ss_record.specs.Ids.{has}
use Rattle.ss_record.specs.declared.readings.Sheet.{Sheet}
use Rattle.ss_sync.specs.Rows.{ids_of}

-- no id stands twice
abbrev pub are_apart : List (List ℕ) → Bool
are_apart [] = true
are_apart (x ∷ xs) = not (has x xs) && are_apart xs

-- each id is that of a fetched row or of a row of the mirror
unfoldable pub are_known : List Sheet → List Sheet → List (List ℕ) → Bool
are_known rows mirror ids = list_all (λ x. has x (ids_of rows) || has x (ids_of mirror)) ids

-- the rows of the mirror whose id is listed and that weren't fetched
unfoldable pub kept : List Sheet → List (List ℕ) → List Sheet → List Sheet
kept rows ids mirror = filter (λ m. has m.id ids && not (has m.id (ids_of rows))) mirror
