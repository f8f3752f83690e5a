-- The ids that a request names, the rows that its parts make, and how large rows are.
use Rattle.std.specs.Prelude.{◌≡◌, ℕ, min, List, [], ◌∷◌, ◌++◌, length, bytes_eq, Option, Some, None, IsFalse}
use Rattle.std.specs.Prelude.{if◌then◌else◌}
use Rattle.std.specs.Map.{lookup}
use Rattle.indexmap.specs.IndexMap.{insert_entry}
use Rattle.ss_bso.specs.declared.rows.Row.{Row}
use Rattle.ss_bso.specs.declared.parts.Part.{Part}
use Rattle.ss_bso.specs.Limits.{row_bytes}
use Rattle.ss_bso.specs.Put.{row_after_put}
use Rattle.ss_bso.specs.Write.{is_among}
use Rattle.ss_batch.specs.Stage.{most_counted}
use Rattle.ss_writes.specs.declared.sizes.Size.{Size}

-- two texts differ
abbrev pub OtherText : List ℕ → List ℕ → Type 0
OtherText text other = IsFalse (bytes_eq other text)

-- the number and the payload bytes of rows, each as far as it can be counted
pub record IsSize (rows : List Row) (size : Size) : Type 0 where
  pub number : size.rows ≡ min (length rows) most_counted
  pub bytes : size.bytes ≡ min (row_bytes rows) most_counted

-- ids with one more, where it isn't among them
abbrev pub with_id : List (List ℕ) → List ℕ → List (List ℕ)
with_id ids id = if is_among ids id then ids else ids ++ id ∷ []

abbrev pub with_part_id : List (List ℕ) → Part → List (List ℕ)
with_part_id ids part = with_id ids part.id

-- the first, or else the other
abbrev pub or_else : {X : Type 0} → Option X → Option X → Option X
or_else None other = other
or_else (Some x) other = Some x

-- the rows that were made, each under its id, after one more part: it is put over the row of its id, or else over the old one
abbrev pub with_row : List ℕ → (List ℕ → Option Row) → ℕ → List (List ℕ × Row) → Part → List (List ℕ × Row)
with_row collection old time made part =
    insert_entry bytes_eq made part.id (row_after_put (or_else (lookup (bytes_eq part.id) made) (old part.id)) collection part time)
