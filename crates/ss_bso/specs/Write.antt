-- Writes: what they leave, in each row and in the account.
use Rattle.std.specs.Prelude.{ℕ, Bool, not, ◌&&◌, List, [], ◌∷◌, ◌++◌, map, filter, filter_map, fold, bytes_eq, Option}
use Rattle.std.specs.Prelude.{Some}
use Rattle.std.specs.List.{list_any}
use Rattle.ss_text.specs.Texts.{once_by}
use Rattle.ss_bso.specs.declared.rows.Row.{Row}
use Rattle.ss_bso.specs.declared.parts.Part.{Part}
use Rattle.ss_bso.specs.declared.account.Plain.{Plain}
use Rattle.ss_bso.specs.Account.{row_at}
use Rattle.ss_bso.specs.Put.{row_after_put}

-- the ids that the parts name, each once, in the order of first appearance
abbrev pub ids_of : List Part → List (List ℕ)
ids_of parts = once_by (λ id. id) (map (λ part. part.id) parts)

-- the parts that name an id, in list order
abbrev pub parts_of : List ℕ → List Part → List Part
parts_of id parts = filter (λ part. bytes_eq part.id id) parts

-- whether an id is among those
abbrev pub is_among : List (List ℕ) → List ℕ → Bool
is_among ids id = list_any (λ other. bytes_eq other id) ids

-- put, of one part after the other
abbrev pub put_all : List ℕ → List Part → ℕ → Option Row → Option Row
put_all collection parts time old = fold (λ row part. Some (row_after_put row collection part time)) old parts

-- the rows without those of these ids in the collection
abbrev pub rows_without : List ℕ → List (List ℕ) → List Row → List Row
rows_without collection ids rows = filter (λ row. not (bytes_eq row.collection collection && is_among ids row.id)) rows

-- the rows after a write: for each id that a part names, the row is what that id's parts make of the old one; all other rows stay
abbrev pub rows_written : List ℕ → List Part → ℕ → List Row → List Row
rows_written collection parts time rows =
    rows_without collection (ids_of parts) rows
    ++ filter_map (λ id. put_all collection (parts_of id parts) time (row_at collection id rows)) (ids_of parts)

-- the collections without one, and with one at a time
abbrev pub times_without : List ℕ → List (List ℕ × ℕ) → List (List ℕ × ℕ)
times_without collection times = filter (λ entry. not (bytes_eq entry.0 collection)) times

abbrev pub times_with : List ℕ → ℕ → List (List ℕ × ℕ) → List (List ℕ × ℕ)
times_with collection time times = times_without collection times ++ (collection, time) ∷ []

-- the account after a write that leaves these rows of a collection: the collection, the store and the moment have the write's time
abbrev pub account_after_write : Plain → List ℕ → ℕ → List Row → Plain
account_after_write account collection time rows =
    record account { rows = rows; collections = times_with collection time account.collections; store = time; moment = time }

-- write of a list of parts
abbrev pub write : Plain → List ℕ → List Part → ℕ → Plain
write account collection parts time = account_after_write account collection time (rows_written collection parts time account.rows)
