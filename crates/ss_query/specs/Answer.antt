-- The answer of a query over the rows of one collection (SyncStorage API 1.5, GET of a collection).
use Rattle.std.specs.Prelude.{ℕ, ◌+◌, pos, Bool, ◌&&◌, nat_lt, true, List, length, take, drop, filter, map, Option}
use Rattle.std.specs.Prelude.{Some, None, unwrap_or, if◌then◌else◌}
use Rattle.std.specs.Option.{option_map_or}
use Rattle.std.specs.declared.cmp.Ordering.{Ordering}
use Rattle.std.specs.Ordering.{nat_cmp, int_cmp, ordering_then, is_lt}
use Rattle.ss_text.specs.Texts.{sorted, text_cmp}
use Rattle.ss_bso.specs.declared.rows.Row.{Row}
use Rattle.ss_bso.specs.Write.{is_among}
use Rattle.ss_query.specs.declared.requests.Query.{Query}
use Rattle.ss_query.specs.declared.requests.Sort.{Sort}
use Rattle.ss_query.specs.declared.requests.Sort.TheVariants.{Newest, Oldest, Index}
use Rattle.ss_query.specs.declared.replies.Picked.{Picked}
use Rattle.ss_query.specs.declared.replies.PickedIds.{PickedIds}

-- whether a query asks for a row: by its id, by a time strictly later and by a time strictly earlier
abbrev pub is_asked : Query → Row → Bool
is_asked query row =
    option_map_or (λ ids. is_among ids row.id) query.ids true
    && option_map_or (λ time. nat_lt time row.modified) query.newer true
    && option_map_or (λ time. nat_lt row.modified time) query.older true

-- the order that is asked for: time downwards, time upwards, or sortindex downwards with 0 for none
abbrev pub sort_cmp : Sort → Row → Row → Ordering
sort_cmp Newest row other = nat_cmp other.modified row.modified
sort_cmp Oldest row other = nat_cmp row.modified other.modified
sort_cmp Index row other = int_cmp (unwrap_or other.sortindex (pos 0)) (unwrap_or row.sortindex (pos 0))

-- the compound key: that order, and then the id
abbrev pub row_cmp : Sort → Row → Row → Ordering
row_cmp sort row other = ordering_then (sort_cmp sort row other) (text_cmp row.id other.id)

abbrev pub comes_before : Sort → Row → Row → Bool
comes_before sort row other = is_lt (row_cmp sort row other)

-- at most so many rows, or all
abbrev pub limited_list : {X : Type 0} → Option ℕ → List X → List X
limited_list None rows = rows
limited_list (Some limit) rows = take limit rows

-- where the next page begins, if rows are left
abbrev pub next_offset : Option ℕ → ℕ → ℕ → Option ℕ
next_offset None offset count = None
next_offset (Some limit) offset count = if nat_lt (offset + limit) count then Some (offset + limit) else None

-- the answer over the rows that are asked for: order, drop, take
abbrev pub answer_of : List Row → Query → Picked
answer_of asked query =
    let found = sorted (comes_before query.sort) asked in
    record { rows = limited_list query.limit (drop query.offset found); next = next_offset query.limit query.offset (length found) }

-- filter, order, drop, take
abbrev pub answer : List Row → Query → Picked
answer rows query = answer_of (filter (is_asked query) rows) query

-- the ids alone of what is picked
abbrev pub picked_ids : Picked → PickedIds
picked_ids picked = record { ids = map (λ row. row.id) picked.rows; next = picked.next }
