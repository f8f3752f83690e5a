-- Rows above a time, those that are enough for a page, and how far a walk over rows has come.
use Rattle.std.specs.Prelude.{◌≡◌, ◌⊎◌, ℕ, ◌+◌, ◌<◌, ◌≤◌, nat_lt, Bool, true, false, List, [], ◌++◌, length, filter}
use Rattle.std.specs.Prelude.{reverse, Option, option_map}
use Rattle.std.specs.Option.{option_map_or}
use Rattle.std.specs.Map.{keys_of, values_of}
use Rattle.ss_bso.specs.declared.rows.Row.{Row}
use Rattle.ss_query.specs.declared.requests.Query.{Query}
use Rattle.ss_query.specs.Answer.{is_asked}
use Rattle.ss_list.specs.Chain.{first_of, last_of}
use Rattle.ss_bso.specs.Lists.{Each}

-- whether a row's time is above a bound, where there is one
abbrev pub is_above : Option ℕ → Row → Bool
is_above newer row = option_map_or (λ time. nat_lt time row.modified) newer true

-- how many rows come before a page's end, where there is a limit
abbrev pub page_end : Query → Option ℕ
page_end query = option_map (λ limit. query.offset + limit) query.limit

-- whether so many rows are more than come before a page's end
abbrev pub is_past : Option ℕ → ℕ → Bool
is_past end found = option_map_or (λ n. nat_lt n found) end false

-- a row is of a later time than another, or of an earlier one
abbrev pub Later : Row → Row → Type 0
Later row other = other.modified < row.modified

abbrev pub Earlier : Row → Row → Type 0
Earlier row other = row.modified < other.modified

-- rows that are enough for a page: all of them, or the first of them, more than come before its end, where each of the rest stands
-- so to each of these
pub record Enough (R : Row → Row → Type 0) (end : Option ℕ) (all found : List Row) : Type 0 where
  pub rest : List Row
  pub split : all ≡ found ++ rest
  pub cut : (rest ≡ []) ⊎ ((is_past end (length found) ≡ true) × Each (λ (row : Row). Each (R row) rest) found)

-- a walk from the back stands at a place, with these rows found, once it has passed so many, the last at this time
pub record WalkView (query : Query) (nodes : List (ℕ × Row)) (at : Option ℕ) (time : ℕ) (found : List Row) (passed : ℕ) : Type 0 where
  pub before : List (ℕ × Row)
  pub after : List (ℕ × Row)
  pub split : nodes ≡ before ++ after
  pub at_is : at ≡ last_of (keys_of before)
  pub above : Each (λ (node : ℕ × Row). is_above query.newer node.1 ≡ true) after
  pub later : Each (λ (node : ℕ × Row). time ≤ node.1.modified) after
  pub rows : found ≡ filter (is_asked query) (reverse (values_of after))
  pub count : passed ≡ length after

-- a walk from the front stands at a place, with these rows found, once it has passed so many, the last at this time
pub record Ahead (query : Query) (nodes : List (ℕ × Row)) (at : Option ℕ) (time : ℕ) (found : List Row) (passed : ℕ) : Type 0 where
  pub before : List (ℕ × Row)
  pub after : List (ℕ × Row)
  pub split : nodes ≡ before ++ after
  pub at_is : at ≡ first_of (keys_of after)
  pub sooner : Each (λ (node : ℕ × Row). node.1.modified ≤ time) before
  pub rows : found ≡ filter (is_asked query) (values_of before)
  pub count : passed ≡ length before
