-- The steps of an answer, put together.
use Rattle.std.proofs.Common.{◌≡◌, ℕ, List, length, map, drop, Option, Some, None, refl, sym, ap, ap₂, ◌∙◌}
use Rattle.std.proofs.lemmas.List.{take-map, drop-map, length-map}
use Rattle.ss_text.specs.Texts.{sorted}
use Rattle.ss_bso.specs.declared.rows.Row.{Row}
use Rattle.ss_query.specs.declared.requests.Query.{Query}
use Rattle.ss_query.specs.declared.replies.Picked.{Picked}
use Rattle.ss_query.specs.declared.replies.PickedIds.{PickedIds}
use Rattle.ss_query.specs.Answer.{comes_before, limited_list, next_offset, answer_of}

map-limited : {X Y : Type 0} (f : X → Y) (limit : Option ℕ) (xs : List X) → map f (limited_list limit xs) ≡ limited_list limit (map f xs)
map-limited f None xs = refl
map-limited f (Some n) xs = sym (take-map f n xs)

abbrev picked : List Row → Option ℕ → Picked
picked rows next = record { rows = rows; next = next }

abbrev pub given_ids : List (List ℕ) → Option ℕ → PickedIds
given_ids ids next = record { ids = ids; next = next }

pub answered : {B : Type 0} (f : B → Row) (query : Query) (found ordered page : List B) (copied : List Row) (next : Option ℕ)
    → map f ordered ≡ sorted (comes_before query.sort) (map f found)
    → page ≡ limited_list query.limit (drop query.offset ordered) → copied ≡ map f page → next ≡ next_offset query.limit query.offset (length ordered)
    → picked copied next ≡ answer_of (map f found) query
answered f query found ordered page copied next in_order paged copies after =
    ap₂ picked
    (copies ∙ ap (map f) paged ∙ map-limited f query.limit (drop query.offset ordered) ∙ ap (limited_list query.limit) (sym (drop-map f query.offset ordered) ∙ ap (drop query.offset) in_order))
    (after ∙ ap (next_offset query.limit query.offset) (sym (length-map ordered f) ∙ ap length in_order))
