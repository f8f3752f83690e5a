-- What a POST is told of its records (SyncStorage API 1.5).
use Rattle.std.specs.Prelude.{ℕ, Bool, true, ◌&&◌, is_some, if◌then◌else◌, List, Option, Some, None, option_and_then}
use Rattle.std.specs.Prelude.{codes}
use Rattle.json.specs.Json.{Json, Members, no_members, member}
use Rattle.json.specs.Find.{get, as_str, as_array, as_object}
use Rattle.ss_text.specs.Names.{is_id}
use Rattle.ss_route.specs.Posts.{batch_of}
use Rattle.ss_hearing.specs.Bodies.{string_in, each, ◌>>=◌}
use Rattle.ss_hearing.specs.Lists.{ids_of}

-- a list of strings
unfoldable pub are_words : Json → Bool
are_words d = is_some (option_and_then (each as_str) (as_array d))

-- ids, each with a list of strings
abbrev pub are_failures : Members → Bool
are_failures no_members = true
are_failures (member name d ms) = (is_id name && are_words d) && are_failures ms

-- the name that stands first in the text
abbrev pub first_name : Members → Option (List ℕ)
first_name no_members = None
first_name (member name d ms) = Some name

abbrev pub failure_among : Members → Option (Option (List ℕ))
failure_among ms = if are_failures ms then Some (first_name ms) else None

-- `failed` in form: the id of the record that stands first in it, or that none failed
unfoldable pub failure_of : Json → Option (Option (List ℕ))
failure_of d = option_and_then failure_among (as_object d)

-- the same of a reply whose `success` is a list of ids
unfoldable pub failure_in : Json → Option (Option (List ℕ))
failure_in d = do
  success ← option_and_then ids_of (get (codes "success") d)
  option_and_then failure_of (get (codes "failed") d)

-- the number of the batch that a reply names
unfoldable pub batch_in : Json → Option ℕ
batch_in d = option_and_then batch_of (string_in (codes "batch") d)
