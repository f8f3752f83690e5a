-- What the target of a message names: an account, a place in it, and a query (SyncStorage API 1.5).
use Rattle.std.specs.Prelude.{ℕ, ◌==◌, List, [], ◌∷◌, map, length, slice_index, bytes_eq, nat_le, Option, Some, None}
use Rattle.std.specs.Prelude.{option_map, option_and_then, ok_or, Result, if◌then◌else◌, codes}
use Rattle.std.specs.List.{slice_split}
use Rattle.form_urlencoded.specs.Form.{split_once}
use Rattle.percent_encoding.specs.Percent.{percent_decode}
use Rattle.ss_text.specs.Numbers.{number_of}
use Rattle.ss_query.specs.declared.requests.Info.{Info}
use Rattle.ss_query.specs.declared.requests.Info.TheVariants.{Collections, Counts, Usage, Quota, Configuration}
use Rattle.ss_query.specs.declared.replies.Said.TheVariants as words
use Rattle.ss_route.specs.declared.routed.Local.{Local}
use Rattle.ss_route.specs.declared.targets.Place.{Place}
use Rattle.ss_route.specs.declared.targets.Place.TheVariants.{Everything, About, Collection, Item}
use Rattle.ss_route.specs.declared.targets.Named.{Named}
use Rattle.ss_route.specs.Refusals.{local_with_word}

-- the target up to its first question mark, and what follows that
abbrev pub path_of : List ℕ → List ℕ
path_of target = (split_once 0x3f target).0

abbrev pub query_of : List ℕ → List ℕ
query_of target = (split_once 0x3f target).1

-- without an empty piece at the end
abbrev pub without_empty_end : List (List ℕ) → List (List ℕ)
without_empty_end [] = []
without_empty_end (piece ∷ []) = if length piece == 0 then [] else (piece ∷ [])
without_empty_end (piece ∷ other ∷ pieces) = piece ∷ without_empty_end (other ∷ pieces)

-- the segments of a path that begins with a slash: cut at each slash, and then decoded
abbrev pub segments_behind : List (List ℕ) → Option (List (List ℕ))
segments_behind [] = None
segments_behind ([] ∷ pieces) = Some (map percent_decode (without_empty_end pieces))
segments_behind ((b ∷ bs) ∷ pieces) = None

unfoldable pub segments_of : List ℕ → Option (List (List ℕ))
segments_of path = segments_behind (slice_split (λ b. b == 0x2f) path)

-- what is asked of the account as a whole, by its name
unfoldable pub info_of : List ℕ → Option Info
info_of name =
    if bytes_eq name (codes "collections") then Some Collections
    else (if bytes_eq name (codes "collection_counts") then Some Counts
    else (if bytes_eq name (codes "collection_usage") then Some Usage
    else (if bytes_eq name (codes "quota") then Some Quota
    else (if bytes_eq name (codes "configuration") then Some Configuration else None))))

-- the place that the segments behind the account name
unfoldable pub place_of : List (List ℕ) → Option Place
place_of [] = Some Everything
place_of (first ∷ []) = if bytes_eq first (codes "storage") then Some Everything else None
place_of (first ∷ second ∷ []) =
    if bytes_eq first (codes "storage") then Some (Collection second)
    else (if bytes_eq first (codes "info") then option_map About (info_of second) else None)
place_of (first ∷ second ∷ third ∷ []) = if bytes_eq first (codes "storage") then Some (Item second third) else None
place_of (first ∷ second ∷ third ∷ fourth ∷ more) = None

-- the account and the place that segments name: `1.5`, any one for the account, and a place
unfoldable pub named_by : List (List ℕ) → Option Named
named_by [] = None
named_by (version ∷ []) = None
named_by (version ∷ uid ∷ rest) =
    if bytes_eq version (codes "1.5") then option_map (λ place. record { uid = uid; place = place }) (place_of rest) else None

-- the path must name a place of an account
unfoldable pub named_in : List ℕ → Result Named Local
named_in target = ok_or (option_and_then named_by (segments_of (path_of target))) (local_with_word 404 words.Path)

-- a number from 1 of at most so many digits, without a leading zero
unfoldable pub positive_of : ℕ → List ℕ → Option ℕ
positive_of most text = if slice_index text 0 == 0x30 then None else number_of most text

-- an account's number: from 1 to 4,294,967,295, without a leading zero
unfoldable pub uid_of : List ℕ → Option ℕ
uid_of text = option_and_then (λ number. if nat_le number 4294967295 then Some number else None) (positive_of 10 text)

-- the account must be a number
abbrev pub account_in : List ℕ → Result ℕ Local
account_in text = ok_or (uid_of text) (local_with_word 401 words.Account)
