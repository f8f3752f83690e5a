-- What options and positionals say.
use Rattle.std.specs.Prelude.{ℕ, Bool, true, ◌&&◌, ◌==◌, not, nat_le, List, [], ◌∷◌, length, map, filter, Option, Some}
use Rattle.std.specs.Prelude.{None, bytes_eq, option_map, option_and_then, if◌then◌else◌}
use Rattle.std.specs.List.{list_any}
use Rattle.ss_text.specs.Names.{is_id}
use Rattle.ss_text.specs.Numbers.{number_of}
use Rattle.ss_route.specs.Targets.{uid_of}
use Rattle.ss_town.specs.Limits.{most_accounts}
use Rattle.ss_words.specs.declared.names.OptionName.{OptionName}
use Rattle.ss_words.specs.Names.{option_text}
use Rattle.ss_words.specs.Lines.{Line}

-- the values with which an option is given
abbrev pub values_in : OptionName → List (OptionName × List ℕ) → List (List ℕ)
values_in option options = map (λ given. given.1) (filter (λ given. bytes_eq (option_text given.0) (option_text option)) options)

-- an option is given once, or it isn't given
abbrev pub once : List (List ℕ) → Option (Option (List ℕ))
once [] = Some None
once (value ∷ []) = Some (Some value)
once (value ∷ other ∷ values) = None

-- the value with which an option is given, where it is
abbrev pub given_value : OptionName → Line → Option (Option (List ℕ))
given_value option line = once (values_in option line.options)

-- a number of 1 to 12 digits in a range
unfoldable pub number_in : ℕ → ℕ → List ℕ → Option ℕ
number_in low high text = option_and_then (λ number. if nat_le low number && nat_le number high then Some number else None) (number_of 12 text)

-- the number of an option, where it is given
abbrev pub optional_number : ℕ → ℕ → Option (List ℕ) → Option (Option ℕ)
optional_number low high None = Some None
optional_number low high (Some text) = option_map (λ number. Some number) (number_in low high text)

abbrev pub number_given : OptionName → ℕ → ℕ → Line → Option (Option ℕ)
number_given option low high line = option_and_then (optional_number low high) (given_value option line)

-- the accounts that all these words name
abbrev pub uids_of : List (List ℕ) → Option (List ℕ)
uids_of [] = Some []
uids_of (word ∷ words) = option_and_then (λ uid. option_map (λ uids. uid ∷ uids) (uids_of words)) (uid_of word)

-- no number stands there twice
abbrev pub are_distinct : List ℕ → Bool
are_distinct [] = true
are_distinct (uid ∷ uids) = not (list_any (λ other. other == uid) uids) && are_distinct uids

-- 1 to 8 accounts, none twice
abbrev pub are_accounts : List ℕ → Bool
are_accounts uids = nat_le 1 (length uids) && (nat_le (length uids) most_accounts && are_distinct uids)

unfoldable pub accounts_of : List (List ℕ) → Option (List ℕ)
accounts_of words = option_and_then (λ uids. if are_accounts uids then Some uids else None) (uids_of words)
