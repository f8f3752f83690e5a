use Rattle.std.specs.Prelude.{◌≡◌, ◌++◌, map, drop}
use Rattle.std.specs.Option.{option_copied, option_to_list}
use Rattle.ss_words.specs.Values.{values_in}
use Rattle.ss_words.proofs.values.given.Given as goal

-- what was found, and the values that are left, are all values
abbrev pub invariant-loop-pair : goal.invariant-loop-pair
invariant-loop-pair l = values_in l.option (map (λ given. (given.0, given.1.now)) l.options) ≡ option_to_list (option_copied l.found) ++ values_in l.option (drop l.pair-index (map (λ given. (given.0, given.1.now)) l.options))
