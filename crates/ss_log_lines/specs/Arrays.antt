-- Values in a list that is written, for private clauses.
use Rattle.std.specs.Prelude.{◌∷◌, ℕ, List}
use Rattle.std.specs.List.{flat_map}
use Rattle.serde_json.specs.Data.{Data}
use Rattle.serde_json.specs.Written.{compact_text}

-- values, each behind a comma
abbrev pub behind : {X : Type 0} → (X → Data) → List X → List ℕ
behind written xs = flat_map (λ x. 44 ∷ compact_text (written x)) xs
