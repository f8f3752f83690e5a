-- Two lists, one after the other.
use Rattle.std.specs.Prelude.{◌≡◌, ◌==◌, false, List, [], ◌∷◌, ◌++◌, length, refl}
use Rattle.ss_query.specs.Effect.{is_empty}

-- where the first has an element both together have one
pub some-first : {X : Type 0} (xs ys : List X) → (length xs == 0) ≡ false → is_empty (xs ++ ys) ≡ false
some-first [] ys e = cc
some-first (x ∷ xs) ys e = refl
