-- Facts on each element of a list.
use Rattle.std.proofs.Common.{List, [], ◌∷◌, arith}
use Rattle.std.specs.List.{All, AllByRecursion}
use Rattle.std.proofs.lemmas.List.Elements.{All-cons}

pub all_from : {X : Type 0} (P : X → Type 0) (xs : List X) → AllByRecursion P xs → All P xs
all_from P [] e = λ k d h. absurd (omega arith)
all_from P (x ∷ xs) e = All-cons P x xs e.0 (all_from P xs e.1)
