-- Facts on each element and each pair of a list, by recursion on the list, and rows that are told apart.
use Rattle.std.specs.Prelude.{List, [], ◌∷◌, bytes_eq, IsFalse}
use Rattle.ss_bso.specs.declared.rows.Row.{Row}
use Rattle.ss_bso.specs.Account.{is_at}

-- P of each element
abbrev pub Each : {X : Type 0} → (X → Type 0) → List X → Type 0
Each P [] = Unit {0}
Each P (x ∷ xs) = P x × Each P xs

-- R of each element and each later one
abbrev pub Pairs : {X : Type 0} → (X → X → Type 0) → List X → Type 0
Pairs R [] = Unit {0}
Pairs R (x ∷ xs) = Each (R x) xs × Pairs R xs

-- two rows stand at different places
abbrev pub Apart : Row → Row → Type 0
Apart row other = IsFalse (is_at row.collection row.id other)

-- two rows have different ids
abbrev pub OtherId : Row → Row → Type 0
OtherId row other = IsFalse (bytes_eq other.id row.id)
