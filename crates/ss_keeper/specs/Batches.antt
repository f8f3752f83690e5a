-- Batches that begin.
use Rattle.std.specs.Prelude.{List, [], ◌∷◌, ◌++◌, Option, Some, None}
use Rattle.ss_bso.specs.declared.account.Staged.{Staged}

-- the batches with one more at their end, where there is one
abbrev pub with_begun : Option Staged → List Staged → List Staged
with_begun None batches = batches
with_begun (Some new) batches = batches ++ new ∷ []
