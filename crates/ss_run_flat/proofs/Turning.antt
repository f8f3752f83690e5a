-- An input that is turned into an output.
use Rattle.std.proofs.Common.{◌≡◌, List, ℕ, refl, subst}
use Rattle.ss_outside.specs.Told.{Meanings}
use Rattle.ss_input.specs.Inputs.{IsWhole}
use Rattle.ss_flat.specs.declared.kinds.FlatKind.{FlatKind}
use Rattle.ss_run_flat.specs.declared.endings.Ending.{Ending}
use Rattle.ss_run_flat.specs.Endings.{Wrote}
use Rattle.ss_run_flat.specs.Files.{IsNoFile}
use Rattle.ss_run_flat.specs.Runs.{Flattens, IsFlatOf, written, refused}

pub made_of : (kind : FlatKind) (text slice out piece : List ℕ) (e : Ending) (a b c d : Meanings) → IsWhole text a b → slice ≡ text → IsFlatOf kind slice out → piece ≡ out → Wrote piece e c d → Flattens kind e a b c d
made_of kind text slice out piece e a b c d w s m p h = written text out w (subst (λ t. IsFlatOf kind t out) s m) (subst (λ t. Wrote t e c d) p h)

pub none_made : (kind : FlatKind) (text slice : List ℕ) (e : Ending) (a b c : Meanings) → IsWhole text a b → slice ≡ text → IsNoFile slice e → Flattens kind e a b c c
none_made kind text slice e a b c w s r = refused text w (subst (λ t. IsNoFile t e) s r) refl
