-- An input that is turned into an output.
use Rattle.std.proofs.Common.{◌≡◌, List, ℕ, refl, subst}
use Rattle.ss_outside.specs.Told.{Meanings}
use Rattle.ss_input.specs.Inputs.{IsWhole}
use Rattle.ss_run_edit.specs.declared.endings.Ending.{Ending}
use Rattle.ss_run_edit.specs.Endings.{Wrote}
use Rattle.ss_run_edit.specs.Runs.{Turns, written, refused}

pub made_of : (Makes : List ℕ → List ℕ → Type 0) (Refuses : List ℕ → Ending → Type 0) (text slice out piece : List ℕ) (e : Ending) (a b c d : Meanings) → IsWhole text a b → slice ≡ text → Makes slice out → piece ≡ out → Wrote piece e c d
    → Turns Makes Refuses e a b c d
made_of Makes Refuses text slice out piece e a b c d w s m p h = written text out w (subst (λ t. Makes t out) s m) (subst (λ t. Wrote t e c d) p h)

pub none_made : (Makes : List ℕ → List ℕ → Type 0) (Refuses : List ℕ → Ending → Type 0) (text slice : List ℕ) (e : Ending) (a b c : Meanings) → IsWhole text a b → slice ≡ text → Refuses slice e → Turns Makes Refuses e a b c c
none_made Makes Refuses text slice e a b c w s r = refused text w (subst (λ t. Refuses t e) s r) refl
