-- One more account without entries leaves all without.
use Rattle.std.specs.Prelude.{ℕ, List, [], ◌∷◌, ◌++◌, ◌≡◌}
use Rattle.std.proofs.Common.{subst, sym}
use Rattle.ss_laws.specs.declared.journal.Entry.{Entry}
use Rattle.ss_town.specs.Opening.{AreBare}
use Rattle.ss_town.proofs.Openings.{bare_more}

pub bare_pushed : {B : Type 0} (before after : List (ℕ × B)) (u : ℕ) (x : B) (entries : B → List Entry) → after ≡ before ++ (u, x) ∷ [] → AreBare entries before → entries x ≡ [] → AreBare entries after
bare_pushed {B} before after u x entries is bare none = subst (λ (l : List (ℕ × B)). AreBare entries l) (sym is) (bare_more entries before u x bare none)
