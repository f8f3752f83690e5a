use Rattle.std.proofs.Common.{◌≡◌, ◌∷◌, ℕ, List, [], Bool, true, false, ◌==◌, Option, Some, None, refl, ap, arith, Bor}
use Rattle.std.proofs.Common.{MatchOption}
use Rattle.std.proofs.lemmas.Bool.{eqb-true}
use Rattle.std.proofs.lemmas.Str.Pattern.{strip_prefix_char}
use Rattle.ss_record.specs.Marks.{begins_marked}
use Rattle.ss_record.proofs.marks.behind_mark.Goals as goal

none_begins : (t : List ℕ) → ((rest : List ℕ) → t ≡ 1 ∷ rest → ⊥) → begins_marked t ≡ false
none_begins [] h = refl
none_begins (x ∷ t) h = go (x == 1) refl
  where
    go : (b : Bool) → (x == 1) ≡ b → b ≡ false
    go true e = absurd (h t (ap (λ y. y ∷ t) (eqb-true x 1 e)))
    go false e = refl

told : (t : List ℕ) (r : Option (Bor (List ℕ))) → MatchOption r ((rest : List ℕ) → t ≡ 1 ∷ rest → ⊥) (λ x. t ≡ 1 ∷ x.now) → MatchOption r (begins_marked t ≡ false) (λ x. t ≡ 1 ∷ x.now)
told t None h = none_begins t h
told t (Some x) h = h

pub returns : goal.returns
returns c = told c.args.text.now c.strip_prefix.result (strip_prefix_char 1 c.args.text.now c.strip_prefix.result c.strip_prefix.ensures.cases (omega arith))
