use Rattle.std.proofs.Common.{◌≡◌, ℕ, zero, suc, ◌<◌, List, [], ◌∷◌, length, map, get_or, Bool, true, false, ◌&&◌, cond}
use Rattle.std.proofs.Common.{Some, None, refl, sym, ap, ◌∙◌, arith}
use Rattle.std.specs.List.{list_all}
use Rattle.ss_text.specs.Names.{is_id}
use Rattle.ss_query.proofs.queries.ids_of_pieces.Goals as goal
use Rattle.ss_text.proofs.Basics.{and_false}

one_fails : {X Y : Type 0} (p : Y → Bool) (f : X → Y) (xs : List X) (i : ℕ) (d : X) → i < length xs → p (f (get_or xs i d)) ≡ false → list_all p (map f xs) ≡ false
one_fails p f [] i d here e = let never : ⊥ = omega arith in absurd never
one_fails p f (x ∷ xs) zero d here e = ap (λ b. b && list_all p (map f xs)) e
one_fails p f (x ∷ xs) (suc i) d here e = ap (λ b. p (f x) && b) (one_fails p f xs i d (omega arith) e) ∙ and_false (p (f x))

was_none : {X : Type 0} (b : Bool) (x : X) → None ≡ cond b (Some x) None → b ≡ false
was_none true x e = cc
was_none false x e = refl

pub returns-in-None : goal.returns-in-None
returns-in-None c =
    let none = sym c.in-None.is ∙ c.in_ok-id.ensures in
    let bad = one_fails is_id (λ piece. piece.now) c.args.pieces.now c.loop-piece.piece-index _ (omega arith) (was_none _ _ none) in
    sym (ap (λ b. cond b (Some (map (λ piece. piece.now) c.args.pieces.now)) None) bad)
