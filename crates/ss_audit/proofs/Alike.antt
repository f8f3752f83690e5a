-- An element of a list whose elements are seen as others.
use Rattle.std.specs.Prelude.{◌≡◌, ◌<◌, ℕ, List, length, map, get_or}
use Rattle.std.proofs.Common.{sym, ap, ◌∙◌}
use Rattle.std.proofs.lemmas.List.{get_or-map}

-- elements at one place of lists that are seen alike are seen alike
pub seen_alike : {X Y : Type 0} (f : X → Y) (xs ys : List X) (k : ℕ) (x y : X) → k < length xs → k < length ys → x ≡ get_or xs k x → y ≡ get_or ys k y → map f xs ≡ map f ys → f x ≡ f y
seen_alike f xs ys k x y lt within is at e =
    ap f is ∙ sym (get_or-map f xs k x (f x) lt) ∙ ap (λ l. get_or l k (f x)) e ∙ get_or-map f ys k y (f x) within ∙ ap f (sym at)
