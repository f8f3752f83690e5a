-- The collections in the order of their names.
use Rattle.std.specs.Prelude.{◌≡◌, ℕ, List, [], ◌∷◌, map, refl}
use Rattle.std.proofs.Common.{sym, ap, ◌∙◌}
use Rattle.std.specs.Ordering.{is_lt}
use Rattle.ss_text.specs.Texts.{sorted, text_cmp}
use Rattle.ss_query.specs.Told.{by_name}

map-same : (xs : List (List ℕ × ℕ)) → map (λ entry. entry) xs ≡ xs
map-same [] = refl
map-same (x ∷ xs) = ap (λ rest. x ∷ rest) (map-same xs)

-- a sort of copies gives the collections by name
pub by_name_is : (times copied ordered : List (List ℕ × ℕ)) → map (λ entry. entry) ordered ≡ sorted (λ entry other. is_lt (text_cmp entry.0 other.0)) (map (λ entry. entry) copied)
    → copied ≡ times → ordered ≡ by_name times
by_name_is times copied ordered e same = sym (map-same ordered) ∙ e ∙ ap by_name (map-same copied ∙ same)
