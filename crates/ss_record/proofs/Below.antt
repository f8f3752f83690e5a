-- An id that comes before all of a list is none of them.
use Rattle.std.proofs.Common.{◌≡◌, ℕ, List, Bool, true, false, refl, sym, ap, ◌∙◌, bytes_eq, Less, [], ◌∷◌, ◌||◌, ap₂}
use Rattle.std.specs.Ordering.{is_eq}
use Rattle.std.proofs.lemmas.Bool.{false≢true}
use Rattle.std.proofs.lemmas.Map.Text.{is_eq-slice_cmp}
use Rattle.ss_text.specs.Texts.{text_cmp}
use Rattle.std.specs.List.{AllByRecursion}
use Rattle.ss_record.specs.Ids.{has}
use Rattle.ss_record.proofs.IdLists.{has-nil, has-cons}

pub less_apart : (x y : List ℕ) → text_cmp x y ≡ Less → bytes_eq x y ≡ false
less_apart x y h = go (bytes_eq x y) refl
  where
    go : (b : Bool) → bytes_eq x y ≡ b → bytes_eq x y ≡ false
    go false q = q
    go true q = absurd (false≢true (sym (ap is_eq h) ∙ (is_eq-slice_cmp x y ∙ q)))

pub below_out : (x : List ℕ) (ys : List (List ℕ)) → AllByRecursion (λ y. text_cmp x y ≡ Less) ys → has x ys ≡ false
below_out x [] h = has-nil x
below_out x (y ∷ ys) h = has-cons x y ys ∙ ap₂ (λ a b. a || b) (less_apart x y h.0) (below_out x ys h.1)
