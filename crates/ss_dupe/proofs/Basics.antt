-- Laws of tests, and of the test of two ids.
use Rattle.std.proofs.Common.{◌≡◌, ◌⊎◌, Bool, true, false, ◌||◌, List, [], ◌∷◌, Option, Some, None, bytes_eq, refl, sym}
use Rattle.std.proofs.Common.{subst, ◌∙◌, inl, inr, true≢false, Decides}
use Rattle.std.specs.Cmp.Lexicographic.{bytes_decides}
use Rattle.ss_record.specs.Ids.{has}
use Rattle.ss_dupe.specs.Looks.{Id}
use Rattle.ss_dupe.specs.Walks.{passes}
use Rattle.std.proofs.lemmas.Bool.{cases_Bool, or_left, or_right}

pub or_rest : (a b : Bool) → (a || b) ≡ true → a ≡ false → b ≡ true
or_rest true b e f = absurd (true≢false f)
or_rest false b e f = e

pub or_more : (a b c : Bool) → (b ≡ true → c ≡ true) → (a || b) ≡ true → (a || c) ≡ true
or_more true b c f e = refl
or_more false b c f e = f e

pub false_from : (a : Bool) → ¬ (a ≡ true) → a ≡ false
false_from true f = absurd (f refl)
false_from false f = refl

pub passes-more : {A : Type 0} (p q : A → Bool) → ((x : A) → p x ≡ true → q x ≡ true) → (o : Option A) → passes p o ≡ true → passes q o ≡ true
passes-more p q f None e = e
passes-more p q f (Some x) e = f x e

pub some_from_passes : {A : Type 0} (p : A → Bool) (o : Option A) → passes p o ≡ true → (x : A) × (o ≡ Some x) × (p x ≡ true)
some_from_passes p None e = absurd (true≢false (sym e))
some_from_passes p (Some x) e = (x, refl, e)

pub passes-some : {A : Type 0} (p : A → Bool) (o : Option A) (x : A) → o ≡ Some x → p x ≡ true → passes p o ≡ true
passes-some p o x e h = subst (λ r. passes p r ≡ true) (sym e) h

-- ---- ids

pub same-true : (x y : Id) → bytes_eq x y ≡ true → x ≡ y
same-true x y e = (bytes_decides x y).0 e

pub same-is : (x y : Id) → x ≡ y → bytes_eq x y ≡ true
same-is x y e = (bytes_decides x y).1 e

pub same-self : (x : Id) → bytes_eq x x ≡ true
same-self x = same-is x x refl

pub same-apart : (x y : Id) → ¬ (x ≡ y) → bytes_eq x y ≡ false
same-apart x y f = false_from (bytes_eq x y) (λ e. f (same-true x y e))

pub same-false : (x y : Id) → bytes_eq x y ≡ false → ¬ (x ≡ y)
same-false x y e f = true≢false (sym (same-is x y f) ∙ e)

pub same_turn : (x y : Id) → bytes_eq x y ≡ true → bytes_eq y x ≡ true
same_turn x y e = same-is y x (sym (same-true x y e))

pub has-head : (x y : Id) (xs : List Id) → x ≡ y → has x (y ∷ xs) ≡ true
unfolding has
has-head x y xs e = or_left (bytes_eq x y) _ (same-is x y e)

pub has-tail : (x y : Id) (xs : List Id) → has x xs ≡ true → has x (y ∷ xs) ≡ true
unfolding has
has-tail x y xs e = or_right (bytes_eq x y) _ e

pub has-cases : (x y : Id) (xs : List Id) → has x (y ∷ xs) ≡ true → (x ≡ y) ⊎ (has x xs ≡ true)
unfolding has
has-cases x y xs e = elim (cases_Bool (bytes_eq x y)) [ inl p ↦ inl (same-true x y p) | inr p ↦ inr (or_rest (bytes_eq x y) _ e p) ]

pub has-nil : (x : Id) → has x [] ≡ false
unfolding has
has-nil x = refl

pub same-tells : (x y : Id) → Decides (bytes_eq x y) (x ≡ y)
same-tells x y = (same-true x y, same-is x y)
