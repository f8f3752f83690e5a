-- What holds of each element, or of each pair, of a list, as far as a loop over it has come.
use Rattle.std.specs.Prelude.{◌≡◌, ◌<◌, ◌+◌, ◌-◌, ◌↔◌, ℕ, zero, suc, Bool, false, ◌||◌, IsTrue, List, [], ◌∷◌, ◌++◌}
use Rattle.std.specs.Prelude.{length, take, get_or, slice_get, Option, Some, None, MatchOption, refl}
use Rattle.std.specs.List.{list_any}
use Rattle.std.proofs.Common.{subst, sym, ap, ◌∙◌, arith}
use Rattle.std.proofs.lemmas.List.{length-append}
use Rattle.ss_bso.specs.Lists.{Each, Pairs}
use Rattle.ss_bso.proofs.Lists.{Pairs-append}
use Rattle.ss_text.proofs.Basics.{neither_left, neither_right, take_push}
use Rattle.ss_audit.specs.Sound.{last_of}

-- ---- a test's answer, and the fact that it decides

pub never : {P : Type 0} → (P → ⊥) → IsTrue false ↔ P
never {P} h = (λ e. let q : P = cc in q, λ p. absurd (h p))

-- a test that tells whether values are equal tells what that means
pub decided_by : {X P : Type 0} (b : Bool) (x y z w : X) → IsTrue b ↔ (x ≡ y) → x ≡ z → y ≡ w → (z ≡ w) ↔ P → IsTrue b ↔ P
decided_by b x y z w test left right means =
    (λ t. means.0 (sym left ∙ test.0 t ∙ right), λ p. test.1 (left ∙ means.1 p ∙ sym right))

-- what was found, and what holds where nothing was
pub found_some : {F : Type 0} (P : Type 0) (Q : F → Type 0) (o : Option F) (x : F) → o ≡ Some x → MatchOption o P Q → Q x
found_some P Q o x e m = let there : MatchOption (Some x) P Q = subst (λ z. MatchOption z P Q) e m in there

pub found_none : {F P : Type 0} (Q : F → Type 0) (o : Option F) → ((x : F) → o ≡ Some x → ⊥) → MatchOption o P Q → P
found_none Q None h m = m
found_none Q (Some x) h m = absurd (h x refl)

-- ---- each element

pub each_at : {X : Type 0} (P : X → Type 0) (xs : List X) (k : ℕ) (x : X) → k < length xs → x ≡ get_or xs k x → Each P xs → P x
each_at P [] k x lt item e = absurd (omega arith)
each_at P (y ∷ ys) zero x lt item e = subst P (sym item) e.0
each_at P (y ∷ ys) (suc k) x lt item e = each_at P ys k x (omega arith) item e.1

-- ---- each pair

pub pairs_more : {X : Type 0} (R : X → X → Type 0) (xs : List X) (k : ℕ) (x : X) → k < length xs → x ≡ get_or xs k x → Pairs R (take k xs) → Each (λ (y : X). R y x) (take k xs) → Pairs R (take (k + 1) xs)
pairs_more {X} R xs k x lt item before here =
    subst (λ ys. Pairs R ys) (sym (take_push xs k x lt item)) (Pairs-append R (take k xs) (x ∷ []) before (tt, tt) (singly (take k xs) here))
  where
    singly : (ys : List X) → Each (λ (y : X). R y x) ys → Each (λ (y : X). Each (R y) (x ∷ [])) ys
    singly [] e = tt
    singly (y ∷ ys) e = ((e.0, tt), singly ys e.1)

pub pairs_at : {X : Type 0} (R : X → X → Type 0) (xs : List X) (k : ℕ) (x : X) → k < length xs → x ≡ get_or xs k x → Pairs R xs → Each (λ (y : X). R y x) (take k xs)
pairs_at R [] k x lt item e = absurd (omega arith)
pairs_at R (y ∷ ys) zero x lt item e = tt
pairs_at R (y ∷ ys) (suc k) x lt item e = (each_at (R y) ys k x (omega arith) item e.0, pairs_at R ys k x (omega arith) item e.1)

-- ---- a test of each element

pub each_none : {X : Type 0} (p : X → Bool) (xs : List X) → list_any p xs ≡ false → Each (λ (x : X). p x ≡ false) xs
each_none p [] e = tt
each_none p (x ∷ xs) e = (neither_left (p x) (list_any p xs) e, each_none p xs (neither_right (p x) (list_any p xs) e))

pub none_any : {X : Type 0} (p : X → Bool) (xs : List X) → Each (λ (x : X). p x ≡ false) xs → list_any p xs ≡ false
none_any p [] e = refl
none_any p (x ∷ xs) e = λ i. e.0 i || none_any p xs e.1 i

-- ---- the last element, and the elements around one

pub last_push : {X : Type 0} (xs : List X) (x : X) → last_of (xs ++ x ∷ []) ≡ Some x
last_push xs x =
    let long : length (xs ++ x ∷ []) - 1 ≡ length xs = omega (arith, length-append xs (x ∷ [])) in
    ap (slice_get (xs ++ x ∷ [])) long ∙ seam xs
  where
    seam : (ys : List _) → slice_get (ys ++ x ∷ []) (length ys) ≡ Some x
    seam [] = refl
    seam (y ∷ ys) = seam ys
