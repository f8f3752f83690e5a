-- Lists in order, as they grow at their end.
use Rattle.std.proofs.Common.{◌≡◌, suc, ◌-◌, Bool, true, false, not, cond, List, [], ◌∷◌, ◌++◌, length, map, refl, sym}
use Rattle.std.proofs.Common.{ap, ap₂, ◌∙◌, arith}
use Rattle.std.specs.List.{slice_get}
use Rattle.std.specs.Option.{option_map_or}
use Rattle.std.specs.Ordering.{is_lt, nat_cmp}
use Rattle.std.proofs.lemmas.Bool.{not-true}
use Rattle.ss_text.specs.Texts.{list_with, sorted}
use Rattle.ss_bso.specs.declared.account.Staged.{Staged}
use Rattle.ss_dump.specs.Dumps.{comes_before, number_cmp}
use Rattle.ss_dump.specs.Telling.{may_end}

-- no element comes before the one in front of it
abbrev pub IsAscending : {X : Type 0} → (X → X → Bool) → List X → Type 0
IsAscending before [] = Unit {0}
IsAscending before (x ∷ []) = Unit {0}
IsAscending before (x ∷ y ∷ ys) = (before y x ≡ false) × IsAscending before (y ∷ ys)

-- such a list is in order
pub ascending_sorted : {X : Type 0} (before : X → X → Bool) (xs : List X) → IsAscending before xs → sorted before xs ≡ xs
ascending_sorted before [] h = refl
ascending_sorted before (x ∷ []) h = refl
ascending_sorted before (x ∷ y ∷ ys) h =
    ap (list_with before x) (ascending_sorted before (y ∷ ys) h.1) ∙ ap (λ b. cond b (y ∷ list_with before x ys) (x ∷ y ∷ ys)) h.0

pub last_step : {X : Type 0} (y z : X) (zs : List X) → slice_get (y ∷ z ∷ zs) (length (y ∷ z ∷ zs) - 1) ≡ slice_get (z ∷ zs) (length (z ∷ zs) - 1)
last_step y z zs =
    let long : length (y ∷ z ∷ zs) - 1 ≡ suc (length zs) = omega arith in
    let short : length zs ≡ length (z ∷ zs) - 1 = omega arith in
    ap (slice_get (y ∷ z ∷ zs)) long ∙ ap (slice_get (z ∷ zs)) short

pub ascending_more : {X : Type 0} (before : X → X → Bool) (xs : List X) (x : X) → IsAscending before xs → may_end before xs x ≡ true → IsAscending before (xs ++ x ∷ [])
ascending_more before [] x h m = tt
ascending_more before (y ∷ []) x h m = (not-true (before x y) m, tt)
ascending_more before (y ∷ z ∷ zs) x h m =
    (h.0, ascending_more before (z ∷ zs) x h.1 (ap (λ o. option_map_or (λ w. not (before x w)) o true) (sym (last_step y z zs)) ∙ m))

-- batches with the same numbers
pub same_numbers : (xs ys : List Staged) → map (λ b. b.number) xs ≡ map (λ b. b.number) ys → IsAscending (comes_before number_cmp) xs → IsAscending (comes_before number_cmp) ys
same_numbers xs [] e h = tt
same_numbers xs (y ∷ []) e h = tt
same_numbers [] (y ∷ z ∷ zs) e h = cc
same_numbers (x ∷ []) (y ∷ z ∷ zs) e h = cc
same_numbers (x ∷ w ∷ ws) (y ∷ z ∷ zs) e h =
    let first : x.number ≡ y.number = cc in
    let second : w.number ≡ z.number = cc in
    let rest : map (λ b. b.number) (w ∷ ws) ≡ map (λ b. b.number) (z ∷ zs) = cc in
    (ap₂ (λ m n. is_lt (nat_cmp m n)) (sym second) (sym first) ∙ h.0, same_numbers (w ∷ ws) (z ∷ zs) rest h.1)
