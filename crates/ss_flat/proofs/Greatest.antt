-- The greatest of two sets, and of one set told in two ways.
use Rattle.std.proofs.Common.{◌≡◌, Bool, true, false, cond, Option, Some, None, ◌⊎◌, ⊎_elim, refl, sym, ap, ◌∙◌}
use Rattle.std.proofs.lemmas.Cmp.{upto, tied_itself}
use Rattle.std.specs.Cmp.{IsTotalOrder}
use Rattle.std.specs.declared.cmp.Ordering.{Ordering}
use Rattle.std.specs.declared.cmp.Ordering.TheVariants.{Less, Equal, Greater}
use Rattle.std.specs.Ordering.{is_gt, is_lt, ordering_reverse}
use Rattle.ss_flat.specs.Greatest.{IsGreatest, IsGreatestOf}
use Rattle.ss_flat.specs.Joining.{greater}

lt_not_gt : (o : Ordering) → is_lt o ≡ true → is_gt o ≡ false
lt_not_gt Less e = refl
lt_not_gt Equal e = refl
lt_not_gt Greater e = sym e

gt-reverse : (o : Ordering) → is_gt (ordering_reverse o) ≡ is_lt o
gt-reverse Less = refl
gt-reverse Equal = refl
gt-reverse Greater = refl

-- neither is greater only where they tie
neither : (o p : Ordering) → p ≡ ordering_reverse o → is_gt o ≡ false → is_gt p ≡ false → o ≡ Equal
neither Less p e f g = let clash : true ≡ false = sym (ap is_gt e) ∙ g in cc
neither Equal p e f g = refl
neither Greater p e f g = let clash : true ≡ false = f in cc

module _ {X : Type 0} (cmp : X → X → Ordering) (total : IsTotalOrder cmp) where
  not_gt_itself : (x : X) → is_gt (cmp x x) ≡ false
  not_gt_itself x = ap is_gt (tied_itself total x)

  gt_turned : (x y : X) → is_gt (cmp y x) ≡ is_lt (cmp x y)
  gt_turned x y = ap is_gt (total.antisymm y x) ∙ gt-reverse (cmp x y)

  -- the greatest of a set of one
  pub greatest_one : (P : X → Type 0) (x : X) → P x → ((y : X) → P y → y ≡ x) → IsGreatestOf cmp P (Some x)
  greatest_one P x here only = record { holds = here; greatest = λ y p. ap (λ z. is_gt (cmp z x)) (only y p) ∙ not_gt_itself x }

  module _ (P Q R : X → Type 0) (left : (x : X) → P x → R x) (right : (x : X) → Q x → R x) (either : (x : X) → R x → P x ⊎ Q x) where
    step : (b : Bool) (x y : X) → is_lt (cmp x y) ≡ b → IsGreatest cmp P x → IsGreatest cmp Q y → IsGreatestOf cmp R (cond b (Some y) (Some x))
    step true x y e a b = record {
      holds = right y b.holds;
      greatest = λ z r. ⊎_elim (λ p. upto total z x y (a.greatest z p) (lt_not_gt (cmp x y) e)) (λ q. b.greatest z q) (either z r);
    }
    step false x y e a b = record {
      holds = left x a.holds;
      greatest = λ z r. ⊎_elim (λ p. a.greatest z p) (λ q. upto total z y x (b.greatest z q) (gt_turned x y ∙ e)) (either z r);
    }

    -- the greatest of a union
    pub greatest_of_both : (a b : Option X) → IsGreatestOf cmp P a → IsGreatestOf cmp Q b → IsGreatestOf cmp R (greater cmp a b)
    greatest_of_both None None a b = λ x r. ⊎_elim (a x) (b x) (either x r)
    greatest_of_both None (Some y) a b = record {
      holds = right y b.holds;
      greatest = λ z r. ⊎_elim (λ p. absurd (a z p)) (λ q. b.greatest z q) (either z r);
    }
    greatest_of_both (Some x) None a b = record {
      holds = left x a.holds;
      greatest = λ z r. ⊎_elim (λ p. a.greatest z p) (λ q. absurd (b z q)) (either z r);
    }
    greatest_of_both (Some x) (Some y) a b = step (is_lt (cmp x y)) x y refl a b

  module _ (exact : (x y : X) → cmp x y ≡ Equal → x ≡ y) (P Q : X → Type 0) (there : (x : X) → P x → Q x) (back : (x : X) → Q x → P x) where
    pub one_greatest : (x y : X) → IsGreatest cmp P x → IsGreatest cmp Q y → x ≡ y
    one_greatest x y a b =
        exact x y (neither (cmp x y) (cmp y x) (total.antisymm y x) (b.greatest x (there x a.holds)) (a.greatest y (back y b.holds)))

    -- a set has one greatest, however it is told
    pub same_greatest : (a b : Option X) → IsGreatestOf cmp P a → IsGreatestOf cmp Q b → a ≡ b
    same_greatest None None a b = refl
    same_greatest None (Some y) a b = absurd (a y (back y b.holds))
    same_greatest (Some x) None a b = absurd (b x (there x a.holds))
    same_greatest (Some x) (Some y) a b = ap (λ z. Some z) (one_greatest x y a b)

    pub greatest_moved : (a : Option X) → IsGreatestOf cmp P a → IsGreatestOf cmp Q a
    greatest_moved None a = λ x q. a x (back x q)
    greatest_moved (Some x) a = record { holds = there x a.holds; greatest = λ y q. a.greatest y (back y q) }
