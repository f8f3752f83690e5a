-- The side that is taken, case by case.
use Rattle.std.proofs.Common.{◌≡◌, ◌⊎◌, true, false, cond, not, Bool, Option, Some, None, unwrap_or, ap, ◌∙◌, inl, inr}
use Rattle.ss_tree.specs.Trees.{PlacedItem}
use Rattle.ss_dupe.specs.declared.sides.Side.{Side}
use Rattle.ss_dupe.specs.declared.sides.Side.TheVariants.{Local, Remote}
use Rattle.ss_dupe.specs.Looks.{Id, is_in}
use Rattle.ss_dupe.specs.Sides.{Sides, tree_of}
use Rattle.ss_merge.specs.Survivors.{differs, newer, side_of, taken}
use Rattle.std.proofs.lemmas.Bool.{cases_Bool}
use Rattle.ss_text.proofs.Basics.{no_way}

module _ (s : Sides) (alike : PlacedItem → PlacedItem → Bool) (x : Id) where
  only_local : is_in s.remote x ≡ false → taken s alike x ≡ Some Local
  unfolding taken
  only_local r = ap (λ b. cond (not b) (Some Local)
      (cond (not (is_in s.local x)) (Some Remote) (cond (differs s alike Local x) (cond (differs s alike Remote x) (Some (newer s x)) (Some Local)) (cond (differs s alike Remote x) (Some Remote) None)))) r

  not_only_local : is_in s.remote x ≡ true → taken s alike x ≡ cond (not (is_in s.local x)) (Some Remote) (cond (differs s alike Local x) (cond (differs s alike Remote x) (Some (newer s x)) (Some Local)) (cond (differs s alike Remote x) (Some Remote) None))
  unfolding taken
  not_only_local r = ap (λ b. cond (not b) (Some Local)
      (cond (not (is_in s.local x)) (Some Remote) (cond (differs s alike Local x) (cond (differs s alike Remote x) (Some (newer s x)) (Some Local)) (cond (differs s alike Remote x) (Some Remote) None)))) r

  only_remote : is_in s.remote x ≡ true → is_in s.local x ≡ false → taken s alike x ≡ Some Remote
  only_remote r l = not_only_local r ∙ ap (λ b. cond (not b) (Some Remote) (cond (differs s alike Local x) (cond (differs s alike Remote x) (Some (newer s x)) (Some Local)) (cond (differs s alike Remote x) (Some Remote) None))) l

  of_both : is_in s.local x ≡ true → is_in s.remote x ≡ true → taken s alike x ≡ cond (differs s alike Local x) (cond (differs s alike Remote x) (Some (newer s x)) (Some Local)) (cond (differs s alike Remote x) (Some Remote) None)
  of_both l r = not_only_local r ∙ ap (λ b. cond (not b) (Some Remote) (cond (differs s alike Local x) (cond (differs s alike Remote x) (Some (newer s x)) (Some Local)) (cond (differs s alike Remote x) (Some Remote) None))) l

  pub differ : (a b : Bool) → is_in s.local x ≡ true → is_in s.remote x ≡ true → differs s alike Local x ≡ a → differs s alike Remote x ≡ b → taken s alike x ≡ cond a (cond b (Some (newer s x)) (Some Local)) (cond b (Some Remote) None)
  differ a b l r p q =
      of_both l r ∙ ap (λ c. cond c (cond (differs s alike Remote x) (Some (newer s x)) (Some Local)) (cond (differs s alike Remote x) (Some Remote) None)) p
      ∙ ap (λ c. cond a (cond c (Some (newer s x)) (Some Local)) (cond c (Some Remote) None)) q

  at_side : (o : Option Side) → taken s alike x ≡ o → is_in (tree_of s (unwrap_or o Local)) x ≡ true → is_in (tree_of s (side_of s alike x)) x ≡ true
  unfolding side_of
  at_side o e h = ap (λ p. is_in (tree_of s (unwrap_or p Local)) x) e ∙ h

  -- the side that is taken has the item
  pub side-in : (is_in s.local x ≡ true) ⊎ (is_in s.remote x ≡ true) → is_in (tree_of s (side_of s alike x)) x ≡ true
  side-in h = cases (cases_Bool (is_in s.remote x)) (cases_Bool (is_in s.local x)) h
    where
      both : (side : Side) → is_in s.local x ≡ true → is_in s.remote x ≡ true → is_in (tree_of s side) x ≡ true
      both Local l r = l
      both Remote l r = r

      cases : (is_in s.remote x ≡ true) ⊎ (is_in s.remote x ≡ false) → (is_in s.local x ≡ true) ⊎ (is_in s.local x ≡ false) → (is_in s.local x ≡ true) ⊎ (is_in s.remote x ≡ true) → is_in (tree_of s (side_of s alike x)) x ≡ true
      cases (inr r) _ (inl l) = at_side (Some Local) (only_local r) l
      cases (inr r) _ (inr k) = no_way (is_in s.remote x) k r
      cases (inl r) (inr l) _ = at_side (Some Remote) (only_remote r l) r
      cases (inl r) (inl l) _ = both (side_of s alike x) l r
