-- What splits, joins and calls do to the numbers that passes cover. Callers that split a desk's passes a number of times rest on these.
use Rattle.std.proofs.Common.{◌≡◌, ◌⊎◌, ℕ, ◌≤◌, List, ◌∷◌, sym, subst, inl, inr, arith}
use mathlib.Core.Logic.{dite}
use native.Mathlib.Decide.{dec_lt}
use Rattle.ss_desk.specs.declared.view.View.{View}
use Rattle.ss_desk.specs.declared.view.Stage.{Stage}
use Rattle.ss_desk.specs.Views.{Covers, CoversNoLess, middle, lower, upper, joined_view, view_after_step}
use Rattle.ss_desk.proofs.Lists.{among_left, among_right}

module _ {F E : Type 0} where
  -- a split loses no number
  pub covers_cut : (v : View F E) (n : ℕ) → Covers v n → Covers (lower v) n ⊎ Covers (upper v) n
  covers_cut v n (inr h) = inl (inr h)
  covers_cut v n (inl h) = dite (dec_lt n (middle v)) (λ low. inl (inl (h.0, low))) (λ high. inr (inl (let g : middle v ≤ n = omega arith in g, h.1)))

  -- nor does a join
  pub covers_left : (v w : View F E) → CoversNoLess v (joined_view v w)
  covers_left v w n (inl h) = inl h
  covers_left v w n (inr h) = inr (among_left v.taken (w.range ∷ w.taken) n h)

  pub covers_right : (v w : View F E) → CoversNoLess w (joined_view v w)
  covers_right v w n (inl h) = inr (among_right v.taken (w.range ∷ w.taken) n (inl h))
  covers_right v w n (inr h) = inr (among_right v.taken (w.range ∷ w.taken) n (inr h))

  -- nor does a call
  pub covers_turned : (v w : View F E) (stage : Stage) (seen : List E) → w ≡ view_after_step v stage seen → CoversNoLess v w
  covers_turned v w stage seen is n c = subst (λ (x : View F E). Covers x n) (sym is) c

  -- two passes of a split, low and high, that covered no less in a and b and came together again as w
  pub covers_again : (v low high a b w : View F E) → low ≡ lower v → high ≡ upper v → w ≡ joined_view a b → CoversNoLess low a → CoversNoLess high b → CoversNoLess v w
  covers_again v low high a b w is_low is_high is_joined left right n c = subst (λ (x : View F E). Covers x n) (sym is_joined) (elim (covers_cut v n c) [
    | inl h ↦ covers_left a b n (left n (subst (λ (x : View F E). Covers x n) (sym is_low) h))
    | inr h ↦ covers_right a b n (right n (subst (λ (x : View F E). Covers x n) (sym is_high) h))
  ])
