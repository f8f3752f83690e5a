-- Final parents reach a root.
use Rattle.std.proofs.Common.{◌≡◌, ◌⊎◌, ℕ, zero, suc, ◌<◌, ◌≤◌, Bool, true, false, Option, Some, ◌∙◌, inl, inr, arith}
use Rattle.ss_dupe.specs.Looks.{Id}
use Rattle.ss_dupe.specs.Walks.{meets, Meets}
use Rattle.ss_merge.specs.Nearest.{nearest}
use Rattle.ss_dupe.proofs.Walks.{Meets-step, no_goal, meets-agree}
use Rattle.ss_merge.proofs.Nearest.{IsFound, found}
use Rattle.std.proofs.lemmas.Bool.{cases_Bool}

-- What the proof needs of a merge: R and L say that an id is in the remote and in the local tree and is not `places`; `most` bounds the walks of chosen parents, `high` and `deep` those up the trees.
pub record AreFinal (remote local chosen final : Id → Option Id) (root folder in_remote : Id → Bool) (R L : Id → Type 0) (most high deep : ℕ) : Type 0 where
  pub roots_are_folders : (x : Id) → root x ≡ true → folder x ≡ true
  pub in_R : (x : Id) → R x → in_remote x ≡ true
  pub R_from : (x : Id) → L x → in_remote x ≡ true → R x
  pub R_up : (x p : Id) → R x → root x ≡ false → remote x ≡ Some p → R p
  pub L_up : (x p : Id) → L x → root x ≡ false → local x ≡ Some p → L p
  pub R_rooted : (x : Id) → R x → meets remote root high x ≡ true
  pub L_rooted : (x : Id) → L x → meets local root deep x ≡ true
  pub final_chosen : (x : Id) → meets chosen root most x ≡ true → final x ≡ chosen x
  pub final_remote : (x : Id) → meets chosen root most x ≡ false → in_remote x ≡ true → final x ≡ nearest remote folder high x
  pub final_local : (x : Id) → meets chosen root most x ≡ false → in_remote x ≡ false → final x ≡ nearest local folder deep x

module _ (remote local chosen final : Id → Option Id) (root folder in_remote : Id → Bool) (R L : Id → Type 0) (most high deep : ℕ)
    (m : AreFinal remote local chosen final root folder in_remote R L most high deep) where
  -- where the walk of chosen parents comes to a root, that of final parents is the same
  by_chosen : (x : Id) → meets chosen root most x ≡ true → Meets final root x
  by_chosen x h = (most, meets-agree chosen final root most m.final_chosen most x (omega arith) h)

  -- else each step goes up the remote tree, and stays in it: the depth there falls
  by_remote : (n d : ℕ) (x : Id) → d < n → d ≤ high → R x → meets remote root d x ≡ true → Meets final root x
  by_remote zero d x lt le r h = absurd (omega arith)
  by_remote (suc n) d x lt le r h = cases (cases_Bool (meets chosen root most x)) (λ y e s k nearer. by_remote n e y (omega arith) (omega arith) s k)
    where
      cases : (meets chosen root most x ≡ true) ⊎ (meets chosen root most x ≡ false) → ((y : Id) (e : ℕ) → R y → meets remote root e y ≡ true → e < d → Meets final root y) → Meets final root x
      cases (inl hit) more = by_chosen x hit
      cases (inr miss) more =
          let f : IsFound remote folder root R high d x = found remote folder root m.roots_are_folders R m.R_up d high x le r (no_goal chosen root most x miss) h in
          Meets-step final root x f.at (m.final_remote x miss (m.in_R x r) ∙ f.is) (more f.at f.left f.has f.rest f.nearer)

  pub remote_reaches : (x : Id) → R x → Meets final root x
  remote_reaches x r = by_remote (suc high) high x (omega arith) (omega arith) r (m.R_rooted x r)

  -- or up the local tree, until an id is in the remote tree: the depth in the local tree falls
  by_local : (n d : ℕ) (x : Id) → d < n → d ≤ deep → L x → meets local root d x ≡ true → Meets final root x
  by_local zero d x lt le l h = absurd (omega arith)
  by_local (suc n) d x lt le l h = cases (cases_Bool (in_remote x)) (cases_Bool (meets chosen root most x)) (λ y e s k nearer. by_local n e y (omega arith) (omega arith) s k)
    where
      cases : (in_remote x ≡ true) ⊎ (in_remote x ≡ false) → (meets chosen root most x ≡ true) ⊎ (meets chosen root most x ≡ false) → ((y : Id) (e : ℕ) → L y → meets local root e y ≡ true → e < d → Meets final root y) → Meets final root x
      cases (inl there) _ more = remote_reaches x (m.R_from x l there)
      cases (inr alone) (inl hit) more = by_chosen x hit
      cases (inr alone) (inr miss) more =
          let f : IsFound local folder root L deep d x = found local folder root m.roots_are_folders L m.L_up d deep x le l (no_goal chosen root most x miss) h in
          Meets-step final root x f.at (m.final_local x miss alone ∙ f.is) (more f.at f.left f.has f.rest f.nearer)

  pub local_reaches : (x : Id) → L x → Meets final root x
  local_reaches x l = by_local (suc deep) deep x (omega arith) (omega arith) l (m.L_rooted x l)
