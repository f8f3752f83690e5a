-- What a walk with marks keeps.
use Rattle.std.proofs.Common.{◌≡◌, ◌≢◌, ℕ, zero, suc, ◌+◌, ◌<◌, ◌≤◌, ◌⊎◌, ◌==◌, inl, inr, List, length, get_or, set}
use Rattle.std.proofs.Common.{count_by, All, Bool, true, false, cond, refl, sym, ap, ◌∙◌, subst, arith, get_or-set_same}
use Rattle.std.proofs.Common.{get_or-set_other, eq-eqb, ne_eqb}
use Rattle.std.specs.List.{sum_by}
use Rattle.std.proofs.lemmas.Bool.{cases_eq}
use Rattle.std.proofs.lemmas.List.{get_or_default}
use Rattle.std.proofs.lemmas.List.Sums.{sum_by-set}
use Rattle.ss_build.specs.Marks.{next_at, hops, Leads, IsClosedUnder, WalksTo}

pub hops_after : (next : List ℕ) (k i : ℕ) → hops next k (next_at next i) ≡ next_at next (hops next k i)
unfolding hops
hops_after next zero i = refl
hops_after next (suc k) i = hops_after next k (next_at next i)

pub Leads-here : (next : List ℕ) (i : ℕ) → Leads next i (next_at next i)
unfolding hops
Leads-here next i = (0, refl)

pub Leads-on : (next : List ℕ) (i j : ℕ) → Leads next i j → Leads next i (next_at next j)
unfolding hops
Leads-on next i j h = (suc h.0, hops_after next h.0 (next_at next i) ∙ ap (next_at next) h.1)

pub record Walking (next old seen : List ℕ) (number start at : ℕ) : Type 0 where
  pub same_length : length seen ≡ length old
  pub within : at ≤ length next
  pub kept : (z : ℕ) → 0 < get_or old z 0 → get_or seen z 0 ≡ get_or old z 0
  pub fresh : (z : ℕ) → z < length next → get_or old z 0 ≡ 0 → (get_or seen z 0 ≡ 0) ⊎ ((get_or seen z 0 ≡ number) × Leads next z at)
  pub begun : (start ≡ at) ⊎ (0 < get_or seen start 0)
  pub closed : (z : ℕ) → z < length next → 0 < get_or seen z 0 → (next_at next z ≡ length next) ⊎ ((0 < get_or seen (next_at next z) 0) ⊎ (next_at next z ≡ at))

pub walking_begins : (next old : List ℕ) (number start : ℕ) → start < length next → IsClosedUnder next old → Walking next old old number start start
walking_begins next old number start lt closed = record {
  same_length = refl;
  within = omega arith;
  kept = λ z h. refl;
  fresh = λ z l h. inl h;
  begun = inl refl;
  closed = λ z l h. first (closed z l h);
}
  where
    first : {A B C : Type 0} → A ⊎ B → A ⊎ (B ⊎ C)
    first (inl a) = inl a
    first (inr b) = inr (inl b)

pub walking_goes : (next old seen : List ℕ) (number start at : ℕ) → All (λ j. j ≤ length next) next → length old ≡ length next → 0 < number → at < length next → get_or seen at 0 ≡ 0
    → Walking next old seen number start at → Walking next old (set seen at number) number start (get_or next at 0)
walking_goes next old seen number start at bounded same some lt unseen w = record {
  same_length = let e : length (set seen at number) ≡ length seen = Rattle.std.proofs.Common.length-set seen at number in e ∙ w.same_length;
  within = bounded at 0 lt;
  kept = λ z h. other z (λ e. not_old z e h) ∙ w.kept z h;
  fresh = λ z l h. fresh z l h (cases_eq z at);
  begun = begun w.begun;
  closed = λ z l h. closed z l h (cases_eq z at);
}
  where
    here : get_or (set seen at number) at 0 ≡ number
    here = get_or-set_same seen at number 0 (let e : length seen ≡ length old = w.same_length in omega arith)

    other : (z : ℕ) → z ≢ at → get_or (set seen at number) z 0 ≡ get_or seen z 0
    other z ne = get_or-set_other seen at z number 0 ne

    step : next_at next at ≡ get_or next at 0
    step = get_or_default next at (length next) 0 lt

    not_old : (z : ℕ) → z ≡ at → 0 < get_or old z 0 → ⊥
    not_old z e h = let k : get_or seen z 0 ≡ get_or old z 0 = w.kept z h in let u : get_or seen z 0 ≡ 0 = ap (λ i. get_or seen i 0) e ∙ unseen in omega arith

    fresh : (z : ℕ) → z < length next → get_or old z 0 ≡ 0 → (z ≡ at) ⊎ (z ≡ at → ⊥) → (get_or (set seen at number) z 0 ≡ 0) ⊎ ((get_or (set seen at number) z 0 ≡ number) × Leads next z (get_or next at 0))
    fresh z l h (inl e) = inr (ap (λ i. get_or (set seen at number) i 0) e ∙ here, subst (λ i. Leads next i (get_or next at 0)) (sym e) (subst (Leads next at) step (Leads-here next at)))
    fresh z l h (inr ne) = go (w.fresh z l h)
      where
        go : (get_or seen z 0 ≡ 0) ⊎ ((get_or seen z 0 ≡ number) × Leads next z at) → (get_or (set seen at number) z 0 ≡ 0) ⊎ ((get_or (set seen at number) z 0 ≡ number) × Leads next z (get_or next at 0))
        go (inl e) = inl (other z ne ∙ e)
        go (inr p) = inr (other z ne ∙ p.0, subst (Leads next z) step (Leads-on next z at p.1))

    begun : (start ≡ at) ⊎ (0 < get_or seen start 0) → (start ≡ get_or next at 0) ⊎ (0 < get_or (set seen at number) start 0)
    begun (inl e) = inr (let h : get_or (set seen at number) start 0 ≡ number = ap (λ i. get_or (set seen at number) i 0) e ∙ here in omega arith)
    begun (inr h) = inr (let e : get_or (set seen at number) start 0 ≡ get_or seen start 0 = other start (λ q. let u : get_or seen start 0 ≡ 0 = ap (λ i. get_or seen i 0) q ∙ unseen in omega arith) in omega arith)

    closed : (z : ℕ) → z < length next → 0 < get_or (set seen at number) z 0 → (z ≡ at) ⊎ (z ≡ at → ⊥)
        → (next_at next z ≡ length next) ⊎ ((0 < get_or (set seen at number) (next_at next z) 0) ⊎ (next_at next z ≡ get_or next at 0))
    closed z l h (inl e) = inr (inr (ap (next_at next) e ∙ step))
    closed z l h (inr ne) = go (w.closed z l (subst (λ v. 0 < v) (other z ne) h))
      where
        go : (next_at next z ≡ length next) ⊎ ((0 < get_or seen (next_at next z) 0) ⊎ (next_at next z ≡ at)) → (next_at next z ≡ length next) ⊎ ((0 < get_or (set seen at number) (next_at next z) 0) ⊎ (next_at next z ≡ get_or next at 0))
        go (inl e) = inl e
        go (inr (inl p)) = inr (inl (subst (λ v. 0 < v) (sym (other (next_at next z) (λ q. let u : get_or seen (next_at next z) 0 ≡ 0 = ap (λ i. get_or seen i 0) q ∙ unseen in omega arith))) p))
        go (inr (inr e)) = inr (inl (subst (λ v. 0 < v) (sym (ap (λ i. get_or (set seen at number) i 0) e ∙ here)) some))

abbrev tick : Bool → ℕ
tick b = cond b 1 0

pub walking_fewer : (seen : List ℕ) (at number : ℕ) → at < length seen → get_or seen at 0 ≡ 0 → 0 < number → count_by (λ s. s == 0) (set seen at number) < count_by (λ s. s == 0) seen
walking_fewer seen at number lt unseen some =
    let e : sum_by (λ s. tick (s == 0)) (set seen at number) + tick (get_or seen at 0 == 0) ≡ sum_by (λ s. tick (s == 0)) seen + tick (number == 0) = sum_by-set (λ s. tick (s == 0)) seen at number 0 lt in
    let a : tick (get_or seen at 0 == 0) ≡ 1 = ap tick (eq-eqb (get_or seen at 0) 0 unseen) in
    let b : tick (number == 0) ≡ 0 = ap tick (ne_eqb number 0 (λ q. omega arith)) in
    let f : count_by (λ s. s == 0) (set seen at number) + 1 ≡ count_by (λ s. s == 0) seen + 0 = ap (λ n. sum_by (λ s. tick (s == 0)) (set seen at number) + n) (sym a) ∙ (e ∙ ap (λ n. sum_by (λ s. tick (s == 0)) seen + n) b) in
    omega (arith, f)

pub walking_ends : (next old seen : List ℕ) (number start at : ℕ) → length old ≡ length next → start < length next → (length next ≤ at) ⊎ (0 < get_or seen at 0) → Walking next old seen number start at → WalksTo next old seen number start at
walking_ends next old seen number start at same lt end w = record {
  same_length = w.same_length;
  kept = w.kept;
  fresh = w.fresh;
  begun = begun w.begun end;
  closed = λ z l h. closed z (w.closed z l h) end;
  ended = ended end;
}
  where
    begun : (start ≡ at) ⊎ (0 < get_or seen start 0) → (length next ≤ at) ⊎ (0 < get_or seen at 0) → 0 < get_or seen start 0
    begun (inr h) e = h
    begun (inl q) (inl e) = absurd (omega arith)
    begun (inl q) (inr e) = subst (λ i. 0 < get_or seen i 0) (sym q) e

    closed : (z : ℕ) → (next_at next z ≡ length next) ⊎ ((0 < get_or seen (next_at next z) 0) ⊎ (next_at next z ≡ at)) → (length next ≤ at) ⊎ (0 < get_or seen at 0) → (next_at next z ≡ length next) ⊎ (0 < get_or seen (next_at next z) 0)
    closed z (inl h) e = inl h
    closed z (inr (inl h)) e = inr h
    closed z (inr (inr h)) (inl e) = inl (let v : at ≤ length next = w.within in omega arith)
    closed z (inr (inr h)) (inr e) = inr (subst (λ i. 0 < get_or seen i 0) (sym h) e)

    ended : (length next ≤ at) ⊎ (0 < get_or seen at 0) → (at ≡ length next) ⊎ ((at < length next) × (0 < get_or seen at 0))
    ended (inl e) = inl (let v : at ≤ length next = w.within in omega arith)
    ended (inr e) = go (cases_eq at (length next))
      where
        go : (at ≡ length next) ⊎ (at ≡ length next → ⊥) → (at ≡ length next) ⊎ ((at < length next) × (0 < get_or seen at 0))
        go (inl q) = inl q
        go (inr q) = inr ((let v : at ≤ length next = w.within in omega arith), e)
