-- Circles: who leads to whom, and what marking one keeps.
use Rattle.std.proofs.Common.{◌≡◌, ◌≢◌, ℕ, zero, suc, ◌+◌, ◌<◌, ◌≤◌, ◌⊎◌, inl, inr, List, length, get_or, set, count_by}
use Rattle.std.proofs.Common.{All, Bool, true, false, not, cond, refl, sym, ap, ◌∙◌, subst, arith, get_or-set_same}
use Rattle.std.proofs.Common.{get_or-set_other, length-set}
use Rattle.std.specs.List.{sum_by}
use Rattle.std.proofs.Math.ListN.{get_or-eq_default}
use Rattle.std.proofs.lemmas.Bool.{cases_eq, cases_lt, false≢true}
use Rattle.std.proofs.lemmas.List.{get_or_default}
use Rattle.std.proofs.lemmas.List.Sums.{sum_by-set}
use Rattle.ss_build.specs.Marks.{next_at, hops, Leads, IsClosedUnder, MarksWay}
use Rattle.ss_build.proofs.Walking.{hops_after, Leads-on}

top_stays : (next : List ℕ) → next_at next (length next) ≡ length next
top_stays next = get_or-eq_default next (length next) (let e : length next ≤ length next = omega arith in e)

pub hops_top : (next : List ℕ) (k : ℕ) → hops next k (length next) ≡ length next
unfolding hops
hops_top next zero = refl
hops_top next (suc k) = ap (hops next k) (top_stays next) ∙ hops_top next k

-- the top leads to itself alone
pub top_leads : (next : List ℕ) (z : ℕ) → Leads next (length next) z → z ≡ length next
top_leads next z h = sym h.1 ∙ (ap (hops next h.0) (top_stays next) ∙ hops_top next h.0)

hops_leads : (next : List ℕ) (k i j : ℕ) → Leads next (hops next k i) j → Leads next i j
unfolding hops
hops_leads next zero i j h = h
hops_leads next (suc k) i j h = let r = hops_leads next k (next_at next i) j h in (suc r.0, r.1)

pub Leads-trans : (next : List ℕ) (i j k : ℕ) → Leads next i j → Leads next j k → Leads next i k
unfolding hops
Leads-trans next i j k h g = let r = hops_leads next h.0 (next_at next i) k (subst (λ w. Leads next w k) (sym h.1) g) in (suc r.0, r.1)

-- from the next one too, where i comes back
pub Leads-next : (next : List ℕ) (i j : ℕ) → Leads next i i → Leads next i j → Leads next (next_at next i) j
unfolding hops
Leads-next next i j back h = go h.0 h.1
  where
    go : (k : ℕ) → hops next k (next_at next i) ≡ j → Leads next (next_at next i) j
    go zero e = subst (Leads next (next_at next i)) e (at back.0 back.1)
      where
        at : (m : ℕ) → hops next m (next_at next i) ≡ i → Leads next (next_at next i) (next_at next i)
        at m f = (m, hops_after next m (next_at next i) ∙ ap (next_at next) f)
    go (suc k) e = (k, e)

-- what comes back leads back from wherever it leads to
pub way_back : (next : List ℕ) (i j : ℕ) → Leads next i i → Leads next i j → Leads next j i
unfolding hops
way_back next i j back h = subst (λ w. Leads next w i) h.1 (go h.0)
  where
    onward : (w : ℕ) → Leads next w i → Leads next (next_at next w) i
    onward w (zero, e) = subst (λ v. Leads next v i) (sym e) back
    onward w (suc k, e) = (k, e)

    go : (k : ℕ) → Leads next (hops next k (next_at next i)) i
    go zero = onward i back
    go (suc k) = subst (λ w. Leads next w i) (sym (hops_after next k (next_at next i))) (onward (hops next k (next_at next i)) (go k))

-- what has been seen leads to what has been seen, or to the top
pub closed_leads : (next seen : List ℕ) → IsClosedUnder next seen → (i j : ℕ) → i < length next → 0 < get_or seen i 0 → Leads next i j → (j ≡ length next) ⊎ (0 < get_or seen j 0)
unfolding hops
closed_leads next seen c i j lt s h = subst (λ w. (w ≡ length next) ⊎ (0 < get_or seen w 0)) h.1 (go h.0)
  where
    onward : (w : ℕ) → (w ≡ length next) ⊎ (0 < get_or seen w 0) → (next_at next w ≡ length next) ⊎ (0 < get_or seen (next_at next w) 0)
    onward w (inl e) = inl (ap (next_at next) e ∙ top_stays next)
    onward w (inr p) = at (cases_lt w (length next))
      where
        at : (w < length next) ⊎ (length next ≤ w) → (next_at next w ≡ length next) ⊎ (0 < get_or seen (next_at next w) 0)
        at (inl l) = c w l p
        at (inr l) = inl (get_or-eq_default next (length next) l)

    go : (k : ℕ) → (hops next k (next_at next i) ≡ length next) ⊎ (0 < get_or seen (hops next k (next_at next i)) 0)
    go zero = c i lt s
    go (suc k) = subst (λ w. (w ≡ length next) ⊎ (0 < get_or seen w 0)) (sym (hops_after next k (next_at next i))) (onward (hops next k (next_at next i)) (go k))

-- ---- marking

pub record Marking (next : List ℕ) (old circles : List Bool) (first at : ℕ) : Type 0 where
  pub same_length : length circles ≡ length old
  pub here : Leads next first at
  pub back : Leads next at first
  pub kept : (z : ℕ) → get_or old z false ≡ true → get_or circles z false ≡ true
  pub sound : (z : ℕ) → get_or circles z false ≡ true → (get_or old z false ≡ true) ⊎ Leads next first z
  pub closed : (z : ℕ) → Leads next first z → get_or circles z false ≡ true → (get_or circles (next_at next z) false ≡ true) ⊎ (next_at next z ≡ at)
  pub begun : (first ≡ at) ⊎ (get_or circles first false ≡ true)

pub marking_inside : (next : List ℕ) (old circles : List Bool) (first at : ℕ) → All (λ j. j ≤ length next) next → first < length next → Marking next old circles first at → at < length next
marking_inside next old circles first at bounded lt m = go (cases_lt at (length next))
  where
    go : (at < length next) ⊎ (length next ≤ at) → at < length next
    go (inl l) = l
    go (inr l) = absurd (let e : first ≡ length next = sym (m.back).1 ∙ (ap (hops next (m.back).0) (get_or-eq_default next (length next) l) ∙ hops_top next (m.back).0) in omega arith)

pub marking_begins : (next : List ℕ) (old : List Bool) (first : ℕ) → Leads next first first → ((z : ℕ) → Leads next first z → get_or old z false ≡ false) → Marking next old old first first
marking_begins next old first back free = record {
  same_length = refl;
  here = back;
  back = back;
  kept = λ z h. h;
  sound = λ z h. inl h;
  closed = λ z l h. absurd (false≢true (sym (free z l) ∙ h));
  begun = inl refl;
}

pub marking_goes : (next : List ℕ) (old circles : List Bool) (first at : ℕ) → length old ≡ length next → first < length next → at < length next → Leads next first first → Marking next old circles first at
    → Marking next old (set circles at true) first (get_or next at 0)
unfolding hops
marking_goes next old circles first at same inside lt circle m = record {
  same_length = length-set circles at true ∙ m.same_length;
  here = subst (Leads next first) step (Leads-on next first at m.here);
  back = subst (λ w. Leads next w first) step (onward m.back.0 m.back.1);
  kept = λ z h. raise z (m.kept z h);
  sound = λ z h. sound z h (cases_eq z at);
  closed = λ z l h. closed z l h (cases_eq z at);
  begun = begun m.begun;
}
  where
    step : next_at next at ≡ get_or next at 0
    step = get_or_default next at (length next) 0 lt

    here : get_or (set circles at true) at false ≡ true
    here = get_or-set_same circles at true false (let e : length circles ≡ length old = m.same_length in omega arith)

    other : (z : ℕ) → z ≢ at → get_or (set circles at true) z false ≡ get_or circles z false
    other z ne = get_or-set_other circles at z true false ne

    raise : (z : ℕ) → get_or circles z false ≡ true → get_or (set circles at true) z false ≡ true
    raise z h = go (cases_eq z at)
      where
        go : (z ≡ at) ⊎ (z ≡ at → ⊥) → get_or (set circles at true) z false ≡ true
        go (inl e) = ap (λ w. get_or (set circles at true) w false) e ∙ here
        go (inr ne) = other z ne ∙ h

    onward : (k : ℕ) → hops next k (next_at next at) ≡ first → Leads next (next_at next at) first
    onward zero e = subst (λ w. Leads next w first) (sym e) circle
    onward (suc k) e = (k, e)

    sound : (z : ℕ) → get_or (set circles at true) z false ≡ true → (z ≡ at) ⊎ (z ≡ at → ⊥) → (get_or old z false ≡ true) ⊎ Leads next first z
    sound z h (inl e) = inr (subst (Leads next first) (sym e) m.here)
    sound z h (inr ne) = m.sound z (sym (other z ne) ∙ h)

    closed : (z : ℕ) → Leads next first z → get_or (set circles at true) z false ≡ true → (z ≡ at) ⊎ (z ≡ at → ⊥) → (get_or (set circles at true) (next_at next z) false ≡ true) ⊎ (next_at next z ≡ get_or next at 0)
    closed z l h (inl e) = inr (ap (next_at next) e ∙ step)
    closed z l h (inr ne) = go (m.closed z l (sym (other z ne) ∙ h))
      where
        go : (get_or circles (next_at next z) false ≡ true) ⊎ (next_at next z ≡ at) → (get_or (set circles at true) (next_at next z) false ≡ true) ⊎ (next_at next z ≡ get_or next at 0)
        go (inl p) = inl (raise (next_at next z) p)
        go (inr e) = inl (ap (λ w. get_or (set circles at true) w false) e ∙ here)

    begun : (first ≡ at) ⊎ (get_or circles first false ≡ true) → (first ≡ get_or next at 0) ⊎ (get_or (set circles at true) first false ≡ true)
    begun (inl e) = inr (ap (λ w. get_or (set circles at true) w false) e ∙ here)
    begun (inr h) = inr (raise first h)

pub marking_ends : (next : List ℕ) (old circles : List Bool) (first at : ℕ) → length old ≡ length next → get_or circles at false ≡ true → Marking next old circles first at → MarksWay next old circles first
unfolding hops
marking_ends next old circles first at same end m = record { same_length = m.same_length; each = λ z. (m.sound z, up z) }
  where
    at_end : (z : ℕ) → (get_or circles (next_at next z) false ≡ true) ⊎ (next_at next z ≡ at) → get_or circles (next_at next z) false ≡ true
    at_end z (inl h) = h
    at_end z (inr e) = ap (λ w. get_or circles w false) e ∙ end

    first_told : (first ≡ at) ⊎ (get_or circles first false ≡ true) → get_or circles first false ≡ true
    first_told (inl e) = ap (λ w. get_or circles w false) e ∙ end
    first_told (inr h) = h

    told : (k : ℕ) → get_or circles (hops next k (next_at next first)) false ≡ true
    told zero = at_end first (m.closed first (Leads-trans next first at first m.here m.back) (first_told m.begun))
    told (suc k) = ap (λ w. get_or circles w false) (hops_after next k (next_at next first)) ∙ at_end (hops next k (next_at next first)) (m.closed (hops next k (next_at next first)) (k, refl) (told k))

    up : (z : ℕ) → (get_or old z false ≡ true) ⊎ Leads next first z → get_or circles z false ≡ true
    up z (inl h) = m.kept z h
    up z (inr l) = ap (λ w. get_or circles w false) (sym l.1) ∙ told l.0

abbrev tick : Bool → ℕ
tick b = cond b 1 0

pub marking_fewer : (circles : List Bool) (at : ℕ) → at < length circles → get_or circles at false ≡ false → count_by not (set circles at true) < count_by not circles
marking_fewer circles at lt unseen =
    let e : sum_by (λ s. tick (not s)) (set circles at true) + tick (not (get_or circles at false)) ≡ sum_by (λ s. tick (not s)) circles + 0 = sum_by-set (λ s. tick (not s)) circles at true false lt in
    let a : tick (not (get_or circles at false)) ≡ 1 = ap (λ b. tick (not b)) unseen in
    let f : count_by not (set circles at true) + 1 ≡ count_by not circles + 0 = ap (λ n. sum_by (λ s. tick (not s)) (set circles at true) + n) (sym a) ∙ e in
    omega (arith, f)
