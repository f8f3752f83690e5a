-- What a round keeps.
use Rattle.std.proofs.Common.{◌≡◌, ◌≢◌, ℕ, zero, suc, ◌+◌, ◌<◌, ◌≤◌, ◌⊎◌, ◌↔◌, inl, inr, List, length, get_or, Bool}
use Rattle.std.proofs.Common.{true, false, refl, sym, ◌∙◌, subst, arith}
use Rattle.std.proofs.Math.ListN.{get_or-eq_default}
use Rattle.std.proofs.lemmas.Bool.{cases_eq, cases_lt, false≢true, false_from_ne_true}
use Rattle.ss_build.specs.Marks.{Leads, WalksTo, MarksWay, AreCircles, Rounds}
use Rattle.ss_build.proofs.Marking.{top_leads, Leads-trans, way_back, closed_leads}

pub at_top : {n e : ℕ} {A B : Type 0} → n ≤ e → (e ≡ n) ⊎ ((e < n) × A) → (e ≡ n) ⊎ B
at_top le (inl q) = inl q
at_top le (inr p) = absurd (omega arith)

zero_or : (n : ℕ) → (n ≡ 0) ⊎ (0 < n)
zero_or zero = inl refl
zero_or (suc n) = inr (omega arith)

module _ (next old new : List ℕ) (circles : List Bool) (start end : ℕ) (lt : start < length next) (r : Rounds next old circles start) (w : WalksTo next old new (start + 1) start end) where
  within : (z : ℕ) → 0 < get_or old z 0 → z < length next
  within z h = go (cases_lt z (length next))
    where
      go : (z < length next) ⊎ (length next ≤ z) → z < length next
      go (inl l) = l
      go (inr l) = absurd (let e : get_or old z 0 ≡ 0 = get_or-eq_default old 0 (let s : length old ≡ length next = r.same_seen in omega arith) in omega arith)

  -- what was seen leads to what was seen, if to a place
  old_leads : (i j : ℕ) → 0 < get_or old i 0 → j < length next → Leads next i j → 0 < get_or old j 0
  old_leads i j h l g = go (closed_leads next old r.closed i j (within i h) h g)
    where
      go : (j ≡ length next) ⊎ (0 < get_or old j 0) → 0 < get_or old j 0
      go (inl e) = absurd (omega arith)
      go (inr p) = p

  -- what is new leads to the end
  new_leads : (z : ℕ) → z < length next → get_or old z 0 ≡ 0 → 0 < get_or new z 0 → (get_or new z 0 ≡ start + 1) × Leads next z end
  new_leads z l e h = go (w.fresh z l e)
    where
      go : (get_or new z 0 ≡ 0) ⊎ ((get_or new z 0 ≡ start + 1) × Leads next z end) → (get_or new z 0 ≡ start + 1) × Leads next z end
      go (inl q) = absurd (omega arith)
      go (inr p) = p

  keeps_old : (z : ℕ) → 0 < get_or old z 0 → 0 < get_or new z 0
  keeps_old z h = let e : get_or new z 0 ≡ get_or old z 0 = w.kept z h in omega arith

  was_new : (z : ℕ) → get_or new z 0 ≡ 0 → get_or old z 0 ≡ 0
  was_new z e = go (zero_or (get_or old z 0))
    where
      go : (get_or old z 0 ≡ 0) ⊎ (0 < get_or old z 0) → get_or old z 0 ≡ 0
      go (inl q) = q
      go (inr p) = absurd (let k : 0 < get_or new z 0 = keeps_old z p in omega arith)

  numbers_next : (z : ℕ) → get_or new z 0 ≤ start + 1
  numbers_next z = go (zero_or (get_or old z 0)) (cases_lt z (length next))
    where
      go : (get_or old z 0 ≡ 0) ⊎ (0 < get_or old z 0) → (z < length next) ⊎ (length next ≤ z) → get_or new z 0 ≤ start + 1
      go (inr p) l = let e : get_or new z 0 ≡ get_or old z 0 = w.kept z p in let n : get_or old z 0 ≤ start = r.numbers z in omega arith
      go (inl q) (inr l) = let e : get_or new z 0 ≡ 0 = get_or-eq_default new 0 (let s : length new ≡ length old = w.same_length in let t : length old ≡ length next = r.same_seen in omega arith) in omega arith
      go (inl q) (inl l) = at (w.fresh z l q)
        where
          at : (get_or new z 0 ≡ 0) ⊎ ((get_or new z 0 ≡ start + 1) × Leads next z end) → get_or new z 0 ≤ start + 1
          at (inl e) = omega arith
          at (inr p) = let e : get_or new z 0 ≡ start + 1 = p.0 in omega arith

  all_next : (z : ℕ) → z < start + 1 → 0 < get_or new z 0
  all_next z l = go (cases_eq z start)
    where
      go : (z ≡ start) ⊎ (z ≡ start → ⊥) → 0 < get_or new z 0
      go (inl e) = subst (λ i. 0 < get_or new i 0) (sym e) w.begun
      go (inr ne) = keeps_old z (r.all z (omega arith))

  round_with : (circles' : List Bool) → length circles' ≡ length next → ((z : ℕ) → z < length next → 0 < get_or new z 0 → (get_or circles' z false ≡ true) ↔ Leads next z z) → ((z : ℕ) → get_or new z 0 ≡ 0 → get_or circles' z false ≡ false) → Rounds next new circles' (start + 1)
  round_with circles' same told untold = record {
    same_seen = w.same_length ∙ r.same_seen;
    same_circles = same;
    numbers = numbers_next;
    closed = w.closed;
    told = told;
    untold = untold;
    all = all_next;
  }

  -- the walk ended at the top, or at a place that an earlier round has seen
  pub round_open : (end ≡ length next) ⊎ (0 < get_or old end 0) → Rounds next new circles (start + 1)
  round_open open_end = round_with circles r.same_circles (λ z l h. told z l h (zero_or (get_or old z 0))) (λ z e. r.untold z (was_new z e))
    where
      never : (z : ℕ) → z < length next → get_or old z 0 ≡ 0 → Leads next z end → Leads next z z → (end ≡ length next) ⊎ (0 < get_or old end 0) → ⊥
      never z l e g back (inl q) = let f : z ≡ length next = top_leads next z (subst (λ i. Leads next i z) q (way_back next z end back g)) in omega arith
      never z l e g back (inr p) = let f : 0 < get_or old z 0 = old_leads end z p l (way_back next z end back g) in omega arith

      told : (z : ℕ) → z < length next → 0 < get_or new z 0 → (get_or old z 0 ≡ 0) ⊎ (0 < get_or old z 0) → (get_or circles z false ≡ true) ↔ Leads next z z
      told z l h (inr p) = r.told z l p
      told z l h (inl e) = ((λ t. absurd (false≢true (sym (r.untold z e) ∙ t))), (λ back. absurd (never z l e (new_leads z l e h).1 back open_end)))

  -- the walk ended at a place of its own: that one comes back
  pub circle_back : end < length next → get_or old end 0 ≡ 0 → 0 < get_or new end 0 → Leads next end end
  circle_back l e h = (new_leads end l e h).1

  pub circle_free : end < length next → get_or old end 0 ≡ 0 → 0 < get_or new end 0 → (z : ℕ) → Leads next end z → get_or circles z false ≡ false
  circle_free l e h z g = false_from_ne_true (get_or circles z false) (λ t. go t (zero_or (get_or old z 0)))
    where
      go : get_or circles z false ≡ true → (get_or old z 0 ≡ 0) ⊎ (0 < get_or old z 0) → ⊥
      go t (inl q) = false≢true (sym (r.untold z q) ∙ t)
      go t (inr p) = let f : 0 < get_or old end 0 = old_leads z end p l (way_back next end z (circle_back l e h) g) in omega arith

  pub round_closed : (circles' : List Bool) → end < length next → get_or old end 0 ≡ 0 → 0 < get_or new end 0 → MarksWay next circles circles' end → Rounds next new circles' (start + 1)
  round_closed circles' l e h m = round_with circles' (m.same_length ∙ r.same_circles) (λ z k s. told z k s (zero_or (get_or old z 0))) untold
    where
      back : Leads next end end
      back = circle_back l e h

      told : (z : ℕ) → z < length next → 0 < get_or new z 0 → (get_or old z 0 ≡ 0) ⊎ (0 < get_or old z 0) → (get_or circles' z false ≡ true) ↔ Leads next z z
      told z k s (inr p) = ((λ t. at ((m.each z).0 t)), (λ g. (m.each z).1 (inl ((r.told z k p).1 g))))
        where
          at : (get_or circles z false ≡ true) ⊎ Leads next end z → Leads next z z
          at (inl t) = (r.told z k p).0 t
          at (inr g) = Leads-trans next z end z (way_back next end z back g) g
      told z k s (inl q) = ((λ t. at ((m.each z).0 t)), (λ g. (m.each z).1 (inr (way_back next z end g (new_leads z k q s).1))))
        where
          at : (get_or circles z false ≡ true) ⊎ Leads next end z → Leads next z z
          at (inl t) = absurd (false≢true (sym (r.untold z q) ∙ t))
          at (inr g) = Leads-trans next z end z (new_leads z k q s).1 g

      untold : (z : ℕ) → get_or new z 0 ≡ 0 → get_or circles' z false ≡ false
      untold z q = false_from_ne_true (get_or circles' z false) (λ t. at ((m.each z).0 t))
        where
          at : (get_or circles z false ≡ true) ⊎ Leads next end z → ⊥
          at (inl t) = false≢true (sym (r.untold z (was_new z q)) ∙ t)
          at (inr g) = seen (closed_leads next new w.closed end z l h g)
            where
              seen : (z ≡ length next) ⊎ (0 < get_or new z 0) → ⊥
              seen (inl f) = let b : end ≡ length next = top_leads next end (subst (λ i. Leads next i end) f (way_back next end z back g)) in omega arith
              seen (inr p) = omega arith

  pub old_end : get_or new end 0 ≢ start + 1 → (end ≡ length next) ⊎ (0 < get_or old end 0)
  old_end ne = go w.ended
    where
      go : (end ≡ length next) ⊎ ((end < length next) × (0 < get_or new end 0)) → (end ≡ length next) ⊎ (0 < get_or old end 0)
      go (inl q) = inl q
      go (inr p) = at (zero_or (get_or old end 0))
        where
          at : (get_or old end 0 ≡ 0) ⊎ (0 < get_or old end 0) → (end ≡ length next) ⊎ (0 < get_or old end 0)
          at (inl e) = absurd (ne (new_leads end p.0 e p.1).0)
          at (inr h) = inr h

  pub own_end : get_or new end 0 ≡ start + 1 → get_or old end 0 ≡ 0
  own_end e = go (zero_or (get_or old end 0))
    where
      go : (get_or old end 0 ≡ 0) ⊎ (0 < get_or old end 0) → get_or old end 0 ≡ 0
      go (inl q) = q
      go (inr p) = absurd (let k : get_or new end 0 ≡ get_or old end 0 = w.kept end p in let n : get_or old end 0 ≤ start = r.numbers end in omega arith)

pub rounds_end : (next seen : List ℕ) (circles : List Bool) (n : ℕ) → length next ≤ n → Rounds next seen circles n → AreCircles next circles
rounds_end next seen circles n le r = record { same_length = r.same_circles; each = λ i l. r.told i l (r.all i (omega arith)) }
