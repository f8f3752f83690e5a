-- A way up is no longer than the entries are many.
use Rattle.std.proofs.Common.{option_and_then, ◌≡◌, ◌≢◌, ◌↔◌, ℕ, zero, suc, ◌+◌, ◌-◌, ◌<◌, ◌≤◌, ◌==◌, nat_eq, nat_lt}
use Rattle.std.proofs.Common.{List, [], ◌∷◌, map, Bool, true, false, cond, ◌||◌, ◌⊎◌, inl, inr, refl, sym, ap, ◌∙◌}
use Rattle.std.proofs.Common.{arith, Option, Some, None, unwrap_or, is_some, length}
use Rattle.std.specs.List.{IsDistinct, AllByRecursion}
use Rattle.std.specs.Set.{is_member}
use Rattle.std.specs.Cmp.{nat_eq_equiv}
use Rattle.std.proofs.lemmas.Bool.{false≢true, or_parts, eqb-true, ltb-true, ltb-false, eqb-false, eq-eqb}
use Rattle.std.proofs.lemmas.Map.Made.{length-le_from_is_member}
use Rattle.ss_tree.specs.declared.entries.Entry.{Entry}
use Rattle.ss_tree.specs.Trees.{steps}
use Rattle.ss_tree.specs.Entries.{entry, above, ancestor, up, is_met_above, is_below, IsBelow, IsTree}
use Rattle.ss_tree.proofs.Edits.{entry-nil, entry-cons}
use Rattle.ss_tree.proofs.Changes.{up_top, live_steps}
use Rattle.std.proofs.lemmas.Option.{none-some}

pub walk : (ℕ → ℕ) → ℕ → ℕ → List ℕ
walk step zero x = []
walk step (suc n) x = x ∷ walk step n (step x)

pub length-walk : (step : ℕ → ℕ) (n x : ℕ) → length (walk step n x) ≡ n
unfolding walk
length-walk step zero x = refl
length-walk step (suc n) x = ap suc (length-walk step n (step x))

pub member_walk : (step : ℕ → ℕ) (n x z : ℕ) → is_member nat_eq (walk step n x) z ≡ true → (i : ℕ) × (i < n) × (steps step i x ≡ z)
unfolding walk steps
member_walk step zero x z h = absurd (false≢true h)
member_walk step (suc n) x z h = go (z == x) refl h (member_walk step n (step x) z)
  where
    go : (b : Bool) → (z == x) ≡ b → (b || is_member nat_eq (walk step n (step x)) z) ≡ true → (is_member nat_eq (walk step n (step x)) z ≡ true → (i : ℕ) × (i < n) × (steps step i (step x) ≡ z)) → (i : ℕ) × (i < suc n) × (steps step i x ≡ z)
    go true q k ih = (zero, omega arith, sym (eqb-true z x q))
    go false q k ih = let r = ih k in (suc r.0, (let lt : r.0 < n = r.1 in omega arith), r.2)

pub steps_add : (step : ℕ → ℕ) (a b x : ℕ) → steps step (a + b) x ≡ steps step b (steps step a x)
unfolding steps
steps_add step zero b x = let e : 0 + b ≡ b = omega arith in ap (λ n. steps step n x) e
steps_add step (suc a) b x = let e : suc a + b ≡ suc (a + b) = omega arith in ap (λ n. steps step n x) e ∙ steps_add step a b (step x)

-- the first time that the top is met
pub first_zero : (step : ℕ → ℕ) (n x : ℕ) → steps step n x ≡ 0 → (m : ℕ) × (steps step m x ≡ 0) × ((i : ℕ) → i < m → steps step i x ≢ 0)
unfolding steps
first_zero step zero x e = (zero, e, λ i l. absurd (omega arith))
first_zero step (suc n) x e = go (x == 0) refl (first_zero step n (step x) e)
  where
    go : (b : Bool) → (x == 0) ≡ b → (m : ℕ) × (steps step m (step x) ≡ 0) × ((i : ℕ) → i < m → steps step i (step x) ≢ 0) → (m : ℕ) × (steps step m x ≡ 0) × ((i : ℕ) → i < m → steps step i x ≢ 0)
    go true q r = (zero, eqb-true x 0 q, λ i l. absurd (omega arith))
    go false q r = (suc r.0, r.1, not_yet)
      where
        not_yet : (i : ℕ) → i < suc r.0 → steps step i x ≢ 0
        not_yet zero l = eqb-false x 0 q
        not_yet (suc i) l = r.2 i (omega arith)

pub all_apart : (x : ℕ) (ys : List ℕ) → is_member nat_eq ys x ≡ false → AllByRecursion (λ y. nat_eq x y ≡ false) ys
all_apart x [] h = tt
all_apart x (y ∷ ys) h = let p = or_parts (nat_eq x y) (is_member nat_eq ys x) h in (p.0, all_apart x ys p.1)

-- until then no node is met twice
pub distinct_walk : (step : ℕ → ℕ) (n x : ℕ) → steps step n x ≡ 0 → ((i : ℕ) → i < n → steps step i x ≢ 0) → IsDistinct nat_eq (walk step n x)
unfolding walk steps IsDistinct
distinct_walk step zero x e far = tt
distinct_walk step (suc n) x e far = (all_apart x (walk step n (step x)) (fresh (is_member nat_eq (walk step n (step x)) x) refl), distinct_walk step n (step x) e (λ i l. far (suc i) (omega arith)))
  where
    fresh : (b : Bool) → is_member nat_eq (walk step n (step x)) x ≡ b → b ≡ false
    fresh false q = refl
    fresh true q = absurd (again (member_walk step n (step x) x q))
      where
        again : (i : ℕ) × (i < n) × (steps step i (step x) ≡ x) → ⊥
        again r = far (suc n - suc r.0) (let l : r.0 < n = r.1 in omega arith) (sooner ∙ e)
          where
            split : suc r.0 + (suc n - suc r.0) ≡ suc n
            split = let l : r.0 < n = r.1 in omega arith

            sooner : steps step (suc n - suc r.0) x ≡ steps step n (step x)
            sooner = ap (steps step (suc n - suc r.0)) (sym r.2) ∙ (sym (steps_add step (suc r.0) (suc n - suc r.0) x) ∙ ap (λ m. steps step m x) split)

pub live_member : (j : ℕ) (es : List Entry) → is_some (entry j es) ≡ true → is_member nat_eq (map (λ e. e.node) es) j ≡ true
live_member j [] l = absurd (false≢true (sym (ap is_some (entry-nil j)) ∙ l))
live_member j (f ∷ fs) l = go (j == f.node) (sym (ap is_some (entry-cons j f fs)) ∙ l) (live_member j fs)
  where
    go : (b : Bool) → is_some (cond b (Some f) (entry j fs)) ≡ true → (is_some (entry j fs) ≡ true → is_member nat_eq (map (λ e. e.node) fs) j ≡ true) → (b || is_member nat_eq (map (λ e. e.node) fs) j) ≡ true
    go true h ih = refl
    go false h ih = ih h

pub length-nodes : (es : List Entry) → length (map (λ e. e.node) es) ≡ length es
length-nodes [] = refl
length-nodes (e ∷ es) = ap suc (length-nodes es)

-- the top is met within as many steps as there are entries
pub within : (es : List Entry) → IsTree es → (j : ℕ) (e : Entry) → entry j es ≡ Some e → (m : ℕ) × (steps (up es) m j ≡ 0) × (m ≤ length es)
within es t j e q =
    let r = t.reaches j e q in
    let f = first_zero (up es) r.0 j r.1 in
    let l : length (walk (up es) f.0 j) ≤ length (map (λ d. d.node) es) =
    length-le_from_is_member nat_eq_equiv (walk (up es) f.0 j) (map (λ d. d.node) es) (distinct_walk (up es) f.0 j f.1 f.2)
    (λ z h. let w = member_walk (up es) f.0 j z h in live_member z es (ap (λ i. is_some (entry i es)) (sym w.2) ∙ live_steps es t w.0 j (ap is_some q))) in
    let a : length (walk (up es) f.0 j) ≡ f.0 = length-walk (up es) f.0 j in
    let b : length (map (λ d. d.node) es) ≡ length es = length-nodes es in
    (f.0, f.1, omega arith)

pub stays : (es : List Entry) → IsTree es → (n : ℕ) → steps (up es) n 0 ≡ 0
unfolding steps
stays es t zero = refl
stays es t (suc n) = ap (steps (up es) n) (up_top es t) ∙ stays es t n

pub up_some : (es : List Entry) (x j : ℕ) → above es x ≡ Some j → up es x ≡ j
unfolding up
up_some es x j q = ap (λ o. unwrap_or o 0) q

up_nowhere : (es : List Entry) (x : ℕ) → above es x ≡ None → up es x ≡ 0
unfolding up
up_nowhere es x q = ap (λ o. unwrap_or o 0) q

-- what is met on the way up is found
met_on_way : (es : List Entry) → IsTree es → (top n i x : ℕ) → i < n → steps (up es) (suc i) x ≡ top → top ≢ 0 → is_met_above es top n (above es x) ≡ true
unfolding steps
met_on_way es t top zero i x l e ne = absurd (omega arith)
met_on_way es t top (suc n) i x l e ne = go (above es x) refl (λ m j. met_on_way es t top n m j)
  where
    go : (o : Option ℕ) → above es x ≡ o → ((m j : ℕ) → m < n → steps (up es) (suc m) j ≡ top → top ≢ 0 → is_met_above es top n (above es j) ≡ true) → is_met_above es top (suc n) o ≡ true
    go None q ih = absurd (ne (sym e ∙ (ap (steps (up es) i) (up_nowhere es x q) ∙ stays es t i)))
    go (Some j) q ih = at i l (sym (ap (steps (up es) i) (up_some es x j q)) ∙ e)
      where
        either : (b c : Bool) → c ≡ true → (b || c) ≡ true
        either true c h = refl
        either false c h = h

        at : (m : ℕ) → m < suc n → steps (up es) m j ≡ top → ((top == j) || is_met_above es top n (above es j)) ≡ true
        at zero l2 e2 = ap (λ b. b || is_met_above es top n (above es j)) (eq-eqb top j (sym e2))
        at (suc m) l2 e2 = either (top == j) (is_met_above es top n (above es j)) (ih m j (omega arith) e2 ne)

compare_le : (a b : ℕ) → (a ≤ suc b) ⊎ (suc b < a)
compare_le a b = go (nat_lt (suc b) a) refl
  where
    go : (c : Bool) → nat_lt (suc b) a ≡ c → (a ≤ suc b) ⊎ (suc b < a)
    go true q = inr (ltb-true (suc b) a q)
    go false q = inl (ltb-false (suc b) a q)

-- where a node isn't found on the way up from p, no step from p leads to it
pub never_met : (es : List Entry) → IsTree es → (k p : ℕ) (f : Entry) → entry p es ≡ Some f → (k == 0) ≡ false → (k == p) ≡ false → is_below es k p ≡ false → (i : ℕ) → steps (up es) i p ≢ k
unfolding is_below steps
never_met es t k p f q ne np nb zero e = eqb-false k p np (sym e)
never_met es t k p f q ne np nb (suc i) e = false≢true (sym nb ∙ met_on_way es t k (length es) i p (bound (within es t p f q)) e (eqb-false k 0 ne))
  where
    bound : (m : ℕ) × (steps (up es) m p ≡ 0) × (m ≤ length es) → i < length es
    bound w = go (compare_le w.0 i)
      where
        past : w.0 ≤ suc i → ⊥
        past le = eqb-false k 0 ne (sym e ∙ (ap (λ n. steps (up es) n p) split ∙ (steps_add (up es) w.0 (suc i - w.0) p ∙ (ap (steps (up es) (suc i - w.0)) w.1 ∙ stays es t (suc i - w.0)))))
          where
            split : suc i ≡ w.0 + (suc i - w.0)
            split = omega arith

        go : (w.0 ≤ suc i) ⊎ (suc i < w.0) → i < length es
        go (inl le) = absurd (past le)
        go (inr lt) = let le : w.0 ≤ length es = w.2 in omega arith

-- one step more of the look for a node
pub met_step : (es : List Entry) (top n j : ℕ) → (top == j) ≡ false → is_met_above es top (suc n) (Some j) ≡ is_met_above es top n (above es j)
met_step es top n j other = ap (λ b. b || is_met_above es top n (above es j)) other

-- ---- how far up doesn't matter

nowhere : (es : List Entry) (top n k : ℕ) → above es k ≡ None → ancestor es n k ≡ Some top → ⊥
nowhere es top zero k h q = none-some _ (sym h ∙ q)
nowhere es top (suc n) k h q = none-some _ (sym (ap (option_and_then (ancestor es n)) h) ∙ q)

met_above : (es : List Entry) (top most n k : ℕ) → n < most → ancestor es n k ≡ Some top → is_met_above es top most (above es k) ≡ true
met_above es top zero n k l q = absurd (omega arith)
met_above es top (suc most) zero k l q = ap (is_met_above es top (suc most)) q ∙ ap (λ b. b || is_met_above es top most (above es top)) (eq-eqb top top refl)
met_above es top (suc most) (suc n) k l q = go (above es k) refl (λ j. met_above es top most n j (omega arith))
  where
    either : (b c : Bool) → c ≡ true → (b || c) ≡ true
    either true c h = refl
    either false c h = h

    go : (o : Option ℕ) → above es k ≡ o → ((j : ℕ) → ancestor es n j ≡ Some top → is_met_above es top most (above es j) ≡ true) → is_met_above es top (suc most) o ≡ true
    go None h ih = absurd (nowhere es top (suc n) k h q)
    go (Some j) h ih = either (top == j) (is_met_above es top most (above es j)) (ih j (sym (ap (option_and_then (ancestor es n)) h) ∙ q))

pub above_met : (es : List Entry) (top most k : ℕ) → is_met_above es top most (above es k) ≡ true → (n : ℕ) × (ancestor es n k ≡ Some top)
above_met es top zero k h = absurd (false≢true h)
above_met es top (suc most) k h = go (above es k) refl h (λ j. above_met es top most j)
  where
    at : (j : ℕ) → above es k ≡ Some j → (b : Bool) → (top == j) ≡ b → (b || is_met_above es top most (above es j)) ≡ true → (is_met_above es top most (above es j) ≡ true → (n : ℕ) × (ancestor es n j ≡ Some top)) → (n : ℕ) × (ancestor es n k ≡ Some top)
    at j q true c k2 ih = (zero, q ∙ ap Some (sym (eqb-true top j c)))
    at j q false c k2 ih = let r = ih k2 in (suc r.0, ap (option_and_then (ancestor es r.0)) q ∙ r.1)

    go : (o : Option ℕ) → above es k ≡ o → is_met_above es top (suc most) o ≡ true → ((j : ℕ) → is_met_above es top most (above es j) ≡ true → (n : ℕ) × (ancestor es n j ≡ Some top)) → (n : ℕ) × (ancestor es n k ≡ Some top)
    go None q k2 ih = absurd (false≢true k2)
    go (Some j) q k2 ih = at j q (top == j) refl k2 (ih j)

above_top : (es : List Entry) → IsTree es → above es 0 ≡ None
unfolding above
above_top es t = ap (option_and_then (λ e. e.parent)) t.top

-- no step but the last may lead to the top of the tree
not_top : (es : List Entry) → IsTree es → (top n i k : ℕ) → i ≤ n → ancestor es n k ≡ Some top → steps (up es) i k ≢ 0
unfolding steps
not_top es t top n zero k l q = λ z. nowhere es top n k (ap (above es) z ∙ above_top es t) q
not_top es t top zero (suc i) k l q = absurd (omega arith)
not_top es t top (suc n) (suc i) k l q = go (above es k) refl (λ j. not_top es t top n i j (omega arith))
  where
    go : (o : Option ℕ) → above es k ≡ o → ((j : ℕ) → ancestor es n j ≡ Some top → steps (up es) i j ≢ 0) → steps (up es) i (up es k) ≢ 0
    go None h ih = absurd (nowhere es top (suc n) k h q)
    go (Some j) h ih = λ z. ih j (sym (ap (option_and_then (ancestor es n)) h) ∙ q) (ap (steps (up es) i) (sym (up_some es k j h)) ∙ z)

live_below : (es : List Entry) (top n k : ℕ) → ancestor es n k ≡ Some top → (e : Entry) × (entry k es ≡ Some e)
unfolding above
live_below es top n k q = go (entry k es) refl
  where
    go : (o : Option Entry) → entry k es ≡ o → (e : Entry) × (entry k es ≡ Some e)
    go None h = absurd (nowhere es top n k (ap (option_and_then (λ e. e.parent)) h) q)
    go (Some e) h = (e, h)

pub below_is : (es : List Entry) → IsTree es → (top k : ℕ) → (is_below es top k ≡ true) ↔ IsBelow es top k
unfolding is_below
below_is es t top k = (above_met es top (length es) k, from)
  where
    from : (n : ℕ) × (ancestor es n k ≡ Some top) → is_met_above es top (length es) (above es k) ≡ true
    from r =
        let e = live_below es top r.0 k r.1 in
        let w = within es t k e.0 e.1 in
        met_above es top (length es) r.0 k (near w (compare_le w.0 r.0)) r.1
      where
        near : (w : (m : ℕ) × (steps (up es) m k ≡ 0) × (m ≤ length es)) → (w.0 ≤ suc r.0) ⊎ (suc r.0 < w.0) → r.0 < length es
        near w (inr lt) = let le : w.0 ≤ length es = w.2 in omega arith
        near w (inl le) = pick (nat_lt r.0 w.0) refl
          where
            pick : (b : Bool) → nat_lt r.0 w.0 ≡ b → r.0 < length es
            pick true c = let lt : r.0 < w.0 = ltb-true r.0 w.0 c in let l2 : w.0 ≤ length es = w.2 in omega arith
            pick false c = absurd (not_top es t top r.0 w.0 k (ltb-false r.0 w.0 c) r.1 w.1)
