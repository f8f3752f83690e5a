-- What the loops over the desks keep.
use Rattle.std.proofs.Common.{◌≡◌, ◌≢◌, ◌⊎◌, inl, inr, ℕ, zero, suc, ◌+◌, ◌<◌, ◌≤◌, List, [], ◌∷◌, ◌++◌, length}
use Rattle.std.proofs.Common.{length-append, append_assoc, set, get_or, refl, ap, sym, ◌∙◌, subst, arith, min, le_trans}
use Rattle.std.proofs.lemmas.List.{get_or-set_other}
use Rattle.std.proofs.lemmas.Grind.{get_or-set_at}
use mathlib.Core.Logic.{dite}
use native.Mathlib.Decide.{ℕ_discrete, dec_lt}
use mathlib.Core.Option.{some, some-injective}
use lib.ListN.{get_elem?}
use Rattle.ss_desk.specs.declared.desk.Desk.{Desk}
use Rattle.ss_desk.specs.declared.pass.RawPass.{RawPass}
use Rattle.ss_desk.specs.declared.view.View.{View}
use Rattle.ss_desk.specs.Desks.{view, IsPassOf, SameDesk}
use Rattle.ss_desk.specs.Views.{joined_view, lower, upper, numbers}
use Rattle.ss_desk.specs.Calls.{IsValueAtClose}
use Rattle.ss_desk.specs.Views.{CoversAll}
use Rattle.ss_desk.proofs.Lists.{at_end, at_length, append_nil}
use Rattle.ss_desk.specs.Passes.{AreOf, view_at}
use Rattle.ss_desk.proofs.Beside.{get_left, get_last, last_long, view_left, view_last, view_here, view_else, view_is}
use Rattle.ss_desk.proofs.Beside.{length_set, are_set, are_but, are_more}
use Rattle.ss_town.specs.Places.{HandsBack}
use Rattle.ss_town.specs.Steps.{Joining, Halving, LeastBelow}

module _ {T F E A R : Type 0} (desks : List (Desk T F E A R)) where
  pub halves_first : (ps : List (RawPass T F E)) → AreOf desks ps → Halving desks ps ps [] 0
  halves_first ps h = record { of = h; length_is = refl; count = refl; others = λ j d p l. absurd (omega arith); before = λ j l. absurd (omega arith); after = λ j l. refl }

  pub halves_next : (ps qs rs : List (RawPass T F E)) (i : ℕ) (old p r : RawPass T F E) → Halving desks ps qs rs i → i < length ps → old ≡ get_or qs i old → SameDesk old p × SameDesk old r
      → view p ≡ lower (view old) → view r ≡ upper (view old) → Halving desks ps (set qs i p) (rs ++ r ∷ []) (i + 1)
  halves_next ps qs rs i old p r h lt is beside low high =
      let here : i < length qs = omega (arith, h.length_is) in
      let at_desk : i < length desks = omega (arith, h.of.0) in
      let was : view old ≡ view_at ps i = ap (λ (x : RawPass T F E). view x) is ∙ sym (view_is qs i old here) ∙ h.after i (omega arith) in record {
        of = are_set desks qs i old p h.of at_desk is beside.0;
        length_is = length_set qs i p ∙ h.length_is;
        count = last_long rs r ∙ ap (λ n. n + 1) h.count;
        others = λ j d q l. dite (dec_lt j i)
            (λ less. subst (λ (x : RawPass T F E). IsPassOf (get_or desks j d) x) (sym (get_left rs (r ∷ []) j q (omega (arith, h.count)))) (h.others j d q less))
            (λ more. let e : j ≡ i = omega arith in let k : j ≡ length rs = e ∙ sym h.count in
            subst (λ (n : ℕ). IsPassOf (get_or desks n d) (get_or (rs ++ r ∷ []) n q)) (sym k)
            (subst (λ (x : RawPass T F E). IsPassOf (get_or desks (length rs) d) x) (sym (get_last rs [] r q))
            (beside.1 ∙ ap (λ (x : RawPass T F E). x.seat.table_id) is ∙ subst (λ (n : ℕ). IsPassOf (get_or desks n d) (get_or qs i old)) (sym h.count) (h.of.1 i d old at_desk))));
        before = λ j l. dite (dec_lt j i)
            (λ less. (view_else qs i j p (λ e. omega arith) ∙ (h.before j less).0, view_left rs (r ∷ []) j (omega (arith, h.count)) ∙ (h.before j less).1))
            (λ more. let e : j ≡ i = omega arith in (
              ap (view_at (set qs i p)) e ∙ view_here qs i p here ∙ low ∙ ap lower was ∙ ap (λ n. lower (view_at ps n)) (sym e),
              ap (view_at (rs ++ r ∷ [])) (e ∙ sym h.count) ∙ view_last rs [] r ∙ high ∙ ap upper was ∙ ap (λ n. upper (view_at ps n)) (sym e),
            ));
        after = λ j l. view_else qs i j p (λ e. omega arith) ∙ h.after j (omega arith);
      }

  pub halves_many : (ps qs rs : List (RawPass T F E)) (i : ℕ) (old : RawPass T F E) → Halving desks ps qs rs i → i < length ps → old ≡ get_or qs i old → 2 ≤ numbers (view_at ps i) → 2 ≤ numbers (view old)
  halves_many ps qs rs i old h lt is many =
      let here : i < length qs = omega (arith, h.length_is) in
      subst (λ (v : View F E). 2 ≤ numbers v) (sym (ap (λ (x : RawPass T F E). view x) is ∙ sym (view_is qs i old here) ∙ h.after i (omega arith))) many

  pub halves_all : (ps qs rs : List (RawPass T F E)) (i : ℕ) → Halving desks ps qs rs i → i ≡ length ps → AreOf desks rs
  halves_all ps qs rs i h e = (h.count ∙ e ∙ sym h.length_is ∙ h.of.0, λ j d p l. h.others j d p (omega (arith, e, h.length_is, h.of.0)))

  pub joins_first : (ps os : List (RawPass T F E)) → AreOf desks ps → AreOf desks os → Joining desks ps os ps os
  joins_first ps os h k = record { of = h; length_is = refl; others = k; tail = []; split = sym (append_nil os); before = λ j l. refl; after = λ j l m. absurd (omega arith) }

  pub joins_next : (ps os qs rest : List (RawPass T F E)) (i : ℕ) (x old p : RawPass T F E) → Joining desks ps os qs (rest ++ x ∷ []) → i ≡ length rest → length ps ≡ length desks → old ≡ get_or qs i old → SameDesk old p
      → view p ≡ joined_view (view old) (view x) → Joining desks ps os (set qs i p) rest
  joins_next ps os qs rest i x old p h at long is beside both =
      let more = last_long rest x in
      let all : length os ≡ length rest + length (x ∷ h.tail) = ap length (h.split ∙ append_assoc rest (x ∷ []) h.tail) ∙ length-append rest (x ∷ h.tail) in
      let in_os : length rest < length os = omega (arith, all) in
      let at_desk : i < length desks = omega (arith, h.others.0, in_os) in
      let here : i < length qs = omega (arith, h.of.0) in
      let was : view old ≡ view_at ps i = ap (λ (y : RawPass T F E). view y) is ∙ sym (view_is qs i old here) ∙ h.before i (omega arith) in
      let is_x : view_at os i ≡ view x = ap (view_at os) at ∙ ap (λ (l : List (RawPass T F E)). view_at l (length rest)) (h.split ∙ append_assoc rest (x ∷ []) h.tail) ∙ view_last rest h.tail x in record {
        of = are_set desks qs i old p h.of at_desk is beside;
        length_is = length_set qs i p ∙ h.length_is;
        others = h.others;
        tail = x ∷ h.tail;
        split = h.split ∙ append_assoc rest (x ∷ []) h.tail;
        before = λ j l. view_else qs i j p (λ e. omega arith) ∙ h.before j (omega arith);
        after = λ j l in_all. dite (ℕ_discrete j i)
            (λ e. ap (view_at (set qs i p)) e ∙ view_here qs i p here ∙ both ∙ ap (λ (v : View F E). joined_view v (view x)) was ∙ ap (λ (v : View F E). joined_view (view_at ps i) v) (sym is_x) ∙ ap (λ n. joined_view (view_at ps n) (view_at os n)) (sym e))
            (λ ne. view_else qs i j p ne ∙ h.after j (omega arith) in_all);
      }

  pub joins_in : (ps os qs rest : List (RawPass T F E)) (i : ℕ) (x : RawPass T F E) → Joining desks ps os qs (rest ++ x ∷ []) → i ≡ length rest → i < length desks
  joins_in ps os qs rest i x h at =
      let all : length os ≡ length rest + length (x ∷ h.tail) = ap length (h.split ∙ append_assoc rest (x ∷ []) h.tail) ∙ length-append rest (x ∷ h.tail) in omega (arith, all, h.others.0)

  pub joins_of : (ps os qs rest : List (RawPass T F E)) (i : ℕ) (x d' : RawPass T F E) (d : Desk T F E A R) → Joining desks ps os qs (rest ++ x ∷ []) → i ≡ length rest → IsPassOf (get_or desks i d) x
  joins_of ps os qs rest i x d' d h at =
      let all : length os ≡ length rest + length (x ∷ h.tail) = ap length (h.split ∙ append_assoc rest (x ∷ []) h.tail) ∙ length-append rest (x ∷ h.tail) in
      let is_x : get_or os i d' ≡ x = ap (λ n. get_or os n d') at ∙ ap (λ (l : List (RawPass T F E)). get_or l (length rest) d') (h.split ∙ append_assoc rest (x ∷ []) h.tail) ∙ get_last rest h.tail x d' in
      subst (λ (y : RawPass T F E). IsPassOf (get_or desks i d) y) is_x (h.others.1 i d d' (omega (arith, all, h.others.0)))

module _ {T F E : Type 0} (ticket_of pass_of : E → ℕ) (fixed : T → F) (entries : T → List E) (legal : F → List E → Type 0) (uids : List ℕ) where
  Ended : View F E → T → Type 0
  Ended v x = IsValueAtClose ticket_of pass_of fixed entries legal v x

  pub handed_more : (ps : List (RawPass T F E)) (p : RawPass T F E) (bs : List (ℕ × T)) (uid : ℕ) (b : T) → HandsBack ticket_of pass_of fixed entries legal uids ps bs → get_elem? uids (length ps) ≡ some uid
      → IsValueAtClose ticket_of pass_of fixed entries legal (view p) b → HandsBack ticket_of pass_of fixed entries legal uids (ps ++ p ∷ []) (bs ++ (uid, b) ∷ [])
  unfolding Ended
  handed_more ps p bs uid b h place done = (
    last_long bs (uid, b) ∙ ap (λ n. n + 1) h.0 ∙ sym (last_long ps p),
    λ i u c at. elim (at_end bs (uid, b) (u, c) i at) [
      | inl old ↦ let k = h.1 i u c old in (k.0, subst (λ (v : View F E). Ended v c) (sym (view_left ps (p ∷ []) i (let n : i < length bs = at_length bs i (u, c) old in omega (arith, h.0)))) k.1)
      | inr new ↦
          let e : i ≡ length ps = new.0 ∙ h.0 in
          let same : uid ≡ u = ap (λ (x : ℕ × T). x.0) new.1 in
          let both : b ≡ c = ap (λ (x : ℕ × T). x.1) new.1 in (
            ap (get_elem? uids) e ∙ place ∙ ap some same,
            subst (λ (x : T). Ended (view_at (ps ++ p ∷ []) i) x) both
                (subst (λ (v : View F E). Ended v b) (sym (ap (view_at (ps ++ p ∷ [])) e ∙ view_last ps [] p)) done),
          )
    ],
  )

module _ {T F E : Type 0} (ps : List (RawPass T F E)) where
  pub least_next : (n m k r : ℕ) (p : RawPass T F E) → LeastBelow n ps k → k < length ps → p ≡ get_or ps k p → m ≡ numbers (view p) → r ≡ min n m → LeastBelow r ps (k + 1)
  least_next n m k r p h inside is has min_is =
      let here : m ≡ numbers (view_at ps k) = has ∙ ap (λ (x : RawPass T F E). numbers (view x)) is ∙ sym (ap (λ (v : View F E). numbers v) (view_is ps k p inside)) in
      let below : r ≤ n = grind (arith, min_is) in
      let below_new : r ≤ m = grind (arith, min_is) in
      let least : (i : ℕ) → i < k + 1 → r ≤ numbers (view_at ps i) = λ i l. dite (ℕ_discrete i k)
      (λ e. subst (λ j. r ≤ numbers (view_at ps j)) (sym e) (subst (λ x. r ≤ x) here below_new))
      (λ ne. le_trans below (h.below i (omega (arith, ne)))) in
      dite (dec_lt m n)
      (λ new. record { place = k; inside = inside; there = (let e : r ≡ m = grind (arith, min_is) in e ∙ here); below = least })
      (λ old. record { place = h.place; inside = h.inside; there = (let e : r ≡ n = grind (arith, min_is) in e ∙ h.there); below = least })
