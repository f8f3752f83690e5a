-- A split keeps the rule.
use Rattle.std.proofs.Common.{◌≡◌, ◌≢◌, ℕ, ◌+◌, ◌/◌, ◌<◌, ◌≤◌, List, [], ◌∷◌, ◌++◌, length, set, sym, refl, ap, ◌∙◌}
use Rattle.std.proofs.Common.{subst, inl, inr, arith, Option, length-set}
use mathlib.Core.Option.{some, some-ne-none}
use mathlib.Core.Logic.{dite}
use native.Mathlib.Decide.{ℕ_discrete}
use lib.ListN.{get_elem?}
use Rattle.atomic_table.specs.Table.{State, Splits}
use Rattle.atomic_table.proofs.Lists.{at_set, at_longer}
use Rattle.ss_desk.specs.declared.view.View.{View}
use Rattle.ss_desk.specs.declared.view.Stage.TheVariants.{Idle}
use Rattle.ss_desk.specs.Journal.{entries_of}
use Rattle.ss_desk.specs.Views.{InRange, HasTicket, tickets_at, numbers, tickets_held, Covers, Bears, middle, lower}
use Rattle.ss_desk.specs.Views.{upper}
use Rattle.ss_desk.specs.Rule.{Agrees, InTurn, TakesTurns}
use Rattle.ss_desk.proofs.Lists.{one_at, at_length, set_at, set_apart, at_end, total_set, total_snoc, entries_of-append}
use Rattle.ss_desk.proofs.Lists.{append_empty}

module _ {T F E : Type 0} (ticket_of pass_of : E → ℕ) (fixed : T → F) (entries : T → List E) (legal : F → List E → Type 0) (fix : F) where
  abbrev Rule : State (Option T) (View F E) → Type 0
  Rule = TakesTurns ticket_of pass_of fixed entries legal fix

  halves : (a b : ℕ) → a + 2 ≤ b → (a < (a + b) / 2) × ((a + b) / 2 < b)
  halves a b h = (omega arith, omega arith)

  -- each view after a split is the new one, or has the numbers of an old one
  data Part (views : List (View F E)) (id : ℕ) (v : View F E) (j : ℕ) (w : View F E) : Type 0 where
    low : j ≡ id → w ≡ lower v → Part views id v j w
    high : j ≡ length views → w ≡ upper v → Part views id v j w
    old : j ≢ id → get_elem? views j ≡ some w → Part views id v j w

  part : (views : List (View F E)) (id : ℕ) (v : View F E) (j : ℕ) (w : View F E) → get_elem? (set views id (lower v) ++ upper v ∷ []) j ≡ some w → Part views id v j w
  part views id v j w e = elim (at_end (set views id (lower v)) (upper v) w j e) [
    | inl h ↦ elim (at_set views id j (lower v) w h) [ inl g ↦ low g.0 (sym g.1) | inr g ↦ old g.0 g.1 ]
    | inr h ↦ high (h.0 ∙ length-set views id (lower v)) (sym h.1)
  ]

  -- the two views of a split hold and cover what the old one did, and no number twice
  in_low : (v : View F E) (n : ℕ) → middle v < v.range.end → Covers (lower v) n → Covers v n
  in_low v n hi (inl h) = inl (h.0, omega (arith, h.1))
  in_low v n hi (inr h) = inr h

  in_high : (v : View F E) (n : ℕ) → v.range.first < middle v → Covers (upper v) n → InRange n v.range × (middle v ≤ n)
  in_high v n lo (inl h) = ((omega (arith, h.0), h.1), h.0)
  in_high v n lo (inr h) = absurd h

  no_both : (fix' : F) (journal : List E) (v : View F E) (n : ℕ) → Agrees pass_of fix' journal v → v.range.first < middle v → Covers (lower v) n → Covers (upper v) n → ⊥
  no_both fix' journal v n mine lo (inl h) c = let k = in_high v n lo c in let a = k.1 in let b = h.1 in omega arith
  no_both fix' journal v n mine lo (inr h) c = let k = in_high v n lo c in mine.inner n k.0 h

  bears_low : (v : View F E) (n : ℕ) → v.range.first < middle v → Bears v n → Bears (lower v) n
  bears_low v n lo (inl h) = inl (lo, h.1)
  bears_low v n lo (inr h) = inr h

  module _ (s : State (Option T) (View F E)) (r : Rule s) (id : ℕ) (v : View F E) (at : get_elem? s.views id ≡ some v) (lo : v.range.first < middle v) (hi : middle v < v.range.end) where
    there : get_elem? s.views id ≡ some v
    there = at

    beyond : (j : ℕ) (w : View F E) → j ≡ length s.views → get_elem? s.views j ≡ some w → ⊥
    beyond j w e h = omega (arith, at_length s.views j w h)

    split_apart : (i j : ℕ) (a b : View F E) (n : ℕ) → Part s.views id v i a → Part s.views id v j b → Covers a n → Covers b n → i ≡ j
    split_apart i j a b n (low e p) (low f q) c d = e ∙ sym f
    split_apart i j a b n (low e p) (high f q) c d = absurd (no_both fix r.journal v n (r.each id v at) lo (subst (λ (z : View F E). Covers z n) p c) (subst (λ (z : View F E). Covers z n) q d))
    split_apart i j a b n (low e p) (old ne q) c d = absurd (ne (r.apart j id b v n q at d (in_low v n hi (subst (λ (z : View F E). Covers z n) p c))))
    split_apart i j a b n (high e p) (low f q) c d = absurd (no_both fix r.journal v n (r.each id v at) lo (subst (λ (z : View F E). Covers z n) q d) (subst (λ (z : View F E). Covers z n) p c))
    split_apart i j a b n (high e p) (high f q) c d = e ∙ sym f
    split_apart i j a b n (high e p) (old ne q) c d = absurd (ne (r.apart j id b v n q at d (inl (in_high v n lo (subst (λ (z : View F E). Covers z n) p c)).0)))
    split_apart i j a b n (old ne p) (low f q) c d = absurd (ne (r.apart i id a v n p at c (in_low v n hi (subst (λ (z : View F E). Covers z n) q d))))
    split_apart i j a b n (old ne p) (high f q) c d = absurd (ne (r.apart i id a v n p at c (inl (in_high v n lo (subst (λ (z : View F E). Covers z n) q d)).0)))
    split_apart i j a b n (old ne p) (old ne' q) c d = r.apart i j a b n p q c d

    split_turns : (i j : ℕ) (a b : View F E) (t : ℕ) → Part s.views id v i a → Part s.views id v j b → HasTicket a.stage t → HasTicket b.stage t → i ≡ j
    split_turns i j a b t (low e p) (low f q) c d = e ∙ sym f
    split_turns i j a b t p (high f q) c d = absurd (subst (λ (z : View F E). HasTicket z.stage t) q d)
    split_turns i j a b t (high e p) q c d = absurd (subst (λ (z : View F E). HasTicket z.stage t) p c)
    split_turns i j a b t (low e p) (old ne q) c d = absurd (ne (r.turns j id b v t q at d (subst (λ (z : View F E). HasTicket z.stage t) p c)))
    split_turns i j a b t (old ne p) (low f q) c d = absurd (ne (r.turns i id a v t p at c (subst (λ (z : View F E). HasTicket z.stage t) q d)))
    split_turns i j a b t (old ne p) (old ne' q) c d = r.turns i j a b t p q c d

    low_agrees : v.stage ≡ Idle → Agrees pass_of fix r.journal (lower v)
    low_agrees idle = let m = r.each id v at in record {
      same = λ _. m.same (omega arith);
      known = m.known;
      within = let w = m.within in omega arith;
      taken_within = m.taken_within;
      inner = λ n h. m.inner n (h.0, omega (arith, h.1));
      able = let z : tickets_at v.stage ≡ 0 = ap tickets_at idle in omega arith;
      own = λ _. m.own (omega arith);
      held = λ _. m.held (omega arith);
      fresh = λ n a b. m.fresh n a (omega arith);
      pages = m.pages;
    }

    high_agrees : Agrees pass_of fix r.journal (upper v)
    high_agrees = let m = r.each id v at in let none_yet : entries_of pass_of (middle v) r.journal ≡ [] = m.fresh (middle v) lo hi in record {
      same = λ _. m.same (omega arith);
      known = m.known;
      within = m.within;
      taken_within = λ n h. absurd h;
      inner = λ n _ h. absurd h;
      able = omega arith;
      held = λ _. none_yet;
      own = λ _. none_yet ∙ sym (append_empty (entries_of pass_of (middle v) v.seen) (entries_of pass_of (middle v) m.known.0) (sym (entries_of-append pass_of (middle v) v.seen m.known.0) ∙ (ap (entries_of pass_of (middle v)) (sym m.known.1) ∙ none_yet)));
      fresh = λ n a b. m.fresh n (omega arith) b;
      pages = λ k p h. absurd (some-ne-none p (sym h));
    }

    agrees_part : v.stage ≡ Idle → (j : ℕ) (w : View F E) → Part s.views id v j w → Agrees pass_of fix r.journal w
    agrees_part idle j w (low e p) = subst (Agrees pass_of fix r.journal) (sym p) (low_agrees idle)
    agrees_part idle j w (high e p) = subst (Agrees pass_of fix r.journal) (sym p) high_agrees
    agrees_part idle j w (old ne p) = r.each j w p

    turn_part : (j : ℕ) (w : View F E) → Part s.views id v j w → InTurn r.serving r.tickets s.homes r.journal w.seen w.stage
    turn_part j w (low e p) = subst (λ (z : View F E). InTurn r.serving r.tickets s.homes r.journal z.seen z.stage) (sym p) (r.turn id v at)
    turn_part j w (high e p) = subst (λ (z : View F E). InTurn r.serving r.tickets s.homes r.journal z.seen z.stage) (sym p) tt
    turn_part j w (old ne p) = r.turn j w p

    -- each old view is there, with what it bears
    still : (j : ℕ) (u : View F E) → get_elem? s.views j ≡ some u → (w : View F E) × (get_elem? (set s.views id (lower v) ++ upper v ∷ []) j ≡ some w) × (w.stage ≡ u.stage) × ((n : ℕ) → Bears u n → Bears w n)
    still j u was = dite (ℕ_discrete j id)
        (λ e. let same : u ≡ v = one_at s.views j u v was (subst (λ (k : ℕ). get_elem? s.views k ≡ some v) (sym e) at) in (
          lower v,
          subst (λ (k : ℕ). get_elem? (set s.views id (lower v) ++ upper v ∷ []) k ≡ some (lower v)) (sym e) (at_longer (set s.views id (lower v)) (upper v ∷ []) id (lower v) (set_at s.views id v (lower v) at)),
          ap (λ (z : View F E). z.stage) (sym same),
          λ n b. bears_low v n lo (subst (λ (z : View F E). Bears z n) same b),
        ))
        (λ ne. (u, at_longer (set s.views id (lower v)) (upper v ∷ []) j u (set_apart s.views id j u (lower v) ne was), refl, λ n b. b))

  pub splits : (id : ℕ) (v : View F E) → v.stage ≡ Idle → v.range.first + 2 ≤ v.range.end → Splits Rule id v (lower v) (upper v)
  splits id v idle wide s r at =
      let h = halves v.range.first v.range.end wide in let lo : v.range.first < middle v = h.0 in let hi : middle v < v.range.end = h.1 in
      let a = total_set tickets_held s.views id v (lower v) at in let b = total_snoc tickets_held (set s.views id (lower v)) (upper v) in
      let c = total_set numbers s.views id v (lower v) at in let d = total_snoc numbers (set s.views id (lower v)) (upper v) in
      record {
        serving = r.serving;
        tickets = r.tickets;
        journal = r.journal;
        words = r.words;
        limit = r.limit;
        counted = let e = r.counted in omega arith;
        summed = let e = r.summed in omega arith;
        lawful = r.lawful;
        rises = r.rises;
        below = r.below;
        slot = elim r.slot [ inl x ↦ inl x | inr x ↦ let w = still s r id v at lo hi x.0 x.1 x.2 in inr (x.0, w.0, w.1, w.2 ∙ x.3, x.4) ];
        each = λ j w e. agrees_part s r id v at lo hi idle j w (part s.views id v j w e);
        turn = λ j w e. turn_part s r id v at lo hi j w (part s.views id v j w e);
        turns = λ i j x y t p q. split_turns s r id v at lo hi i j x y t (part s.views id v i x p) (part s.views id v j y q);
        apart = λ i j x y n p q. split_apart s r id v at lo hi i j x y n (part s.views id v i x p) (part s.views id v j y q);
        borne = λ k e is. let x = r.borne k e is in let w = still s r id v at lo hi x.0 x.1 x.2 in (x.0, w.0, w.1, w.3 (pass_of e) x.3);
      }
