-- A join keeps the rule.
use Rattle.std.proofs.Common.{◌≡◌, ◌≢◌, ◌⊎◌, ℕ, zero, suc, ◌<◌, List, ◌∷◌, ◌++◌, length, set, sym, refl, ap, ◌∙◌, subst}
use Rattle.std.proofs.Common.{inl, inr, arith, Option, le_refl, cond, ltb, Bool, true, false}
use borrow.Author.Tests.{ltb-true}
use mathlib.Core.Option.{some, some-ne-none, some-injective}
use mathlib.Core.Logic.{dite}
use native.Mathlib.Decide.{ℕ_discrete}
use lib.ListN.{get_elem?}
use Rattle.atomic_table.specs.Table.{State, Joins}
use Rattle.atomic_table.proofs.Lists.{at_set, set_else, at_longer}
use Rattle.ss_desk.specs.declared.view.View.{View}
use Rattle.ss_desk.specs.declared.view.Page.{Page}
use Rattle.ss_desk.specs.declared.view.Stage.{Stage}
use Rattle.ss_desk.specs.declared.view.Stage.TheVariants.{Idle, Holds}
use Rattle.ss_desk.specs.Journal.{entries_of, Begins}
use Rattle.ss_desk.specs.Views.{Among, HasTicket, tickets_at, numbers, tickets_held, Covers, Live, Bears, page_of}
use Rattle.ss_desk.specs.Views.{joined_view, spent}
use Rattle.ss_desk.specs.Rule.{Agrees, InTurn, TakesTurns}
use Rattle.ss_desk.proofs.Lists.{one_at, set_at, set_apart, total_set, either_part, on_right, shorter, among_append}
use Rattle.ss_desk.proofs.Lists.{among_left, among_right, own_between}

module _ {T F E : Type 0} (ticket_of pass_of : E → ℕ) (fixed : T → F) (entries : T → List E) (legal : F → List E → Type 0) (fix : F) where
  abbrev Rule : State (Option T) (View F E) → Type 0
  Rule = TakesTurns ticket_of pass_of fixed entries legal fix

  -- a join
  data Whole (views : List (View F E)) (id other : ℕ) (v w : View F E) (j : ℕ) (x : View F E) : Type 0 where
    both : j ≡ id → x ≡ joined_view v w → Whole views id other v w j x
    gone : j ≡ other → x ≡ spent → Whole views id other v w j x
    kept : j ≢ id → j ≢ other → get_elem? views j ≡ some x → Whole views id other v w j x

  whole : (views : List (View F E)) (id other : ℕ) (v w : View F E) (j : ℕ) (x : View F E) → get_elem? (set (set views id (joined_view v w)) other spent) j ≡ some x → Whole views id other v w j x
  whole views id other v w j x e = elim (at_set (set views id (joined_view v w)) other j spent x e) [
    | inl h ↦ gone h.0 (sym h.1)
    | inr h ↦ elim (at_set views id j (joined_view v w) x h.1) [ inl g ↦ both g.0 (sym g.1) | inr g ↦ kept g.0 h.0 g.1 ]
  ]

  in_both : (v w : View F E) (n : ℕ) → Covers (joined_view v w) n → Covers v n ⊎ Covers w n
  in_both v w n (inl h) = inl (inl h)
  in_both v w n (inr h) = elim (among_append v.taken (w.range ∷ w.taken) n h) [ inl g ↦ inl (inr g) | inr g ↦ elim g [ inl k ↦ inr (inl k) | inr k ↦ inr (inr k) ] ]

  in_none : (n : ℕ) → Covers {F = F} {E = E} spent n → ⊥
  in_none n (inl h) = let a = h.1 in omega arith
  in_none n (inr h) = h

  module _ (s : State (Option T) (View F E)) (r : Rule s) (id other : ℕ) (v w : View F E) (at : get_elem? s.views id ≡ some v) (at' : get_elem? s.views other ≡ some w) (two : other ≢ id)
      (idle : v.stage ≡ Idle) (idle' : w.stage ≡ Idle) (live : Live v) (live' : Live w) where
    join_apart : (i j : ℕ) (a b : View F E) (n : ℕ) → Whole s.views id other v w i a → Whole s.views id other v w j b → Covers a n → Covers b n → i ≡ j
    join_apart i j a b n (both e p) (both f q) c d = e ∙ sym f
    join_apart i j a b n x (gone f q) c d = absurd (in_none n (subst (λ (z : View F E). Covers z n) q d))
    join_apart i j a b n (gone e p) y c d = absurd (in_none n (subst (λ (z : View F E). Covers z n) p c))
    join_apart i j a b n (both e p) (kept ne ne' q) c d = elim (in_both v w n (subst (λ (z : View F E). Covers z n) p c)) [
      | inl g ↦ absurd (ne (r.apart j id b v n q at d g))
      | inr g ↦ absurd (ne' (r.apart j other b w n q at' d g))
    ]
    join_apart i j a b n (kept ne ne' p) (both f q) c d = elim (in_both v w n (subst (λ (z : View F E). Covers z n) q d)) [
      | inl g ↦ absurd (ne (r.apart i id a v n p at c g))
      | inr g ↦ absurd (ne' (r.apart i other a w n p at' c g))
    ]
    join_apart i j a b n (kept ne ne' p) (kept me me' q) c d = r.apart i j a b n p q c d

    no_turn : (a : View F E) (t : ℕ) → a ≡ joined_view v w → HasTicket a.stage t → ⊥
    no_turn a t p c = subst (λ (z : Stage). HasTicket z t) (ap (λ (z : View F E). z.stage) p ∙ idle) c

    join_turns : (i j : ℕ) (a b : View F E) (t : ℕ) → Whole s.views id other v w i a → Whole s.views id other v w j b → HasTicket a.stage t → HasTicket b.stage t → i ≡ j
    join_turns i j a b t (both e p) y c d = absurd (no_turn a t p c)
    join_turns i j a b t x (both e p) c d = absurd (no_turn b t p d)
    join_turns i j a b t (gone e p) y c d = absurd (subst (λ (z : View F E). HasTicket z.stage t) p c)
    join_turns i j a b t x (gone e p) c d = absurd (subst (λ (z : View F E). HasTicket z.stage t) p d)
    join_turns i j a b t (kept ne ne' p) (kept me me' q) c d = r.turns i j a b t p q c d

    -- a pass knows as much as the longer of both
    longer_known : (b : Bool) → ltb (length v.seen) (length w.seen) ≡ b → Begins (cond b w.seen v.seen) r.journal × (entries_of pass_of v.range.first r.journal ≡ entries_of pass_of v.range.first (cond b w.seen v.seen))
    longer_known true is = let m = r.each id v at in let m' = r.each other w at' in
        (m'.known, own_between pass_of v.range.first v.seen w.seen r.journal m'.known (shorter v.seen w.seen m.known.0 m'.known.0 (sym m.known.1 ∙ m'.known.1) (let h : length v.seen < length w.seen = ltb-true (length v.seen) (length w.seen) is in omega arith)) (m.own live))
    longer_known false is = let m = r.each id v at in (m.known, m.own live)

    page_agrees : (i : ℕ) (p : Page E) → get_elem? (page_of w ∷ w.book) i ≡ some p → Among (v.taken ++ w.range ∷ w.taken) p.number × Begins p.seen r.journal × (entries_of pass_of p.number r.journal ≡ entries_of pass_of p.number p.seen)
    page_agrees zero p h = let m' = r.each other w at' in let same : page_of w ≡ p = some-injective (page_of w) p h in
        subst (λ (z : Page E). Among (v.taken ++ w.range ∷ w.taken) z.number × Begins z.seen r.journal × (entries_of pass_of z.number r.journal ≡ entries_of pass_of z.number z.seen)) same (among_right v.taken (w.range ∷ w.taken) w.range.first (inl (le_refl w.range.first, live')), m'.known, m'.own live')
    page_agrees (suc i) p h = let q = (r.each other w at').pages i p h in (among_right v.taken (w.range ∷ w.taken) p.number (inr q.0), q.1, q.2)

    both_agrees : Agrees pass_of fix r.journal (joined_view v w)
    both_agrees = let m = r.each id v at in let m' = r.each other w at' in let k = longer_known (ltb (length v.seen) (length w.seen)) refl in record {
      same = m.same;
      known = k.0;
      within = m.within;
      taken_within = λ n h. elim (among_append v.taken (w.range ∷ w.taken) n h) [ inl g ↦ m.taken_within n g | inr g ↦ elim g [ inl i ↦ omega (arith, i.1, m'.within) | inr i ↦ m'.taken_within n i ] ];
      inner = λ n a h. elim (among_append v.taken (w.range ∷ w.taken) n h) [ inl g ↦ m.inner n a g | inr g ↦ two (r.apart other id w v n at' at (elim g [ inl i ↦ inl i | inr i ↦ inr i ]) (inl a)) ];
      able = m.able;
      own = λ _. k.1;
      held = m.held;
      fresh = m.fresh;
      pages = λ i p h. elim (either_part v.book (page_of w ∷ w.book) i p h) [
        | inl g ↦ let q = m.pages g.0 p g.1 in (among_left v.taken (w.range ∷ w.taken) p.number q.0, q.1, q.2)
        | inr g ↦ page_agrees g.0 p g.1
      ];
    }

    spent_agrees : Agrees pass_of fix r.journal (spent {F = F} {E = E})
    spent_agrees = record {
      same = λ h. absurd (omega arith);
      known = (r.journal, refl);
      within = omega arith;
      taken_within = λ n h. absurd h;
      inner = λ n _ h. absurd h;
      able = omega arith;
      own = λ h. absurd (omega arith);
      held = λ h. absurd (omega arith);
      fresh = λ n a b. absurd (omega arith);
      pages = λ k p h. absurd (some-ne-none p (sym h));
    }

    agrees_whole : (j : ℕ) (x : View F E) → Whole s.views id other v w j x → Agrees pass_of fix r.journal x
    agrees_whole j x (both e p) = subst (Agrees pass_of fix r.journal) (sym p) both_agrees
    agrees_whole j x (gone e p) = subst (Agrees pass_of fix r.journal) (sym p) spent_agrees
    agrees_whole j x (kept ne ne' p) = r.each j x p

    turn_whole : (j : ℕ) (x : View F E) → Whole s.views id other v w j x → InTurn r.serving r.tickets s.homes r.journal x.seen x.stage
    turn_whole j x (both e p) = subst (InTurn r.serving r.tickets s.homes r.journal x.seen) (sym (ap (λ (z : View F E). z.stage) p ∙ idle)) tt
    turn_whole j x (gone e p) = subst (λ (z : View F E). InTurn r.serving r.tickets s.homes r.journal z.seen z.stage) (sym p) tt
    turn_whole j x (kept ne ne' p) = r.turn j x p

    joint : get_elem? (set (set s.views id (joined_view v w)) other spent) id ≡ some (joined_view v w)
    joint = set_apart (set s.views id (joined_view v w)) other id (joined_view v w) spent (λ e. two (sym e)) (set_at s.views id v (joined_view v w) at)

    untouched : (j : ℕ) (u : View F E) → j ≢ id → j ≢ other → get_elem? s.views j ≡ some u → get_elem? (set (set s.views id (joined_view v w)) other spent) j ≡ some u
    untouched j u ne ne' was = set_apart (set s.views id (joined_view v w)) other j u spent ne' (set_apart s.views id j u (joined_view v w) ne was)

    bears_left : (n : ℕ) → Bears v n → Bears (joined_view v w) n
    bears_left n (inl h) = inl h
    bears_left n (inr h) = inr (h.0, h.1, at_longer v.book (page_of w ∷ w.book) h.0 h.1 h.2, h.3)

    bears_right : (n : ℕ) → Bears w n → Bears (joined_view v w) n
    bears_right n (inl h) = let q = on_right v.book (page_of w ∷ w.book) zero (page_of w) refl in inr (q.0, page_of w, q.1, h.1)
    bears_right n (inr h) = let q = on_right v.book (page_of w ∷ w.book) (suc h.0) h.1 h.2 in inr (q.0, h.1, q.1, h.3)

    -- who bore a number, or the pass that took it in, bears it
    borne_still : (j n : ℕ) (u : View F E) → get_elem? s.views j ≡ some u → Bears u n → (i : ℕ) × (x : View F E) × (get_elem? (set (set s.views id (joined_view v w)) other spent) i ≡ some x) × Bears x n
    borne_still j n u was b = dite (ℕ_discrete j id)
        (λ e. (id, joined_view v w, joint, bears_left n (subst (λ (z : View F E). Bears z n) (one_at s.views j u v was (subst (λ (k : ℕ). get_elem? s.views k ≡ some v) (sym e) at)) b)))
        (λ ne. dite (ℕ_discrete j other)
        (λ e. (id, joined_view v w, joint, bears_right n (subst (λ (z : View F E). Bears z n) (one_at s.views j u w was (subst (λ (k : ℕ). get_elem? s.views k ≡ some w) (sym e) at')) b)))
        (λ ne'. (j, u, untouched j u ne ne' was, b)))

    -- who has the value is neither
    not_idle : (i j : ℕ) (u x : View F E) (t : ℕ) → get_elem? s.views i ≡ some x → x.stage ≡ Idle → get_elem? s.views j ≡ some u → u.stage ≡ Holds t → j ≢ i
    not_idle i j u x t p rests was h e = let same : u ≡ x = one_at s.views j u x was (subst (λ (k : ℕ). get_elem? s.views k ≡ some x) (sym e) p) in
        let odd : tickets_at (Holds t) ≡ tickets_at Idle = ap tickets_at (sym h ∙ (ap (λ (z : View F E). z.stage) same ∙ rests)) in omega (arith, odd)

  pub joins : (id other : ℕ) (v w : View F E) → v.stage ≡ Idle → w.stage ≡ Idle → Live v → Live w → Joins Rule id v other w (joined_view v w) spent
  joins id other v w idle idle' live live' s r at two there' =
      let at' : get_elem? s.views other ≡ some w = sym (set_else s.views id other (joined_view v w) two) ∙ there' in
      let a = total_set tickets_held s.views id v (joined_view v w) at in let b = total_set tickets_held (set s.views id (joined_view v w)) other w spent there' in
      let c = total_set numbers s.views id v (joined_view v w) at in let d = total_set numbers (set s.views id (joined_view v w)) other w spent there' in
      let z : tickets_at v.stage ≡ 0 = ap tickets_at idle in let z' : tickets_at w.stage ≡ 0 = ap tickets_at idle' in
      record {
        serving = r.serving;
        tickets = r.tickets;
        journal = r.journal;
        words = r.words;
        limit = r.limit;
        counted = let e = r.counted in omega arith;
        summed = let e = r.summed in omega arith;
        lawful = r.lawful;
        rises = r.rises;
        below = r.below;
        slot = elim r.slot [
          | inl x ↦ inl x
          | inr x ↦ inr (
            x.0,
            x.1,
            untouched s r id other v w at at' two idle idle' live live' x.0 x.1
                (not_idle s r id other v w at at' two idle idle' live live' id x.0 x.1 v r.serving at idle x.2 x.3) (not_idle s r id other v w at at' two idle idle' live live' other x.0 x.1 w r.serving at' idle' x.2 x.3) x.2,
            x.3,
            x.4,
          )
        ];
        each = λ j x e. agrees_whole s r id other v w at at' two idle idle' live live' j x (whole s.views id other v w j x e);
        turn = λ j x e. turn_whole s r id other v w at at' two idle idle' live live' j x (whole s.views id other v w j x e);
        turns = λ i j x y t p q. join_turns s r id other v w at at' two idle idle' live live' i j x y t (whole s.views id other v w i x p) (whole s.views id other v w j y q);
        apart = λ i j x y n p q. join_apart s r id other v w at at' two idle idle' live live' i j x y n (whole s.views id other v w i x p) (whole s.views id other v w j y q);
        borne = λ k e is. let x = r.borne k e is in borne_still s r id other v w at at' two idle idle' live live' x.0 (pass_of e) x.1 x.2 x.3;
      }
