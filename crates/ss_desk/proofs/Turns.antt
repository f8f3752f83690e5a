-- The steps of a call keep the rule.
use Rattle.std.proofs.Common.{◌≡◌, ◌≢◌, ◌⊎◌, ℕ, ◌+◌, ◌%◌, ◌^◌, ◌<◌, ◌≤◌, List, [], ◌∷◌, ◌++◌, slice_index, set, sym}
use Rattle.std.proofs.Common.{refl, le_refl, ap, ◌∙◌, subst, inl, inr, arith, Option, Some}
use mathlib.Core.Option.{none, some}
use mathlib.Core.Option as maybe
use mathlib.Core.Logic.{dite}
use native.Mathlib.Decide.{ℕ_discrete, dec_lt}
use lib.ListN.{get_elem?}
use Rattle.atomic_table.specs.Table.{State, Me, Act, put_back, rest, keeps, takes, gives, Valid, stepped, carried_after}
use Rattle.atomic_table.specs.Table.{Allows}
use Rattle.atomic_table.proofs.Lists.{at_set, set_again}
use Rattle.ss_desk.specs.declared.view.View.{View}
use Rattle.ss_desk.specs.declared.view.Stage.{Stage}
use Rattle.ss_desk.specs.declared.view.Stage.TheVariants.{Idle, Waits, Holds}
use Rattle.ss_desk.specs.Journal.{entries_of, Begins, Below, Rises}
use Rattle.ss_desk.specs.Views.{InRange, HasTicket, tickets_at, numbers, tickets_held, Covers, Live, Bears}
use Rattle.ss_desk.specs.Views.{view_after_step}
use Rattle.ss_desk.specs.Rule.{total}
use Rattle.ss_desk.specs.Rule.{Agrees, InTurn, IsHome, IsOut, TakesTurns}
use Rattle.ss_desk.specs.Steps.{LooksAtTicket, IsValueAfterCall, held_entries}
use Rattle.ss_desk.proofs.Lists.{append_nil, one_at, set_at, set_apart, at_end, after, total_set, total_le}
use Rattle.ss_desk.proofs.Lists.{entries_of-else, begins_more, rises_more, below_more}

module _ {T F E : Type 0} (ticket_of pass_of : E → ℕ) (fixed : T → F) (entries : T → List E) (legal : F → List E → Type 0) (fix : F) where
  abbrev St : Type 0
  St = State (Option T) (View F E)

  -- no ticket is near 2 ^ 64
  few : (s : St) (r : TakesTurns ticket_of pass_of fixed entries legal fix s) → r.tickets ≤ 2 ^ 63 + 2 ^ 32
  few s r = let a : total tickets_held s.views ≤ total numbers s.views = total_le tickets_held numbers s.views (λ j v at. (r.each j v at).able) in
      let b = r.counted in let c = r.limit in let d = r.summed in omega arith

  -- each new view is an old one with its numbers
  kin : (views : List (View F E)) (id : ℕ) (v : View F E) (stage : Stage) (seen : List E) (j : ℕ) (w : View F E) → get_elem? views id ≡ some v
      → get_elem? (set views id (view_after_step v stage seen)) j ≡ some w → (u : View F E) × (get_elem? views j ≡ some u) × ((n : ℕ) → Covers w n → Covers u n)
  kin views id v stage seen j w at new = elim (at_set views id j (view_after_step v stage seen) w new) [
    | inl h ↦ (v, subst (λ (k : ℕ). get_elem? views k ≡ some v) (sym h.0) at, λ n. subst (λ (x : View F E). Covers x n → Covers v n) h.1 (λ c. c))
    | inr h ↦ (w, h.1, λ n c. c)
  ]

  -- each old view is there, with what it bears
  forth : (views : List (View F E)) (id : ℕ) (v : View F E) (stage : Stage) (seen : List E) (j : ℕ) (u : View F E) → get_elem? views id ≡ some v
      → get_elem? views j ≡ some u → (w : View F E) × (get_elem? (set views id (view_after_step v stage seen)) j ≡ some w) × ((n : ℕ) → Bears u n → Bears w n)
  forth views id v stage seen j u at old = dite (ℕ_discrete j id)
      (λ e. let w = view_after_step v stage seen in let same : u ≡ v = one_at views j u v old (subst (λ (k : ℕ). get_elem? views k ≡ some v) (sym e) at) in
      (w, subst (λ (k : ℕ). get_elem? (set views id w) k ≡ some w) (sym e) (set_at views id v w at), λ n. subst (λ (x : View F E). Bears x n → Bears w n) (sym same) (λ b. b)))
      (λ ne. (u, set_apart views id j u (view_after_step v stage seen) ne old, λ n b. b))

  -- what a call does at its own view, and at the journal
  moves : (s : St) (r : TakesTurns ticket_of pass_of fixed entries legal fix s) (id : ℕ) (v : View F E) (stage : Stage) (seen : List E) → get_elem? s.views id ≡ some v
      → (words : List ℕ) (homes : List (maybe.Option (Option T))) (serving tickets : ℕ) (journal : List E)
      → words ≡ serving ∷ tickets ∷ [] → serving ≤ 2 ^ 63 → (serving + total tickets_held s.views) + tickets_at stage ≡ tickets + tickets_at v.stage
      → legal fix journal → Rises ticket_of journal → Below ticket_of serving journal → IsHome fixed entries fix journal homes ⊎ IsOut serving homes (set s.views id (view_after_step v stage seen))
      → Agrees pass_of fix journal (view_after_step v stage seen) → ((j : ℕ) (u : View F E) → j ≢ id → get_elem? s.views j ≡ some u → Agrees pass_of fix journal u)
      → InTurn serving tickets homes journal seen stage → ((j : ℕ) (u : View F E) → j ≢ id → get_elem? s.views j ≡ some u → InTurn serving tickets homes journal u.seen u.stage)
      → ((j : ℕ) (u : View F E) (t : ℕ) → j ≢ id → get_elem? s.views j ≡ some u → HasTicket u.stage t → HasTicket stage t → ⊥)
      → ((k : ℕ) (e : E) → get_elem? journal k ≡ some e → (get_elem? r.journal k ≡ some e) ⊎ Bears v (pass_of e))
      → TakesTurns ticket_of pass_of fixed entries legal fix record { words = words; homes = homes; views = set s.views id (view_after_step v stage seen) }
  moves s r id v stage seen at words homes serving tickets journal is low count lawful rises below slot mine others turn turns new born =
      let w : View F E = view_after_step v stage seen in
      let more = total_set tickets_held s.views id v w at in let same = total_set numbers s.views id v w at in
      record {
        serving = serving;
        tickets = tickets;
        journal = journal;
        words = is;
        limit = low;
        counted = omega arith;
        summed = let c = r.summed in omega arith;
        lawful = lawful;
        rises = rises;
        below = below;
        slot = slot;
        each = after (λ _ u. Agrees pass_of fix journal u) s.views id w mine others;
        turn = after (λ _ u. InTurn serving tickets homes journal u.seen u.stage) s.views id w turn turns;
        turns = λ i j a b t p q c d. elim (at_set s.views id i w a p) [
          | inl g ↦ elim (at_set s.views id j w b q) [
            | inl h ↦ g.0 ∙ sym h.0
            | inr h ↦ absurd (new j b t h.0 h.1 d (subst (λ (x : View F E). HasTicket x.stage t) (sym g.1) c))
          ]
          | inr g ↦ elim (at_set s.views id j w b q) [
            | inl h ↦ absurd (new i a t g.0 g.1 c (subst (λ (x : View F E). HasTicket x.stage t) (sym h.1) d))
            | inr h ↦ r.turns i j a b t g.1 h.1 c d
          ]
        ];
        apart = λ i j a b n p q c d. let x = kin s.views id v stage seen i a at p in let y = kin s.views id v stage seen j b at q in r.apart i j x.0 y.0 n x.1 y.1 (x.2 n c) (y.2 n d);
        borne = λ k e is. elim (born k e is) [
          | inl old ↦ let b = r.borne k e old in let f = forth s.views id v stage seen b.0 b.1 at b.2 in (b.0, f.0, f.1, f.2 (pass_of e) b.3)
          | inr own ↦ (id, w, set_at s.views id v w at, own)
        ];
      }

  has_turn : (serving tickets : ℕ) (homes : List (maybe.Option (Option T))) (journal seen : List E) (stage : Stage) (t : ℕ) → InTurn serving tickets homes journal seen stage → HasTicket stage t → (serving ≤ t) × (t < tickets)
  has_turn serving tickets homes journal seen Idle t h has = absurd has
  has_turn serving tickets homes journal seen (Waits u) t h has = (omega (arith, h.0, has), omega (arith, h.1, has))
  has_turn serving tickets homes journal seen (Holds u) t h has = (omega (arith, h.0, has), omega (arith, h.1, has))

  later : (serving tickets : ℕ) (homes : List (maybe.Option (Option T))) (journal seen : List E) (stage : Stage) → InTurn serving tickets homes journal seen stage → InTurn serving (tickets + 1) homes journal seen stage
  later serving tickets homes journal seen Idle h = tt
  later serving tickets homes journal seen (Waits u) h = (h.0, omega (arith, h.1))
  later serving tickets homes journal seen (Holds u) h = (h.0, omega (arith, h.1), h.2, h.3, h.4)

  small : (n : ℕ) → n ≤ 2 ^ 63 + 2 ^ 32 → (n + 1) % 2 ^ 64 ≡ n + 1
  small n h = omega arith

  pub draws : (slots id : ℕ) (m : Me (Option T) (View F E)) → m.1 ≡ [] → m.0.stage ≡ Idle → Live m.0
      → Allows (TakesTurns ticket_of pass_of fixed entries legal fix) slots id m 1 (λ n. (n + 1) % 2 ^ 64) (λ n m'. m' ≡ (view_after_step m.0 (Waits n) m.0.seen, []))
  draws slots id m bare idle live s r len at lt =
      let v : View F E = m.0 in let w : View F E = view_after_step v (Waits r.tickets) v.seen in
      let found : slice_index s.words 1 ≡ r.tickets = ap (λ (ws : List ℕ). slice_index ws 1) r.words in
      let none_yet : tickets_at v.stage ≡ 0 = ap tickets_at idle in let mine = r.each id v at in (
        w,
        keeps,
        tt,
        moves s r id v (Waits r.tickets) v.seen at (set s.words 1 ((slice_index s.words 1 + 1) % 2 ^ 64)) s.homes r.serving (r.tickets + 1) r.journal
            (ap (λ (ws : List ℕ). set ws 1 ((slice_index ws 1 + 1) % 2 ^ 64)) r.words ∙ ap (λ (n : ℕ). r.serving ∷ n ∷ []) (small r.tickets (few s r)))
            r.limit (let c = r.counted in omega arith) r.lawful r.rises r.below
            (elim r.slot [
              | inl h ↦ inl h
              | inr h ↦ inr (
                h.0,
                h.1,
                set_apart s.views id h.0 h.1 w
                    (λ e. let same : v ≡ h.1 = one_at s.views id v h.1 at (subst (λ (k : ℕ). get_elem? s.views k ≡ some h.1) e h.2) in let b : tickets_at v.stage ≡ 1 = ap (λ (x : View F E). tickets_at x.stage) same ∙ ap tickets_at h.3 in omega arith) h.2,
                h.3,
                h.4,
              )
            ])
            record { same = mine.same; known = mine.known; within = mine.within; taken_within = mine.taken_within; inner = mine.inner; able = omega arith; own = mine.own; held = mine.own; fresh = mine.fresh; pages = mine.pages }
            (λ j u ne old. r.each j u old)
            (let c = r.counted in let a : r.serving ≤ r.tickets = omega arith in let b : r.tickets < r.tickets + 1 = omega arith in (a, b))
            (λ j u ne old. later r.serving r.tickets s.homes r.journal u.seen u.stage (r.turn j u old))
            (λ j u t ne old has is. let h = has_turn r.serving r.tickets s.homes r.journal u.seen u.stage t (r.turn j u old) has in let lt = h.1 in omega arith)
            (λ k e is. inl is),
        λ k. (view_after_step v (Waits (sym found k)) v.seen, bare k),
      )

  away : (views : List (View F E)) (id j : ℕ) (v u : View F E) (a b : ℕ) → get_elem? views id ≡ some v → get_elem? views j ≡ some u → j ≡ id → v.stage ≡ Waits a → u.stage ≡ Holds b → ⊥
  away views id j v u a b at old e w h = let same : v ≡ u = one_at views id v u at (subst (λ (k : ℕ). get_elem? views k ≡ some u) e old) in
      let odd : Waits a ≡ Holds b = sym w ∙ (ap (λ (x : View F E). x.stage) same ∙ h) in absurd (cc)

  -- a look that leaves all as it is
  stays : (s : St) (r : TakesTurns ticket_of pass_of fixed entries legal fix s) (id : ℕ) (v : View F E) → get_elem? s.views id ≡ some v → TakesTurns ticket_of pass_of fixed entries legal fix record { words = set s.words 0 (slice_index s.words 0); homes = s.homes; views = set s.views id v }
  stays s r id v at =
      let words_same : set s.words 0 (slice_index s.words 0) ≡ s.words = ap (λ (ws : List ℕ). set ws 0 (slice_index ws 0)) r.words ∙ sym r.words in
      subst (λ (vs : List (View F E)). TakesTurns ticket_of pass_of fixed entries legal fix record { words = set s.words 0 (slice_index s.words 0); homes = s.homes; views = vs }) (sym (set_again s.views id v at))
      (subst (λ (ws : List ℕ). TakesTurns ticket_of pass_of fixed entries legal fix record { words = ws; homes = s.homes; views = s.views }) (sym words_same) r)

  -- a slot that was at home is taken, or given back: no other pass has it
  elsewhere : (serving tickets : ℕ) (homes homes' : List (maybe.Option (Option T))) (journal seen : List E) (stage : Stage) → (HasTicket stage serving → ⊥) → InTurn serving tickets homes journal seen stage → InTurn serving tickets homes' journal seen stage
  elsewhere serving tickets homes homes' journal seen Idle clear h = tt
  elsewhere serving tickets homes homes' journal seen (Waits u) clear h = h
  elsewhere serving tickets homes homes' journal seen (Holds u) clear h = absurd (clear (sym h.0))

  takes_it : (s : St) (r : TakesTurns ticket_of pass_of fixed entries legal fix s) (id t : ℕ) (v : View F E) (x : T) → get_elem? s.views id ≡ some v → v.stage ≡ Waits t → r.serving ≡ t → t < 2 ^ 63
      → s.homes ≡ some (Some x) ∷ [] → entries x ≡ r.journal → TakesTurns ticket_of pass_of fixed entries legal fix record { words = set s.words 0 (slice_index s.words 0); homes = set s.homes 0 none; views = set s.views id (view_after_step v (Holds t) (entries x)) }
  takes_it s r id t v x at wait e low home is =
      let mine = r.each id v at in let turn = subst (InTurn r.serving r.tickets s.homes r.journal v.seen) wait (r.turn id v at) in let one : tickets_at v.stage ≡ 1 = ap tickets_at wait in
      let out : set s.homes 0 none ≡ none ∷ [] = ap (λ (h : List (maybe.Option (Option T))). set h 0 none) home in
      let has : HasTicket v.stage t = subst (λ (z : Stage). HasTicket z t) (sym wait) refl in
      let alone : (j : ℕ) (u : View F E) → j ≢ id → get_elem? s.views j ≡ some u → HasTicket u.stage t → ⊥ = λ j u ne old h. ne (r.turns j id u v t old at h has) in
      moves s r id v (Holds t) (entries x) at (set s.words 0 (slice_index s.words 0)) (set s.homes 0 none) r.serving r.tickets r.journal (ap (λ (ws : List ℕ). set ws 0 (slice_index ws 0)) r.words)
      r.limit (let c = r.counted in omega arith) r.lawful r.rises r.below
      (inr (id, view_after_step v (Holds t) (entries x), set_at s.views id v (view_after_step v (Holds t) (entries x)) at, ap Holds (sym e), out))
      record {
        same = mine.same;
        known = ([], sym is ∙ sym (append_nil (entries x)));
        within = mine.within;
        taken_within = mine.taken_within;
        inner = mine.inner;
        able = subst (λ (n : ℕ). n ≤ numbers v) one mine.able;
        own = λ _. ap (entries_of pass_of v.range.first) (sym is);
        held = λ _. ap (entries_of pass_of v.range.first) (sym is);
        fresh = mine.fresh;
        pages = mine.pages;
      }
      (λ j u ne old. r.each j u old)
      (e, turn.1, low, out, is)
      (λ j u ne old. elsewhere r.serving r.tickets s.homes (set s.homes 0 none) r.journal u.seen u.stage (λ h. alone j u ne old (subst (HasTicket u.stage) e h)) (r.turn j u old))
      (λ j u n ne old has' same. alone j u ne old (subst (HasTicket u.stage) (sym same) has'))
      (λ k f h. inl h)

  pub looks : (slots id t : ℕ) (m : Me (Option T) (View F E)) → m.1 ≡ [] → m.0.stage ≡ Waits t → Live m.0
      → Allows (TakesTurns ticket_of pass_of fixed entries legal fix) slots id m 0 (λ n. n) (LooksAtTicket ticket_of pass_of fixed entries legal m)
  looks slots id t m bare wait live s r len at lt =
      let v : View F E = m.0 in let mine = r.each id v at in let turn = subst (InTurn r.serving r.tickets s.homes r.journal v.seen) wait (r.turn id v at) in
      let found : slice_index s.words 0 ≡ r.serving = ap (λ (ws : List ℕ). slice_index ws 0) r.words in
      let same_words : set s.words 0 (slice_index s.words 0) ≡ r.serving ∷ r.tickets ∷ [] = ap (λ (ws : List ℕ). set ws 0 (slice_index ws 0)) r.words in
      let Goal : Type 0 = (w : View F E) × (a : Act (Option T)) × Valid s.homes m.1 a × TakesTurns ticket_of pass_of fixed entries legal fix (stepped s 0 (slice_index s.words 0) id m.1 w a) × LooksAtTicket ticket_of pass_of fixed entries legal m (slice_index s.words 0) (w, carried_after m.1 a) in
      let stand : ((HasTicket v.stage (slice_index s.words 0)) → slice_index s.words 0 < 2 ^ 63 → ⊥) → Goal = λ no. (v, keeps, tt, stays s r id v at, ((λ has lt. absurd (no has lt)), λ _. refl)) in
      dite (ℕ_discrete r.serving t)
      (λ e. dite (dec_lt t (2 ^ 63))
      (λ low. elim r.slot [
        | inl h ↦ let x : T = h.0 in let w : View F E = view_after_step v (Holds t) (entries x) in let now : t ≡ slice_index s.words 0 = sym (found ∙ e) in let log_is : r.journal ≡ entries x = sym h.2 in (
          w,
          takes 0 (Some x),
          ap (λ (l : List (maybe.Option (Option T))). get_elem? l 0) h.1,
          takes_it s r id t v x at wait e low h.1 h.2,
          (
            (λ has lt. record {
              value = x;
              me = λ k. (view_after_step v (Holds (now k)) (entries x), (0, Some x) ∷ bare k);
              same = mine.same live ∙ ap Some (sym h.3);
              lawful = subst (λ (f : F). legal f (entries x)) (sym h.3) (subst (legal fix) log_is r.lawful);
              rises = subst (Rises ticket_of) log_is r.rises;
              below = subst (λ (n : ℕ). Below ticket_of n (entries x)) (e ∙ now) (subst (Below ticket_of r.serving) log_is r.below);
              known = subst (Begins v.seen) log_is mine.known;
              own = ap (entries_of pass_of v.range.first) (sym log_is) ∙ mine.own live;
            }),
            λ no. absurd (no (subst (λ (z : Stage). HasTicket z (slice_index s.words 0)) (sym wait) now) (subst (λ (n : ℕ). n < 2 ^ 63) now low)),
          ),
        )
        | inr h ↦ let same : h.0 ≡ id = r.turns h.0 id h.1 v t h.2 at (subst (λ (z : Stage). HasTicket z t) (sym h.3) e) (subst (λ (z : Stage). HasTicket z t) (sym wait) refl) in
            absurd (away s.views id h.0 v h.1 t r.serving at h.2 same wait h.3)
      ])
      (λ high. stand (λ has lt. high (subst (λ (n : ℕ). n < 2 ^ 63) (found ∙ e) lt))))
      (λ ne. stand (λ has lt. ne (let h : t ≡ slice_index s.words 0 = subst (λ (x : Stage). HasTicket x (slice_index s.words 0)) wait has in sym (h ∙ found))))

  passed : (serving tickets : ℕ) (homes homes' : List (maybe.Option (Option T))) (journal log' seen : List E) (stage : Stage) → (HasTicket stage serving → ⊥) → InTurn serving tickets homes journal seen stage → InTurn (serving + 1) tickets homes' log' seen stage
  passed serving tickets homes homes' journal log' seen Idle clear h = tt
  passed serving tickets homes homes' journal log' seen (Waits u) clear h = let ne : u ≢ serving = clear in let a = h.0 in let b = h.1 in let c : serving + 1 ≤ u = omega arith in (c, b)
  passed serving tickets homes homes' journal log' seen (Holds u) clear h = absurd (clear (sym h.0))

  agrees_else : (journal : List E) (e : E) (u : View F E) → ((n : ℕ) → Covers u n → (pass_of e) ≢ n) → Agrees pass_of fix journal u → Agrees pass_of fix (journal ++ e ∷ []) u
  agrees_else journal e u ne h = record {
    same = h.same;
    known = begins_more u.seen journal e h.known;
    within = h.within;
    taken_within = h.taken_within;
    inner = h.inner;
    able = h.able;
    own = λ live. entries_of-else pass_of u.range.first journal e (ne u.range.first (inl (le_refl u.range.first, live))) ∙ h.own live;
    held = λ live. entries_of-else pass_of u.range.first journal e (ne u.range.first (inl (le_refl u.range.first, live))) ∙ h.held live;
    fresh = λ n lo hi. entries_of-else pass_of n journal e (ne n (inl (let g : u.range.first ≤ n = omega arith in g, hi))) ∙ h.fresh n lo hi;
    pages = λ k p at. let g = h.pages k p at in (g.0, begins_more p.seen journal e g.1, entries_of-else pass_of p.number journal e (ne p.number (inr g.0)) ∙ g.2);
  }

  record Grown (s : St) (r : TakesTurns ticket_of pass_of fixed entries legal fix s) (id : ℕ) (v : View F E) (journal : List E) : Type 0 where
    rises : Rises ticket_of journal
    below : Below ticket_of (r.serving + 1) journal
    mine : Agrees pass_of fix journal (view_after_step v Idle journal)
    others : (j : ℕ) (u : View F E) → j ≢ id → get_elem? s.views j ≡ some u → Agrees pass_of fix journal u
    born : (k : ℕ) (e : E) → get_elem? journal k ≡ some e → (get_elem? r.journal k ≡ some e) ⊎ Bears v (pass_of e)

  grows : (s : St) (r : TakesTurns ticket_of pass_of fixed entries legal fix s) (id : ℕ) (v : View F E) → get_elem? s.views id ≡ some v → Live v → (journal : List E)
      → (journal ≡ r.journal) ⊎ ((e : E) × (journal ≡ r.journal ++ e ∷ []) × ((ticket_of e) ≡ r.serving) × ((pass_of e) ≡ v.range.first)) → Grown s r id v journal
  grows s r id v at live journal (inl is) = let mine = r.each id v at in subst (Grown s r id v) (sym is) record {
    rises = r.rises;
    below = λ k e h. omega (arith, r.below k e h);
    mine = record { same = mine.same; known = ([], sym (append_nil r.journal)); within = mine.within; taken_within = mine.taken_within; inner = mine.inner; able = omega arith; own = λ _. refl; held = λ _. refl; fresh = mine.fresh; pages = mine.pages };
    others = λ j u ne old. r.each j u old;
    born = λ k e h. inl h;
  }
  grows s r id v at live journal (inr g) = let mine = r.each id v at in let e : E = g.0 in let first = v.range.first in
      let low : (ticket_of e) < r.serving + 1 = omega (arith, g.2) in
      subst (Grown s r id v) (sym g.1) record {
        rises = rises_more ticket_of r.journal e (subst (λ (n : ℕ). Below ticket_of n r.journal) (sym g.2) r.below) r.rises;
        below = below_more ticket_of r.serving (r.serving + 1) r.journal e (omega arith) r.below low;
        mine = record {
          same = mine.same;
          known = ([], sym (append_nil (r.journal ++ e ∷ [])));
          within = mine.within;
          taken_within = mine.taken_within;
          inner = mine.inner;
          able = omega arith;
          own = λ _. refl;
          held = λ _. refl;
          fresh = λ n lo hi. entries_of-else pass_of n r.journal e (λ is. omega (arith, is, g.3)) ∙ mine.fresh n lo hi;
          pages = λ k p there. let h = mine.pages k p there in (h.0, begins_more p.seen r.journal e h.1, entries_of-else pass_of p.number r.journal e (λ is. mine.inner p.number (subst (λ (n : ℕ). InRange n v.range) (sym g.3 ∙ is) (le_refl first, live)) h.0) ∙ h.2);
        };
        others = λ j u ne old. agrees_else r.journal e u (λ n c is. ne (r.apart j id u v n old at c (inl (subst (λ (m : ℕ). InRange m v.range) (sym g.3 ∙ is) (le_refl first, live))))) (r.each j u old);
        born = λ k f h. elim (at_end r.journal e f k h) [ inl old ↦ inl old | inr new ↦ inr (inl (live, sym g.3 ∙ ap (λ (z : E). (pass_of z)) new.1)) ];
      }

  pub does : (slots id t : ℕ) (m : Me (Option T) (View F E)) (x : T) → m.1 ≡ (0, Some x) ∷ [] → m.0.stage ≡ Holds t → Live m.0 → IsValueAfterCall ticket_of pass_of fixed entries legal m.0 t x
      → Allows (TakesTurns ticket_of pass_of fixed entries legal fix) slots id m 0 (λ n. (n + 1) % 2 ^ 64) (λ n m'. m' ≡ (view_after_step m.0 Idle (held_entries entries m.1), []))
  does slots id t m x holds hold live made s r len at lt =
      let v : View F E = m.0 in let mine = r.each id v at in let turn = subst (InTurn r.serving r.tickets s.homes r.journal v.seen) hold (r.turn id v at) in
      let journal : List E = entries x in let one : tickets_at v.stage ≡ 1 = ap tickets_at hold in
      let g = grows s r id v at live journal (elim made.last [
        | inl h ↦ inl (h ∙ turn.4)
        | inr h ↦ inr (h.0, h.1 ∙ ap (λ (l : List E). l ++ h.0 ∷ []) turn.4, h.2 ∙ sym turn.0, h.3)
      ]) in
      let few' : r.serving ≤ 2 ^ 63 + 2 ^ 32 = let c = r.limit in omega arith in
      let full : set s.homes 0 (some (Some x)) ≡ some (Some x) ∷ [] = ap (λ (h : List (maybe.Option (Option T))). set h 0 (some (Some x))) turn.3 in
      let back : (c : List (ℕ × Option T)) → c ≡ (0, Some x) ∷ [] → (put_back s.homes c ≡ set s.homes 0 (some (Some x))) × (rest c ≡ []) × (held_entries entries c ≡ journal) =
      λ c is. (ap (put_back s.homes) is, ap rest is, ap (held_entries entries) is) in
      let b = back m.1 holds in
      let has : HasTicket v.stage t = subst (λ (z : Stage). HasTicket z t) (sym hold) refl in
      let both : Some (fixed x) ≡ Some fix = sym made.same ∙ mine.same live in let lit : fixed x ≡ fix = cc in (
        view_after_step v Idle journal,
        gives,
        tt,
        moves s r id v Idle journal at (set s.words 0 ((slice_index s.words 0 + 1) % 2 ^ 64)) (put_back s.homes m.1) (r.serving + 1) r.tickets journal
            (ap (λ (ws : List ℕ). set ws 0 ((slice_index ws 0 + 1) % 2 ^ 64)) r.words ∙ ap (λ (n : ℕ). n ∷ r.tickets ∷ []) (small r.serving few'))
            (omega (arith, turn.0, turn.2)) (let c = r.counted in omega arith)
            (subst (λ (f : F). legal f journal) lit made.lawful) g.rises g.below
            (inl (x, b.0 ∙ full, refl, lit))
            g.mine g.others
            tt
            (λ j u ne old. passed r.serving r.tickets s.homes (put_back s.homes m.1) r.journal journal u.seen u.stage (λ h. ne (r.turns j id u v t old at (subst (HasTicket u.stage) turn.0 h) has)) (r.turn j u old))
            (λ j u n ne old has' no_has. no_has)
            g.born,
        λ k. (view_after_step v Idle (sym b.2 k), b.1 k),
      )
