-- What a closed desk leaves.
use Rattle.std.proofs.Common.{◌^◌, ◌≡◌, ℕ, ◌<◌, List, sym, refl, le_refl, ap, ◌∙◌, subst, inl, inr, arith, Option, Some}
use mathlib.Core.Option.{none, some, some-injective}
use mathlib.Core.Option as maybe
use lib.ListN.{get_elem?}
use Rattle.atomic_table.specs.Table.{State, Final, Seen}
use Rattle.ss_desk.specs.declared.view.View.{View}
use Rattle.ss_desk.specs.declared.view.Stage.TheVariants.{Idle, Holds}
use Rattle.ss_desk.specs.Journal.{entries_of, Begins, Rises}
use Rattle.ss_desk.specs.Views.{InRange, tickets_at, Covers, Live, Bears}
use Rattle.ss_desk.specs.Rule.{Agrees, TakesTurns, IsHome}
use Rattle.ss_desk.specs.Views.{CoversAll}
use Rattle.ss_desk.specs.Calls.{IsValueAtClose}
use Rattle.ss_desk.proofs.Lists.{one_at}

module _ {T F E : Type 0} (ticket_of pass_of : E → ℕ) (fixed : T → F) (entries : T → List E) (legal : F → List E → Type 0) (fix : F) where
  -- what a view bears it covers, and the number is in bounds
  bears_covers : (journal : List E) (u : View F E) (n : ℕ) → Agrees pass_of fix journal u → Bears u n → Covers u n × (n < 2 ^ 32)
  bears_covers journal u n h (inl b) = let a : InRange u.range.first u.range = (le_refl u.range.first, b.0) in let w = h.within in
      subst (λ (m : ℕ). Covers u m × (m < 2 ^ 32)) b.1 (inl a, (let g : u.range.first < u.range.end = b.0 in omega arith))
  bears_covers journal u n h (inr b) = let g = (h.pages b.0 b.1 b.2).0 in subst (λ (m : ℕ). Covers u m × (m < 2 ^ 32)) b.3 (inr g, h.taken_within b.1.number g)

  module _ (s : State (Option T) (View F E)) (r : TakesTurns ticket_of pass_of fixed entries legal fix s) (id : ℕ) (v : View F E) (at : get_elem? s.views id ≡ some v) (all : CoversAll v) where
    -- no other view bears a number
    alone : (j n : ℕ) (u : View F E) → get_elem? s.views j ≡ some u → Bears u n → u ≡ v
    alone j n u was b = let c = bears_covers r.journal u n (r.each j u was) b in let e : j ≡ id = r.apart j id u v n was at c.0 (all n c.1) in
        one_at s.views j u v was (subst (λ (k : ℕ). get_elem? s.views k ≡ some v) (sym e) at)

    pub home : v.stage ≡ Idle → IsHome fixed entries fix r.journal s.homes
    home idle = elim r.slot [
      | inl h ↦ h
      | inr h ↦ let one : tickets_at h.1.stage ≡ 1 = ap tickets_at h.3 in let able = (r.each h.0 h.1 h.2).able in let live : Live h.1 = omega arith in
          let same = alone h.0 h.1.range.first h.1 h.2 (inl (live, refl)) in
          let odd : tickets_at (Holds r.serving) ≡ tickets_at Idle = ap tickets_at (sym h.3 ∙ (ap (λ (z : View F E). z.stage) same ∙ idle)) in absurd (omega (arith, odd))
    ]

    finished : Live v → (x : T) → entries x ≡ r.journal → fixed x ≡ fix → IsValueAtClose ticket_of pass_of fixed entries legal v x
    finished live x is same = let m = r.each id v at in record {
      same = m.same live ∙ ap Some (sym same);
      lawful = subst (legal (fixed x)) (sym is) (subst (λ (f : F). legal f r.journal) (sym same) r.lawful);
      rises = subst (Rises ticket_of) (sym is) r.rises;
      known = subst (Begins v.seen) (sym is) m.known;
      own = ap (entries_of pass_of v.range.first) is ∙ m.own live;
      held = ap (entries_of pass_of v.range.first) is ∙ m.held live;
      pages = λ k p h. let q = m.pages k p h in (subst (Begins p.seen) (sym is) q.1, ap (entries_of pass_of p.number) is ∙ q.2);
      no_others = λ k e h. let b = r.borne k e (subst (λ (l : List E). get_elem? l k ≡ some e) is h) in subst (λ (z : View F E). Bears z (pass_of e)) (alone b.0 (pass_of e) b.1 b.2 b.3) b.3;
    }

  pub closes : (id : ℕ) (v : View F E) (ws : List ℕ) (xs : List (Option T)) (y : Option T) → v.stage ≡ Idle → Live v → CoversAll v → Final (Seen (TakesTurns ticket_of pass_of fixed entries legal fix) id v) ws xs → get_elem? xs 0 ≡ some y
      → (x : T) × (y ≡ Some x) × IsValueAtClose ticket_of pass_of fixed entries legal v x
  closes id v ws xs y idle live all f got =
      let s = f.0 in let r = f.1.0 in let at = f.1.1 in let h = home s r id v at all idle in
      let there : get_elem? s.homes 0 ≡ some (some (Some h.0)) = ap (λ (l : List (maybe.Option (Option T))). get_elem? l 0) h.1 in
      (h.0, one_at xs 0 y (Some h.0) got (f.4 0 (Some h.0) there), finished s r id v at all live h.0 h.2 h.3)
