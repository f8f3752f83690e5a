-- What a look tells, and what a turn makes of the value. A seat is what its pass knows and the slots that it has.
use Rattle.std.specs.Prelude.{◌^◌, ◌≡◌, ◌⊎◌, ℕ, ◌<◌, List, [], ◌∷◌, ◌++◌, Option, Some, None}
use Rattle.atomic_table.specs.Table.{Me}
use Rattle.ss_desk.specs.declared.view.View.{View}
use Rattle.ss_desk.specs.declared.view.Stage.TheVariants.{Holds}
use Rattle.ss_desk.specs.Journal.{entries_of, Begins, Below, Rises}
use Rattle.ss_desk.specs.Views.{HasTicket, view_after_step}

-- the entries of the value in the slot that a seat has
abbrev pub held_entries : {T E : Type 0} → (T → List E) → List (ℕ × Option T) → List E
held_entries entries [] = []
held_entries entries (c ∷ cs) = elim c.1 [ None ↦ [] | Some x ↦ entries x ]

module _ {T F E : Type 0} (ticket_of pass_of : E → ℕ) (fixed : T → F) (entries : T → List E) (legal : F → List E → Type 0) where
  -- The seat took the slot with ticket n: it has the value, whose entries it has seen. They begin with what it had seen before, and no new one is its own
  pub record Took (v : View F E) (n : ℕ) (m : Me (Option T) (View F E)) : Type 0 where
    pub value : T
    pub me : m ≡ (view_after_step v (Holds n) (entries value), (0, Some value) ∷ [])
    pub same : v.fixed ≡ Some (fixed value)
    pub lawful : legal (fixed value) (entries value)
    pub rises : Rises ticket_of (entries value)
    pub below : Below ticket_of n (entries value)
    pub known : Begins v.seen (entries value)
    pub own : entries_of pass_of v.range.first (entries value) ≡ entries_of pass_of v.range.first v.seen

  -- where the ticket found in SERVING is the pass's own, and below 2^63, the seat took the slot; else it is as before
  abbrev pub LooksAtTicket : Me (Option T) (View F E) → ℕ → Me (Option T) (View F E) → Type 0
  LooksAtTicket m n m' = (HasTicket m.0.stage n → n < 2 ^ 63 → Took m.0 n m') × ((HasTicket m.0.stage n → n < 2 ^ 63 → ⊥) → m' ≡ m)

  -- The value x after the call of ticket t: its entries are what the pass has seen, or that and the call's entry
  pub record IsValueAfterCall (v : View F E) (t : ℕ) (x : T) : Type 0 where
    pub same : v.fixed ≡ Some (fixed x)
    pub lawful : legal (fixed x) (entries x)
    pub last : (entries x ≡ v.seen) ⊎ ((e : E) × (entries x ≡ v.seen ++ e ∷ []) × (ticket_of e ≡ t) × (pass_of e ≡ v.range.first))
