-- What a call adds to a pass's own entries, and what a desk leaves that nobody called. Callers of desks rest on these.
use Rattle.std.proofs.Common.{◌≡◌, ℕ, zero, List, [], ◌∷◌, ◌++◌, length, refl, ap, sym, ◌∙◌, append_assoc, arith, inl}
use Rattle.std.proofs.Common.{inr, Option, Some}
use mathlib.Core.Option.{some, some-ne-none}
use lib.ListN.{get_elem?}
use Rattle.ss_desk.specs.declared.view.View.{View}
use Rattle.ss_desk.specs.declared.journaled.Full.{Full}
use Rattle.ss_desk.specs.Journal.{entries_of, Begins}
use Rattle.ss_desk.specs.Views.{opening_view}
use Rattle.ss_desk.specs.Calls.{EntersCall, DeniesCall, IsValueAtClose}
use Rattle.ss_desk.proofs.Lists.{append_nil, entries_of-append, entries_of-one}

module _ {E : Type 0} where
  pub begins_itself : (xs : List E) → Begins xs xs
  begins_itself xs = ([], sym (append_nil xs))

  pub begins_then : (xs ys zs : List E) → Begins xs ys → Begins ys zs → Begins xs zs
  begins_then xs ys zs a b = (a.0 ++ b.0, b.1 ∙ (ap (λ (l : List E). l ++ b.0) a.1 ∙ append_assoc xs a.0 b.0))

module _ {E : Type 0} (pass_of : E → ℕ) where
  -- others' entries add none of this pass
  more_others : (n : ℕ) (seen between : List E) → entries_of pass_of n between ≡ [] → entries_of pass_of n (seen ++ between) ≡ entries_of pass_of n seen
  more_others n seen between none = entries_of-append pass_of n seen between ∙ (ap (λ (l : List E). entries_of pass_of n seen ++ l) none ∙ append_nil (entries_of pass_of n seen))

  no_entry : (l : List E) → entries_of pass_of 0 l ≡ [] → ((k : ℕ) (e : E) → get_elem? l k ≡ some e → pass_of e ≡ 0) → l ≡ []
  no_entry [] none all = refl
  no_entry (e ∷ es) none all =
      let split : entries_of pass_of 0 (e ∷ es) ≡ e ∷ entries_of pass_of 0 es = entries_of-append pass_of 0 (e ∷ []) es ∙ ap (λ (l : List E). l ++ entries_of pass_of 0 es) (entries_of-one pass_of 0 e (all zero e refl)) in
      absurd (omega (arith, ap length (sym split ∙ none)))

module _ {F E A R : Type 0} (ticket_of pass_of : E → ℕ) (ask_of : E → A) (legal : F → List E → Type 0) (replies : F → List E → R → Type 0) (full : F → List E → Option Full) where
  -- a call that was entered adds its entry to the pass's own
  pub entered_own : (v w : View F E) (ticket : ℕ) (ask : A) (reply : R) (e : EntersCall ticket_of pass_of ask_of legal replies full v w ticket ask reply)
      → entries_of pass_of v.range.first w.seen ≡ entries_of pass_of v.range.first v.seen ++ e.entry ∷ []
  entered_own v w ticket ask reply e = let n = v.range.first in
      ap (λ (u : View F E). entries_of pass_of n u.seen) e.view ∙ (entries_of-append pass_of n (v.seen ++ e.between) (e.entry ∷ [])
      ∙ (ap (λ (l : List E). l ++ entries_of pass_of n (e.entry ∷ [])) (more_others pass_of n v.seen e.between e.others)
      ∙ ap (λ (l : List E). entries_of pass_of n v.seen ++ l) (entries_of-one pass_of n e.entry e.number)))

  pub entered_begins : (v w : View F E) (ticket : ℕ) (ask : A) (reply : R) → EntersCall ticket_of pass_of ask_of legal replies full v w ticket ask reply → Begins v.seen w.seen
  entered_begins v w ticket ask reply e = (e.between ++ e.entry ∷ [], ap (λ (u : View F E). u.seen) e.view ∙ append_assoc v.seen e.between (e.entry ∷ []))

module _ {F E : Type 0} (ticket_of pass_of : E → ℕ) (legal : F → List E → Type 0) (full : F → List E → Option Full) where
  -- one that was answered `Full` adds none
  pub denied_own : (v w : View F E) (f : Full) → DeniesCall ticket_of pass_of legal full v w f → entries_of pass_of v.range.first w.seen ≡ entries_of pass_of v.range.first v.seen
  denied_own v w f e = let n = v.range.first in ap (λ (u : View F E). entries_of pass_of n u.seen) e.view ∙ more_others pass_of n v.seen e.between e.others

  pub denied_begins : (v w : View F E) (f : Full) → DeniesCall ticket_of pass_of legal full v w f → Begins v.seen w.seen
  denied_begins v w f e = (e.between, ap (λ (u : View F E). u.seen) e.view)

module _ {T F E : Type 0} (ticket_of pass_of : E → ℕ) (fixed : T → F) (entries : T → List E) (legal : F → List E → Type 0) where
  -- a desk that was opened and closed leaves the fixed part of the opening, and no entry
  pub unserved : (f : F) (x : T) → IsValueAtClose ticket_of pass_of fixed entries legal (opening_view f) x → (fixed x ≡ f) × (entries x ≡ [])
  unserved f x h = (
    sym (let e : Some f ≡ Some (fixed x) = h.same in cc),
    no_entry pass_of (entries x) h.held (λ k e at. elim (h.no_others k e at) [
      | inl own ↦ sym own.1
      | inr page ↦ absurd (some-ne-none page.1 (sym page.2))
    ]),
  )
