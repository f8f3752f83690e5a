-- What a call says follows from what its steps tell.
use Rattle.std.proofs.Common.{◌≡◌, ◌⊎◌, ℕ, ◌+◌, ◌<◌, ◌≤◌, List, [], ◌∷◌, ◌++◌, get_or, sym, refl, ap, ◌∙◌, subst, inl}
use Rattle.std.proofs.Common.{inr, arith, append_assoc, Option, Some, None, Result, Ok, Err, MatchResult, OnOk, OnErr}
use Rattle.std.proofs.Common.{IfOk, IfErr}
use Rattle.std.specs.List.{All}
use Rattle.atomic_table.specs.Table.{Me, rest}
use Rattle.ss_desk.specs.declared.journaled.Full.{Full}
use Rattle.ss_desk.specs.declared.view.View.{View}
use Rattle.ss_desk.specs.declared.view.Stage.{Stage}
use Rattle.ss_desk.specs.declared.view.Stage.TheVariants.{Idle, Waits, Holds}
use Rattle.ss_desk.specs.declared.view.Range.{Range}
use Rattle.ss_desk.specs.Journal.{AddsCall, entries_of, Below, Rises}
use Rattle.ss_desk.specs.Views.{range_of, numbers, Live, view_after_step}
use Rattle.ss_desk.specs.Steps.{Took, IsValueAfterCall}
use Rattle.ss_desk.specs.Calls.{EntersCall, DeniesCall}
use Rattle.ss_desk.proofs.Lists.{append_nil, entries_of-append, rises_more, at_get, append_fixed}

module _ {E : Type 0} (ticket_of : E → ℕ) where
  pub all_below : (t : ℕ) (journal : List E) → Below ticket_of t journal → All (λ e. ticket_of e < t) journal
  all_below t journal h k d lt = h k (get_or journal k d) (at_get journal k d lt)

module _ {T F E : Type 0} (ticket_of pass_of : E → ℕ) (fixed : T → F) (entries : T → List E) (legal : F → List E → Type 0) where
  pub holds_it : (v : View F E) (t : ℕ) (m : Me (Option T) (View F E)) (k : Took ticket_of pass_of fixed entries legal v t m) → m.1 ≡ (0, Some k.value) ∷ []
  holds_it v t m k = ap (λ (z : Me (Option T) (View F E)). z.1) k.me

  first_slot : List (ℕ × Option T) → Option T
  first_slot [] = None
  first_slot (c ∷ cs) = c.1

  pub value_is : (v : View F E) (t : ℕ) (m : Me (Option T) (View F E)) (k : Took ticket_of pass_of fixed entries legal v t m) (r : Option T) (x : T) → m.1 ≡ (0, r) ∷ rest m.1 → r ≡ Some x → x ≡ k.value
  unfolding first_slot
  value_is v t m k r x e is = let a : r ≡ Some k.value = ap first_slot (sym e ∙ holds_it v t m k) in cc

  -- the slot after two exchanges
  pub swapped : (m m' m'' : Me (Option T) (View F E)) (x y : T) → m.1 ≡ (0, Some x) ∷ [] → m' ≡ (m.0, (0, None) ∷ rest m.1) → m'' ≡ (m'.0, (0, Some y) ∷ rest m'.1) → m'' ≡ (m.0, (0, Some y) ∷ [])
  swapped m m' m'' x y held a b = b ∙ ap (λ (z : Me (Option T) (View F E)). (z.0, (0, Some y) ∷ rest z.1)) a ∙ ap (λ (c : List (ℕ × Option T)). (m.0, (0, Some y) ∷ rest c)) held

  module _ {A R : Type 0} (ask_of : E → A) (replies : F → List E → R → Type 0) (full : F → List E → Option Full) where
    -- what the trait's step ensures
    abbrev pub Stepped : T → T → ℕ → ℕ → A → Result R Full → Type 0
    Stepped x y t n ask a = MatchResult a (λ r. AddsCall ticket_of pass_of ask_of (entries x) (entries y) t n ask × replies (fixed y) (entries y) r × (full (fixed y) (entries x) ≡ None)) (λ f. (entries y ≡ entries x) × (full (fixed y) (entries y) ≡ Some f))

    pub stepped : (x y : T) (t n : ℕ) (ask : A) (a : Result R Full) → OnOk a (AddsCall ticket_of pass_of ask_of (entries x) (entries y) t n ask) → IfOk a (λ r. replies (fixed y) (entries y) r) → OnOk a (full (fixed y) (entries x) ≡ None)
        → OnErr a (entries y ≡ entries x) → IfErr a (λ f. full (fixed y) (entries y) ≡ Some f) → Stepped x y t n ask a
    stepped x y t n ask (Ok r) adds reply room same full' = (adds, reply, room)
    stepped x y t n ask (Err f) adds reply room same full' = (same, full')

    last_is : (x y : T) (t n : ℕ) (ask : A) (seen : List E) (a : Result R Full) → entries x ≡ seen → Stepped x y t n ask a → (entries y ≡ seen) ⊎ ((e : E) × (entries y ≡ seen ++ e ∷ []) × (ticket_of e ≡ t) × (pass_of e ≡ n))
    last_is x y t n ask seen (Ok r) is h = let e = h.0.0 in inr (e, h.0.1 ∙ ap (λ (l : List E). l ++ e ∷ []) is, h.0.2, h.0.3)
    last_is x y t n ask seen (Err f) is h = inl (h.0 ∙ is)

    module _ (v : View F E) (t : ℕ) (m : Me (Option T) (View F E)) (k : Took ticket_of pass_of fixed entries legal v t m) where
      seen_is : entries k.value ≡ m.0.seen
      seen_is = sym (ap (λ (z : Me (Option T) (View F E)). z.0.seen) k.me)

      fixed_is : m.0.fixed ≡ Some (fixed k.value)
      fixed_is = ap (λ (z : Me (Option T) (View F E)). z.0.fixed) k.me ∙ k.same

      pub stage_is : m.0.stage ≡ Holds t
      stage_is = ap (λ (z : Me (Option T) (View F E)). z.0.stage) k.me

      pub made : (x y : T) (n : ℕ) (ask : A) (a : Result R Full) → x ≡ k.value → fixed y ≡ fixed x → legal (fixed y) (entries y) → m.0.range.first ≡ n → Stepped x y t n ask a → IsValueAfterCall ticket_of pass_of fixed entries legal m.0 t y
      made x y n ask a is same lawful number h = record {
        same = fixed_is ∙ ap Some (sym (same ∙ ap fixed is));
        lawful = lawful;
        last = subst (λ (j : ℕ). (entries y ≡ m.0.seen) ⊎ ((e : E) × (entries y ≡ m.0.seen ++ e ∷ []) × (ticket_of e ≡ t) × (pass_of e ≡ j))) (sym number) (last_is x y t n ask m.0.seen a (ap entries is ∙ seen_is) h);
      }

      pub answers : (x y : T) (n : ℕ) (ask : A) (a : Result R Full) (w : View F E) → x ≡ k.value → fixed y ≡ fixed x → legal (fixed y) (entries y) → m.0.range.first ≡ n → Stepped x y t n ask a → w ≡ view_after_step m.0 Idle (entries y)
          → MatchResult a (λ r. EntersCall ticket_of pass_of ask_of legal replies full m.0 w t ask r) (λ f. DeniesCall ticket_of pass_of legal full m.0 w f)
      answers x y n ask (Ok r) w is same lawful number h now =
          let e : E = h.0.0 in let seen : entries x ≡ m.0.seen ++ [] = ap entries is ∙ (seen_is ∙ sym (append_nil m.0.seen)) in
          let all : entries y ≡ (m.0.seen ++ []) ++ e ∷ [] = h.0.1 ∙ ap (λ (l : List E). l ++ e ∷ []) seen in
          let there : w.seen ≡ entries y = ap (λ (z : View F E). z.seen) now in
          record {
            between = [];
            entry = e;
            view = now ∙ ap (view_after_step m.0 Idle) all;
            drawn = h.0.2;
            number = h.0.3 ∙ sym number;
            asked = h.0.4;
            others = refl;
            fix = fixed y;
            same = fixed_is ∙ ap Some (sym (same ∙ ap fixed is));
            lawful = subst (legal (fixed y)) (sym there) lawful;
            rises = subst (Rises ticket_of) (sym (there ∙ h.0.1)) (subst (λ (z : T). Rises ticket_of (entries z ++ e ∷ [])) (sym is) (rises_more ticket_of (entries k.value) e (subst (λ (j : ℕ). Below ticket_of j (entries k.value)) (sym h.0.2) k.below) k.rises));
            answered = subst (λ (l : List E). replies (fixed y) l r) (sym there) h.1;
            had_room = subst (λ (l : List E). full (fixed y) l ≡ None) seen h.2;
          }
      answers x y n ask (Err f) w is same lawful number h now =
          let seen : entries x ≡ m.0.seen = ap entries is ∙ seen_is in
          let all : entries y ≡ m.0.seen ++ [] = h.0 ∙ (seen ∙ sym (append_nil m.0.seen)) in let there : w.seen ≡ entries y = ap (λ (z : View F E). z.seen) now in
          record {
            between = [];
            view = now ∙ ap (view_after_step m.0 Idle) all;
            others = refl;
            fix = fixed y;
            same = fixed_is ∙ ap Some (sym (same ∙ ap fixed is));
            lawful = subst (legal (fixed y)) (sym there) lawful;
            rises = subst (Rises ticket_of) (sym (there ∙ h.0)) (subst (λ (z : T). Rises ticket_of (entries z)) (sym is) k.rises);
            refused = subst (λ (l : List E). full (fixed y) l ≡ Some f) (sym there) h.1;
          }

-- what was seen since adds up
module _ {F E A R : Type 0} (ticket_of pass_of : E → ℕ) (ask_of : E → A) (legal : F → List E → Type 0) (replies : F → List E → R → Type 0) (full : F → List E → Option Full) where
  pub enters_from : (v u w : View F E) (stage : Stage) (more : List E) (t : ℕ) (ask : A) (r : R) → u ≡ view_after_step v stage (v.seen ++ more) → entries_of pass_of v.range.first more ≡ []
      → EntersCall ticket_of pass_of ask_of legal replies full u w t ask r → EntersCall ticket_of pass_of ask_of legal replies full v w t ask r
  enters_from v u w stage more t ask r is none = subst (λ (z : View F E). EntersCall ticket_of pass_of ask_of legal replies full z w t ask r → EntersCall ticket_of pass_of ask_of legal replies full v w t ask r) (sym is) (λ e. record {
    between = more ++ e.between;
    entry = e.entry;
    view = e.view ∙ ap (λ (l : List E). view_after_step v Idle (l ++ e.entry ∷ [])) (append_assoc v.seen more e.between);
    drawn = e.drawn;
    number = e.number;
    asked = e.asked;
    others = entries_of-append pass_of v.range.first more e.between ∙ (ap (λ (l : List E). l ++ entries_of pass_of v.range.first e.between) none ∙ e.others);
    fix = e.fix;
    same = e.same;
    lawful = e.lawful;
    rises = e.rises;
    answered = e.answered;
    had_room = subst (λ (l : List E). full e.fix l ≡ None) (append_assoc v.seen more e.between) e.had_room;
  })

  pub denied_from : (v u w : View F E) (stage : Stage) (more : List E) (f : Full) → u ≡ view_after_step v stage (v.seen ++ more) → entries_of pass_of v.range.first more ≡ [] → DeniesCall ticket_of pass_of legal full u w f → DeniesCall ticket_of pass_of legal full v w f
  denied_from v u w stage more f is none = subst (λ (z : View F E). DeniesCall ticket_of pass_of legal full z w f → DeniesCall ticket_of pass_of legal full v w f) (sym is) (λ e. record {
    between = more ++ e.between;
    view = e.view ∙ ap (λ (l : List E). view_after_step v Idle l) (append_assoc v.seen more e.between);
    others = entries_of-append pass_of v.range.first more e.between ∙ (ap (λ (l : List E). l ++ entries_of pass_of v.range.first e.between) none ∙ e.others);
    fix = e.fix;
    same = e.same;
    lawful = e.lawful;
    rises = e.rises;
    refused = e.refused;
  })

module _ {T F E : Type 0} (ticket_of pass_of : E → ℕ) (fixed : T → F) (entries : T → List E) (legal : F → List E → Type 0) where
  -- what a pass has seen when its ticket is served
  pub caught_up : (v : View F E) (t : ℕ) (m m' : Me (Option T) (View F E)) → m ≡ (view_after_step v (Waits t) v.seen, []) → Took ticket_of pass_of fixed entries legal m.0 t m'
      → (more : List E) × (m'.0 ≡ view_after_step v (Holds t) (v.seen ++ more)) × (entries_of pass_of v.range.first more ≡ [])
  caught_up v t m m' is = subst (λ (z : Me (Option T) (View F E)). Took ticket_of pass_of fixed entries legal z.0 t m' → (more : List E) × (m'.0 ≡ view_after_step v (Holds t) (v.seen ++ more)) × (entries_of pass_of v.range.first more ≡ [])) (sym is) (λ k. (
    k.known.0,
    ap (λ (z : Me (Option T) (View F E)). z.0) k.me ∙ ap (view_after_step v (Holds t)) k.known.1,
    append_fixed (entries_of pass_of v.range.first v.seen) (entries_of pass_of v.range.first k.known.0) (sym (entries_of-append pass_of v.range.first v.seen k.known.0) ∙ (ap (entries_of pass_of v.range.first) (sym k.known.1) ∙ k.own)),
  ))

module _ {F E : Type 0} where
  pub live_of : (v : View F E) (a b : ℕ) → v.range ≡ range_of a b → a < b → Live v
  live_of v a b is lt = subst (λ (z : Range). z.first < z.end) (sym is) lt

  pub wide_of : (v : View F E) → 2 ≤ numbers v → v.range.first + 2 ≤ v.range.end
  wide_of v h = omega arith
