-- Visits that are told apart, and the times that are kept with them.
use Rattle.std.proofs.Common.{◌≡◌, ℕ, ◌+◌, List, [], ◌∷◌, ◌++◌, Bool, true, false, ◌&&◌, ◌||◌, ◌==◌, cond, Contains}
use Rattle.std.proofs.Common.{Option, Some, None, take, drop, slice_get, refl, sym, ap, ap₂, subst, ◌∙◌, ⊎_elim}
use Rattle.std.proofs.lemmas.Bool.{eqb-true}
use Rattle.std.specs.List.{list_any}
use Rattle.ss_text.proofs.Basics.{both_left, both_right, neither_left, neither_right, number_turned, own_number}
use Rattle.std.specs.Option.{option_to_list}
use Rattle.std.specs.Ordering.{nat_cmp}
use Rattle.std.proofs.lemmas.List.{take-append-drop}
use Rattle.ss_bso.proofs.Lists.{Each, Pairs}
use Rattle.ss_flat.specs.declared.visits.Visit.{Visit}
use Rattle.ss_flat.specs.Joining.{later}
use Rattle.ss_flat.specs.States.{OtherVisit, same_visit, time_of}
use Rattle.ss_flat.proofs.Joined.{greater-none}
use Rattle.ss_flat.proofs.Taking.{take_one}
use Rattle.ss_flat.proofs.Contained.{contains_here, contains_nothing, contains_there, contains_cases}

pub same_visit-is : (v w : Visit) → same_visit v w ≡ true → v ≡ w
same_visit-is v w e =
    let date : v.date ≡ w.date = eqb-true v.date w.date (both_left (v.date == w.date) (v.kind == w.kind) e) in
    let kind : v.kind ≡ w.kind = eqb-true v.kind w.kind (both_right (v.date == w.date) (v.kind == w.kind) e) in
    λ i. record { date = date i; kind = kind i }

pub same_visit-own : (v : Visit) → same_visit v v ≡ true
same_visit-own v = ap₂ (λ a b. a && b) (own_number v.date) (own_number v.kind)

pub same_visit-flip : (v w : Visit) → same_visit v w ≡ false → same_visit w v ≡ false
same_visit-flip v w e = ap₂ (λ a b. a && b) (number_turned w.date v.date) (number_turned w.kind v.kind) ∙ e

visited_first : (v w : Visit) (visits : List Visit) (b : Bool) → same_visit v w ≡ b → (b || list_any (same_visit v) visits) ≡ true → (list_any (same_visit v) visits ≡ true → Contains visits v) → Contains (w ∷ visits) v
visited_first v w visits true is e later = subst (λ u. Contains (w ∷ visits) u) (sym (same_visit-is v w is)) (contains_here w visits)
visited_first v w visits false is e later = contains_there w v visits (later e)

pub visited : (v : Visit) (visits : List Visit) → list_any (same_visit v) visits ≡ true → Contains visits v
visited v [] e = cc
visited v (w ∷ visits) e = visited_first v w visits (same_visit v w) refl e (λ later. visited v visits later)

pub unvisited : (v : Visit) (visits : List Visit) → list_any (same_visit v) visits ≡ false → Contains visits v → ⊥
unvisited v [] e c = contains_nothing v c
unvisited v (w ∷ visits) e c =
    ⊎_elim (λ (same : w ≡ v). let own : same_visit v w ≡ true = ap (λ u. same_visit v u) same ∙ same_visit-own v in let clash : true ≡ false = sym own ∙ neither_left (same_visit v w) (list_any (same_visit v) visits) e in cc)
    (λ (later : Contains visits v). unvisited v visits (neither_right (same_visit v w) (list_any (same_visit v) visits) e) later)
    (contains_cases w v visits c)

-- ---- one more of the visits that are noted

later_nothing : (a : Option ℕ) → later a None ≡ a
later_nothing a = sym (greater-none nat_cmp a)

unlike_last : {X : Type 0} (P : X → Type 0) (xs : List X) (x : X) → Each P (xs ++ x ∷ []) → P x
unlike_last P [] x e = e.0
unlike_last P (y ∷ xs) x e = unlike_last P xs x e.1

last_untold : (v : Visit) (e : Visit × ℕ) (xs : List (Visit × ℕ)) (o : Option (Visit × ℕ)) → same_visit v e.0 ≡ true → Each (OtherVisit e) (xs ++ option_to_list o) → time_of v (option_to_list o) ≡ None
last_untold v e xs None is apart = refl
last_untold v e xs (Some x) is apart =
    let other : same_visit e.0 x.0 ≡ false = unlike_last (OtherVisit e) xs x apart in
    ap (λ b. cond b (Some x.1) None) (ap (λ u. same_visit u x.0) (same_visit-is v e.0 is) ∙ other)

first_noted : (v : Visit) (e : Visit × ℕ) (xs : List (Visit × ℕ)) (o : Option (Visit × ℕ)) (a : Option ℕ) (b : Bool) → same_visit v e.0 ≡ b → Each (OtherVisit e) (xs ++ option_to_list o)
    → later (later a (time_of v xs)) (time_of v (option_to_list o)) ≡ later a (time_of v (xs ++ option_to_list o))
    → later (later a (cond b (Some e.1) (time_of v xs))) (time_of v (option_to_list o)) ≡ later a (cond b (Some e.1) (time_of v (xs ++ option_to_list o)))
first_noted v e xs o a true is apart rest = ap (λ t. later (later a (Some e.1)) t) (last_untold v e xs o is apart) ∙ later_nothing (later a (Some e.1))
first_noted v e xs o a false is apart rest = rest

pub one_noted : (v : Visit) (xs : List (Visit × ℕ)) (o : Option (Visit × ℕ)) (a : Option ℕ) → Pairs OtherVisit (xs ++ option_to_list o)
    → later (later a (time_of v xs)) (time_of v (option_to_list o)) ≡ later a (time_of v (xs ++ option_to_list o))
one_noted v [] o a apart = ap (λ t. later t (time_of v (option_to_list o))) (later_nothing a)
one_noted v (e ∷ xs) o a apart = first_noted v e xs o a (same_visit v e.0) refl apart.0 (one_noted v xs o a apart.1)

front_pairs : (xs ys : List (Visit × ℕ)) → Pairs OtherVisit (xs ++ ys) → Pairs OtherVisit xs
front_pairs [] ys o = tt
front_pairs (x ∷ xs) ys o = (front (OtherVisit x) xs ys o.0, front_pairs xs ys o.1)
  where
    front : (P : Visit × ℕ → Type 0) (us vs : List (Visit × ℕ)) → Each P (us ++ vs) → Each P us
    front P [] vs e = tt
    front P (u ∷ us) vs e = (e.0, front P us vs e.1)

-- so many are noted, and the next one
pub next_noted : (v : Visit) (es : List (Visit × ℕ)) (i : ℕ) (a now new : Option ℕ) → Pairs OtherVisit es → now ≡ later a (time_of v (take i es)) → new ≡ later now (time_of v (option_to_list (slice_get es i)))
    → new ≡ later a (time_of v (take (i + 1) es))
next_noted v es i a now new apart before after =
    let cut = take_one es i in
    let some : Pairs OtherVisit (take i es ++ option_to_list (slice_get es i)) = subst (λ l. Pairs OtherVisit l) cut (front_pairs (take (i + 1) es) (drop (i + 1) es) (subst (λ l. Pairs OtherVisit l) (sym (take-append-drop (i + 1) es)) apart)) in
    after ∙ ap (λ t. later t (time_of v (option_to_list (slice_get es i)))) before ∙ one_noted v (take i es) (slice_get es i) a some ∙ sym (ap (λ l. later a (time_of v l)) cut)
