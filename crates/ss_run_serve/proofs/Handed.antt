-- What a term says of accounts, said of what is seen of them.
use Rattle.std.specs.Prelude.{◌≡◌, ◌≢◌, ◌⊎◌, ◌<◌, ◌≤◌, ℕ, zero, suc, Bool, List, [], ◌∷◌, length, map, get_or, Option}
use Rattle.std.specs.Prelude.{Some, All, Any, Contains, refl}
use Rattle.std.specs.List.Sorted.{IsPermutation, IsStrictlyIncreasing}
use Rattle.std.proofs.Common.{sym, ap, subst, ◌∙◌, inl, inr, arith}
use Rattle.std.proofs.lemmas.List.{length-map}
use Rattle.std.proofs.lemmas.List.Elements.{All-head, All-tail}
use Rattle.std.proofs.lemmas.List.Sorted.{IsPermutation-map}
use mathlib.Core.Option.{some}
use lib.ListN.{get_elem?}
use Rattle.ss_route.specs.declared.manner.Manner.{Manner}
use Rattle.ss_desk.specs.Journal.{Rises}
use Rattle.ss_outside.specs.Told.{Meanings}
use Rattle.ss_town.specs.Opening.{AreBare, HasUid, MayOpen}
use Rattle.ss_laws.specs.declared.journal.Entry.{Entry}
use Rattle.ss_booked.specs.declared.booked.Terms.{Terms}
use Rattle.ss_booked.specs.Sound.{RoseBy, keeper_marks}
use Rattle.ss_booked.specs.Turns.{IsLegalOn}
use Rattle.ss_connection.specs.Known.{KnownAccount}
use Rattle.ss_serve.specs.declared.report.LinkReport.{LinkReport}
use Rattle.ss_serve.specs.Reports.{AreReports, all_calls_to, reports_by}
use Rattle.ss_serve.specs.Terms.{known_after, uids_in, AreServedAccounts, IsTerm, SameNumbers}
use Rattle.ss_serve.specs.Workers.{number_of}

pub all_at : {X : Type 0} (P : X → Type 0) (xs : List X) (i : ℕ) (x : X) → All P xs → get_elem? xs i ≡ some x → P x
all_at P [] i x all at = absurd (cc)
all_at P (y ∷ xs) zero x all at = (let same : y ≡ x = cc in subst P same (All-head P y xs all))
all_at P (y ∷ xs) (suc i) x all at = all_at P xs i x (All-tail P y xs all) at

pub contains_at : {X : Type 0} (xs : List X) (i : ℕ) (x : X) → get_elem? xs i ≡ some x → Contains xs x
contains_at [] i x at = absurd (cc)
contains_at (y ∷ xs) zero x at = (let same : y ≡ x = cc in (0, omega arith, same))
contains_at (y ∷ xs) (suc i) x at = (let c = contains_at xs i x at in (suc c.0, omega (arith, c.1), c.2))

module _ {B C : Type 0} (view : B → C) where
  -- with its uid
  abbrev pub seen : ℕ × B → ℕ × C
  seen a = (a.0, view a.1)

  pub seen_at : (xs : List (ℕ × B)) (i uid : ℕ) (c : C) → get_elem? (map seen xs) i ≡ some (uid, c) → (b : B) × (get_elem? xs i ≡ some (uid, b)) × (view b ≡ c)
  seen_at [] i uid c at = absurd (cc)
  seen_at (x ∷ xs) zero uid c at =
      let same : seen x ≡ (uid, c) = cc in
      (x.1, ap (λ (a : ℕ × C). some (a.0, x.1)) same, ap (λ (a : ℕ × C). a.1) same)
  seen_at (x ∷ xs) (suc i) uid c at = seen_at xs i uid c at

  pub at_seen : (xs : List (ℕ × B)) (i uid : ℕ) (b : B) → get_elem? xs i ≡ some (uid, b) → get_elem? (map seen xs) i ≡ some (uid, view b)
  at_seen [] i uid b at = absurd (cc)
  at_seen (x ∷ xs) zero uid b at = (let same : x ≡ (uid, b) = cc in ap (λ (a : ℕ × B). some (seen a)) same)
  at_seen (x ∷ xs) (suc i) uid b at = at_seen xs i uid b at

  pub uids_seen : (xs : List (ℕ × B)) → uids_in (map seen xs) ≡ uids_in xs
  uids_seen [] = refl
  uids_seen (x ∷ xs) = ap (λ (us : List ℕ). x.0 ∷ us) (uids_seen xs)

  has_uid : (xs : List (ℕ × B)) (i uid : ℕ) → HasUid (map seen xs) i uid → HasUid xs i uid
  has_uid xs i uid has = (let at = seen_at xs i uid has.0 has.1 in (at.0, at.1))

  may_seen : (xs : List (ℕ × B)) → MayOpen xs → MayOpen (map seen xs)
  may_seen xs may =
      let long : length (map seen xs) ≡ length xs = length-map xs seen in
      record {
        few = (omega (arith, may.few.0, long), omega (arith, may.few.1, long));
        distinct = λ i j uid one other. may.distinct i j uid (has_uid xs i uid one) (has_uid xs j uid other);
        none_zero = λ i has. may.none_zero i (has_uid xs i 0 has);
      }

  module _ (terms : C → Terms) (entries : C → List Entry) where
    known_seen : (number : ℕ) (xs : List (ℕ × B)) (i : ℕ) → known_after (λ b. terms (view b)) (λ b. entries (view b)) number xs i ≡ known_after terms entries number (map seen xs) i
    known_seen number [] i = refl
    known_seen number (x ∷ xs) zero = refl
    known_seen number (x ∷ xs) (suc i) = known_seen number xs i

    module _ (faults : C → ℕ) {L : Type 0} (manner : Manner) (tells : L → Meanings) (closed : L → Bool) where
      reported_seen : (handed : List (ℕ × B)) (number : ℕ) (reports : List (LinkReport L)) (before after : Option (List ℕ))
          → AreReports manner tells closed (uids_in handed) (known_after (λ b. terms (view b)) (λ b. entries (view b)) number handed) reports before after
          → AreReports manner tells closed (uids_in (map seen handed)) (known_after terms entries number (map seen handed)) reports before after
      reported_seen handed number reports before after told =
          let known : known_after (λ b. terms (view b)) (λ b. entries (view b)) number handed ≡ known_after terms entries number (map seen handed) = λ k i. known_seen number handed i k in
          subst (λ (us : List ℕ). AreReports manner tells closed us (known_after terms entries number (map seen handed)) reports before after) (sym (uids_seen handed))
          (subst (λ (n : ℕ → KnownAccount). AreReports manner tells closed (uids_in handed) n reports before after) known told)

      served_seen : (handed : List (ℕ × B)) (reports : List (LinkReport L)) (coming coming' : List (Option (List ℕ)))
          → AreServedAccounts (λ b. terms (view b)) (λ b. entries (view b)) (λ b. faults (view b)) manner tells closed handed reports coming coming'
          → AreServedAccounts terms entries faults manner tells closed (map seen handed) reports coming coming'
      served_seen handed reports coming coming' served = record {
        lawful = λ i uid c at.
            (let b = seen_at handed i uid c at in
            let Lawful : C → Type 0 = λ (x : C). IsLegalOn (terms x) (entries x) × Rises (λ (e : Entry). e.ticket) (entries x) in
            subst Lawful b.2 (served.lawful i uid b.0 b.1));
        kept = λ i uid c at.
            (let b = seen_at handed i uid c at in
            let Kept : C → Type 0 = λ (x : C). RoseBy (keeper_marks (entries x)) (terms x).faults (faults x) in
            subst Kept b.2 (served.kept i uid b.0 b.1));
        tickets = λ i uid c at.
            (let b = seen_at handed i uid c at in
            let Tickets : C → Type 0 = λ (x : C). SameNumbers (map (λ (e : Entry). e.ticket) (entries x)) (all_calls_to uid reports) in
            subst Tickets b.2 (served.tickets i uid b.0 b.1));
        clocks = served.clocks;
        workers = served.workers;
        reported = λ k before after at at'. reported_seen handed (number_of k) (reports_by k reports) before after (served.reported k before after at at');
      }

      pub term_seen : (given handed : List (ℕ × B)) (reports : List (LinkReport L)) (coming coming' : List (Option (List ℕ)))
          → IsTerm (λ b. terms (view b)) (λ b. entries (view b)) (λ b. faults (view b)) manner tells closed given handed reports coming coming'
          → IsTerm terms entries faults manner tells closed (map seen given) (map seen handed) reports coming coming'
      term_seen given handed reports coming coming' term = record {
        may = may_seen given term.may;
        order = map seen term.order;
        moved = IsPermutation-map seen given term.order term.moved;
        count = length-map handed seen ∙ term.count ∙ sym (length-map term.order seen);
        back = λ i uid c at.
            (let b = seen_at term.order i uid c at in
            let back = term.back i uid b.0 b.1 in
            (view back.0, at_seen handed i uid back.0 back.1, back.2 ∙ ap terms b.2));
        sorted = subst IsStrictlyIncreasing (sym (uids_seen handed)) term.sorted;
        served = served_seen handed reports coming coming' term.served;
      }
